-- What holds of slots and of the jobs that they serve.
use Rattle.std.proofs.Common.{◌≡◌, ◌⊎◌, ℕ, zero, suc, ◌-◌, ◌<◌, ◌≤◌, List, [], ◌∷◌, length, take, slice_get, Option, Some, None, IsSome, is_some, cond, inl, inr, refl, sym, ap, ◌∙◌, subst, arith, true, IfSome}
use Rattle.std.proofs.lemmas.Grind.{common_steps}
use Rattle.std.proofs.lemmas.Option.{slice_get_within}
use Rattle.fj_outside.specs.Faults.{Rose}
use Rattle.fj_outside.specs.declared.errors.Stop.{Stop}
use Rattle.fj_outside.specs.declared.errors.Stop.TheVariants.{Failed}
use Rattle.fj_slot.specs.declared.stop.Halt.{Halt}
use Rattle.fj_slot.specs.Serving.{Meaning}
use Rattle.fj_slot.specs.Ledger.{Ledger}
use Rattle.fj_slot.specs.Sound.{served_by, outcomes, outcome, IsSound}
use Rattle.fj_slot.specs.Laws.{AreServedInOrder, BeginsExactly, TellsExactly, StopsHaveCauses}
use Rattle.fj_slot.proofs.Serving.{take_one_more, served_by-append, outcomes-append, length-outcomes}
use Rattle.fj_slot.proofs.Sound.{slice_get_front, length_mapped, some_of, slice_get_inside}

module _ {E J A S T R : Type 0} (m : Meaning E J A S T R) where
  given : (s : S) (ts : List T) (k : ℕ) (t : T) → slice_get ts k ≡ Some t
      → outcome m s ts k ≡ Some ((m.serve (served_by m s (take k ts)) t).job, (m.serve (served_by m s (take k ts)) t).answer)
  given s [] k t e = absurd (let p = slice_get_within [] k t e in omega (arith, p))
  given s (x ∷ ts) zero t e = let is : x ≡ t = cc in ap (λ y. Some ((m.serve s y).job, (m.serve s y).answer)) is
  given s (x ∷ ts) (suc k) t e = given (m.serve s x).engine ts k t e

  none : (s : S) (ts : List T) (k : ℕ) → slice_get ts k ≡ None → outcome m s ts k ≡ None
  none s [] zero e = refl
  none s [] (suc k) e = refl
  none s (x ∷ ts) zero e = absurd (cc)
  none s (x ∷ ts) (suc k) e = none (m.serve s x).engine ts k e

  pub are_served_in_order : AreServedInOrder m
  are_served_in_order = record {
    first = λ s ts. refl;
    further = λ s ts k t e. ap (served_by m s) (take_one_more ts k t e) ∙ served_by-append m s (take k ts) (t ∷ []);
    given = given;
    none = none;
    stays = λ s ts us k p. ap (λ zs. slice_get zs k) (outcomes-append m s ts us)
        ∙ slice_get_front (outcomes m s ts) (outcomes m (served_by m s ts) us) k (subst (λ n. k < n) (sym (length-outcomes m s ts)) p);
  }

  first_there : {X : Type 0} → (xs : List X) → 0 < length xs → IsSome (slice_get xs 0)
  first_there [] p = absurd (omega (arith, p))
  first_there (x ∷ xs) p = refl

  some_there : {X : Type 0} → (xs : List X) → IsSome (slice_get xs 0) → 0 < length xs
  some_there [] h = absurd (cc)
  some_there (x ∷ xs) h = omega arith

  more_to_tell : {X : Type 0} → (o : Option X) (told done most kept : ℕ) → told < cond (is_some o) most done → done ≤ most → kept ≡ done - told
      → (told < most) × (IsSome o ⊎ (0 < kept))
  more_to_tell None told done most kept p q e = (omega (arith, p, q), inr (omega (arith, p, e)))
  more_to_tell (Some x) told done most kept p q e = (p, inl refl)

  may_be_told : {X : Type 0} → (o : Option X) (told done most kept : ℕ) → told < most → IsSome o ⊎ (0 < kept) → kept ≡ done - told → told < cond (is_some o) most done
  may_be_told None told done most kept p (inl s) e = absurd (cc)
  may_be_told None told done most kept p (inr s) e = omega (arith, s, e)
  may_be_told (Some x) told done most kept p s e = p

  pub tells_exactly : TellsExactly m
  tells_exactly l h = (
    λ can.
        let below : l.told < cond (is_some l.halt) (length l.jobs) l.done = grind (arith, common_steps) in
        let more = more_to_tell l.halt l.told l.done (length l.jobs) (length l.answers) below h.within h.kept in
        (more.0, elim more.1 [ inl s ↦ inl s | inr p ↦ inr (first_there l.answers p) ]),
    λ it.
        let some : IsSome l.halt ⊎ (0 < length l.answers) = elim it.1 [ inl s ↦ inl s | inr s ↦ inr (some_there l.answers s) ] in
        let below = may_be_told l.halt l.told l.done (length l.jobs) (length l.answers) it.0 some h.kept in
        grind (arith, common_steps),
  )

module _ {E J A S T R : Type 0} (m : Meaning E J A S T R) where
  never_stops : ((s : S) (t : T) (stop : Stop) (engine : E) → m.spoilt s t stop engine → ⊥) → (s : S) (ts : List T) (l : Ledger E J A) → IsSound m s ts l
      → (o : Option Halt) → l.halt ≡ o → l.halt ≡ None
  never_stops none s ts l h None e = e
  never_stops none s ts l h (Some halt) e =
      let stopped : is_some l.halt ≡ true = ap is_some e in
      let home = some_of l.home (h.counted.at_home stopped) in
      let due = slice_get_inside ts l.done (omega (arith, length_mapped l.jobs ts m.task h.jobs, h.counted.below stopped)) in
      let left = subst (λ o. IfSome o (λ x. IfSome l.home (λ y. IfSome (slice_get ts l.done) (λ t. m.spoilt (served_by m s (take l.done ts)) t x.stop y)))) e h.spoilt in
      let here = subst (λ o. IfSome o (λ y. IfSome (slice_get ts l.done) (λ t. m.spoilt (served_by m s (take l.done ts)) t halt.stop y))) home.1 left in
      absurd (none (served_by m s (take l.done ts)) due.0 halt.stop home.0 (subst (λ o. IfSome o (λ t. m.spoilt (served_by m s (take l.done ts)) t halt.stop home.0)) due.1 here))

  pub stops_have_causes : StopsHaveCauses m
  stops_have_causes = record {
    left = λ none s ts l h. never_stops none s ts l h l.halt refl;
    failed = λ l engine halt h home stopped same room failed.
        let since = subst (λ o. IfSome o (λ x. m.faults l.start ≤ x.before)) stopped h.since in
        let rose = subst (λ o. IfSome o (λ x. (x.before ≤ x.after) × (x.stop ≡ Failed → Rose x.before x.after))) stopped h.rose in
        let until = subst (λ o. IfSome o (λ y. halt.after ≤ m.faults y)) home (subst (λ o. IfSome o (λ x. IfSome l.home (λ y. x.after ≤ m.faults y))) stopped h.until) in
        let risen = rose.1 failed in
        grind (arith);
  }

pub begins_exactly : (E J A : Type 0) → BeginsExactly E J A
begins_exactly E J A l = (λ can. grind (arith, common_steps), λ it. grind (arith, common_steps))
