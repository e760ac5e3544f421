-- What holds of scripts over slots.
use Rattle.std.proofs.Common.{◌≡◌, ◌⊎◌, ℕ, zero, suc, ◌+◌, ◌-◌, ◌<◌, ◌≤◌, true, false, ◌&&◌, not, cond, nat_lt, List, [], ◌∷◌, length, map, Option, Some, None, is_some, is_none, slice_get, inl, inr, refl, sym, ap, ◌∙◌, subst, arith}
use Rattle.std.proofs.lemmas.Bool.{cases_lt, cases_Bool}
use Rattle.std.proofs.lemmas.Option.{slice_get_within}
use Rattle.fj_slot.specs.Ledger.{Ledger, can_tell}
use Rattle.fj_slot.specs.Serving.{Meaning}
use Rattle.fj_slot.proofs.Sound.{length_mapped}
use Rattle.fj_world.specs.declared.ask.Ask.{Ask}
use Rattle.fj_world.specs.declared.ask.Ask.TheVariants.{Submit, Settle, Finished}
use Rattle.fj_world.specs.declared.busy.Busy.{Busy}
use Rattle.fj_world.specs.declared.event.Event.{Event}
use Rattle.fj_world.specs.declared.event.Event.TheVariants.{Script, Begin, End}
use Rattle.fj_world.specs.Alone.{AllHome, OwesAsSaid}
use Rattle.fj_world.specs.Conduct.{Conduct, IsAsk, KeepsTo}
use Rattle.fj_world.specs.Plain.{Plain, PlainSlot, next, served, after}
use Rattle.fj_world.specs.Scene.{Scene, IsOrderly}
use Rattle.fj_world.specs.Sketch.{Sketch, Sketches, AllRunning, spot_of, slot_held, may_begin_at, may_tell_at, may_serve, holds_nothing, holds_job, may_happen}
use Rattle.fj_world.specs.Steps.{is_ready, is_waiting, is_free, is_busy, can_serve, is_enabled}
use Rattle.fj_world.specs.Laws.{HasOneEnd, IsNeverStuck, EnabledAsSketched}
use Rattle.fj_world.proofs.Front.{begins_if_not_ready}
use Rattle.fj_world.proofs.Moving.{slice_get_mapped_by}
use Rattle.fj_world.proofs.Places.{slice_get_in}

module _ {S G J A P T R : Type 0} (m : Meaning G J A P T R) (c : Conduct S T R) where
  stays : (n : ℕ) (p : Plain P c) → p.hand ≡ Finished → after m c n p ≡ p
  stays zero p e = refl
  stays (suc n) p e = let here : next m c p ≡ p = ap (λ h. served m c h p) e in ap (after m c n) here ∙ stays n p e

  longer : (n d : ℕ) (p : Plain P c) → after m c (n + d) p ≡ after m c d (after m c n p)
  longer zero d p = ap (λ k. after m c k p) (let e : 0 + d ≡ d = omega arith in e)
  longer (suc n) d p = ap (λ k. after m c k p) (let e : suc n + d ≡ suc (n + d) = omega arith in e) ∙ longer n d (next m c p)

  ends_at : (n k : ℕ) (p : Plain P c) → n ≤ k → (after m c n p).hand ≡ Finished → after m c n p ≡ after m c k p
  ends_at n k p q e =
      let split : n + (k - n) ≡ k = omega arith in
      sym (stays (k - n) (after m c n p) e) ∙ sym (longer n (k - n) p) ∙ ap (λ j. after m c j p) split

  pub has_one_end : HasOneEnd m c
  has_one_end p n k e f =
      elim (cases_lt n k) [
        | inl q ↦ ends_at n k p (omega (arith, q)) e
        | inr q ↦ sym (ends_at k n p (omega (arith, q)) f)
      ]

slice_get_mapped_none : {X Y : Type 0} → (f : X → Y) (xs : List X) (i : ℕ) → slice_get xs i ≡ None → slice_get (map f xs) i ≡ None
slice_get_mapped_none f [] zero e = refl
slice_get_mapped_none f [] (suc i) e = refl
slice_get_mapped_none f (x ∷ xs) zero e = absurd (cc)
slice_get_mapped_none f (x ∷ xs) (suc i) e = slice_get_mapped_none f xs i e

not_none : {X : Type 0} → (o : Option X) → not (is_none o) ≡ is_some o
not_none None = refl
not_none (Some x) = refl

module _ {S G J A P T R : Type 0} (m : Meaning G J A P T R) (c : Conduct S T R) (sketch : Sketch P c) (w : Scene S G J A P T R)
    (is : Sketches m c sketch w) (going : c.over w.script ≡ false) (running : AllRunning w) where
  -- a slot of both
  both : (at : ℕ) (l : Ledger G J A) → slice_get w.rack.slots at ≡ Some l
      → (q : PlainSlot P T) × (slice_get sketch.plain.slots at ≡ Some q) × (slice_get sketch.spots at ≡ Some (spot_of l))
  both at l e =
      let inside = slice_get_within w.rack.slots at l e in
      let found = slice_get_in sketch.plain.slots at (omega (arith, inside, is.fits.same_slots)) in
      (found.0, found.1, ap (λ xs. slice_get xs at) (sym is.spots) ∙ slice_get_mapped_by spot_of w.rack.slots at l e)

  neither : (at : ℕ) → slice_get w.rack.slots at ≡ None → slice_get sketch.spots at ≡ None
  neither at e = ap (λ xs. slice_get xs at) (sym is.spots) ∙ slice_get_mapped_none spot_of w.rack.slots at e

  ready : (at : ℕ) (o : Option (Ledger G J A)) → slice_get w.rack.slots at ≡ o → may_tell_at m c (slice_get sketch.spots at) (slice_get sketch.plain.slots at) ≡ is_ready o
  ready at None e = ap (λ x. may_tell_at m c x (slice_get sketch.plain.slots at)) (neither at e)
  ready at (Some l) e =
      let two = both at l e in
      let fit = is.fits.slots at two.0 l two.1 e in
      let halt = running at l e in
      ap (λ x. may_tell_at m c x (slice_get sketch.plain.slots at)) two.2 ∙ ap (may_tell_at m c (Some (spot_of l))) two.1
      ∙ ap (λ n. nat_lt n l.done) (sym (fit.told going)) ∙ ap (λ h. nat_lt l.told (cond (is_some h) (length l.jobs) l.done)) (sym halt)

  waiting : (at : ℕ) (o : Option (Ledger G J A)) → slice_get w.rack.slots at ≡ o → may_begin_at m c (slice_get sketch.spots at) (slice_get sketch.plain.slots at) ≡ is_waiting o
  waiting at None e = ap (λ x. may_begin_at m c x (slice_get sketch.plain.slots at)) (neither at e)
  waiting at (Some l) e =
      let two = both at l e in
      let fit = is.fits.slots at two.0 l two.1 e in
      let halt = running at l e in
      let long = length_mapped l.jobs two.0.jobs m.task fit.sound.jobs in
      ap (λ x. may_begin_at m c x (slice_get sketch.plain.slots at)) two.2 ∙ ap (may_begin_at m c (Some (spot_of l))) two.1
      ∙ ap (λ b. b && nat_lt l.done (length two.0.jobs)) (not_none l.home) ∙ ap (λ n. is_some l.home && nat_lt l.done n) (sym long)
      ∙ ap (λ h. is_none h && (is_some l.home && nat_lt l.done (length l.jobs))) (sym halt)

  asks : (a : Ask T) (b : Ask J) → IsAsk m a b → may_serve m c a sketch.spots sketch.plain.slots ≡ can_serve b w.rack
  asks (Submit at t) (Submit at' job) h = refl
  asks (Submit at t) (Settle at') h = absurd h
  asks (Submit at t) Finished h = absurd h
  asks (Settle at) (Submit at' job) h = absurd h
  asks (Settle at) (Settle at') h = ready at (slice_get w.rack.slots at) refl ∙ ap (λ k. is_ready (slice_get w.rack.slots k)) (sym h)
  asks (Settle at) Finished h = absurd h
  asks Finished (Submit at' job) h = absurd h
  asks Finished (Settle at') h = absurd h
  asks Finished Finished h = refl

  held : (worker : ℕ) (o : Option (Option (Busy G J A P T R))) → slice_get w.workers worker ≡ o
      → (holds_nothing m c (slice_get sketch.held worker) ≡ is_free o) × (holds_job m c (slice_get sketch.held worker) ≡ is_busy o)
  held worker None e =
      let none = ap (λ xs. slice_get xs worker) (sym is.held) ∙ slice_get_mapped_none slot_held w.workers worker e in
      (ap (holds_nothing m c) none, ap (holds_job m c) none)
  held worker (Some None) e =
      let free = ap (λ xs. slice_get xs worker) (sym is.held) ∙ slice_get_mapped_by slot_held w.workers worker None e in
      (ap (holds_nothing m c) free, ap (holds_job m c) free)
  held worker (Some (Some busy)) e =
      let has = ap (λ xs. slice_get xs worker) (sym is.held) ∙ slice_get_mapped_by slot_held w.workers worker (Some busy) e in
      (ap (holds_nothing m c) has, ap (holds_job m c) has)

  enabled : (event : Event) → may_happen m c sketch event ≡ is_enabled w event
  enabled Script = asks sketch.plain.hand w.hand (is.fits.script going).1
  enabled (Begin worker slot) =
      ap (λ b. b && may_begin_at m c (slice_get sketch.spots slot) (slice_get sketch.plain.slots slot)) (held worker (slice_get w.workers worker) refl).0
      ∙ ap (λ b. is_free (slice_get w.workers worker) && b) (waiting slot (slice_get w.rack.slots slot) refl)
  enabled (End worker) = (held worker (slice_get w.workers worker) refl).1

pub enabled_as_sketched : {S G J A P T R : Type 0} → (m : Meaning G J A P T R) (c : Conduct S T R) → EnabledAsSketched m c
enabled_as_sketched m c sketch w event is going running = enabled m c sketch w is going running event

-- a worker holds a job, or none does
some_busy : {X : Type 0} → (ws : List (Option X)) → ((k : ℕ) × (x : X) × (slice_get ws k ≡ Some (Some x))) ⊎ ((k : ℕ) (x : X) → slice_get ws k ≡ Some (Some x) → ⊥)
some_busy [] = inr none
  where
    none : {X : Type 0} → (k : ℕ) (x : X) → slice_get [] k ≡ Some (Some x) → ⊥
    none zero x e = cc
    none (suc k) x e = cc
some_busy (Some x ∷ ws) = inl (0, x, refl)
some_busy (None ∷ ws) = elim (some_busy ws) [
  | inl b ↦ inl (suc b.0, b.1, b.2)
  | inr n ↦ inr (behind ws n)
]
  where
    behind : {X : Type 0} → (ws : List (Option X)) → ((k : ℕ) (x : X) → slice_get ws k ≡ Some (Some x) → ⊥) → (k : ℕ) (x : X) → slice_get (None ∷ ws) k ≡ Some (Some x) → ⊥
    behind ws n zero x e = cc
    behind ws n (suc k) x e = n k x e

first_free : {X : Type 0} → (ws : List (Option X)) → 0 < length ws → ((k : ℕ) (x : X) → slice_get ws k ≡ Some (Some x) → ⊥) → slice_get ws 0 ≡ Some None
first_free [] p n = absurd (omega (arith, p))
first_free (None ∷ ws) p n = refl
first_free (Some x ∷ ws) p n = absurd (n 0 x refl)

module _ {S G J A P T R : Type 0} (m : Meaning G J A P T R) (c : Conduct S T R) where
  idle_goes_on : (w : Scene S G J A P T R) (hand : Ask J) → w.hand ≡ hand → IsOrderly m c w → OwesAsSaid c w.script w.rack → slice_get w.workers 0 ≡ Some None → AllHome w.rack
      → (w.hand ≡ Finished) ⊎ ((event : Event) × (is_enabled w event ≡ true))
  idle_goes_on w (Submit at job) is order owes free home = inr (Script, ap (λ h. can_serve h w.rack) is)
  idle_goes_on w (Settle at) is order owes free home =
      let to = subst (KeepsTo c w.script) is order.keeps_to in
      let found = slice_get_in w.rack.slots at (omega (arith, to.0, order.uses)) in
      let waits : found.0.told < length found.0.jobs = omega (arith, owes at found.0 to.0 found.1, to.2) in
      elim (cases_Bool (can_tell found.0)) [
        | inl can ↦ inr (Script, ap (λ h. can_serve h w.rack) is ∙ ap is_ready found.1 ∙ can)
        | inr not' ↦
            let begins = begins_if_not_ready found.0 (home at found.0 found.1) waits not' in
            inr (Begin 0 at, ap (λ o. is_free o && is_waiting (slice_get w.rack.slots at)) free ∙ ap is_waiting found.1 ∙ begins)
      ]
  idle_goes_on w Finished is order owes free home = inl is

  pub is_never_stuck : IsNeverStuck m c
  is_never_stuck w order owes some home = elim (some_busy w.workers) [
    | inl b ↦ inr (End b.0, ap is_busy b.2)
    | inr n ↦ idle_goes_on w w.hand refl order owes (first_free w.workers some n) (home n)
  ]
