-- Hands that are hired and folded in.
use Rattle.std.proofs.Common.{◌≡◌, ℕ, zero, suc, ◌+◌, ◌<◌, ◌≤◌, List, [], ◌∷◌, ◌++◌, length, Some, slice_get, get_or, set, refl, sym, ap, ◌∙◌, subst, inl, inr, arith}
use Rattle.std.proofs.lemmas.List.{length-set}
use Rattle.std.proofs.lemmas.Bool.{cases_eq}
use Rattle.std.proofs.lemmas.Option.{slice_get_within}
use Rattle.fj_world.proofs.Places.{slice_get_set, slice_get_in, same_some}
use Rattle.fj_queue.specs.declared.seats.QueueOf.{QueueOf}
use Rattle.fj_queue.specs.declared.seats.SubmitterOf.{SubmitterOf}
use Rattle.fj_queue.specs.declared.seats.HandOf.{HandOf}
use Rattle.fj_queue.specs.Knows.{knows, IsOf, Serves}
use Rattle.fj_queue.specs.Tokens.{Keeps}
use Rattle.fj_crew.specs.Seats.{Paired}
use Rattle.fj_crew.specs.Team.{AllServe, ServesFrom, ServesTo, HandsAre, SeatsLike, ChangedTo}
use Rattle.fj_crew.proofs.Opening.{get_put}

module _ {C E T L : Type 0} where
  pub paired_set : (qs : List (QueueOf C E T L)) (ss : List (SubmitterOf C E T)) (at : ℕ) (q : QueueOf C E T L) (w : SubmitterOf C E T)
      → slice_get qs at ≡ Some q → IsOf q w → Paired qs ss → Paired qs (set ss at w)
  paired_set qs ss at q w found own h = record {
    same = h.same ∙ sym (length-set ss at w);
    own = λ k x y ex ey. elim (slice_get_set ss at k w y ey) [
      | inl a ↦
          let is : q ≡ x = same_some (sym found ∙ ap (slice_get qs) (sym a.0) ∙ ex) in
          subst (λ z. IsOf z y) is (subst (λ z. IsOf q z) (sym a.1) own)
      | inr a ↦ h.own k x y ex a.1
    ];
  }

  pub serves_none : (qs : List (QueueOf C E T L)) → ServesTo qs []
  serves_none qs zero q h e f = absurd (cc)
  serves_none qs (suc k) q h e f = absurd (cc)

  pub serves_more : (qs : List (QueueOf C E T L)) (team : List (HandOf C E T)) (at : ℕ) (q : QueueOf C E T L) (h : HandOf C E T)
      → length team ≡ at → slice_get qs at ≡ Some q → Serves q h → ServesTo qs team → ServesTo qs (team ++ h ∷ [])
  serves_more qs team at q h long found serves old k x y ex ey = elim (get_put team h y k ey) [
    | inl a ↦ old k x y ex a
    | inr a ↦
        let is : q ≡ x = same_some (sym found ∙ ap (slice_get qs) (sym (a.0 ∙ long)) ∙ ex) in
        subst (λ z. Serves z y) is (subst (λ z. Serves q z) (sym a.1) serves)
  ]

  pub serves_first : (qs : List (QueueOf C E T L)) (team : List (HandOf C E T)) (at : ℕ) (q : QueueOf C E T L) (h : HandOf C E T) (rest : List (HandOf C E T))
      → team ≡ h ∷ rest → slice_get qs at ≡ Some q → ServesFrom at qs team → Serves q h
  serves_first qs team at q h rest is found old =
      let here : at + 0 ≡ at = omega arith in
      old.each 0 q h (ap (slice_get qs) here ∙ found) (ap (λ z. slice_get z 0) is)

  pub serves_less : (qs : List (QueueOf C E T L)) (team : List (HandOf C E T)) (at : ℕ) (h : HandOf C E T) (rest : List (HandOf C E T))
      → team ≡ h ∷ rest → ServesFrom at qs team → ServesFrom (at + 1) qs rest
  serves_less qs team at h rest is old = record {
    same = omega (arith, old.same, ap length is);
    each = λ k x y ex ey.
        let here : at + suc k ≡ (at + 1) + k = omega arith in
        old.each (suc k) x y (ap (slice_get qs) here ∙ ex) (ap (λ z. slice_get z (suc k)) is ∙ ey);
  }

  pub serves_all : (qs : List (QueueOf C E T L)) (team : List (HandOf C E T)) → AllServe qs team → ServesFrom 0 qs team
  serves_all qs team h = record {
    same = omega (arith, h.same);
    each = λ k x y ex ey. let here : k ≡ 0 + k = omega arith in h.each k x y (ap (slice_get qs) here ∙ ex) ey;
  }

module _ {C E T : Type 0} (f : ℕ → ℕ) where
  pub changed_none : (ss : List (SubmitterOf C E T)) → ChangedTo f 0 ss ss
  changed_none ss = record { long = refl; each = λ k w e. (w, e, (λ lt. absurd (omega (arith, lt))), (λ _. refl)) }

  pub changed_more : (old ss : List (SubmitterOf C E T)) (at : ℕ) (s w : SubmitterOf C E T) → slice_get ss at ≡ Some s
      → Keeps (knows s) (knows w) (knows s).sent (knows s).heard (f (knows s).hands) → ChangedTo f at old ss → ChangedTo f (at + 1) old (set ss at w)
  changed_more old ss at s w found keeps h = record {
    long = length-set ss at w ∙ h.long;
    each = λ k x e. elim (slice_get_set ss at k w x e) [
      | inl a ↦
          let was = h.each at s found in
          let is : s ≡ was.0 = was.3 (omega arith) in (
            was.0,
            ap (slice_get old) a.0 ∙ was.1,
            (λ _. subst (λ z. Keeps (knows z) (knows x) (knows z).sent (knows z).heard (f (knows z).hands)) is (subst (λ z. Keeps (knows s) (knows z) (knows s).sent (knows s).heard (f (knows s).hands)) (sym a.1) keeps)),
            (λ le. absurd (omega (arith, le, a.0))),
          )
      | inr a ↦
          let was = h.each k x a.1 in (
            was.0,
            was.1,
            (λ lt. elim (cases_eq k at) [ inl same ↦ absurd (a.0 same) | inr ne ↦ was.2 (below k at lt ne) ]),
            (λ le. was.3 (omega (arith, le))),
          )
    ];
  }
    where
      below : (k at : ℕ) → k < at + 1 → (k ≡ at → ⊥) → k < at
      below zero zero lt ne = absurd (ne refl)
      below zero (suc at) lt ne = omega arith
      below (suc k) zero lt ne = absurd (omega (arith, lt))
      below (suc k) (suc at) lt ne = let less = below k at (omega (arith, lt)) (λ e. ne (ap suc e)) in omega (arith, less)

  pub changed_like : (old ss : List (SubmitterOf C E T)) (at : ℕ) → length old ≤ at → ChangedTo f at old ss → SeatsLike old ss
  changed_like old ss at all h = record {
    long = h.long;
    each = λ k w e.
        let was = h.each k w e in
        let keeps = was.2 (omega (arith, all, h.long, slice_get_within ss k w e)) in (
          was.0,
          was.1,
          record {
            numbers = record { plan = keeps.numbers.plan; sent_is = keeps.numbers.sent_is; heard_is = keeps.numbers.heard_is; hands_is = refl };
            answered = keeps.answered;
            stopped = keeps.stopped;
            stopped_at = keeps.stopped_at;
          },
        );
  }

  pub changed_hands : (old ss : List (SubmitterOf C E T)) (at : ℕ) → length old ≤ at → ChangedTo f at old ss → (n : ℕ) → HandsAre n old → HandsAre (f n) ss
  changed_hands old ss at all h n hands k w e =
      let was = h.each k w e in
      let keeps = was.2 (omega (arith, all, h.long, slice_get_within ss k w e)) in
      keeps.numbers.hands_is ∙ ap f (hands k was.0 was.1)

module _ {C E T : Type 0} where
  pub like_itself : (ss : List (SubmitterOf C E T)) → SeatsLike ss ss
  like_itself ss = record {
    long = refl;
    each = λ k w e. (w, e, record { numbers = record { plan = refl; sent_is = refl; heard_is = refl; hands_is = refl }; answered = refl; stopped = refl; stopped_at = refl });
  }

  pub like_on : (a b c : List (SubmitterOf C E T)) → SeatsLike a b → SeatsLike b c → SeatsLike a c
  like_on a b c x y = record {
    long = y.long ∙ x.long;
    each = λ k w e.
        let one = y.each k w e in
        let two = x.each k one.0 one.1 in (
          two.0,
          two.1,
          record {
            numbers = record {
              plan = one.2.numbers.plan ∙ two.2.numbers.plan;
              sent_is = one.2.numbers.sent_is ∙ two.2.numbers.sent_is;
              heard_is = one.2.numbers.heard_is ∙ two.2.numbers.heard_is;
              hands_is = refl;
            };
            answered = one.2.answered ∙ two.2.answered;
            stopped = one.2.stopped ∙ two.2.stopped;
            stopped_at = one.2.stopped_at ∙ two.2.stopped_at;
          },
        );
  }

-- what a list has at a place
pub get_or_is : {X : Type 0} → (xs : List X) (k : ℕ) (d x : X) → slice_get xs k ≡ Some x → get_or xs k d ≡ x
get_or_is [] zero d x e = absurd (cc)
get_or_is [] (suc k) d x e = absurd (cc)
get_or_is (y ∷ xs) zero d x e = same_some e
get_or_is (y ∷ xs) (suc k) d x e = get_or_is xs k d x e

module _ {X : Type 0} (P : X → Type 0) where
  pub each_more : (xs : List X) (x : X) → ((k : ℕ) (t : X) → slice_get xs k ≡ Some t → P t) → P x → (k : ℕ) (t : X) → slice_get (xs ++ x ∷ []) k ≡ Some t → P t
  each_more xs x old new k t e = elim (get_put xs x t k e) [ inl a ↦ old k t a | inr a ↦ subst P (sym a.1) new ]

  pub by_index : (xs : List X) → ((k : ℕ) (t : X) → slice_get xs k ≡ Some t → P t) → (k : ℕ) (d : X) → k < length xs → P (get_or xs k d)
  by_index xs each k d lt = let found = slice_get_in xs k lt in subst P (sym (get_or_is xs k d found.0 found.1)) (each k found.0 found.1)

  pub by_get : (xs : List X) → ((k : ℕ) (d : X) → k < length xs → P (get_or xs k d)) → (k : ℕ) (t : X) → slice_get xs k ≡ Some t → P t
  by_get xs each k t e = subst P (get_or_is xs k t t e) (each k t (slice_get_within xs k t e))

  pub each_none : (xs : List X) → xs ≡ [] → (k : ℕ) (t : X) → slice_get xs k ≡ Some t → P t
  each_none [] e zero t f = absurd (cc)
  each_none [] e (suc k) t f = absurd (cc)
  each_none (x ∷ xs) e k t f = absurd (cc)
