-- Each job of a slot of a script served alone was submitted at an entry, when the slot had the jobs in front of it.
use Rattle.std.proofs.Common.{◌≡◌, ◌⊎◌, ℕ, zero, suc, ◌+◌, ◌<◌, List, [], ◌∷◌, ◌++◌, length, take, set, Option, Some, None, slice_get, refl, sym, ap, ◌∙◌, subst, inl, inr, arith}
use Rattle.fj_slot.specs.Serving.{Meaning}
use Rattle.fj_slot.specs.Sound.{outcome}
use Rattle.fj_world.specs.declared.ask.Ask.{Ask}
use Rattle.fj_world.specs.declared.ask.Ask.TheVariants.{Submit, Settle, Finished}
use Rattle.fj_world.specs.Conduct.{Conduct}
use Rattle.fj_world.specs.Plain.{Plain, PlainSlot, submitted_to, told_from, settled_from, served, after}
use Rattle.fj_world.proofs.Places.{slice_get_set}
use Rattle.fj_meaning_turns.proofs.Before.{after_next}

-- one more behind a list
pub last_or : {X : Type 0} → (xs : List X) (x y : X) (k : ℕ) → slice_get (xs ++ x ∷ []) k ≡ Some y → ((slice_get xs k ≡ Some y) × (take k (xs ++ x ∷ []) ≡ take k xs)) ⊎ ((y ≡ x) × (take k (xs ++ x ∷ []) ≡ xs) × (k ≡ length xs))
last_or [] x y zero e = inr ((let z : x ≡ y = cc in sym z), refl, refl)
last_or [] x y (suc k) e = cc
last_or (z ∷ xs) x y zero e = inl (e, refl)
last_or (z ∷ xs) x y (suc k) e =
    elim (last_or xs x y k e) [
      | inl h ↦ inl (h.0, ap (λ l. z ∷ l) h.1)
      | inr h ↦ inr (h.0, ap (λ l. z ∷ l) h.1, ap suc h.2)
    ]

module _ {S G J A P T R : Type 0} (m : Meaning G J A P T R) (c : Conduct S T R) (first : Plain P c) where
  abbrev there : ℕ → Plain P c
  there n = after m c n first

  -- at an entry before that one this job was submitted to the slot, which had these jobs
  pub record Submitted (n at : ℕ) (start : P) (front : List T) (job : T) : Type 0 where
    pub entry : ℕ
    pub before : entry < n
    pub hand : (there entry).hand ≡ Submit at job
    pub slot : PlainSlot P T
    pub has : slice_get (there entry).slots at ≡ Some slot
    pub start_is : slot.start ≡ start
    pub jobs_are : slot.jobs ≡ front

  abbrev EachSubmitted : ℕ → List (PlainSlot P T) → Type 0
  EachSubmitted n qs = (at : ℕ) (q : PlainSlot P T) (k : ℕ) (t : T) → slice_get qs at ≡ Some q → slice_get q.jobs k ≡ Some t → Submitted n at q.start (take k q.jobs) t

  later : (n at : ℕ) (start : P) (front : List T) (job : T) → Submitted n at start front job → Submitted (suc n) at start front job
  later n at start front job w =
      let b = w.before in record { entry = w.entry; before = omega (arith, b); hand = w.hand; slot = w.slot; has = w.has; start_is = w.start_is; jobs_are = w.jobs_are }

  -- a slot that has the same jobs
  same_jobs : (n i : ℕ) (qs : List (PlainSlot P T)) (q new : PlainSlot P T) → EachSubmitted n qs → slice_get qs i ≡ Some q → new.start ≡ q.start → new.jobs ≡ q.jobs → EachSubmitted (suc n) (set qs i new)
  same_jobs n i qs q new h found start jobs at p k t e f =
      elim (slice_get_set qs i at new p e) [
        | inr other ↦ later n at p.start (take k p.jobs) t (h at p k t other.1 f)
        | inl here ↦
            let is : p.jobs ≡ q.jobs = ap (λ (z : PlainSlot P T). z.jobs) here.1 ∙ jobs in
            let from : p.start ≡ q.start = ap (λ (z : PlainSlot P T). z.start) here.1 ∙ start in
            let w = h i q k t found (sym (ap (λ l. slice_get l k) is) ∙ f) in
            subst (λ j. Submitted (suc n) j p.start (take k p.jobs) t) (sym here.0)
            (subst (λ z. Submitted (suc n) i z (take k p.jobs) t) (sym from) (subst (λ l. Submitted (suc n) i q.start (take k l) t) (sym is) (later n i q.start (take k q.jobs) t w)))
      ]

  one_more : (n i : ℕ) (job : T) (q : PlainSlot P T) → EachSubmitted n (there n).slots → (there n).hand ≡ Submit i job → slice_get (there n).slots i ≡ Some q
      → EachSubmitted (suc n) (set (there n).slots i (record { start = q.start; jobs = q.jobs ++ job ∷ []; told = q.told }))
  one_more n i job q h hand found at p k t e f =
      elim (slice_get_set (there n).slots i at (record { start = q.start; jobs = q.jobs ++ job ∷ []; told = q.told }) p e) [
        | inr other ↦ later n at p.start (take k p.jobs) t (h at p k t other.1 f)
        | inl here ↦
            let is : p.jobs ≡ q.jobs ++ job ∷ [] = ap (λ (z : PlainSlot P T). z.jobs) here.1 in
            let from : p.start ≡ q.start = ap (λ (z : PlainSlot P T). z.start) here.1 in
            subst (λ j. Submitted (suc n) j p.start (take k p.jobs) t) (sym here.0)
            (subst (λ z. Submitted (suc n) i z (take k p.jobs) t) (sym from) (subst (λ l. Submitted (suc n) i q.start (take k l) t) (sym is)
            (elim (last_or q.jobs job t k (sym (ap (λ l. slice_get l k) is) ∙ f)) [
              | inl old ↦ subst (λ l. Submitted (suc n) i q.start l t) (sym old.1) (later n i q.start (take k q.jobs) t (h i q k t found old.0))
              | inr new ↦ subst (λ l. Submitted (suc n) i q.start l t) (sym new.1)
                  (subst (λ z. Submitted (suc n) i q.start q.jobs z) (sym new.0)
                  (record { entry = n; before = omega arith; hand = hand; slot = q; has = found; start_is = refl; jobs_are = refl }))
            ])))
      ]

  by_told : (n i : ℕ) (x : Plain P c) (q : PlainSlot P T) (o : Option (T × R)) → EachSubmitted n x.slots → slice_get x.slots i ≡ Some q → EachSubmitted (suc n) (told_from m c o q i x).slots
  by_told n i x q None h found = λ at p k t e f. later n at p.start (take k p.jobs) t (h at p k t e f)
  by_told n i x q (Some reply) h found = same_jobs n i x.slots q (record { start = q.start; jobs = q.jobs; told = q.told + 1 }) h found refl refl

  by_settled : (n i : ℕ) (x : Plain P c) (o : Option (PlainSlot P T)) → slice_get x.slots i ≡ o → EachSubmitted n x.slots → EachSubmitted (suc n) (settled_from m c o i x).slots
  by_settled n i x None found h = λ at p k t e f. later n at p.start (take k p.jobs) t (h at p k t e f)
  by_settled n i x (Some q) found h = by_told n i x q (outcome m q.start q.jobs q.told) h found

  by_submitted : (n i : ℕ) (job : T) (o : Option (PlainSlot P T)) → slice_get (there n).slots i ≡ o → (there n).hand ≡ Submit i job → EachSubmitted n (there n).slots
      → EachSubmitted (suc n) (submitted_to m c o i job (there n)).slots
  by_submitted n i job None found hand h = λ at p k t e f. later n at p.start (take k p.jobs) t (h at p k t e f)
  by_submitted n i job (Some q) found hand h = one_more n i job q h hand found

  by_ask : (n : ℕ) (ask : Ask T) → (there n).hand ≡ ask → EachSubmitted n (there n).slots → EachSubmitted (suc n) (served m c ask (there n)).slots
  by_ask n (Submit i job) hand h = by_submitted n i job (slice_get (there n).slots i) refl hand h
  by_ask n (Settle i) hand h = by_settled n i (there n) (slice_get (there n).slots i) refl h
  by_ask n Finished hand h = λ at p k t e f. later n at p.start (take k p.jobs) t (h at p k t e f)

  no_job : {X : Type 0} → (k : ℕ) (t : T) → slice_get [] k ≡ Some t → X
  no_job zero t z = cc
  no_job (suc k) t z = cc

  pub each_submitted : ((at : ℕ) (q : PlainSlot P T) → slice_get first.slots at ≡ Some q → q.jobs ≡ []) → (n : ℕ) → EachSubmitted n (there n).slots
  each_submitted none zero = λ at q k t e f. no_job k t (sym (ap (λ l. slice_get l k) (none at q e)) ∙ f)
  each_submitted none (suc n) =
      subst (λ (x : Plain P c). EachSubmitted (suc n) x.slots) (sym (after_next m c n first)) (by_ask n (there n).hand refl (each_submitted none n))
