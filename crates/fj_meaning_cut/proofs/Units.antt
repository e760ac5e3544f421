-- Units whose numbers and slots differ.
use Rattle.std.proofs.Common.{◌≡◌, ℕ, Bool, true, false, not, List, [], ◌∷◌, Some, None, refl, sym, ap, ◌∙◌, subst, inl, inr, ◌||◌, arith}
use Rattle.std.specs.Prelude.{◌==◌, if◌then◌else◌, filter, nat_lt}
use Rattle.std.specs.List.{list_any}
use Rattle.std.proofs.lemmas.Bool.{ltb-true, ltb-false, eq-eqb, ne_eqb, eqb-true}
use Rattle.std.proofs.lemmas.Bool.Decides.{eqb_tells}
use Rattle.fj_meaning_jobs.specs.Core.{Connected, connected_at, without_connected}
use Rattle.fj_meaning_jobs.proofs.Apart.{Each, each_imp, each_both, each_filter, Differs, Apart}
use Rattle.fj_meaning_jobs.proofs.Opening.{gone_differs}

pub each_all : {X : Type 0} → (P : X → Type 0) (xs : List X) → ((x : X) → P x) → Each P xs
each_all P [] f = tt
each_all P (x ∷ xs) f = (f x, each_all P xs f)

-- a fact of those that are left, and of those that are not
pub each_unfilter : {X : Type 0} → (P : X → Type 0) (p : X → Bool) (xs : List X) → Each P (filter p xs) → Each (λ x. p x ≡ false → P x) xs → Each P xs
each_unfilter P p [] h k = tt
each_unfilter P p (x ∷ xs) h k = by (p x) refl h (λ g. each_unfilter P p xs g k.1)
  where
    by : (b : Bool) → p x ≡ b → Each P (if b then x ∷ filter p xs else filter p xs) → (Each P (filter p xs) → Each P xs) → Each P (x ∷ xs)
    by true e g f = (g.0, f g.1)
    by false e g f = (k.0 e, f g)

pub none_any : {X : Type 0} → (q : X → Bool) (xs : List X) → list_any q xs ≡ false → Each (λ x. q x ≡ false) xs
none_any q [] e = tt
none_any q (x ∷ xs) e = by (q x) refl e (none_any q xs)
  where
    by : (b : Bool) → q x ≡ b → (b || list_any q xs) ≡ false → (list_any q xs ≡ false → Each (λ y. q y ≡ false) xs) → Each (λ y. q y ≡ false) (x ∷ xs)
    by true a f rest = cc
    by false a f rest = (a, rest f)

-- ---- the unit of a number

pub each_at : (P : Connected → Type 0) (us : List Connected) (n : ℕ) (u : Connected) → Each P us → connected_at us n ≡ Some u → P u
each_at P [] n u h e = cc
each_at P (x ∷ us) n u h e =
    elim (eqb_tells x.number n) [
      | inl a ↦ let z : Some x ≡ Some u = ap (λ k. if k then Some x else connected_at us n) (sym a.0) ∙ e in let same : x ≡ u = cc in subst P same h.0
      | inr a ↦ each_at P us n u h.1 (ap (λ k. if k then Some x else connected_at us n) (sym a.0) ∙ e)
    ]

pub none_at : (us : List Connected) (n : ℕ) → connected_at us n ≡ None → Differs (λ (x : Connected). x.number) n us
none_at [] n e = tt
none_at (x ∷ us) n e =
    elim (eqb_tells x.number n) [
      | inl a ↦ absurd (let z : Some x ≡ None = ap (λ k. if k then Some x else connected_at us n) (sym a.0) ∙ e in cc)
      | inr a ↦ (a.1, none_at us n (ap (λ k. if k then Some x else connected_at us n) (sym a.0) ∙ e))
    ]

-- no other one has its number, or its slot
pub only : (f : Connected → ℕ) (us : List Connected) (n : ℕ) (u : Connected) → Apart f us → connected_at us n ≡ Some u → Each (λ x. f x ≡ f u → x ≡ u) us
only f [] n u h e = tt
only f (x ∷ us) n u h e =
    elim (eqb_tells x.number n) [
      | inl a ↦
          let z : Some x ≡ Some u = ap (λ k. if k then Some x else connected_at us n) (sym a.0) ∙ e in
          let same : x ≡ u = cc in
          ((λ q. same), each_imp (λ y. f y ≡ f x → ⊥) (λ y. f y ≡ f u → y ≡ u) us (λ y ne q. absurd (ne (q ∙ ap f (sym same)))) h.0)
      | inr a ↦
          let later : connected_at us n ≡ Some u = ap (λ k. if k then Some x else connected_at us n) (sym a.0) ∙ e in
          ((λ q. absurd (each_at (λ y. f y ≡ f x → ⊥) us n u h.0 later (sym q))), only f us n u h.1 later)
    ]

none_left : {X : Type 0} → (number : X → ℕ) (n : ℕ) (xs : List X) → Differs number n xs → filter (λ x. number x == n) xs ≡ []
none_left number n [] d = refl
none_left number n (x ∷ xs) d = ap (λ b. if b then x ∷ filter (λ y. number y == n) xs else filter (λ y. number y == n) xs) (ne_eqb (number x) n d.0) ∙ none_left number n xs d.1

pub alone : (us : List Connected) (n : ℕ) (u : Connected) → Apart (λ (x : Connected). x.number) us → connected_at us n ≡ Some u → filter (λ (x : Connected). x.number == n) us ≡ u ∷ []
alone [] n u h e = cc
alone (x ∷ us) n u h e =
    elim (eqb_tells x.number n) [
      | inl a ↦
          let z : Some x ≡ Some u = ap (λ k. if k then Some x else connected_at us n) (sym a.0) ∙ e in
          let same : x ≡ u = cc in
          ap (λ b. if b then x ∷ filter (λ (y : Connected). y.number == n) us else filter (λ (y : Connected). y.number == n) us) a.0
          ∙ ap (λ l. x ∷ l) (none_left (λ (y : Connected). y.number) n us (subst (λ k. Differs (λ (y : Connected). y.number) k us) a.1 h.0))
          ∙ ap (λ y. y ∷ []) same
      | inr a ↦
          ap (λ b. if b then x ∷ filter (λ (y : Connected). y.number == n) us else filter (λ (y : Connected). y.number == n) us) a.0
          ∙ alone us n u h.1 (ap (λ k. if k then Some x else connected_at us n) (sym a.0) ∙ e)
    ]

-- each is the unit of its number
pub each_found : (us : List Connected) → Apart (λ (x : Connected). x.number) us → Each (λ (x : Connected). connected_at us x.number ≡ Some x) us
each_found [] h = tt
each_found (u ∷ us) h = (
  ap (λ b. if b then Some u else connected_at us u.number) (eq-eqb u.number u.number refl),
  each_both (λ (x : Connected). x.number ≡ u.number → ⊥) (λ (x : Connected). connected_at us x.number ≡ Some x) (λ (x : Connected). connected_at (u ∷ us) x.number ≡ Some x) us
      (λ x ne e. ap (λ b. if b then Some u else connected_at us x.number) (ne_eqb u.number x.number (λ q. ne (sym q))) ∙ e) h.0 (each_found us h.1),
)

-- also where another one is gone
pub found_without : (us : List Connected) (n m : ℕ) → (m ≡ n → ⊥) → connected_at (without_connected n us) m ≡ connected_at us m
found_without [] n m ne = refl
found_without (x ∷ us) n m ne =
    elim (eqb_tells x.number n) [
      | inl a ↦
          ap (λ b. connected_at (if not b then x ∷ without_connected n us else without_connected n us) m) a.0 ∙ found_without us n m ne
          ∙ sym (ap (λ b. if b then Some x else connected_at us m) (ne_eqb x.number m (λ q. ne (sym q ∙ a.1))))
      | inr a ↦
          ap (λ b. connected_at (if not b then x ∷ without_connected n us else without_connected n us) m) a.0
          ∙ ap (λ o. if x.number == m then Some x else o) (found_without us n m ne)
    ]

pub found_behind : (all : List Connected) (u : Connected) (us : List Connected) → Differs (λ (x : Connected). x.number) u.number us → Each (λ (x : Connected). connected_at all x.number ≡ Some x) us
    → Each (λ (x : Connected). connected_at (without_connected u.number all) x.number ≡ Some x) us
found_behind all u us apart found =
    each_both (λ (x : Connected). x.number ≡ u.number → ⊥) (λ (x : Connected). connected_at all x.number ≡ Some x) (λ (x : Connected). connected_at (without_connected u.number all) x.number ≡ Some x) us
    (λ x ne e. found_without all u.number x.number ne ∙ e) apart found

not_false : (b : Bool) → not b ≡ false → b ≡ true
not_false true e = refl
not_false false e = cc

-- where one is gone, the others have other slots
pub others_differ : (us : List Connected) (u : Connected) → Apart (λ (x : Connected). x.slot) us → connected_at us u.number ≡ Some u → Differs (λ (x : Connected). x.slot) u.slot (without_connected u.number us)
others_differ us u slots found =
    each_both (λ (x : Connected). x.slot ≡ u.slot → x ≡ u) (λ (x : Connected). x.number ≡ u.number → ⊥) (λ (x : Connected). x.slot ≡ u.slot → ⊥) (without_connected u.number us)
    (λ x same ne e. ne (ap (λ (y : Connected). y.number) (same e)))
    (each_filter (λ (x : Connected). x.slot ≡ u.slot → x ≡ u) (λ (x : Connected). not (x.number == u.number)) us (only (λ x. x.slot) us u.number u slots found))
    (gone_differs (λ (x : Connected). x.number) u.number us)

-- and the slots that none of them has are those that no unit had, and its own
pub none_had : (us : List Connected) (u : Connected) → Apart (λ (x : Connected). x.number) us → connected_at us u.number ≡ Some u → (k : ℕ) → Differs (λ (x : Connected). x.slot) k (without_connected u.number us) → (k ≡ u.slot → ⊥)
    → Differs (λ (x : Connected). x.slot) k us
none_had us u numbers found k d ne =
    each_unfilter (λ (x : Connected). x.slot ≡ k → ⊥) (λ (x : Connected). not (x.number == u.number)) us d
    (each_imp (λ (x : Connected). x.number ≡ u.number → x ≡ u) (λ (x : Connected). not (x.number == u.number) ≡ false → x.slot ≡ k → ⊥) us
    (λ x same gone e. ne (sym e ∙ ap (λ (y : Connected). y.slot) (same (eqb-true x.number u.number (not_false (x.number == u.number) gone))))) (only (λ x. x.number) us u.number u numbers found))

-- a unit of another number stands below or above
pub apart_from : (k n : ℕ) → (k ≡ n → ⊥) → nat_lt n k ≡ not (nat_lt k n)
apart_from k n ne = by (nat_lt k n) (nat_lt n k) refl refl
  where
    by : (b c : Bool) → nat_lt k n ≡ b → nat_lt n k ≡ c → c ≡ not b
    by true true a d = absurd (omega (arith, ltb-true k n a, ltb-true n k d))
    by true false a d = refl
    by false true a d = refl
    by false false a d = absurd (ne (omega (arith, ltb-false k n a, ltb-false n k d)))
