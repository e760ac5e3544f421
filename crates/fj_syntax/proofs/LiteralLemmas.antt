-- A literal as it is written, up to a delimiter in it.
use Rattle.std.proofs.Common.{◌≡◌, ℕ, zero, suc, ◌+◌, ◌<◌, ◌≤◌, true, false, List, [], ◌∷◌, ◌++◌, length, take, drop, Some, None, eqb, refl, add-one, inl, inr, arith, ap, ◌∙◌}
use Rattle.std.specs.List.{position, position_or_len}
use Rattle.std.proofs.lemmas.Bool.{cases_Bool, cond-false, eq-eqb, eqb-true}
use Rattle.fj_syntax.specs.Tokens.{doubled}
use Rattle.fj_syntax.specs.Undoubled.{undoubled, behind_one}
use Rattle.fj_syntax.proofs.SplitLemmas.{at_first, no_first}

abbrev first_of : ℕ → List ℕ → ℕ
first_of q text = position_or_len (λ c. eqb c q) text

-- the place of the first delimiter, by the first byte
at_one : (q c : ℕ) (text : List ℕ) → eqb c q ≡ true → first_of q (c ∷ text) ≡ 0
at_one q c text e = rw e refl

behind_other : (q c : ℕ) (text : List ℕ) → eqb c q ≡ false → first_of q (c ∷ text) ≡ 1 + first_of q text
behind_other q c text e = rw e refl

up_to_first : (q : ℕ) (text : List ℕ) (n : ℕ) → n ≡ first_of q text → n < length text → undoubled q text ≡ take (suc n) text ++ behind_one q (drop (suc n) text)
up_to_first q [] n h some = absurd (omega arith)
up_to_first q (c ∷ text) zero h some = elim (cases_Bool (eqb c q)) [
  | inl e ↦ rw e refl
  | inr e ↦ absurd (omega (arith, h, behind_other q c text e))
]
up_to_first q (c ∷ text) (suc n) h some = elim (cases_Bool (eqb c q)) [
  | inl e ↦ absurd (omega (arith, h, at_one q c text e))
  | inr e ↦ cond-false (eqb c q) _ _ e ∙ ap (λ l. c ∷ l) (up_to_first q text n (omega (arith, h, behind_other q c text e)) (omega arith))
]

pub at_delimiter : (q : ℕ) (text : List ℕ) (n : ℕ) → position (λ c. eqb c q) text ≡ Some n → undoubled q text ≡ take (n + 1) text ++ behind_one q (drop (n + 1) text)
at_delimiter q text n h = let at = at_first _ _ n h in rw add-one (up_to_first q text n at.0 (omega (arith, at.0, at.1)))

with_none : (q : ℕ) (text : List ℕ) → length text ≤ first_of q text → undoubled q text ≡ text
with_none q [] none = refl
with_none q (c ∷ text) none = elim (cases_Bool (eqb c q)) [
  | inl e ↦ absurd (omega (arith, none, at_one q c text e))
  | inr e ↦ cond-false (eqb c q) _ _ e ∙ ap (λ l. c ∷ l) (with_none q text (omega (arith, none, behind_other q c text e)))
]

pub no_delimiter : (q : ℕ) (text : List ℕ) → position (λ c. eqb c q) text ≡ None → undoubled q text ≡ text
no_delimiter q text h = with_none q text (no_first _ _ h)

pub undoubled_again : (q : ℕ) (text : List ℕ) → undoubled q (doubled q text) ≡ text
undoubled_again q [] = refl
undoubled_again q (c ∷ text) = elim (cases_Bool (eqb c q)) [
  | inl e ↦ rw (e, eq-eqb q q refl, undoubled_again q text, eqb-true c q e) refl
  | inr e ↦ rw (e, e, undoubled_again q text) refl
]
