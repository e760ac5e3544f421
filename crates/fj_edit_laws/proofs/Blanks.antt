-- Blanks and asterisks of a field.
use Rattle.std.proofs.Common.{◌≡◌, ◌≢◌, ℕ, zero, suc, ◌-◌, ◌<◌, ◌≤◌, false, eqb, List, [], ◌∷◌, ◌++◌, length, replicate, refl, sym, ap, subst, ◌∙◌, inl, inr, ◌⊎◌, arith}
use Rattle.std.specs.List.{Contains}
use Rattle.std.proofs.lemmas.List.{length-replicate}
use Rattle.std.proofs.Math.ListN.{get_or-replicate}
use Rattle.std.proofs.lemmas.Bool.{cases_lt}
use Rattle.std.proofs.lemmas.Bool.Decides.{nat_tests}
use Rattle.fj_edit_in.proofs.BlankLaws.{trimmed-blank}
use Rattle.fj_edit_in.specs.InputField.{trimmed}
use Rattle.fj_edit_out.specs.OutputField.{adjusted}

-- blanks in front count for nothing
pub trimmed-blanks : (count : ℕ) (cs : List ℕ) → trimmed (replicate count 32 ++ cs) ≡ trimmed cs
trimmed-blanks zero cs = refl
trimmed-blanks (suc count) cs = trimmed-blank (replicate count 32 ++ cs) ∙ trimmed-blanks count cs

pub trimmed-first : (c : ℕ) (cs : List ℕ) → c ≢ 32 → trimmed (c ∷ cs) ≡ c ∷ cs
unfolding trimmed
trimmed-first c cs h = let other : eqb c 32 ≡ false = grind (arith, nat_tests) in rw other refl

pub trimmed-none : trimmed [] ≡ []
unfolding trimmed
trimmed-none = refl

asterisk : (w : ℕ) → 0 < w → Contains {X = ℕ} (replicate w 42) 42
asterisk w some = (0, omega (arith, length-replicate {A = ℕ} w 42), get_or-replicate {A = ℕ} w 0 42 42 some)

pub none_or_some : (n : ℕ) → (n ≡ 0) ⊎ (0 < n)
none_or_some zero = inl refl
none_or_some (suc n) = inr (omega arith)

adjusted-free : (c : ℕ) (cs : List ℕ) → adjusted 0 (c ∷ cs) ≡ c ∷ cs
adjusted-free c cs = grind (arith, nat_tests)

trimmed-free : (text : List ℕ) → trimmed (adjusted 0 text) ≡ trimmed text
trimmed-free [] = trimmed-blanks 1 []
trimmed-free (c ∷ cs) = ap trimmed (adjusted-free c cs)

adjusted-short : (w : ℕ) (text : List ℕ) → 0 < w → w < length text → adjusted w text ≡ replicate w 42
adjusted-short w text some short = grind (arith, nat_tests)

adjusted-long : (w : ℕ) (text : List ℕ) → 0 < w → length text ≤ w → adjusted w text ≡ replicate (w - length text) 32 ++ text
adjusted-long w text some long = grind (arith, nat_tests)

-- a field without asterisks shows its text behind blanks
pub trimmed-adjusted : (w : ℕ) (text : List ℕ) → ¬ Contains (adjusted w text) 42 → trimmed (adjusted w text) ≡ trimmed text
trimmed-adjusted w text none = elim (none_or_some w) [
  | inl free ↦ subst (λ (n : ℕ). trimmed (adjusted n text) ≡ trimmed text) (sym free) (trimmed-free text)
  | inr some ↦ elim (cases_lt w (length text)) [
    | inl short ↦ absurd (none (subst (λ (xs : List ℕ). Contains {X = ℕ} xs 42) (sym (adjusted-short w text some short)) (asterisk w some)))
    | inr long ↦ ap trimmed (adjusted-long w text some long) ∙ trimmed-blanks (w - length text) text
  ]
]
