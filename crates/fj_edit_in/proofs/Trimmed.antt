-- The blanks in front of a field.
use Rattle.std.proofs.Common.{◌≡◌, ◌≢◌, ℕ, ◌<◌, ◌≤◌, true, false, eqb, List, length, get_or, drop, sym, ap, arith}
use Rattle.std.proofs.lemmas.List.Sums.{prefix_len_is}
use Rattle.std.proofs.lemmas.Bool.Decides.{nat_tests}
use Rattle.fj_edit_in.specs.InputField.{trimmed}

is_blank : (c : ℕ) → c ≡ 32 → eqb c 32 ≡ true
is_blank c h = grind (arith, nat_tests)

no_blank : (c : ℕ) → c ≢ 32 → eqb c 32 ≡ false
no_blank c h = grind (arith, nat_tests)

-- what follows the blanks in front
pub drop_is_trimmed : (cs : List ℕ) (n : ℕ) → n ≤ length cs → ((k : ℕ) → k < n → get_or cs k 0 ≡ 32) → (n < length cs → get_or cs n 0 ≢ 32) → drop n cs ≡ trimmed cs
unfolding trimmed
drop_is_trimmed cs n within blanks end =
    ap (λ k. drop k cs) (sym (prefix_len_is (λ c. eqb c 32) cs n 0 within (λ k h. is_blank (get_or cs k 0) (blanks k h)) (λ h. no_blank (get_or cs n 0) (end h))))
