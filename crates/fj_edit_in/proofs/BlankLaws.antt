-- Blanks in front of a field, for the crates above.
use Rattle.std.proofs.Common.{◌≡◌, ℕ, suc, ◌+◌, eqb, List, ◌∷◌, drop, ap, arith}
use Rattle.std.specs.List.{prefix_len}
use Rattle.fj_edit_in.specs.InputField.{trimmed}

one_suc : (n : ℕ) → 1 + n ≡ suc n
one_suc n = omega arith

pub trimmed-blank : (cs : List ℕ) → trimmed (32 ∷ cs) ≡ trimmed cs
unfolding trimmed
trimmed-blank cs = ap (λ n. drop n (32 ∷ cs)) (one_suc (prefix_len (λ c. eqb c 32) cs))
