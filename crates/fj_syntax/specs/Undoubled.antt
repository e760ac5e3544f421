-- A literal as it is written between its delimiters.
use Rattle.std.specs.Prelude.{ℕ, ◌==◌, List, [], ◌∷◌, if◌then◌else◌}

abbrev mutual
  -- with one delimiter in place of two
  pub undoubled : ℕ → List ℕ → List ℕ
  undoubled q [] = []
  undoubled q (c ∷ text) = if c == q then c ∷ behind_one q text else c ∷ undoubled q text

  -- the byte behind a delimiter is its double
  pub behind_one : ℕ → List ℕ → List ℕ
  behind_one q [] = []
  behind_one q (c ∷ text) = undoubled q text
