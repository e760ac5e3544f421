-- What a sink took.
use Rattle.std.specs.Prelude.{◌≡◌, ℕ, List, ◌++◌}

-- it took more behind that
abbrev pub TakesMore : List ℕ → List ℕ → Type 0
TakesMore old new = (part : List ℕ) × (new ≡ old ++ part)
