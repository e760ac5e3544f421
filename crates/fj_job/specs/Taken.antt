-- What was read of a source.
use Rattle.std.specs.Prelude.{◌≡◌, ◌⊎◌, ℕ, ◌<◌, List, length}

-- the text is what the source held, or both pass a limit
abbrev pub IsReadOf : ℕ → List ℕ → List ℕ → Type 0
IsReadOf limit held text = (text ≡ held) ⊎ ((limit < length text) × (limit < length held))
