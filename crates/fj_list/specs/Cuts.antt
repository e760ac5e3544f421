-- Delimited constants over several records (ISO/IEC 1539-1:2004, 10.9.1).
use Rattle.std.specs.Prelude.{ℕ, List, [], ◌∷◌, ◌++◌, map, Some, None}
use Rattle.std.specs.List.{flat_map}
use Rattle.fj_list.specs.ListText.{doubled}
use Rattle.fj_list.specs.Stream.{Stream}
use Rattle.fj_list.specs.Grammar.{NoMark, Delimiting}

abbrev pub characters : List ℕ → Stream
characters cs = map (λ (c : ℕ). Some c) cs

-- pieces of a constant's characters, each in a record of its own, with each mark doubled
abbrev pub over_records : ℕ → List ℕ → List (List ℕ) → Stream
over_records mark piece [] = characters (doubled mark piece)
over_records mark piece (next ∷ pieces) = characters (doubled mark piece) ++ (None ∷ over_records mark next pieces)

-- A constant may be cut over records anywhere but inside a doubled mark: the ends of its records are no characters.
-- Between two marks the end of the record closes it.
pub record MayBeCut (mark : ℕ) (piece : List ℕ) (pieces : List (List ℕ)) (t : Stream) : Type 0 where
  pub whole : NoMark mark t → Delimiting mark (flat_map (λ (p : List ℕ). p) (piece ∷ pieces)) (over_records mark piece pieces ++ (Some mark ∷ t)) (Some t)
  pub between_marks : Delimiting mark piece (characters (doubled mark piece) ++ (Some mark ∷ None ∷ Some mark ∷ t)) (Some (None ∷ Some mark ∷ t))

abbrev pub ConstantsMayBeCut : Type 0
ConstantsMayBeCut = (mark : ℕ) (piece : List ℕ) (pieces : List (List ℕ)) (t : Stream) → MayBeCut mark piece pieces t
