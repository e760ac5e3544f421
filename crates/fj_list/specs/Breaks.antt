-- Where the records of list-directed output break.
use Rattle.std.specs.Prelude.{◌≡◌, ℕ, ◌<◌, ◌≤◌, ◌⊎◌, List, [], ◌∷◌, ◌++◌, length, map}
use Rattle.std.specs.List.{flat_map}
use Rattle.fj_value.specs.declared.edit.EditModes.{EditModes}
use Rattle.fj_value.specs.declared.value.Value.{Value}
use Rattle.fj_list.specs.ListText.{shown, gap, is_characters, listed}

-- the values of a record: the first one, and the others
abbrev pub Part : Type 0
Part = Value × List Value

abbrev pub values_in : List Part → List Value
values_in parts = flat_map (λ (p : Part). p.0 ∷ p.1) parts

-- the text of values behind another one, with the gap before each
abbrev pub joined : EditModes → Value → List Value → List ℕ
joined modes last [] = []
joined modes last (v ∷ vs) = (gap modes (is_characters last) (is_characters v) ++ shown modes v) ++ joined modes v vs

-- a record: a blank and its values
abbrev pub line_of : EditModes → Value → List Value → List ℕ
line_of modes v vs = (32 ∷ shown modes v) ++ joined modes v vs

abbrev pub lines_of : EditModes → List Part → List (List ℕ)
lines_of modes parts = map (λ (p : Part). line_of modes p.0 p.1) parts

-- a record of more than one value has at most 80 characters
abbrev pub Fit : EditModes → List Part → Type 0
Fit modes [] = Unit {0}
Fit modes (p ∷ parts) = ((length (line_of modes p.0 p.1) ≤ 80) ⊎ (p.1 ≡ [])) × Fit modes parts

-- with the first value of the next record each one would have more
abbrev pub Full : EditModes → List Part → Type 0
Full modes [] = Unit {0}
Full modes (p ∷ []) = Unit {0}
Full modes (p ∷ q ∷ parts) = (80 < length (line_of modes p.0 (p.1 ++ q.0 ∷ []))) × Full modes (q ∷ parts)

-- the values, cut into records
pub record AreRecords (modes : EditModes) (values : List Value) (lines : List (List ℕ)) (parts : List Part) : Type 0 where
  pub all : values_in parts ≡ values
  pub fit : Fit modes parts
  pub full : Full modes parts
  pub lines_are : lines ≡ lines_of modes parts

-- No other list of records is cut so.
abbrev pub RecordsAreUnique : Type 0
RecordsAreUnique = (modes : EditModes) (v : Value) (vs : List Value) (lines : List (List ℕ)) (parts : List Part) → AreRecords modes (v ∷ vs) lines parts → lines ≡ listed modes (v ∷ vs)

-- the records of values are such
abbrev pub RecordsBreakWhereFull : Type 0
RecordsBreakWhereFull = (modes : EditModes) (v : Value) (vs : List Value) → (parts : List Part) × AreRecords modes (v ∷ vs) (listed modes (v ∷ vs)) parts
