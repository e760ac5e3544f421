-- Where the records of namelist output break (ISO/IEC 1539-1:2004, 10.10.2; the layout is this processor's own).
use Rattle.std.specs.Prelude.{◌≡◌, ℕ, ◌<◌, ◌≤◌, ◌⊎◌, List, [], ◌∷◌, ◌++◌, length}
use Rattle.std.specs.List.{flat_map}
use Rattle.fj_value.specs.declared.edit.EditModes.{EditModes}
use Rattle.fj_value.specs.declared.value.Value.{Value}
use Rattle.fj_list.specs.ListText.{shown}
use Rattle.fj_list.specs.Breaks.{Part, values_in}
use Rattle.fj_namelist.specs.GroupText.{parting, name_shown, member_written}

-- values behind another one, each with a separator before it
abbrev pub joined : EditModes → List Value → List ℕ
joined modes values = flat_map (λ v. parting modes.comma ∷ shown modes v) values

-- a record: what begins it, and its values
abbrev pub line_of : EditModes → List ℕ → Part → List ℕ
line_of modes begins p = (begins ++ shown modes p.0) ++ joined modes p.1

-- the records of a member: what begins the first one, a blank in the others, and a separator behind all but the last
abbrev pub lines_of : EditModes → List ℕ → Part → List Part → List (List ℕ)
lines_of modes begins p [] = line_of modes begins p ∷ []
lines_of modes begins p (q ∷ parts) = (line_of modes begins p ++ parting modes.comma ∷ []) ∷ lines_of modes (32 ∷ []) q parts

-- but for a separator behind it, a record of more than one value has at most 80 characters
abbrev pub Fits : EditModes → List ℕ → Part → Type 0
Fits modes begins p = (length (line_of modes begins p) ≤ 80) ⊎ (p.1 ≡ [])

abbrev pub Fit : EditModes → List ℕ → Part → List Part → Type 0
Fit modes begins p [] = Fits modes begins p
Fit modes begins p (q ∷ parts) = Fits modes begins p × Fit modes (32 ∷ []) q parts

-- with the first value of the next record each one would have more
abbrev pub Full : EditModes → List ℕ → Part → List Part → Type 0
Full modes begins p [] = Unit {0}
Full modes begins p (q ∷ parts) = (80 < length (line_of modes begins (p.0, p.1 ++ q.0 ∷ []))) × Full modes (32 ∷ []) q parts

-- the values of a member, cut into records, the first of which begins with its name
pub record AreRecords (modes : EditModes) (name : List ℕ) (values : List Value) (lines : List (List ℕ)) : Type 0 where
  pub first : Part
  pub others : List Part
  pub all : values_in (first ∷ others) ≡ values
  pub fit : Fit modes (name_shown name) first others
  pub full : Full modes (name_shown name) first others
  pub lines_are : lines ≡ lines_of modes (name_shown name) first others

-- the records of a member with values are such, and no others
pub record BreakWhereFull (modes : EditModes) (name : List ℕ) (v : Value) (vs : List Value) : Type 0 where
  pub are : AreRecords modes name (v ∷ vs) (member_written modes name (v ∷ vs))
  pub only : (lines : List (List ℕ)) → AreRecords modes name (v ∷ vs) lines → lines ≡ member_written modes name (v ∷ vs)

abbrev pub MembersBreakWhereFull : Type 0
MembersBreakWhereFull = (modes : EditModes) (name : List ℕ) (v : Value) (vs : List Value) → BreakWhereFull modes name v vs
