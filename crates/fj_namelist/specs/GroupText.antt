-- Namelist output (ISO/IEC 1539-1:2004, 10.10.2): the records of a group.
use Rattle.std.specs.Prelude.{ℕ, ◌+◌, ◌≤◌, Bool, true, false, if◌then◌else◌, List, [], ◌∷◌, ◌++◌, length, map, take, drop}
use Rattle.std.specs.List.{flat_map}
use Rattle.std.specs.Str.{str_to_ascii_uppercase}
use Rattle.fj_value.specs.declared.edit.EditModes.{EditModes}
use Rattle.fj_value.specs.declared.value.Cell.{Cell}
use Rattle.fj_value.specs.declared.value.Value.{Value}
use Rattle.fj_moved.specs.declared.moved.GroupMember.{GroupMember}
use Rattle.fj_list.specs.ListText.{shown, passes_columns}

-- what parts the values of a member
abbrev pub parting : Bool → ℕ
parting true = 59
parting false = 44

-- The records of a record so far and of more values. Where a value would pass the last column the separator stays, and a new
-- record of one blank goes on with the value (own).
abbrev pub continued : EditModes → List ℕ → List Value → List (List ℕ)
continued modes line [] = line ∷ []
continued modes line (v ∷ vs) =
    let longer = line ++ (parting modes.comma ∷ shown modes v) in
    if passes_columns (length longer) then (line ++ parting modes.comma ∷ []) ∷ continued modes (32 ∷ shown modes v) vs else continued modes longer vs

-- a blank, a name in upper case and `=`
abbrev pub name_shown : List ℕ → List ℕ
name_shown name = 32 ∷ (str_to_ascii_uppercase name ++ 61 ∷ [])

-- the records of a member
abbrev pub member_written : EditModes → List ℕ → List Value → List (List ℕ)
member_written modes name [] = name_shown name ∷ []
member_written modes name (v ∷ vs) = continued modes (name_shown name ++ shown modes v) vs

abbrev pub values_in : List Cell → List Value
values_in cells = map (λ (cell : Cell). cell.value) cells

-- the values of a member's cells
abbrev pub values_of : GroupMember → List Cell → List Value
values_of m cells = values_in (take m.count (drop m.first cells))

abbrev pub members_written : EditModes → List GroupMember → List Cell → List (List ℕ)
members_written modes members cells = flat_map (λ (m : GroupMember). member_written modes m.name (values_of m cells)) members

-- the group's name, its members one after another, and a slash
abbrev pub group_written : EditModes → List ℕ → List GroupMember → List Cell → List (List ℕ)
group_written modes group members cells = ((32 ∷ 38 ∷ str_to_ascii_uppercase group) ∷ members_written modes members cells) ++ (32 ∷ 47 ∷ []) ∷ []

-- a member's cells are among so many
abbrev pub IsWithin : ℕ → GroupMember → Type 0
IsWithin cells m = m.first + m.count ≤ cells

-- what follows so many characters of a record
abbrev pub text_behind : EditModes → ℕ → List Value → List ℕ
text_behind modes column [] = 10 ∷ []
text_behind modes column (v ∷ vs) =
    if passes_columns (column + length (parting modes.comma ∷ shown modes v)) then (parting modes.comma ∷ 10 ∷ 32 ∷ shown modes v) ++ text_behind modes (length (32 ∷ shown modes v)) vs
    else (parting modes.comma ∷ shown modes v) ++ text_behind modes (column + length (parting modes.comma ∷ shown modes v)) vs
