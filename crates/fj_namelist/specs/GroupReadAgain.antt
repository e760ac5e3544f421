-- What is written of a group is read again.
use Rattle.std.specs.Prelude.{◌≡◌, ℕ, ◌+◌, ◌<◌, ◌⊎◌, Bool, true, ◌||◌, ◌==◌, List, [], ◌∷◌, length, Some}
use Rattle.std.specs.Char.{is_ascii_alphanumeric}
use Rattle.std.specs.List.{list_all}
use Rattle.fj_value.specs.Kind.{IsOfKind}
use Rattle.fj_value.specs.declared.kind.Kind.{Kind}
use Rattle.fj_value.specs.declared.edit.EditModes.{EditModes}
use Rattle.fj_value.specs.declared.value.Cell.{Cell}
use Rattle.fj_value.specs.declared.value.Value.{Value}
use Rattle.fj_value.specs.declared.condition.Condition.{Condition}
use Rattle.fj_value.specs.declared.condition.Condition.TheVariants.{Fine}
use Rattle.fj_moved.specs.declared.moved.GroupMember.{GroupMember}
use Rattle.fj_list.specs.ListText.{mark_of}
use Rattle.fj_moved.specs.Cells.{with_value}
use Rattle.fj_namelist.specs.Names.{same_name}
use Rattle.fj_namelist.specs.GroupText.{values_of, IsWithin, group_written}
use Rattle.fj_namelist.specs.GroupInput.{elements, group_input}

-- letters, digits and underscores
abbrev pub in_name : ℕ → Bool
in_name c = is_ascii_alphanumeric c || (c == 95)

pub record IsName (name : List ℕ) : Type 0 where
  pub some : 0 < length name
  pub all : list_all in_name name ≡ true

abbrev pub AreOfKind : Kind → List Value → Type 0
AreOfKind kind [] = Unit {0}
AreOfKind kind (v ∷ vs) = IsOfKind kind v × AreOfKind kind vs

-- a member with cells that have values of its kind
pub record IsWritten (written : List Cell) (m : GroupMember) : Type 0 where
  pub name : IsName m.name
  pub within : IsWithin (length written) m
  pub kinds : AreOfKind m.kind (values_of m written)

abbrev pub AreWritten : List Cell → List GroupMember → Type 0
AreWritten written [] = Unit {0}
AreWritten written (m ∷ members) = IsWritten written m × AreWritten written members

abbrev pub IsAmong : GroupMember → List GroupMember → Type 0
IsAmong m [] = ⊥
IsAmong m (x ∷ xs) = (x ≡ m) ⊎ IsAmong m xs

-- members whose names are equal but for case have the same cells
abbrev pub ShareCells : List GroupMember → Type 0
ShareCells members = (m m' : GroupMember) → IsAmong m members → IsAmong m' members → same_name m'.name m.name ≡ true → elements m' ≡ elements m

-- cells from one on get values
abbrev pub with_values_from : ℕ → List Value → List Cell → List Cell
with_values_from at [] cells = cells
with_values_from at (v ∷ vs) cells = with_values_from (at + 1) vs (with_value cells at v)

-- the cells of each member get the values that are written
abbrev pub with_members : List GroupMember → List Cell → List Cell → List Cell
with_members [] written cells = cells
with_members (m ∷ members) written cells = with_members members written (with_values_from m.first (values_of m written) cells)

-- Under DELIM='APOSTROPHE' or 'QUOTE', what is written of a group is read under the same modes as these values. No record
-- is left, and what stands behind the records is not met.
abbrev pub IsReadAgain : EditModes → List ℕ → List GroupMember → List Cell → Type 0
IsReadAgain modes group members written = (cells : List Cell) (ending : Condition) (mark : ℕ) → mark_of modes.delim ≡ Some mark → IsName group → AreWritten written members → ShareCells members
    → group_input modes.comma (group_written modes group members written) ending group members cells ≡ record { cells = with_members members written cells; condition = Fine; left = [] }

abbrev pub GroupsAreReadAgain : Type 0
GroupsAreReadAgain = (modes : EditModes) (group : List ℕ) (members : List GroupMember) (written : List Cell) → IsReadAgain modes group members written
