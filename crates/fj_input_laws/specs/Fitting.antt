-- What does not fit a connection, and where a transfer does not begin: 16, 10, 20, 21 and 17, each where none of those before it is met
-- (ISO/IEC 1539-1:2004, 9.2.3.2, 9.4.5.2, 9.5.1).
use Rattle.std.specs.Prelude.{◌≡◌, ◌≢◌, ℕ, ℤ, pos, negsuc, ◌+◌, ◌-◌, ◌<◌, ◌&&◌, not, Bool, true, false, List, length, Option, Some, None, is_some, Ok, if◌then◌else◌}
use Rattle.fj_value.specs.declared.edit.EditModes.{EditModes}
use Rattle.fj_value.specs.declared.condition.Condition.TheVariants.{Fine, Error}
use Rattle.fj_modes.specs.declared.modes.Modes.{Modes}
use Rattle.fj_modes.specs.declared.specifiers.Access.TheVariants.{Direct, Stream}
use Rattle.fj_modes.specs.declared.specifiers.Action.{Action}
use Rattle.fj_modes.specs.declared.specifiers.Action.TheVariants.{Read, Write}
use Rattle.fj_modes.specs.Words.{TakesOrKeeps}
use Rattle.fj_byterec.specs.Pieces.{piece}
use Rattle.fj_moved.specs.declared.moved.Moved.{Moved}
use Rattle.fj_moved.specs.declared.moved.GroupMember.{GroupMember}
use Rattle.fj_connect.specs.Connection.{Connection, between}
use Rattle.fj_connect.specs.Positions.{ended}
use Rattle.fj_transfer.specs.declared.change.EditChange.{EditChange}
use Rattle.fj_transfer.specs.declared.transfer.TransferSpec.{TransferSpec}
use Rattle.fj_transfer.specs.declared.transfer.Layout.{Layout}
use Rattle.fj_transfer.specs.declared.transfer.Layout.TheVariants.{Unformatted, Listed, Group}
use Rattle.fj_transfer.specs.Change.{changed}
use Rattle.fj_transfer.specs.Transfer.{Done, told_with, with_undefined, is_explicit, unfitness, begins_at, transfer}

-- what 16 tells, by the layout and whether ADVANCE=, REC= and POS= are named
pub data IsUnfit (modes : Modes) (layout : Layout) (advance number byte : Bool) : Type 0 where
  connection_is_unformatted : modes.formatted ≡ false → layout ≢ Unformatted → IsUnfit modes layout advance number byte
  connection_is_formatted : modes.formatted ≡ true → layout ≡ Unformatted → IsUnfit modes layout advance number byte
  access_has_no_numbers : number ≡ true → modes.access ≢ Direct → IsUnfit modes layout advance number byte
  access_needs_a_number : number ≡ false → modes.access ≡ Direct → IsUnfit modes layout advance number byte
  access_has_no_bytes : byte ≡ true → modes.access ≢ Stream → IsUnfit modes layout advance number byte
  direct_record_is_whole : advance ≡ true → modes.access ≡ Direct → IsUnfit modes layout advance number byte
  direct_record_is_no_list : layout ≡ Listed → modes.access ≡ Direct → IsUnfit modes layout advance number byte
  direct_record_is_no_group : {name : List ℕ} {members : List GroupMember} → layout ≡ Group name members → modes.access ≡ Direct → IsUnfit modes layout advance number byte

-- what 10 tells: ACTION= does not allow the direction
pub data IsForbidden (action : Action) (input : Bool) : Type 0 where
  file_is_only_written : action ≡ Write → input ≡ true → IsForbidden action input
  file_is_only_read : action ≡ Read → input ≡ false → IsForbidden action input

-- 16 before 10, and neither where nothing is unfit or forbidden
pub record FitsExactly : Type 0 where
  pub unfit : (modes : Modes) (layout : Layout) (input advance number byte : Bool) → IsUnfit modes layout advance number byte → unfitness modes layout input advance number byte ≡ Error 16
  pub forbidden : (modes : Modes) (layout : Layout) (input advance number byte : Bool) → (IsUnfit modes layout advance number byte → ⊥) → IsForbidden modes.action input
      → unfitness modes layout input advance number byte ≡ Error 10
  pub fits : (modes : Modes) (layout : Layout) (input advance number byte : Bool) → (IsUnfit modes layout advance number byte → ⊥) → (IsForbidden modes.action input → ⊥)
      → unfitness modes layout input advance number byte ≡ Fine

-- ---- where a transfer begins

abbrev pub IsBelowOne : ℤ → Type 0
IsBelowOne (pos n) = n ≡ 0
IsBelowOne (negsuc n) = Unit {0}

-- what 20 and 21 tell: the connection is behind the endfile record; REC= or POS= is below 1, or POS= is beyond the place behind the
-- last byte
pub data IsNowhere (spec : TransferSpec) (c : Connection) : ℕ → Type 0 where
  file_has_ended : c.spot.after_end ≡ true → IsNowhere spec c 20
  number_is_below_one : {n : ℤ} → c.spot.after_end ≡ false → spec.rec ≡ Some n → IsBelowOne n → IsNowhere spec c 21
  byte_is_below_one : {n : ℤ} → c.spot.after_end ≡ false → spec.rec ≡ None → spec.pos ≡ Some n → IsBelowOne n → IsNowhere spec c 21
  byte_is_beyond : {n : ℕ} → c.spot.after_end ≡ false → spec.rec ≡ None → spec.pos ≡ Some (pos n) → length c.bytes + 1 < n → IsNowhere spec c 21

-- at the record of the number, at the byte, or at the position
abbrev pub IsAtPlace : Option ℤ → Option ℤ → Connection → Connection → Type 0
IsAtPlace (Some (pos n)) byte c b = b ≡ record c { spot = record c.spot { next_number = n } }
IsAtPlace (Some (negsuc n)) byte c b = ⊥
IsAtPlace None (Some (pos n)) c b = b ≡ between c (n - 1)
IsAtPlace None (Some (negsuc n)) c b = ⊥
IsAtPlace None None c b = b ≡ c

-- a READ first ends a record that output left open
abbrev pub found_by : Bool → Connection → Connection
found_by input c = if input then ended c else c

-- the connection is as it was, and what was to be read is undefined
abbrev pub Tells : Connection → TransferSpec → Moved → ℕ → Type 0
Tells c spec moved n = transfer c spec moved ≡ told_with c (if spec.input then with_undefined moved.cells else moved.cells) (Error n)

abbrev pub Unfit : Connection → TransferSpec → Type 0
Unfit c spec = IsUnfit c.modes spec.layout (is_explicit spec.layout && not spec.advance) (is_some spec.rec) (is_some spec.pos)

-- 16, 10, 20 and 21 in this order; else it begins where it is to, and 17 is told of a direct record that is not there
pub record BeginsExactly : Type 0 where
  pub unfit : (c : Connection) (spec : TransferSpec) (moved : Moved) → Unfit c spec → Tells c spec moved 16
  pub forbidden : (c : Connection) (spec : TransferSpec) (moved : Moved) → (Unfit c spec → ⊥) → IsForbidden c.modes.action spec.input → Tells c spec moved 10
  pub nowhere : (c : Connection) (spec : TransferSpec) (moved : Moved) → (Unfit c spec → ⊥) → (IsForbidden c.modes.action spec.input → ⊥) → (n : ℕ) → IsNowhere spec (found_by spec.input c) n → Tells c spec moved n
  pub somewhere : (c : Connection) (spec : TransferSpec) → ((n : ℕ) → IsNowhere spec (found_by spec.input c) n → ⊥)
      → (b : Connection) × (begins_at spec (found_by spec.input c) ≡ Ok b) × IsAtPlace spec.rec spec.pos (found_by spec.input c) b
  pub no_record : (c b : Connection) (spec : TransferSpec) (moved : Moved) → (Unfit c spec → ⊥) → (IsForbidden c.modes.action spec.input → ⊥) → spec.input ≡ true → b.modes.access ≡ Direct
      → begins_at spec (ended c) ≡ Ok b → b.modes ≡ c.modes → piece b.bytes b.modes.recl b.spot.next_number ≡ None → Tells c spec moved 17

-- ---- the modes of a statement

-- each mode that the statement names, and the others as the connection has them
pub record IsChangeBy (change : EditChange) (before after : EditModes) : Type 0 where
  pub blank_zero : TakesOrKeeps change.blank_zero before.blank_zero after.blank_zero
  pub comma : TakesOrKeeps change.comma before.comma after.comma
  pub delim : TakesOrKeeps change.delim before.delim after.delim
  pub pad : TakesOrKeeps change.pad before.pad after.pad
  pub plus : TakesOrKeeps change.plus before.plus after.plus

abbrev pub ChangesByName : Type 0
ChangesByName = (change : EditChange) (modes : EditModes) → IsChangeBy change modes (changed change modes)
