-- What is written under a format and read again under it (ISO/IEC 1539-1:2004, 10.1, 10.6).
use Rattle.std.specs.Prelude.{◌≡◌, ◌≢◌, ℕ, zero, suc, ◌+◌, ◌≤◌, Bool, true, List, [], ◌∷◌, length, map, All, Contains, Some, None}
use Rattle.fj_value.specs.Edit.{width_of}
use Rattle.fj_value.specs.declared.edit.Edit.{Edit}
use Rattle.fj_value.specs.declared.kind.Kind.{Kind}
use Rattle.fj_value.specs.declared.kind.Kind.TheVariants.{Chars}
use Rattle.fj_value.specs.declared.value.Value.{Value}
use Rattle.fj_value.specs.declared.condition.Condition.TheVariants.{Fine}
use Rattle.fj_modes.specs.declared.specifiers.Action.TheVariants.{ReadWrite}
use Rattle.fj_format.specs.declared.item.FormatItem.{FormatItem}
use Rattle.fj_control.specs.Paired.{Part, item, string, move, slash, lacking, parts}
use Rattle.fj_line.specs.declared.moves.Move.TheVariants.{To, Back, Ahead}
use Rattle.fj_line.specs.Records.{texts_of}
use Rattle.fj_edit_out.specs.OutputField.{output_field}
use Rattle.fj_moved.specs.declared.moved.Moved.{Moved}
use Rattle.fj_moved.specs.Items.{Output, items_of}
use Rattle.fj_moved.specs.Moved.{values_of}
use Rattle.fj_list.specs.ReadAgain.{with_values}
use Rattle.fj_seqrec.specs.LineLaws.{IsPlain}
use Rattle.fj_connect.specs.Connection.{Connection, between, missing_feed}
use Rattle.fj_connect.specs.PositionLaws.{Stands}
use Rattle.fj_connect.specs.Linked.{HasLength}
use Rattle.fj_connect.specs.Positions.{moved}
use Rattle.fj_connect.specs.declared.spot.Positioning.TheVariants.{Backspace, Rewind}
use Rattle.fj_connect.specs.declared.spot.Within.TheVariants.{Outside}
use Rattle.fj_transfer.specs.declared.change.EditChange.{EditChange}
use Rattle.fj_transfer.specs.Change.{changed}
use Rattle.fj_transfer.specs.Explicit.{action_of}
use Rattle.fj_transfer.specs.Input.{width_for}
use Rattle.fj_transfer.specs.Transfer.{transfer}
use Rattle.fj_transfer.specs.TransferLaws.{AreOfTheirKinds}
use Rattle.fj_transfer_laws.specs.Statements.{reading, writing}

-- the field of an item shows all of its value: it is not asterisks, and no characters are cut off
abbrev pub IsShown : Bool → Edit → Kind → Value → Type 0
IsShown plus e (Chars n) v = (w : ℕ) → width_of e ≡ Some w → n ≤ w
IsShown plus e kind v = (field : List ℕ) → output_field e v kind plus ≡ Some field → ¬ Contains field 42

-- Items, each shown in a field of a width that is not 0, X and slashes: nothing is written over, and nothing stands between but
-- blanks.
abbrev pub CanBeRead : List (Part Output) → Type 0
CanBeRead [] = Unit {0}
CanBeRead (item modes e x ∷ more) = (width_of e ≢ Some 0) × IsShown modes.plus e x.0 x.1 × CanBeRead more
CanBeRead (move (Ahead n) ∷ more) = CanBeRead more
CanBeRead (move (To n) ∷ more) = ⊥
CanBeRead (move (Back n) ∷ more) = ⊥
CanBeRead (slash ∷ more) = CanBeRead more
CanBeRead (string s ∷ more) = ⊥
CanBeRead (lacking ∷ more) = ⊥

-- how many characters the fields have together
abbrev pub characters_in : List (Part Output) → ℕ
characters_in [] = 0
characters_in (item modes e x ∷ more) = width_for e x.0 + characters_in more
characters_in (_ ∷ more) = characters_in more

-- the parts of an output, and its records
abbrev pub written_parts : Connection → EditChange → List FormatItem → Moved → List (Part Output)
written_parts c edit f from = parts (changed edit c.modes.edit) f (items_of from)

abbrev pub written_records : Connection → EditChange → List FormatItem → Moved → List (List ℕ)
written_records c edit f from = texts_of (map action_of (written_parts c edit f from))

-- Records that a WRITE under a format put are read under this format, from where the first of them begins, as the values that were
-- written, by items of the same kinds; the position then is where the WRITE left it.
abbrev pub FormattedRecordsComeBack : Type 0
FormattedRecordsComeBack = (c : Connection) (f : List FormatItem) (edit edit' : EditChange) (from into : Moved)
    → Stands c → HasLength c.modes → c.modes.action ≡ ReadWrite → AreOfTheirKinds from.cells from.order into.cells into.order
    → CanBeRead (written_parts c edit f from) → All IsPlain (written_records c edit f from)
    → (transfer c (writing f edit) from).condition ≡ Fine → let new = (transfer c (writing f edit) from).connection in
    transfer (between new (c.spot.at + length (missing_feed c))) (reading f true edit' None) into
    ≡ record { connection = new; cells = with_values into.cells into.order (values_of from); count = Some (characters_in (written_parts c edit f from)); condition = Fine }

-- so many BACKSPACEs, one after another
abbrev pub backspaces : ℕ → Connection → Connection
backspaces zero c = c
backspaces (suc n) c = (moved (backspaces n c) Backspace).0

-- As many BACKSPACEs as a WRITE between records put records go to where the first of them begins; where that is the first of the
-- file, a REWIND does so, too.
abbrev pub RecordsAreReached : Type 0
RecordsAreReached = (c : Connection) (f : List FormatItem) (edit : EditChange) (from : Moved)
    → Stands c → c.spot.within ≡ Outside → All IsPlain (written_records c edit f from)
    → (transfer c (writing f edit) from).condition ≡ Fine → let new = (transfer c (writing f edit) from).connection in
    (backspaces (length (written_records c edit f from)) new ≡ between new (c.spot.at + length (missing_feed c)))
    × (c.spot.at ≡ 0 → moved new Rewind ≡ (between new 0, Fine))
