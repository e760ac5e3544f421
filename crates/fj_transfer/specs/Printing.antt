-- The records of a formatted output (ISO/IEC 1539-1:2004, 10.1, 10.9.2, 10.10.2).
use Rattle.std.specs.Prelude.{ℕ, ◌+◌, ◌==◌, Bool, if◌then◌else◌, List, [], ◌∷◌, ◌++◌, length, map, Result, Ok, Err}
use Rattle.std.specs.List.{flat_map}
use Rattle.fj_value.specs.declared.edit.EditModes.{EditModes}
use Rattle.fj_value.specs.declared.condition.Condition.{Condition}
use Rattle.fj_line.specs.Actions.{Action, put, end_record, AtHand, first_record, carried_out}
use Rattle.fj_line.specs.Records.{texts_of}
use Rattle.fj_control.specs.Steps.{Given, steps}
use Rattle.fj_control.specs.Paired.{paired}
use Rattle.fj_moved.specs.declared.moved.Moved.{Moved}
use Rattle.fj_moved.specs.Items.{items_of, values_in}
use Rattle.fj_list.specs.Listing.{list_actions}
use Rattle.fj_namelist.specs.GroupText.{group_written}
use Rattle.fj_transfer.specs.declared.transfer.TransferSpec.{TransferSpec}
use Rattle.fj_transfer.specs.declared.transfer.Layout.{Layout}
use Rattle.fj_transfer.specs.declared.transfer.Layout.TheVariants.{Unformatted, Explicit, Listed, Group}
use Rattle.fj_transfer.specs.Explicit.{action_of, ending}

-- the records that a statement ends, and the characters of the one that stays open
pub record Printed : Type 0 where
  pub records : List (List ℕ)
  pub «open» : List ℕ

-- whole records, one after another
abbrev pub record_actions : List (List ℕ) → List Action
record_actions records = flat_map (λ text. put text ∷ end_record ∷ []) records

-- format control of a layout: what it gives for so many items
abbrev pub control_of : Layout → ℕ → List Given
control_of (Explicit f) n = steps f n
control_of _ n = []

-- what is done to the records by the layout, with the format control for its items
abbrev pub actions_by : Layout → (ℕ → List Given) → EditModes → Bool → Moved → List Action
actions_by Unformatted control modes advance moved = []
actions_by (Explicit f) control modes advance moved = map action_of (paired modes (control (length (items_of moved))) (items_of moved)) ++ ending advance
actions_by Listed control modes advance moved = list_actions modes (values_in (items_of moved))
actions_by (Group name members) control modes advance moved = record_actions (group_written modes name members moved.cells)

-- the layout is formatted
abbrev pub IsRecords : Layout → Type 0
IsRecords Unformatted = ⊥
IsRecords _ = Unit {0}

-- the layout is that of items, under an explicit format or list-directed
abbrev pub IsOfItems : Layout → Type 0
IsOfItems Unformatted = ⊥
IsOfItems (Group name members) = ⊥
IsOfItems _ = Unit {0}

-- the texts of actions: those of the records that end, and the last one
abbrev pub printed_of : List (List ℕ) → Printed
printed_of [] = record { records = []; «open» = [] }
printed_of (text ∷ []) = record { records = []; «open» = text }
printed_of (text ∷ next ∷ texts) = let more = printed_of (next ∷ texts) in record { records = text ∷ more.records; «open» = more.«open» }

abbrev pub if_fine : List Action → Result AtHand Condition → Result Printed Condition
if_fine actions (Err condition) = Err condition
if_fine actions (Ok hand) = Ok (printed_of (texts_of actions))

-- what actions print behind so many characters of an open record, with so many characters in a record at the most
abbrev pub printed_by : ℕ → ℕ → List Action → Result Printed Condition
printed_by limit begun actions = if_fine actions (carried_out (first_record limit begun) actions)

-- the formatted output of a statement
abbrev pub printed : ℕ → ℕ → TransferSpec → (ℕ → List Given) → EditModes → Moved → Result Printed Condition
printed limit begun spec control modes moved = printed_by limit begun (actions_by spec.layout control modes spec.advance moved)

-- how many characters the record has that stays open, where so many stood in the first one before
abbrev pub open_count : ℕ → Printed → ℕ
open_count begun p = (if length p.records == 0 then begun else 0) + length p.«open»
