-- Output under an explicit format (ISO/IEC 1539-1:2004, 10.1): its items and steps as actions on the record at hand.
use Rattle.std.specs.Prelude.{◌≡◌, ℕ, Bool, false, if◌then◌else◌, List, [], ◌∷◌, ◌++◌, map, Option, Some, None}
use Rattle.fj_value.specs.declared.edit.Edit.{Edit}
use Rattle.fj_value.specs.declared.edit.EditModes.{EditModes}
use Rattle.fj_value.specs.declared.condition.Condition.TheVariants.{Error}
use Rattle.fj_format.specs.declared.item.FormatItem.{FormatItem}
use Rattle.fj_line.specs.Actions.{Action, put, end_record, meet}
use Rattle.fj_line.specs.Actions as action
use Rattle.fj_control.specs.Paired.{Part, item, string, move, slash, lacking, parts, items_in, has_lacking}
use Rattle.fj_edit_out.specs.OutputField.{output_field}
use Rattle.fj_moved.specs.Items.{Output}

abbrev pub field_put : Option (List ℕ) → Action
field_put (Some field) = put field
field_put None = meet (Error 12)

-- an item under a data descriptor: its field, or condition 12 where the descriptor is not for it
abbrev pub item_put : Bool → Edit → Output → Action
item_put plus e (kind, value) = field_put (output_field e value kind plus)

-- where a data descriptor is wanting, that is condition 11
abbrev pub action_of : Part Output → Action
action_of (item modes e x) = item_put modes.plus e x
action_of (string s) = put s
action_of (move how) = action.move how
action_of slash = end_record
action_of lacking = meet (Error 11)

-- the last record ends, unless ADVANCE='NO'
abbrev pub ending : Bool → List Action
ending advance = if advance then end_record ∷ [] else []

abbrev pub explicit_actions : EditModes → Bool → List FormatItem → List Output → List Action
explicit_actions modes advance f items = map action_of (parts modes f items) ++ ending advance

-- Each item has a data descriptor, in order, unless one is wanting.
abbrev pub ItemsAreInOrder : Type 0
ItemsAreInOrder = (modes : EditModes) (f : List FormatItem) (items : List Output) → has_lacking (parts modes f items) ≡ false → items_in (parts modes f items) ≡ items
