-- The items of a transfer with the steps of its format (ISO/IEC 1539-1:2004, 10.1): what a READ takes apart and a WRITE puts
-- together.
use Rattle.std.specs.Prelude.{ℕ, Bool, true, false, List, [], ◌∷◌, length}
use Rattle.fj_value.specs.declared.edit.Edit.{Edit}
use Rattle.fj_value.specs.declared.edit.EditModes.{EditModes}
use Rattle.fj_format.specs.declared.item.FormatItem.{FormatItem}
use Rattle.fj_format.specs.declared.item.ModeStep.{ModeStep}
use Rattle.fj_format.specs.declared.item.ModeStep.TheVariants.{Plus, Suppress, Usual, BlankNull, BlankZero, Comma, Point}
use Rattle.fj_format.specs.Unfolding as step
use Rattle.fj_line.specs.declared.moves.Move.{Move}
use Rattle.fj_line.specs.declared.moves.Move.TheVariants.{To, Back, Ahead}
use Rattle.fj_control.specs.Steps.{Given, gives, done, no_data, steps}

pub data Part (A : Type 0) : Type 0 where
  item : EditModes → Edit → A → Part A  -- an item, with its data descriptor and the modes in effect
  string : List ℕ → Part A
  move : Move → Part A
  slash : Part A
  lacking : Part A  -- an item is left, and the format has no data descriptor for it

-- the modes behind a control edit descriptor (10.7.4, 10.7.6, 10.7.8); S goes back to SUPPRESS
abbrev pub modes_behind : ModeStep → EditModes → EditModes
modes_behind Plus modes = record modes { plus = true }
modes_behind Suppress modes = record modes { plus = false }
modes_behind Usual modes = record modes { plus = false }
modes_behind BlankNull modes = record modes { blank_zero = false }
modes_behind BlankZero modes = record modes { blank_zero = true }
modes_behind Comma modes = record modes { comma = true }
modes_behind Point modes = record modes { comma = false }

-- The items in their order belong to the data descriptors in theirs. A mode holds from its descriptor on to the end.
abbrev pub paired : {A : Type 0} → EditModes → List Given → List A → List (Part A)
paired modes [] items = []
paired modes (done ∷ rest) items = paired modes rest items
paired modes (no_data ∷ rest) items = lacking ∷ []
paired modes (gives (step.edit e) ∷ rest) [] = paired modes rest []
paired modes (gives (step.edit e) ∷ rest) (x ∷ items) = item modes e x ∷ paired modes rest items
paired modes (gives (step.string s) ∷ rest) items = string s ∷ paired modes rest items
paired modes (gives (step.tab n) ∷ rest) items = move (To n) ∷ paired modes rest items
paired modes (gives (step.left n) ∷ rest) items = move (Back n) ∷ paired modes rest items
paired modes (gives (step.right n) ∷ rest) items = move (Ahead n) ∷ paired modes rest items
paired modes (gives step.slash ∷ rest) items = slash ∷ paired modes rest items
paired modes (gives step.colon ∷ rest) items = paired modes rest items
paired modes (gives (step.mode m) ∷ rest) items = paired (modes_behind m modes) rest items

-- the parts of a transfer under a format
abbrev pub parts : {A : Type 0} → EditModes → List FormatItem → List A → List (Part A)
parts modes f items = paired modes (steps f (length items)) items

-- the items that have a data descriptor
abbrev pub items_in : {A : Type 0} → List (Part A) → List A
items_in [] = []
items_in (item modes e x ∷ more) = x ∷ items_in more
items_in (_ ∷ more) = items_in more

-- a data descriptor was wanting
abbrev pub has_lacking : {A : Type 0} → List (Part A) → Bool
has_lacking [] = false
has_lacking (lacking ∷ more) = true
has_lacking (_ ∷ more) = has_lacking more
