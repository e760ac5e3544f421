-- A format with its repeats written out.
use Rattle.std.specs.Prelude.{ℕ, zero, suc, ◌+◌, ◌*◌, ◌==◌, ◌||◌, Bool, true, false, if◌then◌else◌, unwrap_or, List, [], ◌∷◌, ◌++◌, max, Option, Some, None}
use Rattle.std.specs.List.{list_any}
use Rattle.fj_value.specs.declared.edit.Edit.{Edit}
use Rattle.fj_value.specs.declared.edit.Edit.TheVariants as edits
use Rattle.fj_format.specs.declared.item.ModeStep.{ModeStep}
use Rattle.fj_format.specs.declared.item.FormatItem.{FormatItem}
use Rattle.fj_format.specs.declared.item.FormatItem.TheOpen.{FormatItem-F}
use Rattle.fj_format.specs.declared.item.FormatItem.TheFolds.{fold-FormatItem}

-- one elementary step
pub data Elementary : Type 0 where
  edit : Edit → Elementary
  string : List ℕ → Elementary
  tab : ℕ → Elementary
  left : ℕ → Elementary
  right : ℕ → Elementary
  slash : Elementary
  colon : Elementary
  mode : ModeStep → Elementary

abbrev pub Steps : Type 0
Steps = List Elementary

-- a list, so many times
abbrev pub repeated : ℕ → Steps → Steps
repeated zero steps = []
repeated (suc n) steps = steps ++ repeated n steps

abbrev pub joined : List Steps → Steps
joined [] = []
joined (steps ∷ more) = steps ++ joined more

-- one item, each inner item written out already
abbrev pub item_step : FormatItem-F Steps → Steps
item_step (FormatItem-F.Field r e) = repeated r (edit e ∷ [])
item_step (FormatItem-F.Group r items) = repeated r (joined items)
item_step (FormatItem-F.Str text) = string text ∷ []
item_step (FormatItem-F.Tab n) = tab n ∷ []
item_step (FormatItem-F.Left n) = left n ∷ []
item_step (FormatItem-F.Right n) = right n ∷ []
item_step (FormatItem-F.Skip n) = right n ∷ []
item_step (FormatItem-F.Slash n) = repeated n (slash ∷ [])
item_step FormatItem-F.Colon = colon ∷ []
item_step (FormatItem-F.Mode m) = mode m ∷ []
item_step (FormatItem-F.Unlimited items) = joined items

abbrev pub written_out : FormatItem → Steps
written_out = fold-FormatItem Steps item_step

-- the elementary steps of one pass; the items of the unlimited item are in it once
abbrev pub pass : List FormatItem → Steps
pass [] = []
pass (x ∷ xs) = written_out x ++ pass xs

-- a data edit descriptor is among steps
abbrev pub is_data : Elementary → Bool
is_data (edit e) = true
is_data _ = false

abbrev pub has_data : Steps → Bool
has_data = list_any is_data

-- the unlimited item is among items (ISO/IEC 1539-1:2010, 10.3.1)
abbrev pub unlimited_step : FormatItem-F Bool → Bool
unlimited_step (FormatItem-F.Unlimited items) = true
unlimited_step _ = false

abbrev pub is_unlimited : FormatItem → Bool
is_unlimited = fold-FormatItem Bool unlimited_step

abbrev pub has_unlimited : List FormatItem → Bool
has_unlimited = list_any is_unlimited

-- the items from the last group on, or all of them where there is none; the unlimited item is a group here
abbrev pub group_step : FormatItem-F Bool → Bool
group_step (FormatItem-F.Group r items) = true
group_step (FormatItem-F.Unlimited items) = true
group_step _ = false

abbrev pub is_group : FormatItem → Bool
is_group = fold-FormatItem Bool group_step

abbrev pub first_some : Option (List FormatItem) → Option (List FormatItem) → Option (List FormatItem)
first_some None other = other
first_some (Some found) other = Some found

abbrev pub from_last_group : List FormatItem → Option (List FormatItem)
from_last_group [] = None
from_last_group (x ∷ xs) = first_some (from_last_group xs) (if is_group x then Some (x ∷ xs) else None)

abbrev pub again_items : List FormatItem → List FormatItem
again_items f = unwrap_or (from_last_group f) f

-- what is used again at the end of a pass: the items of the unlimited item, or behind a slash those from the last group on
abbrev pub again : List FormatItem → Steps
again f = pass (again_items f)

-- I, B, O, Z or G of width 0
abbrev pub is_unbounded : Edit → Bool
is_unbounded (edits.Int w m) = w == 0
is_unbounded (edits.Bits base w m) = w == 0
is_unbounded (edits.General w d) = w == 0
is_unbounded _ = false

abbrev pub unbounded_step : FormatItem-F Bool → Bool
unbounded_step (FormatItem-F.Field r e) = is_unbounded e
unbounded_step (FormatItem-F.Group r items) = list_any (λ b. b) items
unbounded_step (FormatItem-F.Unlimited items) = list_any (λ b. b) items
unbounded_step _ = false

-- an edit descriptor of width 0 stands in a format
abbrev pub has_width_zero : List FormatItem → Bool
has_width_zero [] = false
has_width_zero (x ∷ xs) = fold-FormatItem Bool unbounded_step x || has_width_zero xs

-- how deep groups and the unlimited item nest
abbrev pub deepest : List ℕ → ℕ
deepest [] = 0
deepest (n ∷ ns) = max n (deepest ns)

abbrev pub height_step : FormatItem-F ℕ → ℕ
height_step (FormatItem-F.Group r items) = deepest items + 1
height_step (FormatItem-F.Unlimited items) = deepest items + 1
height_step _ = 0

abbrev pub height : List FormatItem → ℕ
height [] = 0
height (x ∷ xs) = max (fold-FormatItem ℕ height_step x) (height xs)

-- how much work a walk of items is: one for each item and each list
abbrev pub total : List ℕ → ℕ
total [] = 0
total (n ∷ ns) = n + total ns

abbrev pub work_step : FormatItem-F ℕ → ℕ
work_step (FormatItem-F.Group r items) = 1 + r * (total items + 1)
work_step (FormatItem-F.Unlimited items) = 1 + (total items + 1)
work_step _ = 1

abbrev pub work : List FormatItem → ℕ
work [] = 0
work (x ∷ xs) = fold-FormatItem ℕ work_step x + work xs
