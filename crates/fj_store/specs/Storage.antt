-- Variables as they are kept: at each place a value, or none where it is moved out.
use Rattle.std.specs.Prelude.{ℕ, List, [], ◌∷◌, map, replicate, Option, Some, None, unwrap_or}
use Rattle.std.specs.Option.{option_flatten}
use Rattle.fj_value.specs.declared.kind.Kind.{Kind}
use Rattle.fj_value.specs.declared.place.Place.{Place}
use Rattle.fj_value.specs.declared.value.Cell.{Cell}
use Rattle.fj_value.specs.declared.value.Value.{Value}
use Rattle.fj_value.specs.declared.value.Value.TheVariants.{Undefined}
use Rattle.fj_store.specs.declared.slot.Slot.{Slot}
use Rattle.fj_store.specs.declared.slot.Slot.TheVariants.{Home, Out}
use Rattle.fj_store.specs.Kinds.{kind_at, of_kind}
use Rattle.fj_store.specs.Tables.{element_at, with_element, with_cells}
use Rattle.fj_store.specs.Variables.{Variables}

-- by variable its kind, and by place its value, or none where it is moved out
pub record Storage : Type 0 where
  pub kinds : List Kind
  pub values : List (List (Option Value))

abbrev pub value_in : Slot → Option Value
value_in (Home mark v) = Some v
value_in (Out mark) = None

abbrev pub storage : List Kind → List (List Slot) → Storage
storage kinds slots = record { kinds = kinds; values = map (map value_in) slots }

-- variables of these kinds and numbers of elements
abbrev pub all_undefined : List (Kind × ℕ) → Storage
all_undefined variables = record { kinds = map (λ v. v.0) variables; values = map (λ v. replicate v.1 (Some Undefined)) variables }

-- the value at a place; none where it is moved out
abbrev pub value_at : Storage → Place → Option Value
value_at s place = option_flatten (element_at s.values place)

-- the cell of a place
abbrev pub cell_at : Storage → Place → Cell
cell_at s place = record { place = place; kind = kind_at s.kinds place.var; value = unwrap_or (value_at s place) Undefined }

-- the place gets a value
abbrev pub with_value : Storage → Place → Value → Storage
with_value s place v = record s { values = with_element s.values place (Some (of_kind (kind_at s.kinds place.var) v)) }

abbrev pub emptied : List Place → List (List (Option Value)) → List (List (Option Value))
emptied [] values = values
emptied (place ∷ places) values = emptied places (with_element values place None)

-- the places are moved out
abbrev pub without : List Place → Storage → Storage
without places s = record s { values = emptied places s.values }

-- the value of a cell as its place gets it
abbrev pub returned : List Kind → Cell → Option Value
returned kinds cell = Some (of_kind (kind_at kinds cell.place.var) cell.value)

-- the places of cells get their values back
abbrev pub given_back : List Cell → Storage → Storage
given_back cells s = record s { values = with_cells (returned s.kinds) cells s.values }

-- the values, as plain variables: a place that is moved out is undefined
abbrev pub values_of : Storage → Variables
values_of s = map (map (λ o. unwrap_or o Undefined)) s.values
