-- The items of an output: values with their kinds, in the order of the statement.
use Rattle.std.specs.Prelude.{ℕ, List, [], ◌∷◌, ◌++◌, map, drop, slice_get, Option, Some, None}
use Rattle.std.specs.List.{flat_map}
use Rattle.fj_value.specs.declared.kind.Kind.{Kind}
use Rattle.fj_value.specs.declared.kind.Kind.TheVariants.{Logical}
use Rattle.fj_value.specs.declared.value.Value.{Value}
use Rattle.fj_value.specs.declared.value.Cell.{Cell}
use Rattle.fj_moved.specs.declared.moved.Moved.{Moved}
use Rattle.fj_moved.specs.declared.items.Item.{Item}
use Rattle.fj_moved.specs.declared.items.Values.{Values}
use Rattle.fj_moved.specs.declared.items.Values.TheVariants.{One, Many}
use Rattle.fj_moved.specs.declared.items.Run.{Run}
use Rattle.fj_moved.specs.declared.items.OutputItems.{OutputItems}
use Rattle.fj_moved.specs.declared.items.OutputItems.TheVariants.{Row, Cells, Runs}

-- a value that is written, with its kind
abbrev pub Output : Type 0
Output = Kind × Value

-- of cells, with the number of the cell of each item
abbrev pub in_cell : Option Cell → List Output
in_cell None = []
in_cell (Some cell) = (cell.kind, cell.value) ∷ []

abbrev pub in_cells : List Cell → List ℕ → List Output
in_cells cells order = flat_map (λ at. in_cell (slice_get cells at)) order

abbrev pub items_of : Moved → List Output
items_of moved = in_cells moved.cells moved.order

-- of runs of values, each run of one kind
abbrev pub values_of : Values → List Value
values_of (One value) = value.now ∷ []
values_of (Many values) = values.now

abbrev pub of_kind : Kind → List Value → List Output
of_kind kind values = map (λ v. (kind, v)) values

abbrev pub in_run : Run → List Output
in_run run = of_kind run.kind (values_of run.values)

abbrev pub in_runs : List Run → List Output
in_runs runs = flat_map in_run runs

-- from a place in the first of them on
abbrev pub in_runs_from : ℕ → List Run → List Output
in_runs_from at [] = []
in_runs_from at (run ∷ runs) = of_kind run.kind (drop at (values_of run.values)) ++ in_runs runs

-- the items that are left
abbrev pub items_left : OutputItems → List Output
items_left (Row kind values) = of_kind kind values.now
items_left (Cells cells order at) = in_cells cells.now (drop at order.now)
items_left (Runs runs run at) = in_runs_from at (drop run runs.now)

-- the kind and the values of the next items, where they are those of a row
abbrev pub kind_ahead : OutputItems → Kind
kind_ahead (Row kind values) = kind
kind_ahead _ = Logical

abbrev pub values_ahead : OutputItems → List Value
values_ahead (Row kind values) = values.now
values_ahead _ = []

abbrev pub with_next : Option Item → List Output → List Output
with_next None more = more
with_next (Some item) more = (item.kind, item.value.now) ∷ more

-- the values alone
abbrev pub values_in : List Output → List Value
values_in items = map (λ (item : Output). item.1) items
