-- The places and values that a statement names.
use Rattle.std.specs.Prelude.{ℕ, ℤ, ◌+◌, List, [], ◌∷◌, ◌++◌, map, slice_get, Option, Some, None}
use Rattle.std.specs.Option.{option_map_or}
use Rattle.fj_value.specs.declared.kind.Kind.{Kind}
use Rattle.fj_value.specs.declared.kind.Kind.TheVariants.{Logical}
use Rattle.fj_value.specs.declared.place.Place.{Place}
use Rattle.fj_value.specs.declared.value.Cell.{Cell}
use Rattle.fj_value.specs.declared.value.Value.{Value}
use Rattle.fj_value.specs.declared.value.Value.TheVariants as value
use Rattle.fj_statement.specs.declared.deck.Variable.{Variable}
use Rattle.fj_statement.specs.declared.unit.InternalFile.{InternalFile}
use Rattle.fj_statement.specs.declared.unit.InternalFile.TheVariants as file
use Rattle.fj_statement.specs.declared.statement.Operand.{Operand}
use Rattle.fj_statement.specs.declared.statement.Operand.TheVariants as operand
use Rattle.fj_meaning.specs.State.{elements}
use Rattle.fj_store.specs.Kinds.{of_kind}
use Rattle.fj_store.specs.Places.{counted_from}
use Rattle.fj_store.specs.Tables.{with_cells}
use Rattle.fj_store.specs.Variables.{Variables, value_at}

-- the kind of a variable
abbrev pub kind_of : List Variable → ℕ → Kind
kind_of variables var = option_map_or (λ (v : Variable). v.kind) (slice_get variables var) Logical

-- the places of a variable, in the order of its elements
abbrev pub places_of : List Variable → ℕ → List Place
places_of variables var = counted_from var 1 (option_map_or elements (slice_get variables var) 0)

abbrev pub operand_places : List Variable → Operand → List Place
operand_places variables (operand.Literal kind value) = []
operand_places variables (operand.One place) = place ∷ []
operand_places variables (operand.Whole var) = places_of variables var

-- the elements of an internal file
abbrev pub file_places : List Variable → InternalFile → List Place
file_places variables (file.One place) = place ∷ []
file_places variables (file.Whole var) = places_of variables var

-- a cell of a place with its value
abbrev pub cell_at : List Variable → Variables → Place → Cell
cell_at variables vars place = record { place = place; kind = kind_of variables place.var; value = value_at vars place }

-- the place that a literal has as a cell: one of no variable, by its number among the literals
abbrev pub no_variable : ℕ
no_variable = 4294967295

abbrev pub cells_from : List Variable → Variables → ℕ → List Operand → List Cell
cells_from variables vars literals [] = []
cells_from variables vars literals (operand.Literal kind value ∷ more) =
    record { place = record { var = no_variable; index = literals }; kind = kind; value = value } ∷ cells_from variables vars (literals + 1) more
cells_from variables vars literals (item ∷ more) = map (cell_at variables vars) (operand_places variables item) ++ cells_from variables vars literals more

-- the cells of items one after another
abbrev pub cells_of : List Variable → Variables → List Operand → List Cell
cells_of variables vars items = cells_from variables vars 1 items

-- the value of a literal or a place
abbrev pub value_of : Variables → Operand → Value
value_of vars (operand.Literal kind value) = value
value_of vars (operand.One place) = value_at vars place
value_of vars (operand.Whole var) = value.Undefined

abbrev pub integer_of : Value → Option ℤ
integer_of (value.Int n) = Some n
integer_of _ = None

-- a number as a variable of the kind has it; one that its kind does not have makes it undefined
abbrev pub number_for : Kind → ℤ → Value
number_for kind n = of_kind kind (value.Int n)

-- the value of a cell as its variable has it
abbrev pub value_for : List Variable → Cell → Value
value_for variables cell = of_kind (kind_of variables cell.place.var) cell.value

-- the places of cells get their values
abbrev pub given_back : List Variable → List Cell → Variables → Variables
given_back variables cells vars = with_cells (value_for variables) cells vars
