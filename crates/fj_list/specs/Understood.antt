-- What the values of a list-directed text do to the items of a statement.
use Rattle.std.specs.Prelude.{◌≡◌, ℕ, Bool, true, List, [], ◌∷◌, replicate}
use Rattle.std.specs.List.{flat_map}
use Rattle.fj_value.specs.declared.value.Cell.{Cell}
use Rattle.fj_value.specs.declared.condition.Condition.{Condition}
use Rattle.fj_value.specs.declared.condition.Condition.TheVariants.{Fine, Error}
use Rattle.fj_list.specs.declared.constant.Form.{Form}
use Rattle.fj_list.specs.declared.constant.Read.{Read}
use Rattle.fj_list.specs.declared.constant.Read.TheVariants as read
use Rattle.fj_list.specs.Stream.{stream}
use Rattle.fj_list.specs.Constant.{read_as}
use Rattle.fj_list.specs.ListInput.{list_input}
use Rattle.fj_moved.specs.Cells.{kind_at, with_value}
use Rattle.fj_list.specs.Grammar.{Given, Finish, at_records_end, at_slash, at_no_value, IsListText}

-- a constant or a null value for one item
abbrev pub Constant : Type 0
Constant = Form × List ℕ

-- each value so many times
abbrev pub constants : List Given → List Constant
constants values = flat_map (λ (g : Given). replicate g.count (g.form, g.characters)) values

-- the condition of an item that has no value
abbrev pub end_of : Finish → Condition → Condition
end_of at_records_end ending = ending
end_of at_slash ending = Fine
end_of at_no_value ending = Error 13

-- what is left of a statement
pub record Result : Type 0 where
  pub cells : List Cell
  pub condition : Condition

-- an item gets a constant's value, keeps its own for a null value, or the statement ends with the condition of a constant
-- that is not of its kind
abbrev pub taken : Read → List Cell → ℕ → (List Cell → Result) → Result
taken read.Null cells at next = next cells
taken (read.Defined v) cells at next = next (with_value cells at v)
taken (read.Wrong condition) cells at next = record { cells = cells; condition = condition }

-- the items take the constants one after another; an item without one ends the statement
abbrev pub all_taken : Condition → List Constant → List Cell → List ℕ → Result
all_taken end cs cells [] = record { cells = cells; condition = Fine }
all_taken end [] cells (at ∷ order) = record { cells = cells; condition = end }
all_taken end (c ∷ cs) cells (at ∷ order) = taken (read_as (kind_at cells at) c.0 c.1) cells at (λ cells'. all_taken end cs cells' order)

-- A statement reads the values of the text of its records. There is one record at least; the first is read in any case.
abbrev pub TextIsReadAsItsValues : Type 0
TextIsReadAsItsValues = (comma : Bool) (line : List ℕ) (lines : List (List ℕ)) (values : List Given) (finish : Finish) → IsListText comma true (stream (line ∷ lines)) values finish
    → (ending : Condition) (cells : List Cell) (order : List ℕ)
    → let read = list_input comma (line ∷ lines) ending cells order in
    let wanted = all_taken (end_of finish ending) (constants values) cells order in
    (read.cells ≡ wanted.cells) × (read.condition ≡ wanted.condition)

-- Records have the values of one text, and end in one way.
abbrev pub TextHasOneMeaning : Type 0
TextHasOneMeaning = (comma : Bool) (lines : List (List ℕ)) (values values' : List Given) (finish finish' : Finish) → IsListText comma true (stream lines) values finish → IsListText comma true (stream lines) values' finish'
    → (values ≡ values') × (finish ≡ finish')

-- Whatever stands in records, it is a text of the grammar.
abbrev pub TextHasAMeaning : Type 0
TextHasAMeaning = (comma : Bool) (lines : List (List ℕ)) → (values : List Given) × ((finish : Finish) × IsListText comma true (stream lines) values finish)
