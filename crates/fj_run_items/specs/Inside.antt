-- A READ or WRITE on an internal file, by its job.
use Rattle.std.specs.Prelude.{ℕ, ◌≡◌, List, [], ◌∷◌, Option, None}
use Rattle.fj_value.specs.declared.condition.Condition.{Condition}
use Rattle.fj_value.specs.declared.place.Place.{Place}
use Rattle.fj_value.specs.declared.value.Cell.{Cell}
use Rattle.fj_internal.specs.Internal.{read_inside, record_length, written_inside}
use Rattle.fj_internal.specs.OneElement.{put_one}
use Rattle.fj_internal.specs.declared.one.One.{One}
use Rattle.fj_statement.specs.declared.deck.Variable.{Variable}
use Rattle.fj_statement.specs.declared.statement.Statement.TheVariants as statement
use Rattle.fj_statement.specs.declared.statement.Transfer.{Transfer as Stated}
use Rattle.fj_store.specs.Variables.{Variables}
use Rattle.fj_transfer.specs.Printing.{control_of}
use Rattle.fj_transfer.specs.declared.transfer.Transfer.{Transfer}
use Rattle.fj_meaning.specs.Items.{given_back}
use Rattle.fj_meaning.specs.Statement.{control_by}
use Rattle.fj_meaning.specs.Telling.{with_size}
use Rattle.fj_meaning.specs.Transfers.{moved_in, spec_in}
use Rattle.fj_run_items.specs.Shown.{IsOfItems}

-- what a READ of these elements leaves of the variables, which its items are out of, and its condition
abbrev pub read_by : List Variable → Option Place → List Cell → Transfer → Variables → Variables × Condition
read_by variables size elements job vars =
    let taken = read_inside (control_of job.spec.layout) elements job.spec job.moved in (with_size variables size taken.count (given_back variables taken.cells vars), taken.condition)

-- and a WRITE
abbrev pub written_by : List Variable → List Cell → Transfer → Variables → Variables × Condition
written_by variables elements job vars = let put = written_inside (control_of job.spec.layout) elements job.spec job.moved in (given_back variables put.elements vars, put.condition)

-- a formatted READ or WRITE of items that names neither a record nor a position
pub record IsPlain (t : Stated) : Type 0 where
  pub rec : t.rec ≡ None
  pub pos : t.pos ≡ None
  pub items : IsOfItems t.control

-- what becomes of the one element of this length by a WRITE
abbrev pub LeavesOne : List Variable → Variables → Stated → ℕ → One → Type 0
LeavesOne variables vars t size one = (cell : Cell) → record_length (cell ∷ []) ≡ size
    → (let moved = moved_in variables vars t in written_inside (control_by (statement.Transfer t)) (cell ∷ []) (spec_in variables vars t moved.cells) moved) ≡ put_one cell one
