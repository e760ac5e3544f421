-- A fault names one statement: a fault of the disk by its line, and a fault of the sink by what the sink took.
use Rattle.std.specs.Prelude.{◌≡◌, ◌≢◌, ◌⊎◌, ◌↔◌, ℕ, ◌<◌, Bool, true, false, ◌||◌, List, ◌++◌, IsSome, is_none}
use Rattle.fj_outside.specs.Holdings.{Holdings}
use Rattle.fj_statement.specs.declared.deck.Variable.{Variable}
use Rattle.fj_statement.specs.declared.deck.Deck.{Deck}
use Rattle.fj_statement.specs.declared.statement.Statement.{Statement}
use Rattle.fj_statement.specs.declared.statement.Statement.TheVariants as statement
use Rattle.fj_deck.specs.Deck.{IsDeck}
use Rattle.fj_meaning.specs.Needs.{number_of}
use Rattle.fj_meaning.specs.State.{State, Files}
use Rattle.fj_meaning.specs.Statement.{Stated, step}
use Rattle.fj_meaning.specs.Telling.{is_asynchronous}
use Rattle.fj_run_items.specs.Handing.{whole_records}
use Rattle.fj_run_statements.specs.Calling.{calls_disk}
use Rattle.fj_job.specs.Cut.{Carried, ComesTo, CutBySink, IsLearnt}
use Rattle.fj_job.specs.Reply.{Lines}

-- two statements of a deck to which the execution comes are at two lines
abbrev pub LinesNameStatements : Type 0
LinesNameStatements = (text : List ℕ) (deck : Deck) → IsDeck text deck → (files : Files) (comes other : ComesTo deck files) → comes.statement.0.line ≡ other.statement.0.line → comes.index ≡ other.index

-- the sink tells what it took
abbrev pub SinkTells : Type 0
SinkTells = Unit {0}

-- a sink took whole all records that the statement and those before it end
abbrev pub TookThrough : List ℕ → List ℕ → (deck : Deck) (files : Files) → ComesTo deck files → Type 0
TookThrough old new deck files comes = (more : List ℕ) × (new ≡ old ++ (whole_records (step deck.variables comes.statement comes.before).0.output ++ more))

-- Where a sink has failed, the statement is the first one that ends a record which was not taken whole; or all
-- were, and it is the one at which the deck ended.
abbrev pub WriteFaultsAreFirst : Type 0
WriteFaultsAreFirst = (deck : Deck) (lines : Lines) (files : Files) (old new : List ℕ) (left : Holdings) (before now : ℕ) (fault : CutBySink deck lines files SinkTells old new left before now)
    → ((comes : ComesTo deck files) → comes.index < fault.comes.index → TookThrough old new deck files comes)
    × (((fault.reach ≢ Carried) × (TookThrough old new deck files fault.comes → ⊥))
    ⊎ ((fault.reach ≡ Carried) × TookThrough old new deck files fault.comes × IsSome (step deck.variables fault.comes.statement fault.comes.before).1))

-- What a sink took fits one fault of it: that statement, or the report behind it.
abbrev pub OneWriteFault : Type 0
OneWriteFault = (deck : Deck) (lines : Lines) (files : Files) (old new : List ℕ) (left left' : Holdings) (before now before' now' : ℕ) (fault : CutBySink deck lines files SinkTells old new left before now)
    (other : CutBySink deck lines files SinkTells old new left' before' now')
    → (fault.comes.index ≡ other.comes.index) × ((fault.reach ≡ Carried) ↔ (other.reach ≡ Carried))

-- ---- statements that learn of no fault of the disk

-- an assignment, a READ or WRITE on `*` or an internal file, and one that will be pending
abbrev pub does_without_file : Statement → Bool
does_without_file (statement.Assign to from) = true
does_without_file (statement.Transfer t) = is_asynchronous t || is_none (number_of t.unit)
does_without_file _ = false

-- they learn of none
abbrev pub SomeLearnNothing : Type 0
SomeLearnNothing = (deck : Deck) (files : Files) (comes : ComesTo deck files) (left : Holdings) (before now : ℕ) → does_without_file comes.statement.0.what ≡ true → IsLearnt comes left before now → ⊥

-- a statement that does not call the disk itself leaves the files that no unit has
abbrev pub OthersLeaveFiles : Type 0
OthersLeaveFiles = (variables : List Variable) (st : Stated) (s : State) → calls_disk st.0.what ≡ false → (step variables st s).0.files ≡ s.files
