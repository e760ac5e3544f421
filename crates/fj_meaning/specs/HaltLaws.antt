-- What halts a unit and what ends it.
use Rattle.std.specs.Prelude.{◌≡◌, ◌⊎◌, ℕ, true, List, [], ◌∷◌, ◌++◌, Some, None}
use Rattle.std.specs.List.{All, AllPairs}
use Rattle.fj_value.specs.declared.condition.Condition.{Condition}
use Rattle.fj_value.specs.declared.value.Cell.{Cell}
use Rattle.fj_value.specs.declared.value.Value.TheVariants.{Undefined}
use Rattle.fj_control.specs.Steps.{Given}
use Rattle.fj_statement.specs.Units.{number_of}
use Rattle.fj_statement.specs.declared.deck.Variable.{Variable}
use Rattle.fj_statement.specs.declared.statement.Transfer.{Transfer}
use Rattle.fj_statement.specs.declared.statement.Statement.TheVariants as statement
use Rattle.fj_meaning.specs.Telling.{waited, ends_halt, is_asynchronous}
use Rattle.fj_meaning.specs.State.{State, Files, Unit, Entry, found, halts}
use Rattle.fj_meaning.specs.Statement.{Stated, step, own}
use Rattle.fj_meaning.specs.Reaching.{reached, cause_of}
use Rattle.fj_meaning.specs.UnitLaws.{connections}

-- a unit is halted exactly where one of its pending transfers met an error or the end of the file, by the first of these
abbrev pub HaltsAreCaused : Type 0
HaltsAreCaused = (variables : List Variable) (sts : List Stated) (files : Files) → let s = reached variables sts files in
    All (λ (u : Unit). u.halt ≡ cause_of s.book u.number) s.units

-- a pending transfer behind one of its unit that met an error or the end of the file was skipped: it tells the same, and its
-- items and SIZE= get no value
pub record Skips (a b : Entry) : Type 0 where
  pub condition : b.condition ≡ a.condition
  pub values : All (λ (cell : Cell). cell.value ≡ Undefined) b.cells
  pub count : b.count ≡ None

abbrev pub IsSkipped : Entry → Entry → Type 0
IsSkipped a b = a.unit ≡ b.unit → halts a.condition ≡ true → Skips a b

abbrev pub SkippedTellTheCause : Type 0
SkippedTellTheCause = (variables : List Variable) (sts : List Stated) (files : Files) → AllPairs IsSkipped (reached variables sts files).book

-- a halt begins with a transfer of the unit that becomes pending and met an error or the end of the file
pub record Begins (u after : Unit) (s new : State) : Type 0 where
  pub none : u.halt ≡ None
  pub entry : Entry
  pub last : new.book ≡ s.book ++ entry ∷ []
  pub own : entry.unit ≡ u.number
  pub halting : halts entry.condition ≡ true
  pub cause : after.halt ≡ Some entry.condition

-- and ends where such a condition of the unit is told
pub record Ends (u after : Unit) (told : List Entry) : Type 0 where
  pub tells : ends_halt told u ≡ true
  pub none : after.halt ≡ None

abbrev pub HaltsBeginAndEnd : Type 0
HaltsBeginAndEnd = (variables : List Variable) (sts : List Stated) (files : Files) (st : Stated) (number : ℕ) (u after : Unit) →
    let s = reached variables sts files in let new = (step variables st s).0 in
    found s.units number ≡ Some u → found new.units number ≡ Some after → (after.halt ≡ u.halt) ⊎ Begins u after s new ⊎ Ends u after (waited s st.0.what)

-- a transfer that becomes pending on a halted unit changes nothing of its file
abbrev pub SkippedChangesNoFile : Type 0
SkippedChangesNoFile = (variables : List Variable) (sts : List Stated) (files : Files) (control : ℕ → List Given) (t : Transfer) (number : ℕ) (u : Unit) (cause : Condition) →
    let s = reached variables sts files in
    number_of t.unit ≡ Some number → found s.units number ≡ Some u → u.halt ≡ Some cause → is_asynchronous t ≡ true →
    connections (own control variables s (statement.Transfer t)).0 ≡ connections s
