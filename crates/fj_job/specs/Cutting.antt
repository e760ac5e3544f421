-- What the machine and its sink are where a run was cut, and where a deck ended.
use Rattle.std.specs.Prelude.{◌≡◌, ◌≢◌, ◌⊎◌, ℕ, ◌+◌, ◌≤◌, true, false, List, ◌++◌, Some, None, IfSome, is_some, slice_get, length, drop}
use Rattle.fj_outside.specs.Faults.{Rose}
use Rattle.fj_outside.specs.Holdings.{Holdings}
use Rattle.fj_outside.specs.declared.outside.FileStore.{Ghosts}
use Rattle.fj_statement.specs.declared.deck.Deck.{Deck}
use Rattle.fj_slot.specs.Ledger.{Ledger}
use Rattle.fj_slot.specs.Serving.{Meaning}
use Rattle.fj_world.specs.Rack.{Rack}
use Rattle.fj_bay.specs.Bay.{Bay}
use Rattle.fj_bay.specs.Jobs.{Job, Answer}
use Rattle.fj_meaning.specs.State.{State, Files, all_closed}
use Rattle.fj_meaning.specs.Statement.{Stated, plain_execution, step, stated}
use Rattle.fj_meaning_jobs.specs.Core.{Connected, has_name}
use Rattle.fj_meaning_jobs.specs.Desks.{Desk}
use Rattle.fj_meaning_jobs.specs.Desking.{all_left}
use Rattle.fj_meaning_turns.specs.Executing.{HoldsDesks}
use Rattle.fj_meaning_cut.specs.Others.{names_in, file_about, file_opened, has_file, AreHoused, file_renewed}
use Rattle.fj_meaning_cut.specs.Awaiting.{AwaitedUnit}
use Rattle.fj_meaning_cut.specs.Stopping.{HoldsGiven, WasAwaited}
use Rattle.fj_run_pending.specs.Plain.{tells_of}
use Rattle.fj_run_statements.specs.Calling.{calls_disk}
use Rattle.fj_run_units.specs.Files.{files_of}
use Rattle.fj_run_units.specs.Returning.{IsAsDue}
use Rattle.fj_run_units.specs.Units.{has_slot}
use Rattle.fj_run_items.specs.Handing.{whole_records, HandsPart}
use Rattle.fj_run_items.specs.declared.lost.Lost.{Lost}
use Rattle.fj_run_items.specs.declared.lost.Lost.TheVariants.{Disk, Sink}
use Rattle.fj_run_script.specs.Machine.{rest_of}
use Rattle.fj_run_script.specs.declared.left.Left.{Left}
use Rattle.fj_run_script.specs.declared.machine.Machine.{Machine}
use Rattle.fj_job.specs.Cut.{Reach, Untold, Carried, reached, MayReach, ComesTo, BeginsAt, AreLeft, IsLearnt}
use Rattle.fj_job.specs.Fitting.{LeavesFit}

-- each slot at which a unit has the file is there, and has not stopped
abbrev pub IsServed : {E J A : Type 0} → Rack E J A → List Connected → List ℕ → Type 0
IsServed {E} {J} {A} rack units name = (slot : ℕ) → has_file units slot name ≡ true → (l : Ledger E J A) × (slice_get rack.slots slot ≡ Some l) × (l.halt ≡ None)

-- The slots hold desks, one for each unit. Were all units closed then, each file that is at no slot that has stopped, and that the
-- statement is not about, would be as closing all units leaves it there; and so is each one that no unit has, and that the statement
-- neither opens nor removes. The slots' jobs were given by statements until then. A connection that was kept is of the file that the
-- statement opens. The disk holds `held`, and its own number rose or not.
pub record HoldsFiles {E J A F : Type 0} {ghosts : Ghosts F} (meaning : Meaning E J A Bay Job Answer) (rack : Rack E J A) (held : Holdings) (before now : ℕ)
    (deck : Deck) (files : Files) (comes : ComesTo deck files) (reach : Reach) (m : Machine F ghosts) : Type 0 where
  pub desks : List Desk
  pub slots : HoldsDesks meaning rack desks
  pub units : AreHoused desks m.state.core.units
  pub others : (name : List ℕ) → IsServed rack m.state.core.units name → file_about (names_in comes.before.units) comes.statement.0.what ≢ Some name
      → IsAsDue before now (all_left desks m.state.core.units (files_of held) name) ((all_closed (reached reach deck.variables comes.statement comes.before)).files name)
  pub freed : (name : List ℕ) → has_name m.state.core.units name ≡ false → file_renewed (names_in comes.before.units) comes.statement.0.what ≢ Some name
      → IsAsDue before now (files_of held name) ((all_closed (reached reach deck.variables comes.statement comes.before)).files name)
  pub given : HoldsGiven deck.variables (stated deck.statements) files meaning rack comes.index
  pub kept : IfSome m.kept (λ c. file_opened (names_in comes.before.units) comes.statement.0.what ≡ Some c.name)

-- A slot that has stopped, and that no unit has.
pub record StopsAside {E J A : Type 0} (rack : Rack E J A) (units : List Connected) : Type 0 where
  pub slot : ℕ
  pub ledger : Ledger E J A
  pub here : slice_get rack.slots slot ≡ Some ledger
  pub free : has_slot units slot ≡ false
  pub halted : is_some ledger.halt ≡ true

-- The slot of a unit has stopped at which the statement waits, for a job at or behind the one that stopped.
pub record StopsAwaited {E J A : Type 0} (rack : Rack E J A) (units : List Connected) (deck : Deck) (files : Files) (index : ℕ) (statement : Stated) (s : State) : Type 0 where
  pub unit : AwaitedUnit s statement.0.what
  pub slot : ℕ
  pub filed : has_file units slot unit.name ≡ true
  pub ledger : Ledger E J A
  pub here : slice_get rack.slots slot ≡ Some ledger
  pub halted : is_some ledger.halt ≡ true
  pub job : ℕ
  pub behind : ledger.done ≤ job
  pub awaited : WasAwaited deck.variables (stated deck.statements) files (index + 1) slot job

-- why no more was done: the statement waits at a unit whose slot has stopped, or for one that no unit has; or it calls the disk itself, and
-- the disk's own number rose
abbrev pub IsCause : {E J A : Type 0} → Rack E J A → List Connected → Deck → Files → ℕ → Stated → State → ℕ → ℕ → Type 0
IsCause rack units deck files index statement s before now =
    StopsAwaited rack units deck files index statement s ⊎ StopsAside rack units ⊎ ((calls_disk statement.0.what ≡ true) × Rose before now)

-- Output and tells are what the execution tells up to that statement, the sink took the records that ended, and so it is of the files.
pub record IsExact {E J A F : Type 0} {ghosts : Ghosts F} (meaning : Meaning E J A Bay Job Answer) (rack : Rack E J A) (held : Holdings) (before now : ℕ) (Tells : Type 0) (old new : List ℕ)
    (deck : Deck) (files : Files) (comes : ComesTo deck files) (m : Machine F ghosts) : Type 0 where
  pub reach : Reach
  pub may : MayReach reach deck.variables comes.statement comes.before
  pub output : m.state.core.output ≡ (reached reach deck.variables comes.statement comes.before).output
  pub tells : tells_of m.state.core.tells ≡ (reached reach deck.variables comes.statement comes.before).tells
  pub taken : Tells → new ≡ old ++ whole_records m.state.core.output
  pub files_are : HoldsFiles meaning rack held before now deck files comes reach m
  pub cause : (reach ≡ Carried) ⊎ IsCause rack m.state.core.units deck files comes.index comes.statement comes.before before now

-- The sink took a front of the records that the output has before or behind that statement.
pub record TookFront (old new : List ℕ) (deck : Deck) (files : Files) (comes : ComesTo deck files) : Type 0 where
  pub reach : Reach
  pub part : List ℕ
  pub rest : List ℕ
  pub due : whole_records (reached reach deck.variables comes.statement comes.before).output ≡ part ++ rest
  pub taken : new ≡ old ++ part

-- the sink took the records that ended before that statement, and then a front of those that it ends, and not all of them
abbrev pub TookBegun : List ℕ → List ℕ → (deck : Deck) (files : Files) → ComesTo deck files → Type 0
TookBegun old new deck files comes = HandsPart (old ++ whole_records comes.before.output) new comes.before.output (step deck.variables comes.statement comes.before).0.output

-- what unit `*` gets of the statements up to one of the deck
pub record IsOutputSoFar (deck : Deck) (files : Files) (output : List ℕ) : Type 0 where
  pub comes : ComesTo deck files
  pub reach : Reach
  pub output_is : output ≡ (reached reach deck.variables comes.statement comes.before).output.text

-- the sink took a front of that
abbrev pub TookSome : Deck → Files → List ℕ → List ℕ → Type 0
TookSome deck files old new = (part rest : List ℕ) × IsOutputSoFar deck files (part ++ rest) × (new ≡ old ++ part)

-- The run was cut at the statement at hand. What was told and written is exact where nothing is lost but by the disk. Of the files it is
-- known whatever is lost, and where the sink failed of what it took, too. What the machine leaves fits.
pub record IsCut {E J A F : Type 0} {ghosts : Ghosts F} (meaning : Meaning E J A Bay Job Answer) (rack : Rack E J A) (held : Holdings) (before now : ℕ) (Tells : Type 0) (old new : List ℕ)
    (deck : Deck) (files : Files) (m : Machine F ghosts) : Type 0 where
  pub comes : ComesTo deck files
  pub at : BeginsAt comes m.at.place
  pub exact : (m.tally.lost ≡ None) ⊎ (m.tally.lost ≡ Some Disk) → IsExact meaning rack held before now Tells old new deck files comes m
  pub holds : (lost : Lost) → m.tally.lost ≡ Some lost → HoldsFiles meaning rack held before now deck files comes Untold m
  pub fit : LeavesFit meaning rack m
  pub begun : Tells → m.tally.lost ≡ Some Sink → TookBegun old new deck files comes
  pub front : Tells → TookFront old new deck files comes

-- The deck ended at the statement at hand, and tells and leaves what the execution tells and leaves up to there.
pub record EndsHere {F : Type 0} {ghosts : Ghosts F} (deck : Deck) (files : Files) (m : Machine F ghosts) : Type 0 where
  pub comes : ComesTo deck files
  pub ends : MayReach Carried deck.variables comes.statement comes.before
  pub at : BeginsAt comes m.at.place
  pub place : length (rest_of m) ≡ length (drop comes.index (stated deck.statements))
  pub output : (plain_execution deck.variables deck.statements files).output ≡ (reached Carried deck.variables comes.statement comes.before).output
  pub tells : (plain_execution deck.variables deck.statements files).tells ≡ (reached Carried deck.variables comes.statement comes.before).tells
  pub files_are : (plain_execution deck.variables deck.statements files).files ≡ (all_closed (reached Carried deck.variables comes.statement comes.before)).files

-- What is left of a run is what the execution told and wrote up to a statement of the deck, the one at hand; and so it is of the files.
pub record IsLeftAt {F : Type 0} (deck : Deck) (files : Files) (left : Left F) (held : Holdings) (before now : ℕ) : Type 0 where
  pub comes : ComesTo deck files
  pub reach : Reach
  pub may : MayReach reach deck.variables comes.statement comes.before
  pub at : BeginsAt comes left.at
  pub output : left.core.output ≡ (reached reach deck.variables comes.statement comes.before).output
  pub tells : tells_of left.core.tells ≡ (reached reach deck.variables comes.statement comes.before).tells
  pub files_are : AreLeft deck files comes reach held before now
  pub learnt : (reach ≡ Carried) ⊎ IsLearnt comes held before now

-- The sink failed at a statement of the deck, the one at hand: the files are left as they are there, and so far the sink came.
pub record IsLeftBegun {F : Type 0} (deck : Deck) (files : Files) (left : Left F) (Tells : Type 0) (old new : List ℕ) (held : Holdings) (before now : ℕ) : Type 0 where
  pub comes : ComesTo deck files
  pub at : BeginsAt comes left.at
  pub begun : Tells → TookBegun old new deck files comes
  pub files_are : AreLeft deck files comes Untold held before now
