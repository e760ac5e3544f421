-- The one file that a statement is about: each other file is, inside the statement and behind it, as closing all units just before it
-- leaves it (ISO/IEC 1539-1:2004, 9.4.5, 9.4.6, 9.5, 9.7).
use Rattle.std.specs.Prelude.{◌≡◌, ◌≢◌, ℕ, ◌==◌, ◌&&◌, Bool, true, false, List, [], ◌∷◌, Option, Some, None, IfSome, IsSome, slice_get, option_map, option_and_then, if◌then◌else◌}
use Rattle.std.specs.List.{list_any}
use Rattle.std.specs.Str.{bytes_eq}
use Rattle.fj_modes.specs.declared.specifiers.OpenSpec.{OpenSpec}
use Rattle.fj_modes.specs.declared.motion.Motion.TheVariants as motion
use Rattle.fj_statement.specs.declared.deck.Variable.{Variable}
use Rattle.fj_statement.specs.declared.statement.Statement.{Statement}
use Rattle.fj_statement.specs.declared.statement.Statement.TheVariants as statement
use Rattle.fj_bay.specs.Jobs.{Job}
use Rattle.fj_meaning.specs.Connecting.{file_due, keeps_name}
use Rattle.fj_meaning.specs.Needs.{number_of}
use Rattle.fj_meaning.specs.State.{State, Files, found, all_closed, start}
use Rattle.fj_meaning.specs.State as plain
use Rattle.fj_meaning.specs.Statement.{Stated, cut}
use Rattle.fj_meaning_jobs.specs.Core.{Core, Connected, connected_at, has_name}
use Rattle.fj_meaning_jobs.specs.Desks.{Desk, Outcome, carry}
use Rattle.fj_meaning_jobs.specs.Doing.{Doing, finishes, gives, awaits, Desked}
use Rattle.fj_meaning_jobs.specs.Desking.{connection_at, fresh, all_left}
use Rattle.fj_world.specs.Rack.{Rack}
use Rattle.fj_bay.specs.Jobs.{Answer}
use Rattle.fj_meaning_turns.specs.Run.{Run}
use Rattle.fj_meaning_turns.specs.Inside.{does, walked, cut_desks}
use Rattle.fj_meaning_turns.specs.Cutting.{StopAt, IsCutRun}
use Rattle.fj_meaning_turns.specs.Laws.{Counted, plain_bays, Seen, shown}

-- ---- the file that a statement is about

-- by unit, the name of the file that is connected to it
abbrev pub Names : Type 0
Names = ℕ → Option (List ℕ)

abbrev pub names_of : List Connected → Names
names_of units = λ number. option_map (λ (u : Connected). u.name) (connected_at units number)

abbrev pub names_in : List plain.Unit → Names
names_in units = λ number. option_map (λ (u : plain.Unit). u.connection.name) (found units number)

-- OPEN opens the file that is due, unless it keeps the one that is connected
abbrev pub opens_on : Option (List ℕ) → OpenSpec → ℕ → Option (List ℕ)
opens_on None spec number = Some (file_due spec number)
opens_on (Some connected) spec number = if keeps_name connected spec spec.file then None else Some (file_due spec number)

-- the file that the statement opens
abbrev pub file_opened : Names → Statement → Option (List ℕ)
file_opened names (statement.OpenUnit u spec iostat) = option_and_then (λ n. opens_on (names n) spec n) (number_of u)
file_opened names _ = None

-- The file that the statement may change, removes or opens: that of the unit of a READ or a WRITE, of ENDFILE, or of a CLOSE with
-- STATUS='DELETE', and the one that OPEN opens. No other statement has one: a transfer on `*` or on an internal file, INQUIRE, WAIT and an
-- assignment change no file, and END, any other CLOSE, other motions, and OPEN of the file that is connected leave their files as closing
-- all units does.
abbrev pub file_about : Names → Statement → Option (List ℕ)
file_about names (statement.OpenUnit u spec iostat) = file_opened names (statement.OpenUnit u spec iostat)
file_about names (statement.CloseUnit u (Some false) iostat) = option_and_then names (number_of u)
file_about names (statement.Move motion.Endfile u iostat) = option_and_then names (number_of u)
file_about names (statement.Transfer t) = option_and_then names (number_of t.unit)
file_about names _ = None

-- the file that the statement opens or removes
abbrev pub file_renewed : Names → Statement → Option (List ℕ)
file_renewed names (statement.OpenUnit u spec iostat) = file_opened names (statement.OpenUnit u spec iostat)
file_renewed names (statement.CloseUnit u (Some false) iostat) = option_and_then names (number_of u)
file_renewed names _ = None

-- ---- inside a statement

-- the core at this point
abbrev pub core_now : Doing → Core
core_now (finishes core condition) = core
core_now (gives slot job core next) = core
core_now (awaits slot job core next) = core

-- the files, were all units closed now
abbrev pub left_now : List Desk → Core → Files
left_now desks core = all_left desks core.units core.files

-- the unit has a desk at its slot, and a connection there has its name
abbrev pub IsHoused : List Desk → Connected → Type 0
IsHoused desks u = IsSome (slice_get desks u.slot) × IfSome (connection_at (slice_get desks u.slot)) (λ c. c.name ≡ u.name)

abbrev pub AreHoused : List Desk → List Connected → Type 0
AreHoused desks [] = Unit {0}
AreHoused desks (u ∷ us) = IsHoused desks u × AreHoused desks us

-- a unit at that slot has the file
abbrev pub has_file : List Connected → ℕ → List ℕ → Bool
has_file units slot name = list_any (λ (u : Connected). (u.slot == slot) && bytes_eq name u.name) units

-- A file of that name, where the statement gave so many jobs. As far as the statement is not about it, it is as before. Where the
-- statement waits for a job, nothing else of it has changed the file yet, unless it opens that; nor has the job itself, unless the
-- file is connected at its slot.
pub record IsAsBefore (variables : List Variable) (statement : Stated) (before : Desked) (jobs : ℕ) (name : List ℕ) : Type 0 where
  pub inside : file_about (names_of before.core.units) statement.0.what ≢ Some name →
      let point = walked jobs before.desks (does variables statement before) in
      left_now point.0 (core_now point.1) name ≡ left_now before.desks before.core name
  pub awaited : (slot : ℕ) (job : Job) (core : Core) (onward : Outcome → Doing) → file_opened (names_of before.core.units) statement.0.what ≢ Some name →
      let point = walked jobs before.desks (does variables statement before) in
      point.1 ≡ awaits slot job core onward → left_now point.0 core name ≡ left_now before.desks before.core name
  pub out : (slot : ℕ) (job : Job) (core : Core) (onward : Outcome → Doing) → file_opened (names_of before.core.units) statement.0.what ≢ Some name →
      let point = walked jobs before.desks (does variables statement before) in
      point.1 ≡ awaits slot job core onward → has_file core.units slot name ≡ false → left_now (carry point.0 slot job) core name ≡ left_now before.desks before.core name

-- for every deck, each statement that is come to, after any number of its jobs
abbrev pub OthersStay : Type 0
OthersStay = (variables : List Variable) (deck : List Stated) (files : Files) (index : ℕ) (statement : Stated) (before : Desked) (jobs : ℕ) (name : List ℕ) →
    cut_desks variables index deck (fresh variables files) ≡ Some (statement, before) → IsAsBefore variables statement before jobs name

-- After so many jobs each unit has its desk; so it has where a job is out that the statement waits for.
pub record KeepsDesks (variables : List Variable) (statement : Stated) (before : Desked) (jobs : ℕ) : Type 0 where
  pub inside : let point = walked jobs before.desks (does variables statement before) in AreHoused point.0 (core_now point.1).units
  pub out : (slot : ℕ) (job : Job) (core : Core) (onward : Outcome → Doing) →
      let point = walked jobs before.desks (does variables statement before) in
      point.1 ≡ awaits slot job core onward → AreHoused (carry point.0 slot job) core.units

abbrev pub UnitsKeepDesks : Type 0
UnitsKeepDesks = (variables : List Variable) (deck : List Stated) (files : Files) (index : ℕ) (statement : Stated) (before : Desked) (jobs : ℕ) →
    cut_desks variables index deck (fresh variables files) ≡ Some (statement, before) → KeepsDesks variables statement before jobs

-- ---- where a stop was told

-- The execution is cut just before the statement, in this state. Each file that no unit has at the stopped slot, and that the
-- statement does not open, is left by the slots' jobs as closing all units in that state leaves it. Each unit has its desk.
pub record LeavesOthers (variables : List Variable) (deck : List Stated) (files : Files) (index : ℕ) (statement : Stated) (slot : ℕ) (run : Run) (desks : List Desk) : Type 0 where
  pub state : State
  pub cut_is : cut variables index deck (start variables files) ≡ Some (statement, state)
  pub others : (name : List ℕ) → has_file run.core.units slot name ≡ false → file_opened (names_in state.units) statement.0.what ≢ Some name →
      left_now desks run.core name ≡ (all_closed state).files name
  pub units : AreHoused desks run.core.units
  -- a file that the statement is about, and neither opens nor removes, has its unit
  pub keeps : (name : List ℕ) → file_about (names_in state.units) statement.0.what ≡ Some name → file_renewed (names_in state.units) statement.0.what ≢ Some name → has_name run.core.units name ≡ true

abbrev pub StopsLeaveOthers : Type 0
StopsLeaveOthers = (variables : List Variable) (deck : List Stated) (files : Files) (slot : ℕ) (run : Run) (desks : List Desk) →
    (stop : StopAt variables deck (fresh variables files) slot run desks) → LeavesOthers variables deck files stop.index stop.statement slot run desks

-- so it is where a script was told a stop, whatever the order of events was
abbrev pub CutRunsLeaveOthers : Type 0
CutRunsLeaveOthers = (s : Seen Run) (variables : List Variable) (deck : List Stated) (files : Files) (run : Run) (rack : Rack Counted Job Answer) →
    (it : IsCutRun plain_bays (shown s) variables deck files run rack) → LeavesOthers variables deck files it.stop.index it.stop.statement it.slot run it.desks
