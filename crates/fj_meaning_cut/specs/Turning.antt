-- The turn of a statement, in which a call on the disk may fail: what it does, and what closing all units then leaves of the other files.
use Rattle.std.specs.Prelude.{◌≡◌, ◌≢◌, ◌⊎◌, ℕ, true, List, [], ◌∷◌, length, drop, Option, Some, None}
use Rattle.fj_connect.specs.Connection.{Connection}
use Rattle.fj_statement.specs.declared.deck.Variable.{Variable}
use Rattle.fj_slot.specs.Serving.{Meaning}
use Rattle.fj_world.specs.declared.ask.Ask.TheVariants.{Submit}
use Rattle.fj_world.specs.Losing.{before_ask}
use Rattle.fj_world.specs.Plain.{after}
use Rattle.fj_bay.specs.Bay.{Bay}
use Rattle.fj_bay.specs.Jobs.{Job, Answer, attach}
use Rattle.fj_meaning.specs.State.{State, Files, all_closed, start}
use Rattle.fj_meaning.specs.Statement.{Stated, cut}
use Rattle.fj_meaning_jobs.specs.Core.{Core, has_name}
use Rattle.fj_meaning_jobs.specs.Desks.{Desk, Outcome}
use Rattle.fj_meaning_jobs.specs.Doing.{Doing, awaits}
use Rattle.fj_meaning_turns.specs.Run.{Run, Stage, Start, Waiting, Acting, Awaiting}
use Rattle.fj_meaning_turns.specs.Turns.{begun_for, hand_at, turn, turn_act, rule_of, doing_told, waited_now}
use Rattle.fj_meaning_turns.specs.Serving.{over_bays, Shows, run_conduct, desks_of, first_run, fresh_slots, begins}
use Rattle.fj_meaning_turns.specs.Passing.{passes, KnowsAnswers}
use Rattle.fj_meaning_turns.specs.Laws.{plain_bays, Seen, shown}
use Rattle.fj_meaning_cut.specs.Others.{names_of, names_in, file_opened, file_about, file_renewed, core_now, left_now, AreHoused}

-- what the turn of the statement does, once the answers that it needs are known; nothing, where it waits for its own job
abbrev pub doing_on : Stated → Stage → Run → Option Doing
doing_on st Start r = Some (doing_told r.variables st (waited_now st r) r.core)
doing_on st Waiting r = Some (doing_told r.variables st (waited_now st r) r.core)
doing_on st (Acting does) r = Some does
doing_on st (Awaiting slot number next) r = None

abbrev pub doing_at : Stated → Stage → Run → Option Doing
doing_at st stage r = doing_on (hand_at st stage r) stage r

abbrev pub doing_due : List Stated → Run → Option Doing
doing_due [] r = None
doing_due (st ∷ rest) r = doing_at st r.stage r

-- the same of the statement at hand
abbrev pub turn_doing : Run → Option Doing
turn_doing r = doing_due r.rest r

-- nothing of the statement is told there, and nothing done
abbrev pub IsUnbegun : Stage → Type 0
IsUnbegun Start = Unit {0}
IsUnbegun Waiting = Unit {0}
IsUnbegun (Acting does) = ⊥
IsUnbegun (Awaiting slot number next) = ⊥

-- so it does: its turn acts by that, unless the statement is prohibited
abbrev pub TurnsDo : Type 0
TurnsDo = (st : Stated) (rest : List Stated) (r : Run) (d : Doing) → r.rest ≡ st ∷ rest → (r.stage ≡ Start → rule_of r.variables (begun_for r st) r.core ≡ None) → KnowsAnswers r → turn_doing r ≡ Some d →
    (acting : Run) × (turn st r.stage r ≡ turn_act (hand_at st r.stage r) d acting)

-- A runner with these desks stands at a statement, and the execution is cut just before it, in this state. Where it knows the answers
-- that it needs, the units of what its turn does have their desks, and each file that the statement is not about is, were all units
-- closed then, as closing all units in that state leaves it.
pub record TurnLeavesOthers (variables : List Variable) (deck : List Stated) (files : Files) (run : Run) (desks : List Desk) : Type 0 where
  pub index : ℕ
  pub statement : Stated
  pub state : State
  pub cut_is : cut variables index deck (start variables files) ≡ Some (statement, state)
  pub rest : length run.rest ≡ length (drop index deck)
  pub units : KnowsAnswers run → (d : Doing) → turn_doing run ≡ Some d → AreHoused desks (core_now d).units
  pub others : KnowsAnswers run → (d : Doing) → turn_doing run ≡ Some d → (name : List ℕ) → file_about (names_in state.units) statement.0.what ≢ Some name →
      left_now desks (core_now d) name ≡ (all_closed state).files name
  -- one that the statement is about, and neither opens nor removes, has its unit
  pub keeps : KnowsAnswers run → (d : Doing) → turn_doing run ≡ Some d → (name : List ℕ) → file_about (names_in state.units) statement.0.what ≡ Some name
      → file_renewed (names_in state.units) statement.0.what ≢ Some name → has_name (core_now d).units name ≡ true
  -- while nothing of the statement is begun the runner's own units have their desks, and so it is of each file
  pub unbegun : IsUnbegun run.stage → AreHoused desks run.core.units × ((name : List ℕ) → left_now desks run.core name ≡ (all_closed state).files name)
  -- a file that it waits to connect is the one that the statement opens
  pub connects : KnowsAnswers run → (slot : ℕ) (c : Connection) (core : Core) (next : Outcome → Doing) → turn_doing run ≡ Some (awaits slot (attach (Some c)) core next) →
      file_about (names_in state.units) statement.0.what ≡ Some c.name

-- A runner with these desks submits a job of a statement, and the execution is cut just before that, in this state. Its units have their
-- desks, and each file that the statement is not about is, were all units closed then, as closing all units in that state leaves it.
pub record SubmitLeavesOthers (variables : List Variable) (deck : List Stated) (files : Files) (run : Run) (desks : List Desk) : Type 0 where
  pub index : ℕ
  pub statement : Stated
  pub state : State
  pub cut_is : cut variables index deck (start variables files) ≡ Some (statement, state)
  pub rest : length run.rest ≡ length (drop index deck)
  pub units : AreHoused desks run.core.units
  pub others : (name : List ℕ) → file_about (names_in state.units) statement.0.what ≢ Some name → left_now desks run.core name ≡ (all_closed state).files name
  -- one that the statement is about, and neither opens nor removes, has its unit
  pub keeps : (name : List ℕ) → file_about (names_in state.units) statement.0.what ≡ Some name → file_renewed (names_in state.units) statement.0.what ≢ Some name → has_name run.core.units name ≡ true
  -- the file that it opens is the same by its units as they are then
  pub opens : file_opened (names_of run.core.units) statement.0.what ≡ file_opened (names_in state.units) statement.0.what

module _ {E J A S : Type 0} (m : Meaning E J A Bay Job Answer) (s : Shows S) where
  -- for every deck, at each ask that submits a job
  abbrev pub EachSubmit : Type 0
  EachSubmit = (variables : List Variable) (deck : List Stated) (files : Files) (n slot : ℕ) (job : Job) →
      let x = after (over_bays m) (run_conduct s) n (begins m s variables deck files) in
      x.hand ≡ Submit slot job → SubmitLeavesOthers variables deck files x.script (desks_of m (before_ask (over_bays m) (run_conduct s) n (first_run variables deck files) fresh_slots).1)

  -- for every deck, before each ask and behind the statements that it then passes; or no statement is left, or the deck has ended
  abbrev pub EachTurn : Type 0
  EachTurn = (variables : List Variable) (deck : List Stated) (files : Files) (n count : ℕ) (run : Run) →
      let b = before_ask (over_bays m) (run_conduct s) n (first_run variables deck files) fresh_slots in
      b.0.ending ≡ None → passes count b.0 ≡ Some run →
      (run.rest ≡ []) ⊎ TurnLeavesOthers variables deck files run (desks_of m b.1)

abbrev pub TurnsLeaveOthers : Type 0
TurnsLeaveOthers = (s : Seen Run) → EachTurn plain_bays (shown s)

abbrev pub SubmitsLeaveOthers : Type 0
SubmitsLeaveOthers = (s : Seen Run) → EachSubmit plain_bays (shown s)
