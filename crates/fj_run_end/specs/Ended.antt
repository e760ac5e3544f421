-- At each end of a run the slots hold the connections of its units: where the deck ended, where a stop was told, and where a call gave up.
use Rattle.std.specs.Prelude.{◌≡◌, ℕ, ◌≤◌, true, false, List, map, Option, Some, None, IsSome, is_some, slice_get}
use Rattle.fj_outside.specs.declared.errors.Stop.{Stop}
use Rattle.fj_connect.specs.Connection.{Connection}
use Rattle.fj_statement.specs.declared.deck.Variable.{Variable}
use Rattle.fj_slot.specs.Ledger.{Ledger}
use Rattle.fj_slot.specs.Serving.{Meaning}
use Rattle.fj_world.specs.declared.ask.Ask.TheVariants.{Submit, Settle}
use Rattle.fj_world.specs.Alone.{ServedAlone}
use Rattle.fj_world.specs.Losing.{SlotsHold, before_ask}
use Rattle.fj_world.specs.Plain.{PlainSlot}
use Rattle.fj_world.specs.Rack.{Rack}
use Rattle.fj_bay.specs.Bay.{Bay}
use Rattle.fj_bay.specs.Jobs.{Job, Answer, attach}
use Rattle.fj_meaning.specs.State.{Files}
use Rattle.fj_meaning.specs.Statement.{Stated}
use Rattle.fj_meaning_jobs.specs.Core.{Connected}
use Rattle.fj_meaning_jobs.specs.Desks.{Outcome}
use Rattle.fj_meaning_jobs.specs.Doing.{Doing}
use Rattle.fj_meaning_turns.specs.Cutting.{stands}
use Rattle.fj_meaning_turns.specs.Laws.{plain_bays, Seen, shown}
use Rattle.fj_meaning_turns.specs.Passing.{passes}
use Rattle.fj_meaning_turns.specs.Run.{Run, Stage, Start, Waiting, Acting, Awaiting}
use Rattle.fj_meaning_turns.specs.Serving.{over_bays, Shows, run_conduct, first_run, fresh_slots, begins}
use Rattle.fj_meaning_cut.specs.Others.{core_now}
use Rattle.fj_meaning_cut.specs.Turning.{IsUnbegun, turn_doing}
use Rattle.fj_run_end.specs.Holding.{HoldUnits}

-- that slot has stopped
abbrev pub HasStoppedAt : {E J A : Type 0} → ℕ → Rack E J A → Type 0
HasStoppedAt {E} {J} {A} slot rack = (l : Ledger E J A) → slice_get rack.slots slot ≡ Some l → is_some l.halt ≡ true

abbrev pub unit_names : List Connected → List (List ℕ)
unit_names us = map (λ (u : Connected). u.name) us

-- some outcome of the job that the statement waits for leaves units of the same names, as that of a job by which a connection comes does not
abbrev pub LeavesNames : Stage → List Connected → Type 0
LeavesNames Start us = Unit {0}
LeavesNames Waiting us = Unit {0}
LeavesNames (Acting does) us = Unit {0}
LeavesNames (Awaiting slot number next) us = ((o : Outcome) × (unit_names (core_now (next o)).units ≡ unit_names us))

-- no job of that slot that was not told brings a connection
abbrev pub BringsNone : ℕ → List (PlainSlot Bay Job) → Type 0
BringsNone slot qs = (q : PlainSlot Bay Job) (number : ℕ) (brought : Option Connection) → slice_get qs slot ≡ Some q → q.told ≤ number → slice_get q.jobs number ≡ Some (attach brought) → ⊥

-- no connection is about to come
pub record StopSpares (slot : ℕ) (qs : List (PlainSlot Bay Job)) (run : Run) : Type 0 where
  pub none_comes : BringsNone slot qs
  pub names : LeavesNames run.stage run.core.units

-- While nothing of the statement at hand is begun the slots hold the connections of the runner's units; and those of what its turn does, once
-- the answers that it needs are known.
pub record TurnHolds {E J A : Type 0} (m : Meaning E J A Bay Job Answer) (rack : Rack E J A) (run : Run) : Type 0 where
  pub unbegun : IsUnbegun run.stage → HoldUnits m rack run.core.units
  pub now : (d : Doing) → turn_doing run ≡ Some d → HoldUnits m rack (core_now d).units

-- nothing stops on an empty bay
abbrev pub StopsFull : {E J A : Type 0} → Meaning E J A Bay Job Answer → Type 0
StopsFull {E} m = (bay : Bay) (job : Job) (stop : Stop) (e : E) → IsSome (m.state e) → m.spoilt bay job stop e → IsSome bay.connection

module _ {E J A S : Type 0} (m : Meaning E J A Bay Job Answer) (s : Shows S) where
  -- For every deck: of a script that was served alone, is not over and has an ending. No statement is at work then.
  abbrev pub EndsWithUnits : Type 0
  EndsWithUnits = (variables : List Variable) (deck : List Stated) (files : Files) (script : S) (rack : Rack E J A) (run : Run) →
      ServedAlone (over_bays m) (run_conduct s) (begins m s variables deck files) script rack → s.over script ≡ false → s.state script ≡ Some run → IsSome run.ending →
      HoldUnits m rack run.core.units × (run.stage ≡ Start)

  -- where a stop was told
  abbrev pub EachStopHolds : Type 0
  EachStopHolds = (variables : List Variable) (deck : List Stated) (files : Files) (n slot : ℕ) (rack : Rack E J A) →
      let x = stands m s variables deck files n in
      x.hand ≡ Settle slot → SlotsHold (over_bays m) x.slots rack → HasStoppedAt slot rack → HoldUnits m rack x.script.core.units

  -- no connection is about to come then
  abbrev pub EachStopSpares : Type 0
  EachStopSpares = (variables : List Variable) (deck : List Stated) (files : Files) (n slot : ℕ) (rack : Rack E J A) →
      let x = stands m s variables deck files n in
      x.hand ≡ Settle slot → SlotsHold (over_bays m) x.slots rack → HasStoppedAt slot rack → StopSpares slot x.slots x.script

  -- before each ask, and behind the statements that are then passed
  abbrev pub EachTurnHolds : Type 0
  EachTurnHolds = (variables : List Variable) (deck : List Stated) (files : Files) (n count : ℕ) (run : Run) (rack : Rack E J A) →
      let b = before_ask (over_bays m) (run_conduct s) n (first_run variables deck files) fresh_slots in
      b.0.ending ≡ None → passes count b.0 ≡ Some run → SlotsHold (over_bays m) b.1 rack → TurnHolds m rack run

  -- at each ask that submits a job, before that is done
  abbrev pub EachSubmitHolds : Type 0
  EachSubmitHolds = (variables : List Variable) (deck : List Stated) (files : Files) (n slot : ℕ) (job : Job) (rack : Rack E J A) →
      let x = stands m s variables deck files n in
      x.hand ≡ Submit slot job → SlotsHold (over_bays m) (before_ask (over_bays m) (run_conduct s) n (first_run variables deck files) fresh_slots).1 rack → HoldUnits m rack x.script.core.units

abbrev pub EndedDecksHoldUnits : Type 0
EndedDecksHoldUnits = (s : Seen Run) → EndsWithUnits plain_bays (shown s)

abbrev pub StopsHoldUnits : Type 0
StopsHoldUnits = (s : Seen Run) → EachStopHolds plain_bays (shown s)

abbrev pub StopsSpareNames : Type 0
StopsSpareNames = (s : Seen Run) → EachStopSpares plain_bays (shown s)

abbrev pub TurnsHoldUnits : Type 0
TurnsHoldUnits = (s : Seen Run) → EachTurnHolds plain_bays (shown s)

abbrev pub SubmitsHoldUnits : Type 0
SubmitsHoldUnits = (s : Seen Run) → EachSubmitHolds plain_bays (shown s)
