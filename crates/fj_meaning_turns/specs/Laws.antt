-- The laws of the runner over plain bays, for every script that shows a runner.
use Rattle.std.specs.Prelude.{ℕ, Bool, Option, Some}
use Rattle.fj_slot.specs.Serving.{Meaning}
use Rattle.fj_world.specs.Conduct.{Due}
use Rattle.fj_bay.specs.Bay.{Bay}
use Rattle.fj_bay.specs.Jobs.{Job, Answer}
use Rattle.fj_bay.specs.Serving.{serve}
use Rattle.fj_bay.specs.Spoilt.{IsSpoilt}
use Rattle.fj_meaning_turns.specs.Run.{Run}
use Rattle.fj_meaning_turns.specs.Serving.{Shows}
use Rattle.fj_meaning_turns.specs.Whole.{RunnerIsPlain}
use Rattle.fj_meaning_turns.specs.Executing.{ExecutesDecks}
use Rattle.fj_meaning_turns.specs.Meant.{LeavesResult}
use Rattle.fj_meaning_turns.specs.Awaiting.{EachAwaited}
use Rattle.fj_meaning_turns.specs.Cutting.{EachEntry, CutAtStop, WorldIsCut}
use Rattle.fj_meaning_turns.specs.Passing.{EachStands, EachAsks, RunsEnd}

-- a bay, with a count of faults of its file
abbrev pub Counted : Type 0
Counted = Bay × ℕ

-- bays that are their own plain data
abbrev pub plain_bays : Meaning Counted Job Answer Bay Job Answer
plain_bays = record {
  state = λ e. Some e.0;
  task = λ job. Some job;
  reply = λ answer. answer;
  serve = serve;
  spoilt = λ bay job stop e. IsSpoilt bay job stop e.0 e.1;
  faults = λ e. e.1;
}

-- what a script shows of which nothing is said but that it shows a runner
pub record Seen (S : Type 0) : Type 0 where
  pub left : S → ℕ
  pub uses : S → ℕ
  pub owed : S → ℕ → ℕ
  pub due : S → Due
  pub over : S → Bool
  pub stopped : S → Bool
  pub state : S → Option Run

abbrev pub shown : {S : Type 0} → Seen S → Shows S
shown s = record { left = s.left; uses = s.uses; owed = s.owed; due = s.due; over = s.over; stopped = s.stopped; leads = λ old new. Unit {0}; state = s.state }

-- served alone, the runner comes to the execution over desks, by states that stand inside a statement
abbrev pub RunnersArePlain : Type 0
RunnersArePlain = (s : Seen Run) → RunnerIsPlain plain_bays (shown s)

abbrev pub RunsExecute : Type 0
RunsExecute = (s : Seen Run) → ExecutesDecks plain_bays (shown s)

abbrev pub RunsLeaveResults : Type 0
RunsLeaveResults = (s : Seen Run) → LeavesResult plain_bays (shown s)

abbrev pub EntriesStand : Type 0
EntriesStand = (s : Seen Run) → EachEntry plain_bays (shown s)

abbrev pub StopsCut : Type 0
StopsCut = (s : Seen Run) → CutAtStop plain_bays (shown s)

abbrev pub WorldsAreCut : Type 0
WorldsAreCut = (s : Seen Run) → WorldIsCut plain_bays (shown s)

abbrev pub RunsStand : Type 0
RunsStand = (s : Seen Run) → EachStands plain_bays (shown s)

abbrev pub AsksStand : Type 0
AsksStand = (s : Seen Run) → EachAsks plain_bays (shown s)

abbrev pub JobsAreAwaited : Type 0
JobsAreAwaited = (s : Seen Run) → EachAwaited plain_bays (shown s)

abbrev pub EndsAreMet : Type 0
EndsAreMet = (s : Seen Run) → RunsEnd plain_bays (shown s)
