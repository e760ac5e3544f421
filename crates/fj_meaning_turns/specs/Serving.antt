-- The runner as a script over slots of bays.
use Rattle.std.specs.Prelude.{ℕ, Bool, List, [], map, replicate, Option, None}
use Rattle.fj_statement.specs.declared.deck.Variable.{Variable}
use Rattle.fj_bay.specs.Bay.{Bay}
use Rattle.fj_bay.specs.Jobs.{Job, Answer}
use Rattle.fj_bay.specs.Serving.{serve}
use Rattle.fj_slot.specs.Serving.{Meaning}
use Rattle.fj_slot.specs.Sound.{served_by, outcomes}
use Rattle.fj_world.specs.Conduct.{Conduct, Due}
use Rattle.fj_world.specs.Plain.{Plain, PlainSlot, asked_next}
use Rattle.fj_meaning.specs.State.{Files}
use Rattle.fj_meaning.specs.Statement.{Stated}
use Rattle.fj_meaning_jobs.specs.Desks.{Desk, most_slots}
use Rattle.fj_meaning_jobs.specs.Desking.{fresh}
use Rattle.fj_meaning_turns.specs.Run.{Run, Start}
use Rattle.fj_meaning_turns.specs.Turns.{asked, told_of}

-- what engines, jobs and answers mean, where they serve as bays do
abbrev pub over_bays : {E J A : Type 0} → Meaning E J A Bay Job Answer → Meaning E J A Bay Job Answer
over_bays m = record { state = m.state; task = m.task; reply = m.reply; serve = serve; spoilt = m.spoilt; faults = m.faults }

-- what a script of runners shows: the numbers that it keeps to, the ask that is due, whether it is over or was told a stop, what a call may leave of it, and the runner
pub record Shows (S : Type 0) : Type 1 where
  pub left : S → ℕ
  pub uses : S → ℕ
  pub owed : S → ℕ → ℕ
  pub due : S → Due
  pub over : S → Bool
  pub stopped : S → Bool
  pub leads : S → S → Type 0
  pub state : S → Option Run

abbrev pub run_conduct : {S : Type 0} → Shows S → Conduct S Job Answer
run_conduct s = record {
  left = s.left;
  uses = s.uses;
  owed = s.owed;
  due = s.due;
  over = s.over;
  stopped = s.stopped;
  leads = s.leads;
  State = Run;
  state = s.state;
  ask = λ r. (asked r).ask;
  asked = λ r. (asked r).run;
  took = λ r number. r;
  told = told_of;
}

-- what the jobs of slots come to
abbrev pub desk_of : {E J A : Type 0} → Meaning E J A Bay Job Answer → PlainSlot Bay Job → Desk
desk_of m q = record { bay = served_by (over_bays m) q.start q.jobs; log = outcomes (over_bays m) q.start q.jobs }

abbrev pub desks_of : {E J A : Type 0} → Meaning E J A Bay Job Answer → List (PlainSlot Bay Job) → List Desk
desks_of m qs = map (desk_of m) qs

-- ---- the start

abbrev pub first_run : List Variable → List Stated → Files → Run
first_run variables deck files = record {
  variables = variables;
  core = (fresh variables files).core;
  book = [];
  rest = deck;
  sent = replicate most_slots 0;
  told = replicate most_slots 0;
  stage = Start;
  due = 0;
  ending = None;
}

abbrev pub fresh_slots : List (PlainSlot Bay Job)
fresh_slots = replicate most_slots (record { start = record { connection = None; halt = None }; jobs = []; told = 0 })

abbrev pub begins : {E J A S : Type 0} → (m : Meaning E J A Bay Job Answer) (s : Shows S) → List Variable → List Stated → Files → Plain Bay (run_conduct s)
begins m s variables deck files = asked_next (over_bays m) (run_conduct s) (first_run variables deck files) fresh_slots
