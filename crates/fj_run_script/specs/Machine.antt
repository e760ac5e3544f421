-- The runner as plain data.
use Rattle.std.specs.Prelude.{ℕ, ◌+◌, Bool, List, [], ◌∷◌, drop, Option, Some, None}
use Rattle.std.specs.Option.{option_map}
use Rattle.fj_statement.specs.declared.deck.Variable.{Variable}
use Rattle.fj_statement.specs.Units.{with_number}
use Rattle.fj_bay.specs.Plain.{task_of, reply_of}
use Rattle.fj_meaning.specs.State.{Files}
use Rattle.fj_meaning.specs.Statement.{Stated, stated, Ending as PlainEnding, ended, error_stop, prohibition}
use Rattle.fj_meaning_jobs.specs.Core.{Core}
use Rattle.fj_meaning_jobs.specs.Acting.{doing}
use Rattle.fj_meaning_turns.specs.Run.{Run, Stage as PlainStage}
use Rattle.fj_meaning_turns.specs.Run as run
use Rattle.fj_meaning_turns.specs.Turns.{ends_halts}
use Rattle.fj_run_pending.specs.Plain.{held}
use Rattle.fj_run_statements.specs.Doing.{next_of, then_of}
use Rattle.fj_run_statements.specs.State.{core_of}
use Rattle.fj_outside.specs.declared.outside.FileStore.{Ghosts}
use Rattle.fj_run_script.specs.declared.ending.Ending.{Ending}
use Rattle.fj_run_script.specs.declared.ending.Ending.TheVariants as ending
use Rattle.fj_run_script.specs.declared.stage.Stage.{Stage}
use Rattle.fj_run_script.specs.declared.stage.Stage.TheVariants as stage
use Rattle.fj_run_script.specs.declared.state.State.{State}
use Rattle.fj_run_script.specs.declared.machine.AtHand.{AtHand}
use Rattle.fj_run_script.specs.declared.machine.Machine.{Machine}

abbrev pub ending_of : Ending → PlainEnding
ending_of ending.Ended = ended
ending_of (ending.ErrorStop line code) = error_stop line code
ending_of (ending.Prohibited line rule) = prohibition line rule

-- by the statement at hand
abbrev pub at_hand : List Stated → (Stated → Option PlainStage) → Option PlainStage
at_hand [] stage_by = None
at_hand (st ∷ more) stage_by = stage_by st

-- the stage; none where a job holds a connection whose file does not tell
abbrev pub stage_of : {F : Type 0} → (F → Bool) → (F → List ℕ) → List Variable → List Stated → Core → Stage F → Option PlainStage
stage_of told bytes variables rest core stage.Start = Some run.Start
stage_of told bytes variables rest core (stage.Waiting whose from) = Some run.Waiting
stage_of told bytes variables rest core (stage.Resuming slots next condition) =
    at_hand rest (λ st. Some (run.Acting (ends_halts (drop next slots) core (doing st.1 variables st.0.line core st.0.what condition))))
stage_of told bytes variables rest core (stage.Going next number) = at_hand rest (λ st. Some (run.Acting (next_of variables st core next number)))
stage_of told bytes variables rest core (stage.Awaiting slot number then) = at_hand rest (λ st. Some (run.Awaiting slot number (then_of variables st core then)))
stage_of told bytes variables rest core (stage.Answered then job answer) =
    at_hand rest (λ st. option_map (λ task. run.Acting (then_of variables st core then (task, reply_of answer))) (task_of told bytes job))

-- a state at that stage, with the statement at hand and those behind it
abbrev pub run_in : {F : Type 0} {ghosts : Ghosts F} → List Variable → List Stated → Files → State F ghosts → PlainStage → Run
run_in variables rest files s stage = record {
  variables = variables;
  core = core_of files s.core;
  book = held s.core.pending;
  rest = rest;
  sent = s.sent.items;
  told = s.told.items;
  stage = stage;
  due = s.due;
  ending = option_map ending_of s.ending;
}

-- the first of them, its unit having this number
abbrev pub begun_with : ℕ → Stated → Stated
begun_with number st = (record st.0 { what = with_number number st.0.what }, st.1)

-- or as it stands in the deck
abbrev pub numbered : Option ℕ → List Stated → List Stated
numbered None sts = sts
numbered (Some number) [] = []
numbered (Some number) (st ∷ more) = begun_with number st ∷ more

-- the one behind it, which has not begun
abbrev pub behind : AtHand → AtHand
behind at = record { place = at.place + 1; number = None }

-- the statement at hand, which has its number once it has begun, and those behind it
abbrev pub rest_of : {F : Type 0} {ghosts : Ghosts F} → Machine F ghosts → List Stated
rest_of m = numbered m.at.number (drop m.at.place (stated m.deck.statements))

-- the runner at that stage, over a disk that has these files
abbrev pub run_at : {F : Type 0} {ghosts : Ghosts F} → Files → Machine F ghosts → PlainStage → Run
run_at files m stage = run_in m.deck.variables (rest_of m) files m.state stage

-- its stage
abbrev pub stage_at : {F : Type 0} {ghosts : Ghosts F} → (F → Bool) → (F → List ℕ) → Files → Machine F ghosts → Option PlainStage
stage_at told bytes files m = stage_of told bytes m.deck.variables (rest_of m) (core_of files m.state.core) m.state.stage

abbrev pub run_of : {F : Type 0} {ghosts : Ghosts F} → (F → Bool) → (F → List ℕ) → Files → Machine F ghosts → Option Run
run_of told bytes files m = option_map (run_at files m) (stage_at told bytes files m)
