-- The runner before it asks: the statements that it passes until it pauses, and where in a deck it stands.
use Rattle.std.specs.Prelude.{◌≡◌, ◌⊎◌, ℕ, zero, suc, false, List, [], ◌∷◌, ◌++◌, map, length, drop, Option, Some, None, IsSome, option_and_then}
use Rattle.fj_statement.specs.declared.deck.Variable.{Variable}
use Rattle.fj_slot.specs.Serving.{Meaning}
use Rattle.fj_world.specs.declared.ask.Ask.TheVariants.{Finished}
use Rattle.fj_world.specs.Losing.{before_ask}
use Rattle.fj_world.specs.Plain.{after}
use Rattle.fj_bay.specs.Bay.{Bay}
use Rattle.fj_bay.specs.Jobs.{Job, Answer}
use Rattle.fj_world.specs.Alone.{ServedAlone}
use Rattle.fj_world.specs.Rack.{Rack}
use Rattle.fj_meaning.specs.State.{State, Files, Output, Tell, start}
use Rattle.fj_meaning.specs.Statement.{Stated, step, executed, cut}
use Rattle.fj_meaning.specs.Telling.{tell_of}
use Rattle.fj_meaning_jobs.specs.Desks.{Desk}
use Rattle.fj_meaning_jobs.specs.Doing.{Desked}
use Rattle.fj_meaning_jobs.specs.Desking.{desk_step, fresh}
use Rattle.fj_meaning_turns.specs.Run.{Run, Stage, Start, Waiting, Acting, Awaiting}
use Rattle.fj_meaning_turns.specs.Turns.{Turn, Pauses, Passes, Stops, hand_at, turn, unsettled, waited_now}
use Rattle.fj_meaning_turns.specs.Serving.{over_bays, Shows, run_conduct, desks_of, first_run, fresh_slots, begins}
use Rattle.fj_meaning_turns.specs.Inside.{waited_at, does, walked, cut_desks}
use Rattle.fj_meaning_turns.specs.Standing.{HasTold}

-- ---- statements that are passed

abbrev pub passed_by : List Stated → Turn → Option Run
passed_by rest (Passes run) = Some (record run { rest = rest })
passed_by rest (Pauses ask run) = None
passed_by rest (Stops run) = None

-- the statement at hand is passed, where its turn comes to the next one
abbrev pub passed_on : List Stated → Run → Option Run
passed_on [] r = None
passed_on (st ∷ rest) r = passed_by rest (turn st r.stage r)

-- so many statements are passed, one after another
abbrev pub passes : ℕ → Run → Option Run
passes zero r = Some r
passes (suc n) r = option_and_then (passes n) (passed_on r.rest r)

-- ---- the turn of the statement at hand

abbrev pub output_of : Turn → Output
output_of (Pauses ask run) = run.core.output
output_of (Passes run) = run.core.output
output_of (Stops run) = run.core.output

abbrev pub output_due : List Stated → Run → Output
output_due [] r = r.core.output
output_due (st ∷ rest) r = output_of (turn st r.stage r)

-- the output that it leaves
abbrev pub turn_output : Run → Output
turn_output r = output_due r.rest r

-- the tells once the transfers that a statement waits for are told
abbrev pub told_on : Stated → Stage → Run → List Tell
told_on st Start r = r.core.tells ++ map (tell_of st.0.line) (waited_now st r)
told_on st Waiting r = r.core.tells ++ map (tell_of st.0.line) (waited_now st r)
told_on st (Acting does) r = r.core.tells
told_on st (Awaiting slot number next) r = r.core.tells

abbrev pub told_at : Stated → Stage → Run → List Tell
told_at st stage r = told_on (hand_at st stage r) stage r

-- the answers of these transfers are known
abbrev pub knows_on : Stated → Stage → Run → Type 0
knows_on st Start r = unsettled (waited_now st r) r.book ≡ None
knows_on st Waiting r = unsettled (waited_now st r) r.book ≡ None
knows_on st (Acting does) r = Unit {0}
knows_on st (Awaiting slot number next) r = Unit {0}

abbrev pub knows_at : Stated → Stage → Run → Type 0
knows_at st stage r = knows_on (hand_at st stage r) stage r

abbrev pub known_due : List Stated → Run → Type 0
known_due [] r = Unit {0}
known_due (st ∷ rest) r = knows_at st r.stage r

abbrev pub KnowsAnswers : Run → Type 0
KnowsAnswers r = known_due r.rest r

abbrev pub tells_due : List Stated → Run → List Tell
tells_due [] r = r.core.tells
tells_due (st ∷ rest) r = told_at st r.stage r

abbrev pub turn_tells : Run → List Tell
turn_tells r = tells_due r.rest r

-- ---- where it stands

-- nothing of the statement is done
pub record IsBefore (before : Desked) (run : Run) (desks : List Desk) : Type 0 where
  pub core : run.core ≡ before.core
  pub desks_are : desks ≡ before.desks

-- its transfers are told, and it gave so many jobs
pub record IsOnward (variables : List Variable) (statement : Stated) (before : Desked) (run : Run) (desks : List Desk) : Type 0 where
  pub tells : HasTold statement before run
  pub jobs : ℕ
  pub desks_are : desks ≡ (walked jobs before.desks (does variables statement before)).0

-- A runner with these desks stands at a statement of the deck, the output being that of before it. Its turn comes to the output that
-- the statement leaves; and once their answers are known, what it tells first are the transfers that the statement waits for. A
-- prohibited statement tells nothing, and its turn stops.
pub record StandsAt (variables : List Variable) (deck : List Stated) (first : Desked) (run : Run) (desks : List Desk) : Type 0 where
  pub index : ℕ
  pub statement : Stated
  pub before : Desked
  pub reached : cut_desks variables index deck first ≡ Some (statement, before)
  pub rest : length run.rest ≡ length (drop index deck)
  pub point : IsBefore before run desks ⊎ IsOnward variables statement before run desks
  pub output : run.core.output ≡ before.core.output
  pub due : turn_output run ≡ (desk_step variables statement before).0.core.output
  pub tells : KnowsAnswers run → turn_tells run ≡ before.core.tells ++ map (tell_of statement.0.line) (waited_at statement before)

module _ {E J A S : Type 0} (m : Meaning E J A Bay Job Answer) (s : Shows S) where
  -- For every deck, before each ask and behind the statements that it then passes, the runner stands at a statement; or none is left,
  -- or it has ended.
  abbrev pub EachStands : Type 0
  EachStands = (variables : List Variable) (deck : List Stated) (files : Files) (n count : ℕ) (run : Run) →
      let b = before_ask (over_bays m) (run_conduct s) n (first_run variables deck files) fresh_slots in
      b.0.ending ≡ None → passes count b.0 ≡ Some run →
      (run.rest ≡ []) ⊎ StandsAt variables deck (fresh variables files) run (desks_of m b.1)

-- At an ask it stands at a statement of the deck, and the output is that of before it, which the statement leaves as it is. The transfers
-- that it waits for are told, or none of them.
pub record AsksAt (variables : List Variable) (deck : List Stated) (first : Desked) (run : Run) : Type 0 where
  pub index : ℕ
  pub statement : Stated
  pub before : Desked
  pub reached : cut_desks variables index deck first ≡ Some (statement, before)
  pub rest : length run.rest ≡ length (drop index deck)
  pub output : run.core.output ≡ before.core.output
  pub due : (desk_step variables statement before).0.core.output ≡ before.core.output
  pub tells : (run.core.tells ≡ before.core.tells) ⊎ HasTold statement before run

module _ {E J A S : Type 0} (m : Meaning E J A Bay Job Answer) (s : Shows S) where
  -- for every deck, after any number of entries
  abbrev pub EachAsks : Type 0
  EachAsks = (variables : List Variable) (deck : List Stated) (files : Files) (n : ℕ) →
      let x = after (over_bays m) (run_conduct s) n (begins m s variables deck files) in
      (x.hand ≡ Finished) ⊎ AsksAt variables deck (fresh variables files) x.script

-- The deck ended at a statement, and that is the one at hand.
pub record EndsAt (variables : List Variable) (deck : List Stated) (files : Files) (run : Run) : Type 0 where
  pub index : ℕ
  pub statement : Stated
  pub before : State
  pub reached : cut variables index deck (start variables files) ≡ Some (statement, before)
  pub rest : length run.rest ≡ length (drop index deck)
  pub executed_is : executed variables deck (start variables files) ≡ record { state = (step variables statement before).0; ending = (step variables statement before).1 }
  pub ends : IsSome (step variables statement before).1

module _ {E J A S : Type 0} (m : Meaning E J A Bay Job Answer) (s : Shows S) where
  -- for every deck that ends: a script that was served alone and is not over
  abbrev pub RunsEnd : Type 0
  RunsEnd = (variables : List Variable) (deck : List Stated) (files : Files) (script : S) (rack : Rack E J A) (run : Run) →
      ServedAlone (over_bays m) (run_conduct s) (begins m s variables deck files) script rack → s.over script ≡ false → s.state script ≡ Some run →
      IsSome run.ending → EndsAt variables deck files run
