-- How far the transfers that the statement at hand waits for are known to have answers.
use Rattle.std.specs.Prelude.{ℕ, ◌==◌, ◌&&◌, Bool, true, false, List, take, is_none}
use Rattle.fj_meaning_turns.specs.Turns.{unsettled}
use Rattle.fj_run_pending.specs.Plain.{held, entries}
use Rattle.fj_run_pending.specs.Waits.{waited_of, widest}
use Rattle.fj_run_pending.specs.declared.held.Held.{Held}
use Rattle.fj_run_pending.specs.declared.whose.Whose.{Whose}
use Rattle.fj_run_script.specs.declared.stage.Stage.{Stage}
use Rattle.fj_run_script.specs.declared.stage.Stage.TheVariants as stage

-- those before a place have answers, however wide the wait gets
abbrev pub are_passed : List Held → Whose → ℕ → Bool
are_passed hs whose from = is_none (unsettled (waited_of (widest whose) (entries hs)) (take from (held hs)))

-- where it waits, those before its place have answers
abbrev pub is_passed : {F : Type 0} → List Held → Stage F → Bool
is_passed hs (stage.Waiting whose from) = are_passed hs whose from
is_passed hs stage.Start = true
is_passed hs (stage.Resuming slots next condition) = true
is_passed hs (stage.Going next number) = true
is_passed hs (stage.Awaiting slot number then) = true
is_passed hs (stage.Answered then job answer) = true

-- it waits for an answer
abbrev pub is_waiting : {F : Type 0} → Stage F → Bool
is_waiting (stage.Waiting whose from) = true
is_waiting (stage.Awaiting slot number then) = true
is_waiting stage.Start = false
is_waiting (stage.Resuming slots next condition) = false
is_waiting (stage.Going next number) = false
is_waiting (stage.Answered then job answer) = false

-- it waits for its own job, of that slot and number
abbrev pub awaits : {F : Type 0} → ℕ → ℕ → Stage F → Bool
awaits slot number (stage.Awaiting own last then) = (own == slot) && (last == number)
awaits slot number stage.Start = false
awaits slot number (stage.Waiting whose from) = false
awaits slot number (stage.Resuming slots next condition) = false
awaits slot number (stage.Going next n) = false
awaits slot number (stage.Answered then job answer) = false
