-- The statement at hand waits for the end of a connection only if it may close one.
use Rattle.std.specs.Prelude.{ℕ, Bool, true, List, slice_get}
use Rattle.std.specs.Option.{option_map_or}
use Rattle.fj_statement.specs.declared.deck.Lined.{Lined}
use Rattle.fj_statement.specs.declared.statement.Statement.{Statement}
use Rattle.fj_run_statements.specs.Calling.{may_await}
use Rattle.fj_run_script.specs.declared.stage.Stage.{Stage}
use Rattle.fj_run_script.specs.declared.stage.Stage.TheVariants as stage

abbrev pub may_be_at : {F : Type 0} → Statement → Stage F → Bool
may_be_at what stage.Start = true
may_be_at what (stage.Waiting whose from) = true
may_be_at what (stage.Resuming slots next condition) = true
may_be_at what (stage.Going next number) = true
may_be_at what (stage.Awaiting slot number next) = may_await what next
may_be_at what (stage.Answered next job answer) = may_await what next

-- by the place of the statement
abbrev pub hand_may_be_at : {F : Type 0} → List Lined → ℕ → Stage F → Bool
hand_may_be_at statements at s = option_map_or (λ (l : Lined). may_be_at l.what s) (slice_get statements at) true
