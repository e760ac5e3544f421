-- The number that the unit of the statement at hand has.
use Rattle.std.specs.Prelude.{ℕ, Option, Some, None}
use Rattle.std.specs.Option.{option_map_or}
use Rattle.fj_outside.specs.declared.outside.FileStore.{Ghosts}
use Rattle.fj_statement.specs.declared.statement.Statement.{Statement}
use Rattle.fj_statement.specs.Units.{number_due, unit_of, with_number}
use Rattle.fj_store.specs.Storage.{values_of}
use Rattle.fj_store.specs.Variables.{value_at}
use Rattle.fj_run_script.specs.declared.stage.Stage.{Stage}
use Rattle.fj_run_script.specs.declared.stage.Stage.TheVariants as stage
use Rattle.fj_run_script.specs.declared.state.State.{State}

abbrev pub number_by : {F : Type 0} → Stage F → Option ℕ → Option ℕ → Option ℕ
number_by stage.Start due since = due
number_by _ due since = since

-- the one that is due as the statement begins, or the one that it has since then
abbrev pub number_in_hand : {F : Type 0} {ghosts : Ghosts F} → State F ghosts → Option ℕ → Statement → Option ℕ
number_in_hand s since what = number_by s.stage (Some (option_map_or (number_due (value_at (values_of s.core.store)) s.core.new_unit) (unit_of what) 0)) since

-- the statement with that number
abbrev pub put_in : Option ℕ → Statement → Statement
put_in None what = what
put_in (Some number) what = with_number number what
