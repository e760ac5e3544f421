use Rattle.std.proofs.Common.{◌≡◌, rules}
use Rattle.fj_statement.specs.declared.statement.Statement.TheVariants as statement
use Rattle.fj_store.specs.Storage.{values_of}
use Rattle.fj_bay.specs.Plain.{moving_of as task_of}
use Rattle.fj_meaning.specs.Statement.{control_by}
use Rattle.fj_meaning.specs.Transfers.{moved_in, without_values}
use Rattle.fj_meaning_jobs.specs.Acting.{moving_of}
use Rattle.fj_run_statements.proofs.TransferLemmas.{pends_is, carries_is}
use Rattle.fj_run_statements.proofs.transfers.transfer.Goals as goal

pub returns-then-unwrap_or-clause-doing : goal.returns-then-unwrap_or-clause-doing
returns-then-unwrap_or-clause-doing g c = λ u st files number_is slot_is what_is.
    let variables = c.args.variables.now in
    let old = c.args.core.now in
    let t = c.args.t.now in
    let is_task : task_of c.in_ok-job.job ≡ moving_of (control_by (statement.Transfer t)) variables c.args.line old.next (values_of old.store) t (moved_in variables (values_of old.store) t) = search rules in
    let values : values_of c.moving.new.store ≡ without_values variables t (moved_in variables (values_of old.store) t) (values_of old.store) = search rules in
    pends_is g.F.FileStore.told g.F.FileStore.bytes variables c.args.line st files old c.moving.new.store t u c.args.unit c.args.slot c.in_ok-job.job number_is slot_is what_is c.if-unwrap_or.ensures is_task values

pub returns-clause-doing : goal.returns-clause-doing
returns-clause-doing g c = λ u st files number_is slot_is what_is.
    let variables = c.args.variables.now in
    let old = c.args.core.now in
    let t = c.args.t.now in
    let is_task : task_of c.in_ok-job-2.job ≡ moving_of (control_by (statement.Transfer t)) variables c.args.line 0 (values_of old.store) t (moved_in variables (values_of old.store) t) = search rules in
    let values : values_of c.moving-2.new.store ≡ without_values variables t (moved_in variables (values_of old.store) t) (values_of old.store) = search rules in
    carries_is g.F.FileStore.told g.F.FileStore.bytes variables c.args.line st files old c.moving-2.new.store t u c.args.slot c.in_ok-job-2.job slot_is what_is c.if-unwrap_or.ensures is_task values
