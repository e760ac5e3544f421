use Rattle.std.proofs.Common.{sym}
use Rattle.fj_moved.specs.declared.moved.Moved.{Moved}
use Rattle.fj_statement.specs.declared.statement.Statement.TheVariants as statement
use Rattle.fj_store.specs.Storage.{values_of}
use Rattle.fj_meaning.specs.Statement.{control_by}
use Rattle.fj_meaning.specs.Transfers.{moved_in}
use Rattle.fj_meaning_jobs.specs.Core.{connected_at}
use Rattle.fj_meaning_jobs.specs.Acting.{on_unit, transfer_at}
use Rattle.fj_run_statements.specs.State.{core_of}
use Rattle.fj_run_statements.proofs.TransferLemmas.{ok_same, hands_nothing, hands_nothing_inside, on_number}
use Rattle.fj_run_statements.proofs.transfers.read_or_write.Goals as goal

pub returns-in-Number-clause-doing : goal.returns-in-Number-clause-doing
returns-in-Number-clause-doing g c = λ st files what_is.
    let variables = c.args.variables.now in
    let old = c.args.core.now in
    let t = c.args.t.now in
    let moved : Moved = moved_in variables (values_of old.store) t in
    ok_same g.F.FileStore.told g.F.FileStore.bytes variables st (core_of files c.transfer_on.new.core) c.transfer_on.result
    (on_unit (control_by (statement.Transfer t)) variables c.args.line (core_of files old) t moved (connected_at old.units c.in-Number.number))
    (transfer_at (control_by (statement.Transfer t)) variables c.args.line (core_of files old) t moved t.unit)
    (sym (on_number (control_by (statement.Transfer t)) variables c.args.line (core_of files old) t moved c.in-Number.number t.unit c.in-Number.is)) (c.transfer_on.ensures.doing st files what_is)

pub returns-in-Number-clause-front : goal.returns-in-Number-clause-front
returns-in-Number-clause-front g c = λ tells files.
    let variables = c.args.variables.now in
    let old = c.args.core.now in
    let t = c.args.t.now in
    hands_nothing c.transfer_on.result (g.W.Sink.taken c.args.out.now) (control_by (statement.Transfer t)) variables c.args.line (core_of files old) t (moved_in variables (values_of old.store) t) c.in-Number.number c.in-Number.is

pub returns-in-Err-transfer_inside-clause-front : goal.returns-in-Err-transfer_inside-clause-front
returns-in-Err-transfer_inside-clause-front g c = λ tells files.
    let variables = c.args.variables.now in
    let old = c.args.core.now in
    let t = c.args.t.now in
    hands_nothing_inside (g.W.Sink.taken c.args.out.now) (control_by (statement.Transfer t)) variables c.args.line (core_of files old) t (moved_in variables (values_of old.store) t) c.in-Internal.file c.in-Internal.is
