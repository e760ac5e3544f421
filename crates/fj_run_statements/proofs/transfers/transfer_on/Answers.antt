use Rattle.std.proofs.Common.{refl, sym}
use Rattle.fj_moved.specs.declared.moved.Moved.{Moved}
use Rattle.fj_value.specs.declared.condition.Condition.TheVariants.{Error}
use Rattle.fj_statement.specs.declared.statement.Statement.TheVariants as statement
use Rattle.fj_store.specs.Storage.{values_of}
use Rattle.fj_meaning.specs.Statement.{control_by}
use Rattle.fj_meaning.specs.Transfers.{moved_in}
use Rattle.fj_meaning_jobs.specs.Core.{connected_at}
use Rattle.fj_meaning_jobs.specs.Acting.{refused, transferred, on_unit}
use Rattle.fj_run_units.specs.Units.{connected_of}
use Rattle.fj_run_statements.specs.State.{core_of}
use Rattle.fj_run_statements.proofs.ClosingLemmas.{found_number}
use Rattle.fj_run_statements.proofs.TransferLemmas.{ok_same, on_none, on_fine, on_refused}
use Rattle.fj_run_statements.proofs.transfers.transfer_on.Goals as goal

pub returns-in_default-clause-doing : goal.returns-in_default-clause-doing
returns-in_default-clause-doing g c = λ st files what_is.
    let variables = c.args.variables.now in
    let old = c.args.core.now in
    let t = c.args.t.now in
    let moved : Moved = moved_in variables (values_of old.store) t in
    ok_same g.F.FileStore.told g.F.FileStore.bytes variables st (core_of files c.refuse.new.core) c.refuse.result (refused variables (core_of files old) t moved (Error 1))
    (on_unit (control_by (statement.Transfer t)) variables c.args.line (core_of files old) t moved (connected_at old.units c.args.number))
    (on_none (control_by (statement.Transfer t)) variables c.args.line (core_of files old) t moved (connected_at old.units c.args.number) c.in_default.ensures) (c.refuse.ensures.doing st files)

pub returns-in-Fine-clause-doing : goal.returns-in-Fine-clause-doing
returns-in-Fine-clause-doing g c = λ st files what_is.
    let variables = c.args.variables.now in
    let old = c.args.core.now in
    let t = c.args.t.now in
    let u = connected_of c.in-Some.unit.now in
    let moved : Moved = moved_in variables (values_of old.store) t in
    ok_same g.F.FileStore.told g.F.FileStore.bytes variables st (core_of files c.transfer.new.core) c.transfer.result (transferred (control_by (statement.Transfer t)) variables c.args.line (core_of files old) t moved u)
    (on_unit (control_by (statement.Transfer t)) variables c.args.line (core_of files old) t moved (connected_at old.units c.args.number))
    (on_fine (control_by (statement.Transfer t)) variables c.args.line (core_of files old) t moved (connected_at old.units c.args.number) u c.in-Some.ensures (c.in-Fine.ensures variables moved.cells))
    (c.transfer.ensures.doing u st files (found_number old.units c.args.number u (sym c.in-Some.ensures)) refl what_is)

pub returns-in_default-refusal-clause-doing : goal.returns-in_default-refusal-clause-doing
returns-in_default-refusal-clause-doing g c = λ st files what_is.
    let variables = c.args.variables.now in
    let old = c.args.core.now in
    let t = c.args.t.now in
    let u = connected_of c.in-Some.unit.now in
    let moved : Moved = moved_in variables (values_of old.store) t in
    let condition = c.refusal.result in
    ok_same g.F.FileStore.told g.F.FileStore.bytes variables st (core_of files c.refuse-in_default-refusal.new.core) c.refuse-in_default-refusal.result
    (refused variables (core_of files old) t moved condition)
    (on_unit (control_by (statement.Transfer t)) variables c.args.line (core_of files old) t moved (connected_at old.units c.args.number))
    (on_refused (control_by (statement.Transfer t)) variables c.args.line (core_of files old) t moved (connected_at old.units c.args.number) u condition c.in-Some.ensures
    (c.refusal.ensures variables moved.cells) c.in_default-refusal.not-Fine)
    (c.refuse-in_default-refusal.ensures.doing st files)
