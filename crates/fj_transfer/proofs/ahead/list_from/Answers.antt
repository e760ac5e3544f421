use Rattle.fj_value.specs.declared.condition.Condition.{Condition}
use Rattle.fj_list.specs.ListInput.{list_input}
use Rattle.fj_list.specs.Scan.{IsOutcome}
use Rattle.fj_connect.specs.Linked.{connection_of}
use Rattle.fj_connect.specs.Positions.{ended}
use Rattle.fj_transfer.specs.Places.{at_place}
use Rattle.fj_transfer.specs.Transfer.{records_to_come, condition_to_come}
use Rattle.std.proofs.Common.{subst}
use Rattle.fj_transfer.proofs.AheadLemmas.{starts, came, behind_all}
use Rattle.fj_transfer.proofs.ahead.list_from.Goals as goal

pub invariant_of-records : goal.invariant_of-records
invariant_of-records g c = record {
  come = starts (g.F.FileStore.tells c.args.connection.now.file) (connection_of g.F.FileStore.bytes c.args.connection.now) (g.F.FileStore.size c.args.connection.now.file) c.args.place g.B.Beginning.begun c.requires.begun c.requires.place;
}

pub returns-clause-comes : goal.returns-clause-comes
returns-clause-comes g c = λ t.
    let old = connection_of g.F.FileStore.bytes c.args.connection.now in
    let after = c.read_list.new.records in
    let c0 = at_place c.args.place (ended old) in
    let P : Condition → Type 0 = λ e. IsOutcome c.in_ok-condition.condition (list_input c.args.modes.comma (records_to_come c0) e c.args.moved.now.cells c.args.moved.now.order) c.read_list.new.moved.cells (records_to_come (at_place after.place (ended (connection_of g.F.FileStore.bytes after.connection.now)))) in
    came (g.F.FileStore.tells after.connection.now.file) (connection_of g.F.FileStore.bytes after.connection.now) old (g.F.FileStore.size after.connection.now.file) (g.F.FileStore.size c.args.connection.now.file) after.place c.args.place g.B.Beginning.begun
    after.come c.requires.begun (c.read_list.ensures.telling.0 t) c.in_ok-condition.condition c.read_list.new.moved.cells _ (subst P (behind_all (condition_to_come c0)) (c.in_ok-condition.ensures.contents t))
