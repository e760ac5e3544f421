use Rattle.std.proofs.Common.{ltb, length}
use Rattle.fj_control.specs.Walk.{given}
use Rattle.fj_connect.specs.Linked.{connection_of}
use Rattle.fj_connect.specs.Positions.{ended}
use Rattle.fj_transfer.specs.Reader.{progress_of}
use Rattle.fj_transfer.proofs.ReaderLemmas.{left_is, given_done, step_done, step_smaller}
use Rattle.fj_transfer.proofs.reader.Reader.step_on.Goals as goal

pub returns-in_default-clause-done : goal.returns-in_default-clause-done
returns-in_default-clause-done g c = λ t h.
    let reader = c.args.self.now in
    let after = c.carry_out.new.self in
    let old = ended (connection_of g.F.FileStore.bytes c.args.connection.now) in
    step_done c.carry_out.result reader.advance reader after (progress_of old reader c.args.cells.now) (progress_of old after c.carry_out.new.cells) c.args.cursor.now c.next.new.self
    (ltb reader.next (length reader.order.now)) (given c.next.result) c.next.ensures.due (left_is reader.order.now reader.next) (given_done c.next.result c.in_default.not-Done)
    (c.carry_out.ensures.done t h) c.carry_out.ensures.left c.carry_out.ensures.some

pub returns-in_default-clause-smaller : goal.returns-in_default-clause-smaller
returns-in_default-clause-smaller g c =
    let reader = c.args.self.now in
    step_smaller c.carry_out.result reader c.carry_out.new.self c.args.cursor.now c.next.new.self
    (ltb reader.next (length reader.order.now)) (given c.next.result) c.next.ensures.due (left_is reader.order.now reader.next) (given_done c.next.result c.in_default.not-Done)
    c.carry_out.ensures.left c.carry_out.ensures.some
