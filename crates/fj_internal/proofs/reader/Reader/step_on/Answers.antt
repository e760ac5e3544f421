use Rattle.std.proofs.Common.{ltb, length}
use Rattle.fj_control.specs.Walk.{given}
use Rattle.fj_transfer.proofs.ReaderLemmas.{left_is, given_done}
use Rattle.fj_internal.specs.Records.{progress_of, records_behind}
use Rattle.fj_internal.proofs.Stepping.{step_done, step_smaller}
use Rattle.fj_internal.proofs.reader.Reader.step_on.Goals as goal

pub returns-in_default-clause-done : goal.returns-in_default-clause-done
returns-in_default-clause-done c =
    let reader = c.args.self.now in
    let after = c.carry_out.new.self in
    step_done c.carry_out.result reader.advance reader after (records_behind reader) (records_behind after) (progress_of reader c.args.cells.now) (progress_of after c.carry_out.new.cells) c.args.cursor.now c.next.new.self
    (ltb reader.next (length reader.order.now)) (given c.next.result) c.next.ensures.due (left_is reader.order.now reader.next) (given_done c.next.result c.in_default.not-Done)
    c.carry_out.ensures.done c.carry_out.ensures.left c.carry_out.ensures.some

pub returns-in_default-clause-smaller : goal.returns-in_default-clause-smaller
returns-in_default-clause-smaller c =
    let reader = c.args.self.now in
    step_smaller c.carry_out.result reader c.carry_out.new.self c.args.cursor.now c.next.new.self
    (ltb reader.next (length reader.order.now)) (given c.next.result) c.next.ensures.due (left_is reader.order.now reader.next) (given_done c.next.result c.in_default.not-Done)
    c.carry_out.ensures.left c.carry_out.ensures.some
