use Rattle.std.proofs.Common.{[], ◌∷◌, length, sym, ap}
use Rattle.std.proofs.lemmas.Result.{err_from_is_err_and}
use Rattle.fj_line.specs.Actions.{end_record}
use Rattle.fj_line.specs.Page.{at_hand}
use Rattle.fj_control.specs.Walk.{Walk, due}
use Rattle.fj_transfer.specs.Explicit.{ending}
use Rattle.fj_transfer.specs.Writing.{items_of_writer, actions_left}
use Rattle.fj_transfer.proofs.WriterLemmas.{whole_stops, whole_ends}
use Rattle.fj_transfer.proofs.writer.Writer.write.Goals as goal

pub returns-in_err-write_steps-clause-done : goal.returns-in_err-write_steps-clause-done
returns-in_err-write_steps-clause-done c =
    let p = err_from_is_err_and c.from_residual-in_err-write_steps.result c.from_residual-in_err-write_steps.ensures.1 in
    let w = c.args.self.now in
    let left = λ (walk : Walk). actions_left w (due walk (length (items_of_writer w))) in
    rw (p.1, p.2) (whole_stops (at_hand w.page c.args.text.now) (at_hand c.write_steps.new.self.page c.write_steps.new.text) (left c.in_ok-cursor.cursor) _ (ending c.args.advance) c.in_err-write_steps.field-0.0
    (ap left c.in_ok-cursor.ensures.begun) c.in_err-write_steps.ensures.done)

pub returns-then-advance-clause-done : goal.returns-then-advance-clause-done
returns-then-advance-clause-done c =
    let w = c.args.self.now in
    let left = λ (walk : Walk). actions_left w (due walk (length (items_of_writer w))) in
    whole_ends (at_hand w.page c.args.text.now) (at_hand c.write_steps.new.self.page c.write_steps.new.text) (at_hand c.end_record.new.self c.end_record.new.text) (left c.in_ok-cursor.cursor) _ (end_record ∷ []) (ending c.args.advance)
    c.end_record.result (ap left c.in_ok-cursor.ensures.begun) (sym (ap ending c.if-advance.true)) c.in_ok-write_steps.ensures.done c.end_record.ensures.done
