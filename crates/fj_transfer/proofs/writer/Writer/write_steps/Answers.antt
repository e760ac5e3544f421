use Rattle.std.proofs.Common.{length, ◌∙◌}
use Rattle.std.proofs.lemmas.Result.{err_from_is_err_and}
use Rattle.fj_line.specs.Page.{at_hand}
use Rattle.fj_line.proofs.Carrying.{kept_on}
use Rattle.fj_control.specs.Walk.{due}
use Rattle.fj_transfer.specs.Writing.{items_of_writer, actions_left}
use Rattle.fj_transfer.proofs.WriterLemmas.{left_is, step_stops}
use Rattle.fj_transfer.proofs.writer.Writer.write_steps.Goals as goal

pub returns-in_err-carry_out-in_default : goal.returns-in_err-carry_out-in_default
returns-in_err-carry_out-in_default c =
    let p = err_from_is_err_and c.from_residual-in_err-carry_out-in_default.result c.from_residual-in_err-carry_out-in_default.ensures.1 in
    let begun = c.args.self.now in
    let l = c.loop-cursor in
    let here = c.write_run.new.self in
    let n = length (items_of_writer here) in
    rw (p.1, p.2) (record {
      done = step_stops (at_hand begun.page c.args.text.now) (at_hand here.page c.write_run.new.text) (at_hand c.carry_out.new.self.page c.carry_out.new.text)
          (actions_left begun (due c.args.cursor.now (length (items_of_writer begun)))) here c.carry_out.new.self (due c.write_run.new.cursor n) _ _ c.in_err-carry_out-in_default.field-0.0
          (l.invariant.same ∙ c.in_ok-write_run.ensures.done) (c.next.ensures.due n (c.is_some_left.ensures ∙ left_is n)) c.in_err-carry_out-in_default.ensures.done;
      within = tt;
      kept = kept_on _ _ _ _ _ _ (kept_on _ _ _ _ _ _ l.invariant.kept c.write_run.ensures.kept) c.carry_out.ensures.kept;
    })
