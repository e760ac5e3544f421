use Rattle.std.proofs.Common.{[], ◌∷◌, length, ◌∙◌}
use Rattle.std.proofs.lemmas.Result.{err_from_is_err_and}
use Rattle.fj_line.specs.Actions.{end_record}
use Rattle.fj_line.specs.Page.{at_hand}
use Rattle.fj_line.proofs.Carrying.{went_on, stopped}
use Rattle.fj_control.specs.Walk.{due}
use Rattle.fj_transfer.specs.Writing.{items_of_writer, actions_left}
use Rattle.fj_transfer.proofs.FillLemmas.{nothing_left}
use Rattle.fj_transfer.proofs.WriterLemmas.{left_is, run_stops, step_stops}
use Rattle.fj_transfer.proofs.writer.Writer.write_pieces.Goals as goal

pub returns-in_err-write_run-clause-done : goal.returns-in_err-write_run-clause-done
returns-in_err-write_run-clause-done c =
    let p = err_from_is_err_and c.from_residual.result c.from_residual.ensures.1 in
    let begun = c.args.self.now in
    let l = c.loop-cursor in
    let old = at_hand begun.page c.args.text.now in
    let new = at_hand c.write_run.new.self.page c.write_run.new.text in
    let all = actions_left begun (due c.args.cursor.now (length (items_of_writer begun))) in
    rw (p.1, p.2) (stopped old new all (end_record ∷ []) c.in_err-write_run.field-0.0
    (run_stops old (at_hand l.self.page l.text) new all (actions_left l.self (due l.cursor (length (items_of_writer l.self))))
    (actions_left c.write_run.new.self (due c.write_run.new.cursor (length (items_of_writer c.write_run.new.self)))) c.in_err-write_run.field-0.0 l.invariant.same c.in_err-write_run.ensures.done))

pub returns-in-Done-clause-done : goal.returns-in-Done-clause-done
returns-in-Done-clause-done c =
    let begun = c.args.self.now in
    let l = c.loop-cursor in
    let here = c.write_run.new.self in
    let n = length (items_of_writer here) in
    let old = at_hand begun.page c.args.text.now in
    let hand = at_hand here.page c.write_run.new.text in
    let all = actions_left begun (due c.args.cursor.now (length (items_of_writer begun))) in
    went_on old hand (at_hand c.end_record.new.self c.end_record.new.text) all (end_record ∷ []) c.end_record.result
    (nothing_left old hand all here (due c.write_run.new.cursor n) (l.invariant.same ∙ c.in_ok-write_run.ensures.done) (c.in-Done.ensures.due n (c.is_some_left.ensures ∙ left_is n)))
    c.end_record.ensures.done

pub returns-in_err-carry_out-in-Slash-clause-done :
    goal.returns-in_err-carry_out-in-Slash-clause-done
returns-in_err-carry_out-in-Slash-clause-done c =
    let p = err_from_is_err_and c.from_residual-in_err-carry_out-in-Slash.result c.from_residual-in_err-carry_out-in-Slash.ensures.1 in
    let begun = c.args.self.now in
    let l = c.loop-cursor in
    let here = c.write_run.new.self in
    let n = length (items_of_writer here) in
    let old = at_hand begun.page c.args.text.now in
    let hand = at_hand here.page c.write_run.new.text in
    let new = at_hand c.carry_out.new.self.page c.carry_out.new.text in
    let all = actions_left begun (due c.args.cursor.now (length (items_of_writer begun))) in
    rw (p.1, p.2) (stopped old new all (end_record ∷ []) c.in_err-carry_out-in-Slash.field-0.0
    (step_stops old hand new all here c.carry_out.new.self (due c.write_run.new.cursor n) _ _ c.in_err-carry_out-in-Slash.field-0.0 (l.invariant.same ∙ c.in_ok-write_run.ensures.done)
    (c.in-Slash.ensures.due n (c.is_some_left.ensures ∙ left_is n)) c.in_err-carry_out-in-Slash.ensures.done))

pub returns-in_err-carry_out-in_default : goal.returns-in_err-carry_out-in_default
returns-in_err-carry_out-in_default c =
    let p = err_from_is_err_and c.from_residual-in_err-carry_out-in_default.result c.from_residual-in_err-carry_out-in_default.ensures.1 in
    let begun = c.args.self.now in
    let l = c.loop-cursor in
    let here = c.write_run.new.self in
    let n = length (items_of_writer here) in
    let old = at_hand begun.page c.args.text.now in
    let hand = at_hand here.page c.write_run.new.text in
    let new = at_hand c.carry_out-in_default.new.self.page c.carry_out-in_default.new.text in
    let all = actions_left begun (due c.args.cursor.now (length (items_of_writer begun))) in
    rw (p.1, p.2) (record {
      done = stopped old new all (end_record ∷ []) c.in_err-carry_out-in_default.field-0.0
          (step_stops old hand new all here c.carry_out-in_default.new.self (due c.write_run.new.cursor n) _ _ c.in_err-carry_out-in_default.field-0.0 (l.invariant.same ∙ c.in_ok-write_run.ensures.done)
          (c.next.ensures.due n (c.is_some_left.ensures ∙ left_is n)) c.in_err-carry_out-in_default.ensures.done);
      run = tt;
    })
