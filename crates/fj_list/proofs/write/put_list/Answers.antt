use Rattle.std.proofs.Common.{[], ◌∷◌}
use Rattle.std.proofs.lemmas.Result.{err_from_is_err_and}
use Rattle.fj_line.specs.Actions.{end_record}
use Rattle.fj_line.specs.Page.{at_hand}
use Rattle.fj_line.proofs.Carrying.{went_on, stopped}
use Rattle.fj_moved.specs.Items.{items_left, values_in}
use Rattle.fj_list.specs.Listing.{list_texts}
use Rattle.fj_list.proofs.write.put_list.Goals as goal

pub returns-in_err-put_values-clause-done : goal.returns-in_err-put_values-clause-done
returns-in_err-put_values-clause-done c =
    let p = err_from_is_err_and c.from_residual.result c.from_residual.ensures.1 in
    rw (p.1, p.2) (stopped (at_hand c.args.page.now c.args.text.now) (at_hand c.put_values.new.page c.put_values.new.text) (list_texts c.args.modes (values_in (items_left c.args.items))) (end_record ∷ [])
    c.in_err-put_values.field-0.0 c.in_err-put_values.ensures.done)

pub returns-clause-done : goal.returns-clause-done
returns-clause-done c =
    went_on (at_hand c.args.page.now c.args.text.now) (at_hand c.put_values.new.page c.put_values.new.text) (at_hand c.end_record.new.self c.end_record.new.text)
    (list_texts c.args.modes (values_in (items_left c.args.items))) (end_record ∷ []) c.end_record.result c.in_ok-put_values.ensures.done c.end_record.ensures.done
