use Rattle.fj_line.specs.Actions.{first_record}
use Rattle.fj_line.specs.Page.{at_hand}
use Rattle.fj_moved.specs.Items.{items_left}
use Rattle.fj_transfer.specs.Explicit.{explicit_actions}
use Rattle.fj_transfer.proofs.WriterLemmas.{is_appended, is_kept}
use Rattle.fj_transfer.proofs.print.print_explicit.Goals as goal

pub returns-clause-records : goal.returns-clause-records
returns-clause-records c =
    let written = c.write_explicit-written in
    is_appended (at_hand c.new-page.result c.args.out.now) (first_record c.args.recl c.args.begun) (explicit_actions c.args.modes c.args.advance c.args.format.now (items_left c.args.items)) written.result c.finished.result c.new-page.result written.new.page c.args.out.now written.new.text c.finished.new.text c.len-end.result
    c.new-page.ensures.hand c.new-page.ensures.begin c.len-end.ensures written.ensures.done written.ensures.within written.ensures.kept c.finished.ensures.ok c.finished.ensures.err c.finished.ensures.told

pub returns-clause-err : goal.returns-clause-err
returns-clause-err c =
    let written = c.write_explicit-written in
    is_kept written.result c.finished.result c.new-page.result written.new.page c.args.out.now written.new.text c.finished.new.text c.len-end.result
    c.new-page.ensures.begin c.len-end.ensures written.ensures.kept c.finished.ensures.ok c.finished.ensures.err
