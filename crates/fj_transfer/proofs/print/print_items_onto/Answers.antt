use Rattle.fj_transfer.specs.Printing.{actions_by, control_of}
use Rattle.fj_transfer.proofs.PrintedLemmas.{is_printed}
use Rattle.fj_transfer.proofs.print.print_items_onto.Goals as goal

pub returns : goal.returns
returns c moved same =
    let written = c.write_items-written in
    let actions = actions_by c.args.layout.now (control_of c.args.layout.now) c.args.modes c.args.advance moved in
    is_printed c.args.recl c.args.begun c.len-end.result actions written.result c.counted.result c.new-page.result written.new.page c.args.out.now written.new.text c.counted.new.text
    c.new-page.ensures.hand c.new-page.ensures.begin written.ensures.kept c.len-end.ensures (written.ensures.done moved same) (c.counted.ensures c.args.recl actions)
