use Rattle.fj_run_items.proofs.Ends.{ok_cut}
use Rattle.fj_run_items.proofs.assignment.cut.Goals as goal

pub returns : goal.returns
returns c = ok_cut c.of_text.result c.in_ok-text.text c.args.length c.args.chars.now c.of_text.ensures c.in_ok-text.ensures
