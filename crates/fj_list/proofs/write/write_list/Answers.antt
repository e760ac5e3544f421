use Rattle.fj_moved.specs.Items.{items_of, values_in}
use Rattle.fj_list.proofs.ReadAgain.{values_again}
use Rattle.fj_list.proofs.write.write_list.Goals as goal

pub returns-clause-again : goal.returns-clause-again
returns-clause-again c = values_again c.args.modes (values_in (items_of c.args.moved.now))
