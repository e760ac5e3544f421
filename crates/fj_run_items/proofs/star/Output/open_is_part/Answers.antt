use Rattle.fj_run_items.proofs.Prints.{kept_low}
use Rattle.fj_run_items.proofs.star.Output.open_is_part.Goals as goal

pub returns : goal.returns
returns c = kept_low c.self.inside c.args.self.now c.self.view_is
