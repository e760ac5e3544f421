use Rattle.fj_namelist.proofs.Again.{again}
use Rattle.fj_namelist.proofs.write.write_group.Goals as goal

pub returns-clause-again : goal.returns-clause-again
returns-clause-again c = again c.args.modes c.args.group.now c.args.members.now c.args.cells.now
