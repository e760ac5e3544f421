use Rattle.fj_run_end.proofs.Desking.{all_of_desks}
use Rattle.fj_run_end.proofs.remains.what_remains.Goals as goal

pub returns-clause-desks : goal.returns-clause-desks
returns-clause-desks g c = λ desks holds.
    all_of_desks g.F.FileStore.told g.F.FileStore.bytes g.F.FileStore.count c.args.slots c.take_all.new.all.items desks c.take_all.ensures.each holds
