use Rattle.fj_run_statements.proofs.OpeningLemmas.{attaches_is}
use Rattle.fj_run_statements.proofs.opening.attaching.Goals as goal

pub returns-clause-doing : goal.returns-clause-doing
returns-clause-doing g c = λ tells number variables st core files opened are is_opened is_left.
    attaches_is g.F.FileStore.told g.F.FileStore.bytes variables st core files c.args.units number c.args.slot c.args.connection opened
    ((g.met.F.FileStore.decided c.args.connection.file).1 tells) are is_opened is_left
