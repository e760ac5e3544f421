use Rattle.fj_modes.specs.Modes as mode
use Rattle.fj_run_units.specs.Units.{connected_of}
use Rattle.fj_run_statements.specs.State.{core_of}
use Rattle.fj_run_statements.proofs.OpeningLemmas.{changes_is}
use Rattle.fj_run_statements.proofs.opening.change.Goals as goal

pub returns-in-Ok-clause-doing : goal.returns-in-Ok-clause-doing
returns-in-Ok-clause-doing g c = λ variables st files core found.
    changes_is g.F.FileStore.told g.F.FileStore.bytes variables st (core_of files core) (connected_of c.args.unit.now) c.args.number c.change.new.self (mode.changed c.args.unit.now.modes c.args.spec.now) found c.in-Ok.ensures.ok
