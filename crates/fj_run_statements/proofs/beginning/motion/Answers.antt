use Rattle.std.proofs.Common.{sym, subst}
use Rattle.fj_run_statements.specs.Having.{HaveBeside}
use Rattle.fj_run_statements.proofs.beginning.motion.Goals as goal

pub returns-in-Some-clause-files : goal.returns-in-Some-clause-files
returns-in-Some-clause-files g c = λ what have.
    let core = c.args.core.now in
    (have, subst (λ o. HaveBeside o core.names core.units what) (sym c.job_of.ensures.brings) have)
