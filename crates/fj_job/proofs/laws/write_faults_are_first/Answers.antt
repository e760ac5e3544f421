use Rattle.fj_job.proofs.FaultLaws as laws
use Rattle.fj_job.proofs.laws.write_faults_are_first.Goals as goal

pub returns : goal.returns
returns c = laws.faults_are_first
