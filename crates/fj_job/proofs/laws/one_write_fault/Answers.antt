use Rattle.fj_job.proofs.FaultLaws as laws
use Rattle.fj_job.proofs.laws.one_write_fault.Goals as goal

pub returns : goal.returns
returns c = laws.one_fault
