use Rattle.fj_job.proofs.Calling.{leave_files}
use Rattle.fj_job.proofs.laws.others_leave_files.Goals as goal

pub returns : goal.returns
returns c = leave_files
