use Rattle.fj_transfer.proofs.TransferProofs.{errors_leave}
use Rattle.fj_transfer.proofs.laws.errors_leave_the_connection.Goals as goal

pub returns : goal.returns
returns c = errors_leave
