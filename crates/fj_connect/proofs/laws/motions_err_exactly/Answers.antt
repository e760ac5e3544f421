use Rattle.fj_connect.proofs.ErrorProofs.{errs_exactly}
use Rattle.fj_connect.proofs.laws.motions_err_exactly.Goals as goal

pub returns : goal.returns
returns c = errs_exactly
