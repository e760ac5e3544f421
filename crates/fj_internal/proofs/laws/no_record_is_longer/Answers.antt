use Rattle.fj_internal.proofs.Fitting.{no_longer}
use Rattle.fj_internal.proofs.laws.no_record_is_longer.Goals as goal

pub returns : goal.returns
returns c = no_longer
