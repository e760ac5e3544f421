use Rattle.fj_connect.proofs.TransferProofs.{puts}
use Rattle.fj_connect.proofs.laws.output_is_put_at_the_position.Goals as goal

pub returns : goal.returns
returns c = puts
