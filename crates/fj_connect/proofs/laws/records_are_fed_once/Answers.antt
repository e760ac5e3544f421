use Rattle.fj_connect.proofs.TransferProofs.{feeds}
use Rattle.fj_connect.proofs.laws.records_are_fed_once.Goals as goal

pub returns : goal.returns
returns c = feeds
