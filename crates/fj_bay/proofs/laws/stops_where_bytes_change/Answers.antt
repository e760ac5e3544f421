use Rattle.fj_bay.proofs.BayProofs.{stops_where_bytes_change}
use Rattle.fj_bay.proofs.laws.stops_where_bytes_change.Goals as goal

pub returns : goal.returns
returns c = stops_where_bytes_change
