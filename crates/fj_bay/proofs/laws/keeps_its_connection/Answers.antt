use Rattle.fj_bay.proofs.BayProofs.{keeps_its_connection}
use Rattle.fj_bay.proofs.laws.keeps_its_connection.Goals as goal

pub returns : goal.returns
returns c = keeps_its_connection
