use Rattle.fj_connect.proofs.AheadProofs.{ended_sizes}
use Rattle.fj_connect.proofs.laws.ended_files_have_their_length.Goals as goal

pub returns : goal.returns
returns c = ended_sizes
