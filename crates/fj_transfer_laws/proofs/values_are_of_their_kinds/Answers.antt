use Rattle.fj_transfer_laws.proofs.KindsKept.{values_kept}
use Rattle.fj_transfer_laws.proofs.values_are_of_their_kinds.Goals as goal

pub returns : goal.returns
returns c = values_kept
