use Rattle.fj_internal.proofs.KeptKinds.{kinds_kept}
use Rattle.fj_internal.proofs.laws.elements_keep_their_kinds.Goals as goal

pub returns : goal.returns
returns c = kinds_kept
