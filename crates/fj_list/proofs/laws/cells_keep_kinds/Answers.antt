use Rattle.fj_list.proofs.Constants.{kinds_kept}
use Rattle.fj_list.proofs.laws.cells_keep_kinds.Goals as goal

pub returns : goal.returns
returns c = kinds_kept
