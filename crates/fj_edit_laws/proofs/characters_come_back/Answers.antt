use Rattle.fj_edit_laws.proofs.ComingBack.{characters_back}
use Rattle.fj_edit_laws.proofs.characters_come_back.Goals as goal

pub returns : goal.returns
returns c = characters_back
