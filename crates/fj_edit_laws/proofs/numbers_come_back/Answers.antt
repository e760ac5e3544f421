use Rattle.fj_edit_laws.proofs.ComingBack.{numbers_back}
use Rattle.fj_edit_laws.proofs.numbers_come_back.Goals as goal

pub returns : goal.returns
returns c = numbers_back
