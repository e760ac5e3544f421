use Rattle.fj_meaning_laws.proofs.Connected.{motions_move}
use Rattle.fj_meaning_laws.proofs.connection_laws.motions_move_units.Goals as goal

pub returns : goal.returns
returns c control variables s how ref status n is = motions_move control variables s how ref status n is
