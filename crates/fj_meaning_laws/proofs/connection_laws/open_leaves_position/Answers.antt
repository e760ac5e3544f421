use Rattle.fj_meaning_laws.proofs.Connected.{open_leaves}
use Rattle.fj_meaning_laws.proofs.connection_laws.open_leaves_position.Goals as goal

pub returns : goal.returns
returns c control variables s ref spec status n u is at reopens = open_leaves control variables s ref spec status n u is at reopens
