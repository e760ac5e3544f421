use Rattle.fj_meaning_laws.proofs.Connected.{close_leaves}
use Rattle.fj_meaning_laws.proofs.connection_laws.close_leaves_file.Goals as goal

pub returns : goal.returns
returns c control variables s ref keep status n is = close_leaves control variables s ref keep status n is
