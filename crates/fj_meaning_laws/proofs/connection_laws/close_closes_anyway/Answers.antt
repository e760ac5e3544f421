use Rattle.fj_meaning_laws.proofs.Connected.{close_closes}
use Rattle.fj_meaning_laws.proofs.connection_laws.close_closes_anyway.Goals as goal

pub returns : goal.returns
returns c variables s ref keep status n is = close_closes variables s ref keep status n is
