use Rattle.fj_meaning.proofs.AtOnce.{as_at_once}
use Rattle.fj_meaning.proofs.unit_laws.later_is_as_at_once.Goals as goal

pub returns : goal.returns
returns c control variables s t number u is at allowed halt = as_at_once control variables s t number u is at allowed halt
