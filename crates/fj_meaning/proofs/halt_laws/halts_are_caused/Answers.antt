use Rattle.fj_meaning.proofs.Reached.{sound_reached}
use Rattle.fj_meaning.proofs.halt_laws.halts_are_caused.Goals as goal

pub returns : goal.returns
returns c variables sts files = (sound_reached variables sts files).halts
