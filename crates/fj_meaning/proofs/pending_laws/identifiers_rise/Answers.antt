use Rattle.fj_meaning.proofs.Reached.{sound_reached}
use Rattle.fj_meaning.proofs.pending_laws.identifiers_rise.Goals as goal

pub returns : goal.returns
returns c variables sts files = ((sound_reached variables sts files).rise, (sound_reached variables sts files).below)
