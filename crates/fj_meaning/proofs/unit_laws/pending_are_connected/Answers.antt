use Rattle.fj_meaning.proofs.Reached.{sound_reached}
use Rattle.fj_meaning.proofs.unit_laws.pending_are_connected.Goals as goal

pub returns : goal.returns
returns c variables sts files = (sound_reached variables sts files).join
