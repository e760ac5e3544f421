use Rattle.fj_meaning.proofs.Reached.{sound_reached}
use Rattle.fj_meaning.proofs.pending_laws.places_are_apart.Goals as goal

pub returns : goal.returns
returns c variables sts files = (sound_reached variables sts files).apart
