use Rattle.fj_meaning.proofs.Reached.{sound_reached}
use Rattle.fj_meaning.proofs.unit_laws.files_are_apart.Goals as goal

pub returns : goal.returns
returns c variables sts files = ((sound_reached variables sts files).one, (sound_reached variables sts files).away)
