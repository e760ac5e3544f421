use Rattle.fj_meaning.proofs.Reached.{sound_reached}
use Rattle.fj_meaning.proofs.halt_laws.skipped_tell_the_cause.Goals as goal

pub returns : goal.returns
returns c variables sts files = (sound_reached variables sts files).skip
