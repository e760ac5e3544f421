use Rattle.fj_meaning.proofs.Reached.{sound_reached}
use Rattle.fj_meaning.proofs.Halting.{halt_changes}
use Rattle.fj_meaning.specs.Reaching.{reached}
use Rattle.fj_meaning.proofs.halt_laws.halts_begin_and_end.Goals as goal

pub returns : goal.returns
returns c variables sts files st number u after at then_at = halt_changes variables st (reached variables sts files) number u after (sound_reached variables sts files) at then_at
