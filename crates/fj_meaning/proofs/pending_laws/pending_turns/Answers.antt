use Rattle.fj_meaning.proofs.Reached.{sound_reached}
use Rattle.fj_meaning.proofs.Turning.{turns}
use Rattle.fj_meaning.specs.Reaching.{reached}
use Rattle.fj_meaning.proofs.pending_laws.pending_turns.Goals as goal

pub returns : goal.returns
returns c variables sts files st allowed = turns variables st (reached variables sts files) (sound_reached variables sts files).rise allowed
