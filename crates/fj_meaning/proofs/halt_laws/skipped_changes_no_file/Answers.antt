use Rattle.fj_meaning.specs.Reaching.{reached}
use Rattle.fj_meaning.proofs.Reached.{sound_reached}
use Rattle.fj_meaning.proofs.Skipping.{skipped_same}
use Rattle.fj_meaning.proofs.halt_laws.skipped_changes_no_file.Goals as goal

pub returns : goal.returns
returns c variables sts files control t number u cause is at halt later =
    skipped_same control variables (reached variables sts files) t number u cause (sound_reached variables sts files).ascend at halt later is
