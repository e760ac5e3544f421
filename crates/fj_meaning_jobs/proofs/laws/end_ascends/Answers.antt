use Rattle.std.proofs.Common.{ℕ, ◌<◌, None}
use Rattle.fj_bay.specs.Jobs.{Job, detach}
use Rattle.fj_meaning.specs.State.{Unit}
use Rattle.fj_meaning.proofs.Lists.{pairs_map}
use Rattle.fj_meaning.proofs.Reached.{sound_reached}
use Rattle.fj_meaning.specs.Reaching.{reached}
use Rattle.fj_meaning_jobs.proofs.laws.end_ascends.Goals as goal

pub returns : goal.returns
returns c variables sts files control line =
    let closing = pairs_map (λ (a b : ℕ × Job). a.0 < b.0) (λ (u : Unit). (u.number, detach None)) (reached variables sts files).units (sound_reached variables sts files).ascend in
    (closing, closing)
