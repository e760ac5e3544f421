use Rattle.fj_unfrec.proofs.FrameLemmas.{frame_found, frame_is, before_found, before_is}
use Rattle.fj_unfrec.proofs.laws.frames_are_found.Goals as goal

pub returns : goal.returns
returns c = (
  λ bytes body rest. (frame_is bytes body rest, frame_found bytes body rest),
  λ bytes front body. (before_is bytes front body, before_found bytes front body),
)
