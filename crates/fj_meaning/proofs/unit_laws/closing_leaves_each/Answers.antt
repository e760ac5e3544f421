use Rattle.fj_meaning.specs.Reaching.{reached}
use Rattle.fj_meaning.proofs.Reached.{sound_reached}
use Rattle.fj_meaning.proofs.Closing.{each_left, others_stay}
use Rattle.fj_meaning.proofs.unit_laws.closing_leaves_each.Goals as goal

pub returns : goal.returns
returns c variables sts files =
    let s = reached variables sts files in let h = sound_reached variables sts files in (each_left s.units s.files h.ascend h.one, λ name others. others_stay s.units s.files name others)
