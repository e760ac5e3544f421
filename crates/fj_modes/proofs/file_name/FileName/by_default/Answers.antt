use Rattle.fj_modes.proofs.FileNameLemmas.{default_of_disk}
use Rattle.fj_modes.proofs.file_name.FileName.by_default.Goals as goal

pub invariant_of-result : goal.invariant_of-result
invariant_of-result c = rw c.in_ok-format.ensures.ok (default_of_disk _ c.ranges.unit.fits)
