use Rattle.std.proofs.Common.{w64}
use Rattle.std.proofs.lemmas.Int.{to_z-of_z}
use Rattle.fj_modes.proofs.FileNameLemmas.{scratch_passed}
use Rattle.fj_modes.proofs.file_name.FileName.scratch.Goals as goal

pub invariant_of-result : goal.invariant_of-result
invariant_of-result c = rw c.in_ok-format.ensures.ok (scratch_passed _ _ c.ranges.unit.sfits (to_z-of_z w64 c.args.unit c.ranges.unit))
