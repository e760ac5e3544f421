use Rattle.std.proofs.Common.{◌≡◌}
use Rattle.std.specs.FinSet as set
use Rattle.fj_cases.specs.ListedDisk.{disk_held}
use Rattle.fj_cases.proofs.run.disk_with.Given as goal

-- no file of the disk is out
abbrev pub invariant-loop-file : goal.invariant-loop-file
invariant-loop-file l = (disk_held l.disk).in_use ≡ set.empty
