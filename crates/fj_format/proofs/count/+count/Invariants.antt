use Rattle.std.proofs.Common.{◌≡◌, min, length, take}
use Rattle.fj_format.specs.Unfolding.{pass}
use Rattle.fj_format.proofs.count.+count.Given as goal

abbrev pub invariant-pass_count-loop-item : goal.invariant-pass_count-loop-item
invariant-pass_count-loop-item l = l.count ≡ min (length (pass (take l.item-index l.item-items))) 1000001
