use Rattle.std.proofs.Common.{◌≡◌, drop}
use Rattle.fj_format.specs.Unfolding.{has_width_zero}
use Rattle.fj_format.proofs.item.+width.Given as goal

-- what holds of the items that are left holds of all of them
abbrev pub invariant-has_width_zero-loop-item : goal.invariant-has_width_zero-loop-item
invariant-has_width_zero-loop-item l = has_width_zero (drop l.item-index l.item-items) ≡ has_width_zero l.item-items
