use Rattle.std.proofs.Common.{◌≡◌, drop}
use Rattle.fj_format.specs.Unfolding.{pass, has_data}
use Rattle.fj_format.proofs.data.+data.Given as goal

abbrev pub invariant-have_data-loop-item : goal.invariant-have_data-loop-item
invariant-have_data-loop-item l = has_data (pass (drop l.item-index l.items)) ≡ has_data (pass l.items)
