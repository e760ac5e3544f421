use Rattle.std.proofs.Common.{◌≡◌, take}
use Rattle.std.specs.List.{list_any}
use Rattle.fj_moved.proofs.elements.any_undefined.Given as goal

abbrev pub invariant-loop-item : goal.invariant-loop-item
invariant-loop-item g l = l.any ≡ list_any g.T.Element.undefined (take l.item-index l.items)
