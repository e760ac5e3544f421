use Rattle.std.proofs.Common.{◌≡◌, ◌+◌, drop}
use Rattle.fj_transfer.specs.Transfer.{widths}
use Rattle.fj_transfer.proofs.stored.needed.Given as goal

abbrev pub invariant-loop-at : goal.invariant-loop-at
invariant-loop-at l = widths l.cells l.order + l.left ≡ l.most + widths l.cells (drop l.at-index l.order)
