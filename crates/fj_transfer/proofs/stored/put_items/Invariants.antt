use Rattle.std.proofs.Common.{◌≡◌, ◌++◌, drop}
use Rattle.fj_transfer.specs.Transfer.{bytes_of}
use Rattle.fj_transfer.proofs.stored.put_items.Given as goal

abbrev pub invariant-loop-at : goal.invariant-loop-at
invariant-loop-at l = l.initial.out ++ bytes_of l.cells l.order ≡ l.out ++ bytes_of l.cells (drop l.at-index l.order)
