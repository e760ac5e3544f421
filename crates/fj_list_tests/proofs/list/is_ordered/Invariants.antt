use Rattle.std.proofs.Common.{◌<◌, length, take, All}
use Rattle.fj_list_tests.proofs.list.is_ordered.Given as goal

abbrev pub invariant-loop-at : goal.invariant-loop-at
invariant-loop-at l = All (λ at. at < length l.moved.cells) (take l.at-index l.moved.order)
