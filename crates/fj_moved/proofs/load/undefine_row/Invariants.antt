use Rattle.std.proofs.Common.{◌≡◌}
use Rattle.fj_moved.proofs.LoadLemmas.{none_up_to}
use Rattle.fj_moved.proofs.load.undefine_row.Given as goal

abbrev pub invariant-loop-at : goal.invariant-loop-at
invariant-loop-at l = l.values ≡ none_up_to l.at l.initial.values
