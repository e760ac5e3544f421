use Rattle.std.proofs.Common.{◌≡◌, length}
use Rattle.fj_moved.specs.Cells.{places_of}
use Rattle.fj_moved.proofs.LoadLemmas.{undefined_up_to}
use Rattle.fj_moved.proofs.load.undefine.Given as goal

abbrev pub invariant-loop-at : goal.invariant-loop-at
invariant-loop-at l = record {
  values : l.cells ≡ undefined_up_to l.at l.initial.cells;
  places : places_of l.cells ≡ places_of l.initial.cells;
  count : length l.cells ≡ length l.initial.cells;
}
