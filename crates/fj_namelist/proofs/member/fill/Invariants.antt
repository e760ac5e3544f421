use Rattle.std.proofs.Common.{◌≡◌, ℕ, ◌-◌, List, length}
use Rattle.fj_value.specs.declared.value.Cell.{Cell}
use Rattle.fj_moved.specs.Cells.{places_of}
use Rattle.fj_namelist.specs.GroupInput.{Result, filled}
use Rattle.fj_namelist.proofs.member.fill.Given as goal

abbrev pub invariant-loop-k : goal.invariant-loop-k
invariant-loop-k l = record {
  filled : (next : ℕ → List Cell → Result) → filled l.e l.form l.chars (l.count - l.k) l.at l.cells next ≡ filled l.e l.form l.chars l.count l.fn.i l.fn.cells next;
  places : places_of l.cells ≡ places_of l.fn.cells;
  count : length l.cells ≡ length l.fn.cells;
}
