use Rattle.std.proofs.Common.{◌≡◌, ◌++◌, ◌≤◌, ◌-◌, length, drop}
use Rattle.fj_namelist.specs.GroupText.{text_behind, values_in}
use Rattle.fj_namelist.proofs.write.push_rest.Given as goal

abbrev pub invariant-loop-cell : goal.invariant-loop-cell
invariant-loop-cell l = record {
  within : l.from ≤ length l.out;
  text : l.out ++ text_behind l.modes (length l.out - l.from) (values_in (drop l.cell-index l.cells)) ≡ l.fn.out ++ text_behind l.modes (length l.fn.out - l.fn.start) (values_in l.fn.cells);
}
