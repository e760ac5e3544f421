use Rattle.std.proofs.Common.{◌≡◌, drop}
use Rattle.fj_line.specs.Actions.{carried_out}
use Rattle.fj_line.specs.Page.{at_hand, IsIn, Keeps}
use Rattle.fj_namelist.specs.GroupText.{values_in, continued}
use Rattle.fj_transfer.specs.Printing.{record_actions}
use Rattle.fj_transfer.proofs.group.put_rest.Given as goal

abbrev pub invariant-loop-cell : goal.invariant-loop-cell
invariant-loop-cell l = record {
  within : IsIn l.page l.text;
  kept : Keeps l.fn.page l.fn.text l.page l.text;
  same : carried_out (at_hand l.fn.page l.fn.text) (record_actions (continued l.modes l.fn.line (values_in l.fn.cells)))
      ≡ carried_out (at_hand l.page l.text) (record_actions (continued l.modes l.line (values_in (drop l.cell-index l.cells))));
}
