use Rattle.std.proofs.Common.{◌≡◌, drop}
use Rattle.fj_line.specs.Actions.{carried_out}
use Rattle.fj_line.specs.Page.{at_hand, IsIn, Keeps}
use Rattle.fj_namelist.specs.GroupText.{members_written}
use Rattle.fj_transfer.specs.Printing.{record_actions}
use Rattle.fj_transfer.proofs.group.put_members.Given as goal

abbrev pub invariant-loop-member : goal.invariant-loop-member
invariant-loop-member l = record {
  within : IsIn l.page l.text;
  kept : Keeps l.fn.page l.fn.text l.page l.text;
  same : carried_out (at_hand l.fn.page l.fn.text) (record_actions (members_written l.modes l.fn.members l.cells))
      ≡ carried_out (at_hand l.page l.text) (record_actions (members_written l.modes (drop l.member-index l.members) l.cells));
}
