use Rattle.std.proofs.Common.{◌≡◌, length}
use Rattle.fj_line.specs.Actions.{carried_out}
use Rattle.fj_line.specs.Page.{at_hand, IsAtEnd, Keeps}
use Rattle.fj_moved.specs.Items.{items_left, values_in}
use Rattle.fj_list.specs.Listing.{texts_behind}
use Rattle.fj_list.proofs.write.put_rest.Given as goal

abbrev pub invariant-loop-item : goal.invariant-loop-item
invariant-loop-item l = record {
  end : IsAtEnd l.page l.text;
  kept : Keeps l.initial.page l.initial.text l.page l.text;
  same : carried_out (at_hand l.initial.page l.initial.text) (texts_behind l.modes l.initial.page.at l.initial.characters (values_in (items_left l.initial.items)))
      ≡ carried_out (at_hand l.page l.text) (texts_behind l.modes l.page.at l.characters (values_in (items_left l.items)));
}

abbrev pub decreases-loop-item : goal.decreases-loop-item
decreases-loop-item l = length (items_left l.items)
