use Rattle.std.proofs.Common.{◌≡◌, ◌-◌, ◌≤◌, ◌++◌, List, length, replicate}
use Rattle.fj_format.specs.Unfolding as step
use Rattle.fj_line.specs.Actions.{carried_out}
use Rattle.fj_line.specs.Page.{at_hand, IsIn, Keeps}
use Rattle.fj_control.specs.Steps.{Given, gives}
use Rattle.fj_transfer.specs.Writing.{items_of_writer, actions_left, texts_left}
use Rattle.fj_transfer.proofs.writer.Writer.put_items.Given as goal

abbrev pub invariant-loop-left : goal.invariant-loop-left
invariant-loop-left l = record {
  within : IsIn l.self.page l.text;
  kept : Keeps l.initial.self.page l.initial.text l.self.page l.text;
  few : l.left ≤ l.count;
  items : length (items_of_writer l.initial.self) - l.count ≡ length (items_of_writer l.self) - l.left;
  same : (more : List Given) → carried_out (at_hand l.initial.self.page l.initial.text) (actions_left l.initial.self (replicate l.count (gives (step.edit l.edit)) ++ more))
      ≡ carried_out (at_hand l.self.page l.text) (actions_left l.self (replicate l.left (gives (step.edit l.edit)) ++ more));
  texts : (more : List Given) → texts_left l.initial.text l.initial.self (replicate l.count (gives (step.edit l.edit)) ++ more)
      ≡ texts_left l.text l.self (replicate l.left (gives (step.edit l.edit)) ++ more);
}

abbrev pub decreases-loop-left : goal.decreases-loop-left
decreases-loop-left l = l.left
