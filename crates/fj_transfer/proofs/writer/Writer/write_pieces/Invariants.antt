use Rattle.std.proofs.Common.{◌≡◌, ◌++◌, length}
use Rattle.fj_byterec.specs.Runs.{run_of}
use Rattle.fj_line.specs.Actions.{carried_out}
use Rattle.fj_line.specs.Page.{at_hand, IsIn}
use Rattle.fj_control.specs.Walk.{due}
use Rattle.fj_transfer.specs.Writing.{items_of_writer, actions_left, texts_left}
use Rattle.fj_transfer.proofs.writer.Writer.write_pieces.Given as goal

abbrev pub invariant-loop-cursor : goal.invariant-loop-cursor
invariant-loop-cursor l = record {
  within : IsIn l.self.page l.text;
  same : carried_out (at_hand l.initial.self.page l.initial.text) (actions_left l.initial.self (due l.initial.cursor (length (items_of_writer l.initial.self))))
      ≡ carried_out (at_hand l.self.page l.text) (actions_left l.self (due l.cursor (length (items_of_writer l.self))));
  run : l.initial.run ++ run_of l.recl 32 (texts_left l.initial.text l.initial.self (due l.initial.cursor (length (items_of_writer l.initial.self))))
      ≡ l.run ++ run_of l.recl 32 (texts_left l.text l.self (due l.cursor (length (items_of_writer l.self))));
}

abbrev pub decreases-loop-cursor : goal.decreases-loop-cursor
decreases-loop-cursor l = length (due l.cursor (length (items_of_writer l.self)))
