use Rattle.std.proofs.Common.{◌≡◌, length}
use Rattle.fj_control.specs.Walk.{due}
use Rattle.fj_moved.specs.Cells.{places_of}
use Rattle.fj_connect.specs.Linked.{connection_of}
use Rattle.fj_connect.specs.Positions.{ended}
use Rattle.fj_connect.specs.Spot.{size_ended}
use Rattle.fj_transfer.specs.Input.{carried_out}
use Rattle.fj_transfer.specs.Reader.{progress_of, items_left, parts_left, IsHand, IsIn, IsReady, StaysTheSame}
use Rattle.fj_transfer.proofs.reader.Reader.read_steps.Given as goal

abbrev pub invariant-loop-condition : goal.invariant-loop-condition
invariant-loop-condition g l = record {
  ready : IsReady l.self (length l.cells);
  within : IsIn l.fn.connection.modes.access (size_ended l.fn.connection.spot (g.F.FileStore.size l.fn.connection.file)) l.self.hand l.self.text;
  advance : l.self.advance ≡ l.initial.self.advance;
  places : places_of l.cells ≡ places_of l.initial.cells;
  file : StaysTheSame g.F.FileStore.tells g.F.FileStore.bytes g.F.FileStore.size g.F.FileStore.count l.fn.connection l.connection;
  hand : g.F.FileStore.tells l.fn.connection.file → IsHand (ended (connection_of g.F.FileStore.bytes l.fn.connection)) l.initial.self.hand → IsHand (ended (connection_of g.F.FileStore.bytes l.fn.connection)) l.self.hand;
  done : g.F.FileStore.tells l.fn.connection.file → IsHand (ended (connection_of g.F.FileStore.bytes l.fn.connection)) l.initial.self.hand →
      carried_out l.initial.self.advance (parts_left l.initial.self (due l.initial.cursor (length (items_left l.initial.self)))) (progress_of (ended (connection_of g.F.FileStore.bytes l.fn.connection)) l.initial.self l.initial.cells)
      ≡ carried_out l.self.advance (parts_left l.self (due l.cursor (length (items_left l.self)))) (progress_of (ended (connection_of g.F.FileStore.bytes l.fn.connection)) l.self l.cells);
}

abbrev pub decreases-loop-condition : goal.decreases-loop-condition
decreases-loop-condition g l = length (due l.cursor (length (items_left l.self)))
