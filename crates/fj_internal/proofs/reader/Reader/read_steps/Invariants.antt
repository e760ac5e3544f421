use Rattle.std.proofs.Common.{◌≡◌, length}
use Rattle.fj_control.specs.Walk.{due}
use Rattle.fj_moved.specs.Cells.{places_of}
use Rattle.fj_internal.specs.Records.{progress_of, records_behind, items_left, parts_left, taken_out, IsReady}
use Rattle.fj_internal.proofs.reader.Reader.read_steps.Given as goal

abbrev pub invariant-loop-condition : goal.invariant-loop-condition
invariant-loop-condition l = record {
  ready : IsReady l.self (length l.cells);
  advance : l.self.advance ≡ l.initial.self.advance;
  places : places_of l.cells ≡ places_of l.initial.cells;
  done : taken_out l.initial.self.advance (parts_left l.initial.self (due l.initial.cursor (length (items_left l.initial.self)))) (records_behind l.initial.self) (progress_of l.initial.self l.initial.cells)
      ≡ taken_out l.self.advance (parts_left l.self (due l.cursor (length (items_left l.self)))) (records_behind l.self) (progress_of l.self l.cells);
}

abbrev pub decreases-loop-condition : goal.decreases-loop-condition
decreases-loop-condition l = length (due l.cursor (length (items_left l.self)))
