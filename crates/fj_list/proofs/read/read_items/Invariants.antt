use Rattle.std.proofs.Common.{◌≡◌, ◌≤◌, ◌↔◌, true, drop}
use Rattle.fj_list.specs.ListInput.{items_read, condition_of}
use Rattle.fj_moved.specs.Cells.{places_of}
use Rattle.fj_list.specs.Scan.{IsSound, ahead, constant_of}
use Rattle.fj_list.proofs.read.read_items.Given as goal

abbrev pub invariant-loop-at : goal.invariant-loop-at
invariant-loop-at g l = record {
  sound : IsSound l.scan;
  places : places_of l.cells ≡ places_of l.fn.cells;
  telling : g.R.Records.tells l.fn.records ↔ g.R.Records.tells l.records;
  contents : g.R.Records.tells l.fn.records →
      items_read l.comma (condition_of (g.R.Records.ending l.fn.records)) (drop l.at-index l.order) l.cells l.first l.scan.count l.scan.form
      (constant_of l.scan.form l.scan) (ahead l.scan (g.R.Records.to_come l.records))
      ≡ items_read l.comma (condition_of (g.R.Records.ending l.fn.records)) l.order l.fn.cells true l.fn.scan.count l.fn.scan.form
      (constant_of l.fn.scan.form l.fn.scan) (ahead l.fn.scan (g.R.Records.to_come l.fn.records));
  same : g.R.Records.tells l.fn.records → g.R.Records.ending l.records ≡ g.R.Records.ending l.fn.records;
  source : g.R.Records.source l.records ≡ g.R.Records.source l.fn.records;
  later : g.R.Records.count l.fn.records ≤ g.R.Records.count l.records;
}
