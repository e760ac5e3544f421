use Rattle.std.proofs.Common.{◌≡◌, ◌≤◌, ◌↔◌}
use Rattle.fj_list.specs.Stream.{skipped}
use Rattle.fj_list.specs.Scan.{IsSound, ahead}
use Rattle.fj_list.proofs.split.skip.Given as goal

abbrev pub invariant-lines : goal.invariant-lines
invariant-lines g l = record {
  sound : IsSound l.scan;
  telling : g.R.Records.tells l.fn.records ↔ g.R.Records.tells l.records;
  contents : g.R.Records.tells l.fn.records → skipped (ahead l.scan (g.R.Records.to_come l.records)) ≡ skipped (ahead l.fn.scan (g.R.Records.to_come l.fn.records));
  same : g.R.Records.tells l.fn.records → g.R.Records.ending l.records ≡ g.R.Records.ending l.fn.records;
  source : g.R.Records.source l.records ≡ g.R.Records.source l.fn.records;
  later : g.R.Records.count l.fn.records ≤ g.R.Records.count l.records;
}

abbrev pub decreases-lines : goal.decreases-lines
decreases-lines g l = g.R.Records.bound l.records
