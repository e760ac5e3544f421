use Rattle.std.proofs.Common.{◌≡◌, ◌≤◌, ◌↔◌}
use Rattle.fj_namelist.specs.Heading.{heading}
use Rattle.fj_namelist.proofs.heading.find_heading.Given as goal

abbrev pub invariant-lines : goal.invariant-lines
invariant-lines g l = record {
  telling : g.R.Records.tells l.fn.records ↔ g.R.Records.tells l.records;
  contents : g.R.Records.tells l.fn.records → heading l.group (g.R.Records.to_come l.records) ≡ heading l.fn.group (g.R.Records.to_come l.fn.records);
  same : g.R.Records.tells l.fn.records → g.R.Records.ending l.records ≡ g.R.Records.ending l.fn.records;
  source : g.R.Records.source l.records ≡ g.R.Records.source l.fn.records;
  later : g.R.Records.count l.fn.records ≤ g.R.Records.count l.records;
}

abbrev pub decreases-lines : goal.decreases-lines
decreases-lines g l = g.R.Records.bound l.records
