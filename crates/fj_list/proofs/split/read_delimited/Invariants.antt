use Rattle.std.proofs.Common.{◌≡◌, ◌≤◌, ◌↔◌, false}
use Rattle.fj_list.specs.ListInput.{delimited, with_front}
use Rattle.fj_list.specs.Scan.{IsSound, ahead}
use Rattle.fj_list.proofs.split.read_delimited.Given as goal

abbrev pub invariant-lines : goal.invariant-lines
invariant-lines g l = record {
  sound : IsSound l.scan;
  count : l.scan.count ≡ l.fn.scan.count;
  form : l.scan.form ≡ l.fn.scan.form;
  telling : g.R.Records.tells l.fn.records ↔ g.R.Records.tells l.records;
  contents : g.R.Records.tells l.fn.records → with_front l.scan.characters (delimited l.mark false (ahead l.scan (g.R.Records.to_come l.records)))
      ≡ delimited l.mark false (ahead l.fn.scan (g.R.Records.to_come l.fn.records));
  same : g.R.Records.tells l.fn.records → g.R.Records.ending l.records ≡ g.R.Records.ending l.fn.records;
  source : g.R.Records.source l.records ≡ g.R.Records.source l.fn.records;
  later : g.R.Records.count l.fn.records ≤ g.R.Records.count l.records;
}

abbrev pub decreases-lines : goal.decreases-lines
decreases-lines g l = g.R.Records.bound l.records
