use Rattle.std.proofs.Common.{◌≡◌, ◌≤◌, ◌↔◌, ◌∷◌, drop}
use Rattle.fj_list.specs.ListInput.{condition_of}
use Rattle.fj_namelist.proofs.Reading.{Behind}
use Rattle.fj_namelist.proofs.read.read_tokens.Given as goal

abbrev pub invariant-lines : goal.invariant-lines
invariant-lines g l = record {
  telling : g.R.Records.tells l.fn.records ↔ g.R.Records.tells l.records;
  contents : g.R.Records.tells l.fn.records → Behind l.comma (condition_of (g.R.Records.ending l.fn.records)) (drop l.fn.start l.fn.line ∷ g.R.Records.to_come l.fn.records) l.fn.tokens l.state (g.R.Records.to_come l.records) l.tokens;
  same : g.R.Records.tells l.fn.records → g.R.Records.ending l.records ≡ g.R.Records.ending l.fn.records;
  source : g.R.Records.source l.records ≡ g.R.Records.source l.fn.records;
  later : g.R.Records.count l.fn.records ≤ g.R.Records.count l.records;
}

abbrev pub decreases-lines : goal.decreases-lines
decreases-lines g l = g.R.Records.bound l.records
