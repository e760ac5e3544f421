use Rattle.std.proofs.Common.{◌≡◌, ◌≤◌, ◌++◌, ◌+◌, ◌-◌, length, ◌↔◌}
use Rattle.fj_job.specs.declared.streams.TheConstants.{MAX_TEXT}
use Rattle.fj_job.proofs.streams.read_text.Given as goal

abbrev pub invariant-reading : goal.invariant-reading
invariant-reading g l =
    let tells = g.R.Source.tells in
    let left = g.R.Source.left in
    record {
      telling : tells l.fn.source ↔ tells l.source;
      text : tells l.fn.source → left l.fn.source ≡ l.text.items ++ left l.source;
      later : g.R.Source.count l.fn.source ≤ g.R.Source.count l.source;
    }

abbrev pub decreases-reading : goal.decreases-reading
decreases-reading g l = MAX_TEXT + 1 - length l.text.items
