use Rattle.std.proofs.Common.{◌≡◌, ◌≤◌, ◌+◌, ◌++◌}
use Rattle.fj_meaning.specs.State.{elements}
use Rattle.fj_store.specs.Storage.{values_of}
use Rattle.fj_job.specs.Reply.{place_lines}
use Rattle.fj_job.proofs.report.push_places.Given as goal

abbrev pub invariant-adding : goal.invariant-adding
invariant-adding l =
    record {
      fits : l.index + l.left ≤ 4294967296;
      lines : l.text ++ place_lines (values_of l.store) l.variable l.var l.index l.left
          ≡ l.fn.text ++ place_lines (values_of l.fn.store) l.fn.variable l.fn.var 1 (elements l.fn.variable);
    }

abbrev pub decreases-adding : goal.decreases-adding
decreases-adding l = l.left
