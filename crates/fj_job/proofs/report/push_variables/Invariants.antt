use Rattle.std.proofs.Common.{◌≡◌, ◌≤◌, ◌-◌, ◌++◌, length, drop}
use Rattle.fj_store.specs.Storage.{values_of}
use Rattle.fj_job.specs.Reply.{variable_lines, lines_from}
use Rattle.fj_job.proofs.report.push_variables.Given as goal

abbrev pub invariant-adding : goal.invariant-adding
invariant-adding l =
    record {
      within : l.at ≤ length l.variables;
      lines : l.text ++ lines_from (values_of l.store) l.at (drop l.at l.variables) ≡ l.fn.text ++ variable_lines l.fn.variables (values_of l.fn.store);
    }

abbrev pub decreases-adding : goal.decreases-adding
decreases-adding l = length l.variables - l.at
