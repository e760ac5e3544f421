use Rattle.std.proofs.Common.{◌≡◌, ◌≤◌, ◌+◌, drop}
use Rattle.fj_run_pending.specs.Plain.{tells_of}
use Rattle.fj_job.specs.Reply.{conditions_in}
use Rattle.fj_job.proofs.made.conditions.Given as goal

abbrev pub invariant-counting : goal.invariant-counting
invariant-counting l =
    record {
      few : l.count ≤ l.tell-index;
      value : l.count + conditions_in (tells_of (drop l.tell-index l.tells)) ≡ conditions_in (tells_of l.fn.tells);
    }
