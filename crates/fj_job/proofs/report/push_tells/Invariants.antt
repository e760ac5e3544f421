use Rattle.std.proofs.Common.{◌≡◌, ◌++◌, drop}
use Rattle.std.specs.List.{flat_map}
use Rattle.fj_run_pending.specs.Plain.{tells_of}
use Rattle.fj_job.specs.Reply.{told_line}
use Rattle.fj_job.proofs.report.push_tells.Given as goal

abbrev pub invariant-adding : goal.invariant-adding
invariant-adding l = l.text ++ flat_map told_line (tells_of (drop l.tell-index l.tells)) ≡ l.fn.text ++ flat_map told_line (tells_of l.fn.tells)
