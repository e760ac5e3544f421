use Rattle.std.proofs.Common.{◌≡◌, ◌≤◌, Some, drop, filter, length, map}
use Rattle.std.specs.Option.{option_map}
use Rattle.fj_meaning_looks.specs.Inquiring.{is_asked, question_of}
use Rattle.fj_run_pending.specs.Plain.{pending_of}
use Rattle.fj_run_script.specs.Asking.{inquired_of}
use Rattle.fj_run_script.proofs.looking.asked_among.Given as goal

abbrev pub invariant-loop-at : goal.invariant-loop-at
invariant-loop-at l = record {
  within : l.at ≤ length l.helds.items;
  found : option_map inquired_of l.found ≡ question_of (filter (is_asked (Some l.unit) l.id) (map pending_of (drop l.at l.helds.items)));
}

abbrev pub decreases-loop-at : goal.decreases-loop-at
decreases-loop-at l = l.at
