use Rattle.std.proofs.Common.{◌≡◌, ◌<◌, ℕ, length, get_or, false}
use Rattle.fj_run_pending.specs.declared.held.Held.{Held}
use Rattle.fj_run_pending.specs.Answers.{is_at}
use Rattle.fj_run_pending.proofs.answers.look_for.Given as goal

abbrev pub invariant-loop-at : goal.invariant-loop-at
invariant-loop-at l = (k : ℕ) (h : Held) → k < l.at → k < length l.helds.items → is_at l.slot l.number (get_or l.helds.items k h) ≡ false
