use Rattle.std.proofs.Common.{◌≡◌, ◌<◌, ℕ, length, get_or}
use Rattle.fj_run_pending.specs.declared.held.Held.{Held}
use Rattle.fj_run_pending.proofs.pendings.are_lower.Given as goal

abbrev pub invariant-loop-at : goal.invariant-loop-at
invariant-loop-at l = (k : ℕ) (h : Held) → k < l.at → k < length l.helds.items → (get_or l.helds.items k h).slot ≡ l.slot → (get_or l.helds.items k h).number < l.number
