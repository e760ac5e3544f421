use Rattle.std.proofs.Common.{◌≡◌, ℕ, ◌<◌, ◌≤◌, ◌-◌, length, get_or}
use Rattle.fj_edit_in.proofs.trim.skip_blanks.Given as goal

abbrev pub invariant-loop-start : goal.invariant-loop-start
invariant-loop-start l = record {
  within : l.start ≤ length l.chars;
  blanks : (k : ℕ) → k < l.start → get_or l.chars k 0 ≡ 32;
}

abbrev pub decreases-loop-start : goal.decreases-loop-start
decreases-loop-start l = length l.chars - l.start
