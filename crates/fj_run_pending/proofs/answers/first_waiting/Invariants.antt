use Rattle.fj_run_pending.specs.Answers.{NoneWaits}
use Rattle.fj_run_pending.proofs.answers.first_waiting.Given as goal

abbrev pub invariant-loop-at : goal.invariant-loop-at
invariant-loop-at l = NoneWaits l.slot l.helds.items l.at
