use Rattle.fj_outside.specs.Looks.{AreInVain}
use Rattle.fj_outside.proofs.gate.opens_within.Given as goal

abbrev pub invariant-loop : goal.invariant-loop
invariant-loop g l = record {
  callable : goal.L-IsAlwaysCallable g l.look;
  looked : AreInVain (λ before answer after. goal.L-step g before answer after) l.fn.look l.counter l.look;
}
