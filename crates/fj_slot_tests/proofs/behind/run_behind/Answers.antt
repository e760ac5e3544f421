use Rattle.std.proofs.Common.{length, is_some, sym, ap, subst, arith}
use Rattle.fj_slot.specs.Sound.{IsCounted}
use Rattle.fj_slot.proofs.Counted.{counted_fresh}
use Rattle.fj_slot_tests.proofs.behind.run_behind.Goals as goal

pub run_crew-requires-clause-uses : goal.run_crew-requires-clause-uses
run_crew-requires-clause-uses g c κs within = omega (arith, c.in_ok-slots.ensures.count)

pub run_crew-requires-clause-few : goal.run_crew-requires-clause-few
run_crew-requires-clause-few g c κs within = λ at l e.
    let new = c.in_ok-slots.ensures.new at l e in
    omega (arith, ap (λ z. length z.jobs) new, c.new_behind-script.ensures.left)

pub run_crew-requires-clause-owed : goal.run_crew-requires-clause-owed
run_crew-requires-clause-owed g c κs within = λ at l used e.
    let new = c.in_ok-slots.ensures.new at l e in
    omega (arith, ap (λ z. z.told) new, ap (λ z. length z.jobs) new, c.new_behind-script.ensures.owed at)

pub run_crew-requires-clause-home : goal.run_crew-requires-clause-home
run_crew-requires-clause-home g c κs within = λ at l e. ap (λ z. is_some z.home) (c.in_ok-slots.ensures.new at l e)

pub run_crew-requires-clause-counted : goal.run_crew-requires-clause-counted
run_crew-requires-clause-counted g c κs within = λ at l e. subst (IsCounted _) (sym (c.in_ok-slots.ensures.new at l e)) (counted_fresh _ l.start)
