use Rattle.std.proofs.Common.{arith, ap, length}
use Rattle.fj_slot_tests.proofs.world.alone.Goals as goal

pub run_alone-requires-clause-few : goal.run_alone-requires-clause-few
run_alone-requires-clause-few c = λ at l e.
    let new = c.in_ok-slots.ensures.new at l e in
    omega (arith, ap length new.0, c.new_asker-script.ensures.left)

pub run_alone-requires-clause-owed : goal.run_alone-requires-clause-owed
run_alone-requires-clause-owed c = λ at l used e.
    let new = c.in_ok-slots.ensures.new at l e in
    omega (arith, new.1, ap length new.0, c.new_asker-script.ensures.owed at)
