use Rattle.std.proofs.Common.{arith, ap, length}
use Rattle.fj_slot_tests.proofs.world.in_some_order.Goals as goal

pub new-requires-clause-few : goal.new-requires-clause-few
new-requires-clause-few c = λ at l e.
    let new = c.in_ok-slots.ensures.new at l e in
    omega (arith, ap length new.0, c.new_asker.ensures.left)
