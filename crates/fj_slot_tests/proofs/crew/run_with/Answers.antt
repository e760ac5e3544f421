use Rattle.fj_crew.proofs.NewSlots.{new_few, new_owed, new_home, new_two, new_counted}
use Rattle.fj_slot_tests.proofs.crew.run_with.Goals as goal

pub run_crew-requires-clause-uses : goal.run_crew-requires-clause-uses
run_crew-requires-clause-uses g c κs within = new_two c.in_ok-slots.slots.slots c.new_adder-first.result c.new_adder-second.result c.in_ok-slots.ensures

pub run_crew-requires-clause-few : goal.run_crew-requires-clause-few
run_crew-requires-clause-few g c κs within = new_few c.in_ok-slots.slots.slots c.new_adder-first.result c.new_adder-second.result c.in_ok-slots.ensures _ c.new_asker-script.ensures.left

pub run_crew-requires-clause-owed : goal.run_crew-requires-clause-owed
run_crew-requires-clause-owed g c κs within = λ at l used e.
    new_owed c.in_ok-slots.slots.slots c.new_adder-first.result c.new_adder-second.result c.in_ok-slots.ensures _ (c.new_asker-script.ensures.owed at) at l e

pub run_crew-requires-clause-home : goal.run_crew-requires-clause-home
run_crew-requires-clause-home g c κs within = new_home c.in_ok-slots.slots.slots c.new_adder-first.result c.new_adder-second.result c.in_ok-slots.ensures

pub run_crew-requires-clause-counted : goal.run_crew-requires-clause-counted
run_crew-requires-clause-counted g c κs within = new_counted c.in_ok-slots.slots.slots c.new_adder-first.result c.new_adder-second.result c.in_ok-slots.ensures
