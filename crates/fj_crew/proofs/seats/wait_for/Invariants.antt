use Rattle.fj_crew.specs.Team.{AllServe}
use Rattle.fj_crew.proofs.seats.wait_for.Given as goal

abbrev pub invariant-loop : goal.invariant-loop
invariant-loop g l = AllServe l.queues.items l.own.items
