use Rattle.fj_outside.proofs.HoldingLaws.{free_of_empty, in_use_after}
use Rattle.fj_record_tests.proofs.records.run_on.Goals as goal

pub take-requires : goal.take-requires
take-requires g c = λ t. free_of_empty (g.D.Disk.held c.args.disk.now) _ (c.requires t)

pub give-requires : goal.give-requires
give-requires g c = λ t. let some = rw c.in-Ok-Some.field-0-is at (c.in-Ok-Some.ensures.some (c.in-Ok-Some.ensures.telling.1 t)) in in_use_after _ _ _ some.2
