use Rattle.std.proofs.Common.{◌∙◌, ap}
use Rattle.fj_outside.specs.Holdings.{Holdings}
use Rattle.fj_outside.proofs.HoldingLaws.{free_of_empty, in_use_after, in_use_back}
use Rattle.fj_outside_tests.proofs.outside.act.Goals as goal

pub take-requires : goal.take-requires
take-requires g c = λ t. free_of_empty (g.D.Disk.held c.args.disk.now) c.args.name.now (c.requires t)

pub returns-in-Err : goal.returns-in-Err
returns-in-Err g c = λ t. let told = c.in-Err.ensures.telling.1 t in ap (λ (h : Holdings). h.in_use) (c.in-Err.ensures.err told) ∙ c.requires told

pub act_on_new-requires : goal.act_on_new-requires
act_on_new-requires g c = λ t. let told = c.in-Ok-None.ensures.telling.1 t in let none = rw c.in-Ok-None.field-0-is at (c.in-Ok-None.ensures.none told) in ap (λ (h : Holdings). h.in_use) none.1 ∙ c.requires told

pub give-requires : goal.give-requires
give-requires g c = λ t. let some = rw c.in-Ok-Some.field-0-is at (c.in-Ok-Some.ensures.some (c.in-Ok-Some.ensures.telling.1 t)) in in_use_after _ _ _ some.2

pub returns : goal.returns
returns g c = λ t.
    let taken = c.give.ensures.telling.1 t in
    let told = c.in-Ok-Some.ensures.telling.1 taken in
    let some = rw c.in-Ok-Some.field-0-is at (c.in-Ok-Some.ensures.some told) in
    in_use_back _ _ _ _ _ _ some.2 (c.give.ensures.back taken) (free_of_empty (g.D.Disk.held c.args.disk.now) c.args.name.now (c.requires told)) ∙ c.requires told
