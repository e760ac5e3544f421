use Rattle.std.proofs.Common.{◌∙◌}
use Rattle.fj_outside.proofs.HoldingLaws.{free_of_empty, in_use_after, in_use_back, in_use_refused}
use Rattle.fj_outside_tests.proofs.outside.act_on_new.Goals as goal

pub create-requires : goal.create-requires
create-requires g c = λ t. free_of_empty (g.D.Disk.held c.args.disk.now) c.args.name.now (c.requires t)

pub returns-in-Err : goal.returns-in-Err
returns-in-Err g c = λ t. let told = c.in-Err.ensures.telling.1 t in in_use_refused _ _ c.args.name.now (c.in-Err.ensures.err told) ∙ c.requires told

pub give-requires : goal.give-requires
give-requires g c = λ t. in_use_after _ _ _ (c.in-Ok.ensures.ok (c.in-Ok.ensures.telling.1 t)).2

pub returns : goal.returns
returns g c = λ t.
    let made = c.give.ensures.telling.1 t in
    let told = c.in-Ok.ensures.telling.1 made in
    in_use_back _ _ _ _ _ _ (c.in-Ok.ensures.ok told).2 (c.give.ensures.back made) (free_of_empty (g.D.Disk.held c.args.disk.now) c.args.name.now (c.requires told)) ∙ c.requires told
