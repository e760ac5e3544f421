use Rattle.std.proofs.Common.{◌∙◌, ap}
use Rattle.fj_outside.specs.Holdings.{Holdings}
use Rattle.fj_outside.proofs.HoldingLaws.{free_of_empty, in_use_without}
use Rattle.fj_outside_tests.proofs.outside.remove.Goals as goal

pub remove-requires-clause-free : goal.remove-requires-clause-free
remove-requires-clause-free g c = λ t.
    let told = c.in-Ok-true.ensures.telling.1 t in
    free_of_empty (g.D.Disk.held c.exists.new.self) c.args.name.now (ap (λ (h : Holdings). h.in_use) (c.in-Ok-true.ensures.same told) ∙ c.requires told)

pub returns-in-Ok : goal.returns-in-Ok
returns-in-Ok g c = λ t.
    let there = c.in-Ok.ensures.telling.1 t in
    let told = c.in-Ok-true.ensures.telling.1 there in
    in_use_without _ _ c.args.name.now (c.in-Ok.ensures.ok there) ∙ ap (λ (h : Holdings). h.in_use) (c.in-Ok-true.ensures.same told) ∙ c.requires told
