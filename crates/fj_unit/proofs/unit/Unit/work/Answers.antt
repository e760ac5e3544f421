use Rattle.std.proofs.Common.{◌∙◌}
use Rattle.fj_unit.proofs.Steps.{worked_held, worked_view}
use Rattle.fj_unit.proofs.unit.Unit.work.Goals as goal

pub invariant_of-self-2 : goal.invariant_of-self-2
invariant_of-self-2 c = worked_held c.self.inside.slot c.begin.new.self c.end.new.self c.in-Some.out.number c.faults-before.result
    c.in-Some.out.engine c.perform-got.new.self c.in-Some.out.job c.perform-got.new.job c.perform-got.result c.self.invariant
    c.in-Some.ensures.sound c.in-Some.ensures.some c.in-Some.ensures.due c.in-Some.ensures.number c.perform-got.ensures.serves
    c.faults-before.ensures c.end.ensures.sound c.end.ensures.ok c.end.ensures.err

pub returns : goal.returns
returns c = worked_view c.self.inside.slot c.begin.new.self c.end.new.self c.in-Some.out.number c.faults-before.result
    c.in-Some.out.engine c.perform-got.new.self c.in-Some.out.job c.perform-got.new.job c.perform-got.result c.self.invariant
    c.in-Some.ensures.sound c.in-Some.ensures.some c.in-Some.ensures.due c.in-Some.ensures.number c.perform-got.ensures.serves
    c.faults-before.ensures c.end.ensures.sound c.end.ensures.ok c.end.ensures.err
    ∙ c.self.view_is
