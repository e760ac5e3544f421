use Rattle.std.proofs.Common.{slice_get, sym, ap, ◌∙◌, map}
use Rattle.fj_unit.specs.Unit.{fresh, given, told}
use Rattle.fj_unit.specs.Unit as unit
use Rattle.fj_unit.specs.Held.{task, state, Held}
use Rattle.fj_unit.proofs.Steps.{told_held, told_view, told_outcome}
use Rattle.fj_unit.proofs.unit.Unit.tell.Goals as goal

pub invariant_of-self : goal.invariant_of-self
invariant_of-self c = told_held c.self.inside.slot c.tell.new.self c.self.invariant c.tell.ensures.after c.tell.ensures.sound

pub returns-clause-some : goal.returns-clause-some
returns-clause-some c = told_view c.self.inside.slot c.tell.new.self c.self.invariant c.tell.ensures.after ∙ ap told c.self.view_is

pub returns-clause-outcome : goal.returns-clause-outcome
returns-clause-outcome c =
    let l : Held = c.self.inside.slot in
    ap (λ (u : unit.Unit). slice_get u.pending 0) (sym c.self.view_is)
    ∙ told_outcome l c.in-Done.job c.in-Done.answer (c.in-Done.ensures.outcome (state l.start) (map task l.jobs) c.self.invariant)
