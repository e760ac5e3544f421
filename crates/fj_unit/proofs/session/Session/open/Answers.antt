use Rattle.std.proofs.Common.{ap, ◌∙◌}
use Rattle.fj_unit.specs.Program.{outcome_of, Program}
use Rattle.fj_unit.proofs.Kept.{nothing_kept, opened_view}
use Rattle.fj_unit.proofs.session.Session.open.Goals as goal

pub open-requires : goal.open-requires
open-requires c = record {
  none = (nothing_kept outcome_of c.self.inside.kept.items c.self.inside.unit.pending (ap (λ (p : Program). p.unit.pending) c.self.view_is ∙ c.requires)).1;
  modes = c.self.invariant;
}

pub returns-clause-opened : goal.returns-clause-opened
returns-clause-opened c =
    let none = nothing_kept outcome_of c.self.inside.kept.items c.self.inside.unit.pending (ap (λ (p : Program). p.unit.pending) c.self.view_is ∙ c.requires) in
    opened_view _ c.open.result c.self.inside.kept.items c.self.inside.unit c.open.new.unit c.args.self.now.unit none.0 (ap (λ (p : Program). p.unit) c.self.view_is) c.open.ensures.opened
