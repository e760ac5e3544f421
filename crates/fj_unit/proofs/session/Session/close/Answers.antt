use Rattle.std.proofs.Common.{ap, ◌∙◌}
use Rattle.fj_unit.specs.Program.{outcome_of, Program}
use Rattle.fj_unit.proofs.Kept.{nothing_kept}
use Rattle.fj_unit.proofs.session.Session.close.Goals as goal

pub close-requires : goal.close-requires
close-requires c = record {
  none = (nothing_kept outcome_of c.self.inside.kept.items c.self.inside.unit.pending (ap (λ (p : Program). p.unit.pending) c.self.view_is ∙ c.requires)).1;
  modes = c.self.invariant;
}
