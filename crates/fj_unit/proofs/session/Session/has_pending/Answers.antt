use Rattle.std.proofs.Common.{◌≡◌, length, ap, ◌∙◌, arith}
use Rattle.std.proofs.lemmas.Grind.{common_steps}
use Rattle.fj_unit.specs.Program.{outcome_of, Program}
use Rattle.fj_unit.proofs.Kept.{nothing_kept}
use Rattle.fj_unit.proofs.session.Session.has_pending.Goals as goal

pub returns-then-len-ne0-clause-some : goal.returns-then-len-ne0-clause-some
returns-then-len-ne0-clause-some c = λ e.
    let none = nothing_kept outcome_of c.self.inside.kept.items c.self.inside.unit.pending (ap (λ (p : Program). p.unit.pending) c.self.view_is ∙ e) in
    let short : length c.self.inside.kept.items ≡ 0 = ap length none.0 in
    grind (arith, common_steps)
