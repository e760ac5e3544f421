use Rattle.std.proofs.Common.{ap, ◌∙◌}
use Rattle.fj_unit.specs.Program.{waited_all}
use Rattle.fj_unit.proofs.Kept.{weaken}
use Rattle.fj_unit.proofs.session.Session.wait_all.Goals as goal

pub returns-clause-ok : goal.returns-clause-ok
returns-clause-ok c = weaken c.tell_all.result (λ condition h. h c.self.inside.next ∙ ap waited_all c.self.view_is) c.tell_all.ensures.ok
