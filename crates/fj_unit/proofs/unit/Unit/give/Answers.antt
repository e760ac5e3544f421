use Rattle.std.proofs.Common.{rules, ap, ◌∙◌}
use Rattle.fj_unit.specs.Unit.{given}
use Rattle.fj_unit.specs.Held.{task, Held}
use Rattle.fj_unit.proofs.Steps.{given_view, given_or_not, on_ok}
use Rattle.fj_unit.proofs.unit.Unit.give.Goals as goal
use Rattle.fj_unit.proofs.unit.Unit.give.Goals.{in-Ok, in-Err+in-Attach-1, in-Err+in-Detach-1, in-Err+in-Move-1, in-Err+in-Look-1, in-Err+in-Go-1}

pub invariant_of-self : goal.invariant_of-self
invariant_of-self c =
    given_or_not c.self.inside.slot c.submit.new.self c.args.job c.submit.result c.self.invariant c.submit.ensures.sound c.submit.ensures.ok c.submit.ensures.err

pub returns-clause-ok : goal.returns-clause-ok
returns-clause-ok c =
    let l : Held = c.self.inside.slot in
    elim c.match-submit.branch [
      | in-Ok w ↦
          on_ok c.match-submit.result
          (given_view l c.submit.new.self c.args.job c.self.invariant w.in-Ok.ensures.sound w.in-Ok.ensures.ok ∙ ap (λ u. given u (task c.args.job)) c.self.view_is)
      | in-Err+in-Attach-1 w ↦ search rules
      | in-Err+in-Detach-1 w ↦ search rules
      | in-Err+in-Move-1 w ↦ search rules
      | in-Err+in-Look-1 w ↦ search rules
      | in-Err+in-Go-1 w ↦ search rules
    ]
