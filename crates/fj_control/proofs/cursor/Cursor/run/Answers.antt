use Rattle.std.proofs.Common.{sym, ap, ◌∙◌}
use Rattle.fj_format.specs.Unfolding.{Steps, pass}
use Rattle.fj_control.specs.declared.cursor.State.{State}
use Rattle.fj_control.specs.Cursor.{position}
use Rattle.fj_control.specs.Steps.{round_of}
use Rattle.fj_control.specs.Walk.{Walk}
use Rattle.fj_control.specs.Walker.{rest_of}
use Rattle.fj_control.proofs.Control.{runs_are_due}
use Rattle.fj_control.proofs.cursor.Cursor.run.Goals as goal

pub returns-in-Walking-clause-due : goal.returns-in-Walking-clause-due
returns-in-Walking-clause-due c =
    let more = round_of c.self.inside.endless (pass c.self.inside.again.now) in
    let at : Steps → State → Walk = λ rest s. record { at = position s rest; again = more } in
    runs_are_due c.run.result _ _ (rest_of c.self.inside.walker) (rest_of c.run.new.self) more
    (sym c.self.view_is ∙ ap (at (rest_of c.self.inside.walker)) c.in-Walking.is)
    (ap (at (rest_of c.run.new.self)) c.in-Walking.is)
    c.run.ensures.some
