use Rattle.fj_control.proofs.Control.{gives_what_is_due}
use Rattle.fj_control.proofs.cursor.Cursor.next.Goals as goal

pub returns-clause-due : goal.returns-clause-due
returns-clause-due c = gives_what_is_due _ _ _ _ c.advance.ensures.given c.advance.ensures.walk
