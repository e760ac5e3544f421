use Rattle.fj_meaning_cut.proofs.Turns.{submits_leave_others}
use Rattle.fj_meaning_cut.proofs.laws.submits_leave_others.Goals as goal

pub returns : goal.returns
returns c = submits_leave_others
