use Rattle.fj_meaning_cut.proofs.Turns.{turns_leave_others}
use Rattle.fj_meaning_cut.proofs.laws.turns_leave_others.Goals as goal

pub returns : goal.returns
returns c = turns_leave_others
