use Rattle.fj_meaning_cut.proofs.Stops.{cut_runs_leave_others}
use Rattle.fj_meaning_cut.proofs.laws.cut_runs_leave_others.Goals as goal

pub returns : goal.returns
returns c = cut_runs_leave_others
