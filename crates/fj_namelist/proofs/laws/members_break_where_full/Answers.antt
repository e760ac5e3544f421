use Rattle.fj_namelist.proofs.BreakLaws.{break_where_full}
use Rattle.fj_namelist.proofs.laws.members_break_where_full.Goals as goal

pub returns : goal.returns
returns c = break_where_full
