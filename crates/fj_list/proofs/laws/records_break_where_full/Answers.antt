use Rattle.fj_list.proofs.BreakLaws.{break_where_full}
use Rattle.fj_list.proofs.laws.records_break_where_full.Goals as goal

pub returns : goal.returns
returns c = break_where_full
