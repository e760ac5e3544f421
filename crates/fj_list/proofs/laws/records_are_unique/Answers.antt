use Rattle.fj_list.proofs.BreakLaws.{records_unique}
use Rattle.fj_list.proofs.laws.records_are_unique.Goals as goal

pub returns : goal.returns
returns c = records_unique
