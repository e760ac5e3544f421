use Rattle.fj_list.proofs.ListLaws as laws
use Rattle.fj_list.proofs.laws.records_are_listed.Goals as goal

pub returns : goal.returns
returns c = laws.records_are_listed
