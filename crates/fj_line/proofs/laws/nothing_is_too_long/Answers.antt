use Rattle.fj_line.proofs.RecordLaws as laws
use Rattle.fj_line.proofs.laws.nothing_is_too_long.Goals as goal

pub returns : goal.returns
returns c = laws.nothing_is_too_long
