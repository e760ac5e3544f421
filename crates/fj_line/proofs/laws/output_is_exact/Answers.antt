use Rattle.fj_line.proofs.RecordLaws as laws
use Rattle.fj_line.proofs.laws.output_is_exact.Goals as goal

pub returns : goal.returns
returns c = laws.output_is_exact
