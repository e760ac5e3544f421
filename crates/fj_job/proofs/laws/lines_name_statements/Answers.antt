use Rattle.fj_job.proofs.FaultLaws as laws
use Rattle.fj_job.proofs.laws.lines_name_statements.Goals as goal

pub returns : goal.returns
returns c = laws.lines_name c.decks_are_sound.ensures
