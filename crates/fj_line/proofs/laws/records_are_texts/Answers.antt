use Rattle.fj_line.proofs.LineTexts.{texts_are_of_maps}
use Rattle.fj_line.proofs.RecordLaws as laws
use Rattle.fj_line.proofs.laws.records_are_texts.Goals as goal

pub returns : goal.returns
returns c = laws.records_are_texts texts_are_of_maps
