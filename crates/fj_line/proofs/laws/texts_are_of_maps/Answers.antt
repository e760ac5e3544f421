use Rattle.fj_line.proofs.LineTexts as laws
use Rattle.fj_line.proofs.laws.texts_are_of_maps.Goals as goal

pub returns : goal.returns
returns c = laws.texts_are_of_maps
