use Rattle.fj_inquire.proofs.WordProofs as lemma
use Rattle.fj_inquire.proofs.laws.words_are_read.Goals as goal

pub returns : goal.returns
returns c = lemma.words_are_read
