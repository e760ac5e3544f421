use Rattle.fj_word_laws.proofs.SpecifierProofs as laws
use Rattle.fj_word_laws.proofs.inquire_asks.Goals as goal

pub returns : goal.returns
returns c = laws.inquire_asks
