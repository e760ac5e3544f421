use Rattle.fj_word_laws.proofs.SpecifierProofs as laws
use Rattle.fj_word_laws.proofs.write_gives.Goals as goal

pub returns : goal.returns
returns c = laws.write_gives
