use Rattle.fj_word_laws.proofs.SpecifierProofs as laws
use Rattle.fj_word_laws.proofs.read_gives.Goals as goal

pub returns : goal.returns
returns c = laws.read_gives
