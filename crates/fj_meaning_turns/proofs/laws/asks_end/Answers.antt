use Rattle.fj_meaning_turns.proofs.Bounded as bounded
use Rattle.fj_meaning_turns.proofs.laws.asks_end.Goals as goal

pub returns : goal.returns
returns c = bounded.asks_end
