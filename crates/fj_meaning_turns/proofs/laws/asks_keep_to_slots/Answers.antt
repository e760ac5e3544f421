use Rattle.fj_meaning_turns.proofs.Bounded as bounded
use Rattle.fj_meaning_turns.proofs.laws.asks_keep_to_slots.Goals as goal

pub returns : goal.returns
returns c = bounded.asks_keep_to_slots
