use Rattle.fj_meaning_turns.proofs.Pending as pending
use Rattle.fj_meaning_turns.proofs.laws.pending_awaits_nothing.Goals as goal

pub returns : goal.returns
returns c = pending.pending_awaits_nothing
