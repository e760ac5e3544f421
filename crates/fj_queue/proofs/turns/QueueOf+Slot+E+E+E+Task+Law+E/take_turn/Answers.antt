use Rattle.std.proofs.Common.{rules}
use Rattle.fj_queue.proofs.Moves.{takes_turn}
use Rattle.fj_queue.proofs.turns.QueueOf+Slot+E+E+E+Task+Law+E.take_turn.Goals as goal

pub compare_exchange-requires : goal.compare_exchange-requires
compare_exchange-requires g c = (search rules, search rules, takes_turn g.E.Engine.meaning _ _ _ _ (search rules))
