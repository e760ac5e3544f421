use Rattle.std.proofs.Common.{rules, ◌∙◌}
use Rattle.fj_queue.proofs.Moves.{gives_turn}
use Rattle.fj_queue.proofs.Calls.{at_holds, at_out, puts_back}
use Rattle.fj_queue.proofs.turns.QueueOf+Slot+E+E+E+Task+Law+E.leave.Goals as goal

pub load-submissions-requires : goal.load-submissions-requires
load-submissions-requires g c = (search rules, search rules, puts_back g.E.Engine.meaning _ _ _ _ c.args.cell.value c.requires.inside)

pub swap-turn-requires : goal.swap-turn-requires
swap-turn-requires g c = let i = c.requires.inside in let put = c.load-submissions.ensures.2 in (search rules, search rules, gives_turn g.E.Engine.meaning _ _ _ _ (at_holds _ _ put ∙ i.holds) (at_out _ _ put))
