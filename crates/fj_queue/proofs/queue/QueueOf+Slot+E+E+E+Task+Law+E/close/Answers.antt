use Rattle.std.proofs.Common.{◌∙◌}
use Rattle.fj_queue.proofs.Counts.{closes, last_is, some_is}
use Rattle.fj_queue.proofs.Calls.{at_view, at_hands, last_too}
use Rattle.fj_queue.proofs.queue.QueueOf+Slot+E+E+E+Task+Law+E.close.Goals as goal

pub unwrap-requires : goal.unwrap-requires
unwrap-requires g c = let i = c.into_seat.ensures in let s = i.resting in let hands = at_hands _ _ i.same.2 ∙ c.requires.hands in
    some_is g.E.Engine.meaning _ _ (closes g.E.Engine.meaning _ _ _ _ _ c.take-slot.result c.close_with-closed.ensures.values.2 s.sends hands s.rests s.idle c.take-slot.ensures.value)

pub returns : goal.returns
returns g c = let i = c.into_seat.ensures in let s = i.resting in let hands = at_hands _ _ i.same.2 ∙ c.requires.hands in
    last_too g.E.Engine.meaning _ _ _ (at_view _ _ i.same.2) (last_is g.E.Engine.meaning _ _ _ (closes g.E.Engine.meaning _ _ _ _ _ c.take-slot.result c.close_with-closed.ensures.values.2 s.sends hands s.rests s.idle c.take-slot.ensures.value) c.unwrap.ensures)
