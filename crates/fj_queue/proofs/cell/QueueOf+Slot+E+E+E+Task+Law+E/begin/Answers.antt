use Rattle.fj_queue.proofs.Calls.{lends}
use Rattle.fj_queue.proofs.cell.QueueOf+Slot+E+E+E+Task+Law+E.begin.Goals as goal

pub slot_mut-requires : goal.slot_mut-requires
slot_mut-requires g c = (c.requires.own, lends c.args.seat.now.me c.args.cell.now.value c.requires.held)
