use Rattle.fj_connect.proofs.Opened.{first_placed}
use Rattle.fj_connect.proofs.connection.opening.connected.Goals as goal

pub invariant_of-result : goal.invariant_of-result
invariant_of-result g c = rw c.first_place-at.ensures.size record {
  placed = first_placed c.args.modes _ c.requires.short;
  length = c.requires.length;
  looks = tt;
}
