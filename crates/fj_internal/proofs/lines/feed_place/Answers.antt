use Rattle.fj_seqrec.proofs.Positions.{place_found, place_none}
use Rattle.fj_internal.proofs.lines.feed_place.Goals as goal

pub returns-in-Some : goal.returns-in-Some
returns-in-Some c = place_found _ _ c.in-Some.ensures

pub returns-in-None : goal.returns-in-None
returns-in-None c = place_none _ c.in-None.ensures
