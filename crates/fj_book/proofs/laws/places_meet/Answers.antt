use Rattle.fj_book.proofs.MeetLemmas.{meets_broken, meets_cause}
use Rattle.fj_book.proofs.laws.places_meet.Goals as goal

pub returns : goal.returns
returns c = record { broken = meets_broken; cause = meets_cause }
