use Rattle.fj_book.proofs.MeetLemmas.{first_of_unit, first_is_least, none_of_unit}
use Rattle.fj_book.proofs.laws.first_is_least.Goals as goal

pub returns : goal.returns
returns c = record { of_unit = first_of_unit; least = first_is_least; none = none_of_unit }
