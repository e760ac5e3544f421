use Rattle.fj_book.proofs.LawLemmas.{held_entered, held_told, read_entered, held_read}
use Rattle.fj_book.proofs.laws.places_are_held_until_told.Goals as goal

pub returns : goal.returns
returns c = record { entered = held_entered; told = held_told; read_when_entered = read_entered; read_is_held = held_read }
