-- The deck as it is begun, as the program holds it.
use Rattle.fj_deck.specs.Line.{Begun}
use Rattle.fj_deck.specs.declared.draft.Draft.{Draft}

abbrev pub begun_of : Draft → Begun
begun_of draft = record { names = draft.names; statements = draft.statements }
