-- What an explanation of a text says.
use Rattle.std.specs.Prelude.{ℕ, List, Option, Some, None, Result, Ok, Err}
use Rattle.std.specs.declared.alloc.AllocError.{AllocError}
use Rattle.fj_statement.specs.declared.deck.Deck.{Deck}
use Rattle.fj_deck.specs.Deck.{IsDeck, IsRefused}
use Rattle.fj_explain.specs.declared.explanation.Explanation.{Explanation}

-- nothing of a deck; of any other text the line that is refused, with the reason; and memory alone may be wanting
abbrev pub Explains : List ℕ → Result (Option Explanation) AllocError → Type 0
Explains text (Ok None) = (deck : Deck) × IsDeck text deck
Explains text (Ok (Some said)) = IsRefused text said.line said.reason
Explains text (Err error) = Unit {0}
