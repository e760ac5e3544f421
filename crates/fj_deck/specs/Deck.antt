-- Which deck a text is, or which line of it is the first that is refused.
use Rattle.std.specs.Prelude.{◌≡◌, ℕ, ◌+◌, ◌<◌, ◌≤◌, true, false, List, [], ◌∷◌, ◌++◌, length, Result, Ok, Err, ◌⊎◌}
use Rattle.std.specs.Str.Lines.{lines}
use Rattle.fj_statement.specs.declared.deck.Deck.{Deck}
use Rattle.fj_statement.specs.declared.reason.Reason.{Reason}
use Rattle.fj_statement.specs.declared.reason.Reason.TheVariants.{TextTooLong, NoEnd}
use Rattle.fj_statement.specs.Sound.{IsSound}
use Rattle.fj_deck.specs.Line.{Begun, LineIs, empty, has_ended}
use Rattle.fj_deck.specs.declared.fault.DeckFault.{DeckFault}
use Rattle.fj_deck.specs.declared.fault.DeckFault.TheVariants as fault

-- these lines, the first of which has this number, are good one after another, and lead from one deck that is begun to another
abbrev pub AreGood : ℕ → Begun → List (List ℕ) → Begun → Type 0
AreGood number begun [] last = last ≡ begun
AreGood number begun (line ∷ more) last = (next : Begun) × LineIs line number begun (Ok next) × AreGood (number + 1) next more last

abbrev pub deck_of : Begun → Deck
deck_of begun = record { variables = begun.names.variables; groups = begun.names.lines; statements = begun.statements }

-- every line is good, and END is among them
pub record IsDeck (text : List ℕ) (deck : Deck) : Type 0 where
  pub short : length text ≤ 4194304
  pub last : Begun
  pub good : AreGood 1 empty (lines text) last
  pub ended : has_ended last.statements ≡ true
  pub is : deck ≡ deck_of last

-- a text that is too long at its first line; else the first line that is not good; else the line behind the last
pub data IsRefused (text : List ℕ) : ℕ → Reason → Type 0 where
  long : 4194304 < length text → IsRefused text 1 TextTooLong
  bad : (before : List (List ℕ)) (line : List ℕ) (behind : List (List ℕ)) {begun : Begun} {reason : Reason}
      → length text ≤ 4194304 → lines text ≡ before ++ line ∷ behind → AreGood 1 empty before begun → LineIs line (length before + 1) begun (Err reason)
      → IsRefused text (length before + 1) reason
  endless : (last : Begun) → length text ≤ 4194304 → AreGood 1 empty (lines text) last → has_ended last.statements ≡ false → IsRefused text (length (lines text) + 1) NoEnd

-- what was answered is what the text is, unless memory ran out
abbrev pub Reads : List ℕ → Result Deck DeckFault → Type 0
Reads text (Ok deck) = IsDeck text deck
Reads text (Err (fault.Memory error)) = Unit {0}
Reads text (Err (fault.Refused line reason)) = IsRefused text line reason

-- ---- laws

-- a text is one deck at most
abbrev pub OneDeck : Type 0
OneDeck = (text : List ℕ) (deck other : Deck) → IsDeck text deck → IsDeck text other → deck ≡ other

-- no text is both a deck and refused
abbrev pub NoneIsBoth : Type 0
NoneIsBoth = (text : List ℕ) (deck : Deck) (line : ℕ) (reason : Reason) → IsDeck text deck → IsRefused text line reason → ⊥

-- and it is refused at one line, for one reason
abbrev pub OneRefusal : Type 0
OneRefusal = (text : List ℕ) (line another : ℕ) (reason other : Reason) → IsRefused text line reason → IsRefused text another other → (line ≡ another) × (reason ≡ other)

-- each text is a deck or is refused
abbrev pub SomeAnswer : Type 0
SomeAnswer = (text : List ℕ) → ((deck : Deck) × IsDeck text deck) ⊎ ((line : ℕ) × (reason : Reason) × IsRefused text line reason)

-- what is a deck is sound
abbrev pub DecksAreSound : Type 0
DecksAreSound = (text : List ℕ) (deck : Deck) → IsDeck text deck → IsSound deck
