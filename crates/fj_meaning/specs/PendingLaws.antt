-- What holds of pending transfers: identifiers, places, what is told and what stays pending (ISO/IEC 1539-1:2004, 9.5.1.4, 9.6).
use Rattle.std.specs.Prelude.{◌≡◌, ◌+◌, ◌<◌, ◌||◌, not, Bool, true, false, List, [], ◌∷◌, ◌++◌, map, filter, Some, None}
use Rattle.std.specs.List.{All, AllPairs, Contains}
use Rattle.fj_value.specs.declared.place.Place.{Place}
use Rattle.fj_value.specs.declared.condition.Rule.{Rule}
use Rattle.fj_statement.specs.declared.deck.Variable.{Variable}
use Rattle.fj_statement.specs.declared.deck.Lined.{Lined}
use Rattle.fj_book.specs.Prohibitions.{prohibited}
use Rattle.fj_meaning.specs.Needs.{need, holders}
use Rattle.fj_meaning.specs.Telling.{waited, tell_of}
use Rattle.fj_meaning.specs.State.{State, Files, Entry}
use Rattle.fj_meaning.specs.Statement.{Stated, step, plain_execution, prohibition}
use Rattle.fj_meaning.specs.Reaching.{reached, is_later, becomes_pending}

-- a deck in which no transfer has ASYNCHRONOUS='YES' tells nothing
abbrev pub NothingIsTold : Type 0
NothingIsTold = (variables : List Variable) (statements : List Lined) (files : Files) → All (λ (lined : Lined). is_later lined.what ≡ false) statements
    → (plain_execution variables statements files).tells ≡ []

-- a prohibited statement changes nothing, and ends the deck
abbrev pub ProhibitedDoesNothing : Type 0
ProhibitedDoesNothing = (variables : List Variable) (st : Stated) (s : State) (rule : Rule)
    → prohibited s.vars (holders s.book) (need variables s st.0.what) ≡ Some rule → step variables st s ≡ (s, Some (prohibition st.0.line rule))

-- the identifiers of pending transfers rise, and are below the next one
abbrev pub Rises : State → Type 0
Rises s = AllPairs (λ (a b : Entry). a.id < b.id) s.book × All (λ (e : Entry). e.id < s.next) s.book

abbrev pub IdentifiersRise : Type 0
IdentifiersRise = (variables : List Variable) (sts : List Stated) (files : Files) → Rises (reached variables sts files)

-- a place of a pending input is in no other pending transfer
abbrev pub AreApart : Entry → Entry → Type 0
AreApart a b = (a.input || b.input) ≡ true → (place : Place) → Contains a.places place → Contains b.places place → ⊥

abbrev pub PlacesAreApart : Type 0
PlacesAreApart = (variables : List Variable) (sts : List Stated) (files : Files) → AllPairs AreApart (reached variables sts files).book

-- What a statement that is not prohibited does to pending transfers: those that it waits for are told, in their order, and are
-- pending no more; all others stay. A transfer that becomes pending stands behind them and has the next identifier, and no other
-- statement uses an identifier.
pub record Turns (variables : List Variable) (st : Stated) (s after : State) : Type 0 where
  pub told : Entry → Bool
  pub are_waited : waited s st.0.what ≡ filter told s.book
  pub tells : after.tells ≡ s.tells ++ map (tell_of st.0.line) (waited s st.0.what)
  pub stays : becomes_pending variables s st.0.what ≡ false → (after.book ≡ filter (λ e. not (told e)) s.book) × (after.next ≡ s.next)
  pub begins : becomes_pending variables s st.0.what ≡ true
      → (e : Entry) × (e.id ≡ s.next) × (after.book ≡ s.book ++ e ∷ []) × (after.next ≡ s.next + 1) × (waited s st.0.what ≡ [])

abbrev pub PendingTurns : Type 0
PendingTurns = (variables : List Variable) (sts : List Stated) (files : Files) (st : Stated) → let s = reached variables sts files in
    prohibited s.vars (holders s.book) (need variables s st.0.what) ≡ None → Turns variables st s (step variables st s).0
