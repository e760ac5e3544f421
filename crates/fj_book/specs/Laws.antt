-- What holds of prohibitions and of the book, in words of their own.
use Rattle.std.specs.Prelude.{◌≡◌, ◌<◌, ℕ, ◌&&◌, ◌||◌, ◌++◌, not, Bool, true, false, List, [], ◌∷◌, filter, Some, None}
use Rattle.std.specs.List.{list_any}
use Rattle.fj_value.specs.Order.{number_of}
use Rattle.fj_value.specs.declared.place.Place.{Place}
use Rattle.fj_value.specs.declared.condition.Rule.{Rule}
use Rattle.fj_value.specs.declared.condition.Rule.TheVariants.{P1, P2, P3, P4, P5}
use Rattle.fj_store.specs.Places.{is_among}
use Rattle.fj_store.specs.Variables.{Variables, value_at, is_undefined}
use Rattle.fj_book.specs.declared.pending.Pending.{Pending}
use Rattle.fj_book.specs.Entries.{holders, has_tag}
use Rattle.fj_book.specs.Prohibitions.{Need, Holder, is_read, is_held, names_pending, defines_twice, prohibited}

-- whether a statement breaks a prohibition, each for itself
abbrev pub breaks : Variables → List Holder → Need → Rule → Bool
breaks vars book n P1 = list_any (is_read book) n.references
breaks vars book n P2 = list_any (is_held book) n.defines
breaks vars book n P3 = list_any (λ place. is_undefined (value_at vars place)) n.references
breaks vars book n P4 = not (names_pending book n.unit n.id)
breaks vars book n P5 = defines_twice n

-- a prohibition that is told is broken, and no lower one is; where none is told none is broken
abbrev pub LowestIsBroken : Type 0
LowestIsBroken = (vars : Variables) (book : List Holder) (n : Need)
    → ((told : Rule) → prohibited vars book n ≡ Some told → (breaks vars book n told ≡ true) × ((r : Rule) → number_of r < number_of told → breaks vars book n r ≡ false))
    × (prohibited vars book n ≡ None → (r : Rule) → breaks vars book n r ≡ false)

-- a transfer that is entered holds its places beside all that were held; once it is told, what the others hold is held
pub record HeldUntilTold : Type 0 where
  pub entered : (book : List Pending) (e : Pending) (place : Place) → is_held (holders (book ++ e ∷ [])) place ≡ (is_held (holders book) place || is_among e.places place)
  pub told : (book : List Pending) (tag : ℕ) (place : Place)
      → is_held (holders (filter (λ e. not (has_tag tag e)) book)) place ≡ list_any (λ (e : Pending). not (has_tag tag e) && is_among e.places place) book
  pub read_when_entered : (book : List Pending) (e : Pending) (place : Place) → is_read (holders (book ++ e ∷ [])) place ≡ (is_read (holders book) place || (e.input && is_among e.places place))
  -- a place that is referenced by a pending transfer of either direction is held
  pub read_is_held : (book : List Pending) (place : Place) → is_read (holders book) place ≡ true → is_held (holders book) place ≡ true
