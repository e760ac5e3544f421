-- Counts of the transfers that hold a place.
use Rattle.std.specs.Prelude.{◌≡◌, ℕ, ◌&&◌, not, Bool, true, false, List, Some}
use Rattle.std.specs.Prelude.{cond}
use Rattle.std.specs.List.{count_by}
use Rattle.fj_value.specs.declared.place.Place.{Place}
use Rattle.fj_store.specs.Places.{is_among}
use Rattle.fj_store.specs.Tables.{element_at}
use Rattle.fj_book.specs.declared.pending.Pending.{Pending}
use Rattle.fj_book.specs.Entries.{IsAscending}

-- a transfer of this direction (true for an input) holds a place
abbrev pub holds_in : Bool → Place → Pending → Bool
holds_in input place e = cond input e.input (not e.input) && is_among e.places place

-- the table has at each of its places the number of transfers of this direction that hold it
abbrev pub IsCounted : Bool → List (List ℕ) → List Pending → Type 0
IsCounted input counts entries = (p : Place) (n : ℕ) → element_at counts p ≡ Some n → n ≡ count_by (holds_in input p) entries

abbrev pub AreCounted : List Pending → List (List ℕ) → List (List ℕ) → Type 0
AreCounted entries inputs outputs = IsCounted true inputs entries × IsCounted false outputs entries

-- the entries ascend, and both tables have their numbers
pub record IsKept (entries : List Pending) (inputs outputs : List (List ℕ)) : Type 0 where
  pub ascending : IsAscending entries
  pub inputs_counted : IsCounted true inputs entries
  pub outputs_counted : IsCounted false outputs entries
