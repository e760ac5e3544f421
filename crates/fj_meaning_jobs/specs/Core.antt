-- What the execution of a deck holds above its connections.
use Rattle.std.specs.Prelude.{ℕ, ◌==◌, not, nat_lt, Bool, List, [], ◌∷◌, ◌++◌, map, filter, Option, Some, None, if◌then◌else◌}
use Rattle.std.specs.List.{list_any}
use Rattle.std.specs.Str.{bytes_eq}
use Rattle.fj_value.specs.declared.place.Place.{Place}
use Rattle.fj_modes.specs.declared.modes.Modes.{Modes}
use Rattle.fj_store.specs.Variables.{Variables}
use Rattle.fj_book.specs.Prohibitions.{Holder}
use Rattle.fj_meaning.specs.State.{Files, Output, Tell}

-- A pending transfer: what became of it stands in the log of its slot, under the number of its job.
pub record Pending : Type 0 where
  pub id : ℕ
  pub unit : ℕ
  pub input : Bool
  -- of its items or its group, and of an input SIZE=
  pub places : List Place
  pub size : Option Place
  pub slot : ℕ
  pub number : ℕ

-- a connected unit, by the code of its number: its connection is at its slot
pub record Connected : Type 0 where
  pub number : ℕ
  pub slot : ℕ
  pub name : List ℕ
  pub modes : Modes

pub record Core : Type 0 where
  pub vars : Variables
  -- in ascending order of identifiers
  pub book : List Pending
  -- in ascending order of units
  pub units : List Connected
  -- the files that no unit has
  pub files : Files
  pub output : Output
  -- the next identifier
  pub next : ℕ
  -- the code of the number that NEWUNIT= gives next
  pub new_unit : ℕ
  pub tells : List Tell

-- ---- units

abbrev pub connected_at : List Connected → ℕ → Option Connected
connected_at [] number = None
connected_at (u ∷ us) number = if u.number == number then Some u else connected_at us number

-- the unit that a file is connected to
abbrev pub unit_named : List Connected → List ℕ → Option ℕ
unit_named [] name = None
unit_named (u ∷ us) name = if bytes_eq u.name name then Some u.number else unit_named us name

-- a unit has the file
abbrev pub has_name : List Connected → List ℕ → Bool
has_name units name = list_any (λ (u : Connected). bytes_eq name u.name) units

abbrev pub with_connected : Connected → List Connected → List Connected
with_connected new us = map (λ (u : Connected). if u.number == new.number then new else u) us

abbrev pub inserted : Connected → List Connected → List Connected
inserted new us = filter (λ (u : Connected). nat_lt u.number new.number) us ++ new ∷ filter (λ (u : Connected). nat_lt new.number u.number) us

abbrev pub without_connected : ℕ → List Connected → List Connected
without_connected number us = filter (λ (u : Connected). not (u.number == number)) us

-- ---- pending transfers

-- as prohibitions see them
abbrev pub pending_holders : List Pending → List Holder
pending_holders book = map (λ (e : Pending). record { id = e.id; unit = e.unit; input = e.input; places = e.places }) book
