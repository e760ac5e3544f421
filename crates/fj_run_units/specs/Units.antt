-- Connected units as the program holds them.
use Rattle.std.specs.Prelude.{◌≡◌, ℕ, Bool, List, [], ◌∷◌, ◌==◌, ◌&&◌, not, Option, Some, None}
use Rattle.std.specs.List.{list_any}
use Rattle.std.specs.Str.{bytes_eq}
use Rattle.fj_modes.specs.declared.modes.Modes.{Modes}
use Rattle.fj_meaning_jobs.specs.Core.{Connected as PlainConnected, with_connected}
use Rattle.fj_run_units.specs.Having.{Differ}
use Rattle.fj_run_units.specs.declared.connected.Connected.{Connected}

abbrev pub connected_of : Connected → PlainConnected
connected_of u = record { number = u.number; slot = u.slot; name = u.name; modes = u.modes }

-- a file of that name is connected to a unit of another number
abbrev pub is_taken : List PlainConnected → ℕ → List ℕ → Bool
is_taken us number name = list_any (λ (u : PlainConnected). not (u.number == number) && bytes_eq u.name name) us

-- a unit has the slot
abbrev pub has_slot : List PlainConnected → ℕ → Bool
has_slot us slot = list_any (λ (u : PlainConnected). u.slot == slot) us

-- the unit, if there is one, has other modes
abbrev pub with_modes : List PlainConnected → Option PlainConnected → Modes → List PlainConnected
with_modes us None modes = us
with_modes us (Some u) modes = with_connected (record u { modes = modes }) us

-- none has that number
abbrev pub AreOthers : ℕ → List PlainConnected → Type 0
AreOthers number [] = Unit {0}
AreOthers number (u ∷ us) = (u.number ≡ number → ⊥) × AreOthers number us

-- no two have the same number
abbrev pub AreApart : List PlainConnected → Type 0
AreApart [] = Unit {0}
AreApart (u ∷ us) = AreOthers u.number us × AreApart us

-- they have the same slot
abbrev pub same_slot : PlainConnected → PlainConnected → Bool
same_slot u v = v.slot == u.slot

-- each has a number and a slot of its own
pub record StandApart (us : List PlainConnected) : Type 0 where
  pub numbers : AreApart us
  pub slots : Differ same_slot us
