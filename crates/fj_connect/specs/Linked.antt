-- A connection as the program holds it, with a file that may tell its bytes.
use Rattle.std.specs.Prelude.{◌≡◌, ℕ, ◌<◌, ◌≤◌, List, Option, Some, None}
use Rattle.fj_modes.specs.declared.modes.Modes.{Modes}
use Rattle.fj_modes.specs.OpenSpec.{record_limit}
use Rattle.fj_seqrec.specs.declared.read.RecordRead.TheVariants.{Line}
use Rattle.fj_seqrec.specs.Reading.{record_at, HoldsRecord, IsWithin}
use Rattle.fj_connect.specs.Connection.{Connection}
use Rattle.fj_connect.specs.Spot.{IsPlaced}
use Rattle.fj_connect.specs.declared.spot.Spot.{Spot}
use Rattle.fj_connect.specs.declared.connection.Looked.{Looked}

pub record Linked (F : Type 0) : Type 0 where
  pub modes : Modes
  pub name : List ℕ
  pub file : F
  pub spot : Spot
  -- the characters of the record that was looked at last
  pub hand : List ℕ

-- the same as plain data, where the file has these bytes
abbrev pub connection_of : {F : Type 0} → (F → List ℕ) → Linked F → Connection
connection_of bytes c = record { modes = c.modes; name = c.name; bytes = bytes c.file; spot = c.spot }

-- the record length of the modes is one of their form
abbrev pub HasLength : Modes → Type 0
HasLength modes = (0 < modes.recl) × (modes.recl ≤ record_limit modes.formatted)

-- the record that was looked at is the one that stands at its place
abbrev pub HasLookedAt : Type 0 → List ℕ → ℕ → ℕ → Option Looked → List ℕ → Type 0
HasLookedAt tells bytes size limit None hand = Unit {0}
HasLookedAt tells bytes size limit (Some looked) hand =
    IsWithin size looked.at limit (Line looked.next) hand
    × (tells → (record_at bytes looked.at limit ≡ Line looked.next) × HoldsRecord bytes looked.at (Line looked.next) hand)

-- what holds of each connection
pub record IsLinked (tells : Type 0) (bytes : List ℕ) (size : ℕ) (modes : Modes) (spot : Spot) (looked : Option Looked) (hand : List ℕ) : Type 0 where
  pub placed : IsPlaced modes size spot
  pub length : HasLength modes
  pub looks : HasLookedAt tells bytes size modes.recl looked hand
