-- What is found of a file whose connection was closed, whatever was lost: also where its slot stopped, or its record could not be ended.
use Rattle.std.specs.Prelude.{◌≡◌, ◌⊎◌, ℕ, ◌≤◌, is_some, Bool, true, false, not, List, [], ◌∷◌, Option, Some, None, IsSome, IfSome, slice_get}
use Rattle.fj_outside.specs.Faults.{Rose}
use Rattle.fj_outside.specs.Holdings.{Holdings, SameAt}
use Rattle.fj_outside.specs.declared.errors.Stop.{Stop}
use Rattle.fj_connect.specs.Connection.{Connection}
use Rattle.fj_connect.specs.Linked.{Linked, connection_of}
use Rattle.fj_connect.specs.Positions.{ended}
use Rattle.fj_slot.specs.Ledger.{Ledger}
use Rattle.fj_bay.specs.Bay.{Bay}
use Rattle.fj_bay.specs.Jobs.{Job}
use Rattle.fj_bay.specs.Spoilt.{first_difference, AgreeBelow, SomeMayLeave}
use Rattle.fj_meaning_jobs.specs.Core.{Connected, has_name}
use Rattle.fj_run_end.specs.declared.remains.Remains.{Remains}

-- The bytes of a file whose open record was to be ended. Where its slot had stopped they are as before, and else as before below the
-- first one that the end of the record changes.
abbrev pub IsEndedUpTo : Option Stop → Connection → List ℕ → Type 0
IsEndedUpTo None c bytes = AgreeBelow (first_difference c.bytes (ended c).bytes) c.bytes bytes
IsEndedUpTo (Some stop) c bytes = bytes ≡ c.bytes

-- A file that was to be kept is there, and one that is there has such bytes. One that was to be removed is gone, unless the disk's own
-- number rose, which was `before` and is `now`.
pub record IsFound (keep : Bool) (found : Option (List ℕ)) (P : List ℕ → Type 0) (before now : ℕ) : Type 0 where
  pub kept : keep ≡ true → IsSome found
  pub gone : keep ≡ false → (found ≡ None) ⊎ Rose before now
  pub bytes : IfSome found P

-- so it is of the file of a connection with that name
pub record IsFoundOf {F : Type 0} (told : F → Bool) (bytes : F → List ℕ) (it : Remains F) (name : List ℕ) (found : Option (List ℕ)) (before now : ℕ) : Type 0 where
  pub connection : Linked F
  pub has : it.connection ≡ Some connection
  pub named : connection.name ≡ name
  pub file : told connection.file ≡ true → IsFound (not connection.modes.scratch) found (IsEndedUpTo it.stop (connection_of bytes connection)) before now

-- One of the slot's jobs may leave the file so, or the end of its record: one that the slot has not done; and where the slot has stopped,
-- the very job in which it did. A scratch file is gone, unless the disk's own number rose.
pub record IsLeftBehind {E J A : Type 0} (l : Ledger E J A) (start : Bay) (jobs : List Job) (name : List ℕ) (found : Option (List ℕ)) (before now : ℕ) : Type 0 where
  pub some : SomeMayLeave start jobs name found
  pub from : l.done ≤ some.number
  pub stopped : is_some l.halt ≡ true → some.number ≡ l.done
  pub gone : some.leaves.before.modes.scratch ≡ true → (found ≡ None) ⊎ Rose before now

-- of each unit there is such a thing at its slot
abbrev pub OfEach : {X : Type 0} → List Connected → List X → (Connected → X → Type 0) → Type 0
OfEach [] all P = Unit {0}
OfEach {X} (u ∷ us) all P = ((x : X) × (slice_get all u.slot ≡ Some x) × P u x) × OfEach us all P

-- of a file that no unit has the disk tells the same as before
abbrev pub AreSpared : List Connected → Holdings → Holdings → Type 0
AreSpared units old new = (name : List ℕ) → has_name units name ≡ false → SameAt old new name
