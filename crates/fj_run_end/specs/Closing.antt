-- Files that go back to the disk, and names that are taken off.
use Rattle.std.specs.Prelude.{◌≡◌, ◌&&◌, ℕ, Bool, true, false, List, [], ◌∷◌, Some, None, IfSome, IsSome, is_some, slice_get, Result}
use Rattle.std.specs.FinSet as set
use Rattle.fj_outside.specs.Holdings.{Holdings}
use Rattle.fj_outside.specs.declared.errors.Stop.{Stop}
use Rattle.fj_slot.specs.Ledger.{Ledger}
use Rattle.fj_slot.specs.Serving.{Meaning}
use Rattle.fj_world.specs.Rack.{Rack}
use Rattle.fj_bay.specs.Bay.{Bay as PlainBay}
use Rattle.fj_bay.specs.Jobs.{Job as PlainJob, Answer as PlainAnswer}
use Rattle.fj_bay.specs.declared.bay.Bay.{Bay}
use Rattle.fj_bay.specs.declared.job.Job.{Job}
use Rattle.fj_bay.specs.declared.job.Answer.{Answer}
use Rattle.fj_meaning.specs.State.{Files}
use Rattle.fj_meaning_jobs.specs.Core.{Connected}
use Rattle.fj_meaning_jobs.specs.Both.{Both}
use Rattle.fj_meaning_jobs.specs.Desks.{Desk}
use Rattle.fj_meaning_jobs.specs.Desking.{connection_at}
use Rattle.fj_run_units.specs.Names.{left_of}
use Rattle.fj_run_units.specs.Files.{files_of}
use Rattle.fj_run_units.specs.Returning.{IsAsDue}
use Rattle.fj_run_units.specs.Units.{has_slot}
use Rattle.fj_run_end.specs.Finding.{OfEach}
use Rattle.fj_run_end.specs.Losing.{is_memory, may_want}
use Rattle.fj_run_end.specs.Remains.{IsWhatRemains}
use Rattle.fj_run_end.specs.declared.remains.Remains.{Remains}

-- each file is as it was to be whose name is not hurt
abbrev pub AreAsDue : ℕ → ℕ → Holdings → Files → Type 0
AreAsDue before now held due = (name : List ℕ) → set.contains held.hurt name ≡ false → IsAsDue before now (files_of held name) (due name)

-- the names of the units are taken off
abbrev pub names_left : List Connected → List (List ℕ) → List (List ℕ)
names_left [] names = names
names_left (u ∷ us) names = names_left us (left_of names u.name)

-- each unit has a desk
abbrev pub AreSeated : List Desk → List Connected → Type 0
AreSeated desks [] = Unit {0}
AreSeated desks (u ∷ us) = IsSome (slice_get desks u.slot) × AreSeated desks us

-- the connection at its desk, if there is one, has the unit's name
abbrev pub AreNamed : List Desk → List Connected → Type 0
AreNamed desks [] = Unit {0}
AreNamed desks (u ∷ us) = IfSome (connection_at (slice_get desks u.slot)) (λ c. c.name ≡ u.name) × AreNamed desks us

-- there is something at each unit's slot, and where the unit's name is not hurt it is such a thing
abbrev pub IfClear : {X : Type 0} → Holdings → List Connected → List X → (X → Type 0) → Type 0
IfClear held us all P = OfEach us all (λ u x. set.contains held.hurt u.name ≡ false → P x)

-- it has a connection, and no fault stopped its slot
abbrev pub may_lack : {F : Type 0} → Remains F → Bool
may_lack it = is_some it.connection && may_want it.stop

-- one of them may have wanted memory
pub record SomeMayLack {F : Type 0} (all : List (Remains F)) : Type 0 where
  pub at : ℕ
  pub it : Remains F
  pub here : slice_get all at ≡ Some it
  pub lacks : may_lack it ≡ true

-- each slot that no unit has did not stop
abbrev pub OthersRun : {E J A : Type 0} → List Connected → List (Ledger E J A) → Type 0
OthersRun {E} {J} {A} units slots = (at : ℕ) (l : Ledger E J A) → slice_get slots at ≡ Some l → has_slot units at ≡ false → l.halt ≡ None

-- What remains of slots was closed. Want of memory is answered only where one of them may have met it: in its slot, or in its file where
-- its open record was ended.
pub record IsFinished {F T : Type 0} (m : Meaning (Bay F) (Job F) Answer PlainBay PlainJob PlainAnswer) (rack : Rack (Bay F) (Job F) Answer) (result : Result T Stop) : Type 0 where
  pub all : List (Remains F)
  pub each : Both (IsWhatRemains m) rack.slots all
  pub memory : is_memory result ≡ true → SomeMayLack all
