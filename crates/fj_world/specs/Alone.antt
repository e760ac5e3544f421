-- A script served on one thread.
use Rattle.std.specs.Prelude.{◌≡◌, ◌⊎◌, ℕ, ◌+◌, ◌-◌, ◌<◌, ◌≤◌, true, List, [], length, Option, Some, None, is_some, if◌then◌else◌, slice_get, slice_set}
use Rattle.fj_slot.specs.Ledger.{Ledger, can_tell, with_tell}
use Rattle.fj_slot.specs.Serving.{Meaning}
use Rattle.fj_slot.specs.Sound.{IsCounted, IsSound}
use Rattle.fj_slot.specs.Telling.{Tells}
use Rattle.fj_slot.specs.declared.told.Told.{Told}
use Rattle.fj_world.specs.declared.ask.Ask.TheVariants.{Finished}
use Rattle.fj_world.specs.Conduct.{Conduct}
use Rattle.fj_world.specs.Rack.{Rack}
use Rattle.fj_world.specs.Plain.{Plain, after}
use Rattle.fj_world.specs.Fits.{Fits}

-- jobs in front were performed: the slot has the same jobs and tells, none is out, and it is counted and sound as before
pub record ServesOn {G J A P T R : Type 0} (m : Meaning G J A P T R) (l l' : Ledger G J A) : Type 0 where
  pub jobs : l'.jobs ≡ l.jobs
  pub told : l'.told ≡ l.told
  pub start : l'.start ≡ l.start
  pub home : is_some l'.home ≡ true
  pub done : l.done ≤ l'.done
  pub counted : IsCounted m l → IsCounted m l'
  pub sound : (s : P) (ts : List T) → IsSound m s ts l → IsSound m s ts l'

-- the job in front was performed
pub record ServesFront {G J A P T R : Type 0} (m : Meaning G J A P T R) (old : Rack G J A) (at : ℕ) (l : Ledger G J A) (new : Rack G J A) : Type 0 where
  pub ledger : Ledger G J A
  pub serves : ServesOn m l ledger
  pub after : new.slots ≡ slice_set old.slots at ledger
  pub further : (ledger.done ≡ l.done + 1) ⊎ (is_some ledger.halt ≡ true)

-- jobs in front were performed until the next one could be told, and it was told
pub record Settles {G J A P T R : Type 0} (m : Meaning G J A P T R) (old : Rack G J A) (at : ℕ) (l : Ledger G J A) (it : Told G J A P T R) (new : Rack G J A) : Type 0 where
  pub ledger : Ledger G J A
  pub serves : ServesOn m l ledger
  pub ready : can_tell ledger ≡ true
  pub tells : Tells ledger it
  pub after : new.slots ≡ slice_set old.slots at (with_tell ledger)

-- how many jobs a slot may still perform
abbrev pub left_at : {G J A : Type 0} → Option (Ledger G J A) → ℕ
left_at None = 0
left_at (Some l) = if is_some l.halt then 0 else length l.jobs - l.done

-- each slot has its engine at home
abbrev pub AllHome : {G J A : Type 0} → Rack G J A → Type 0
AllHome {G} {J} {A} rack = (at : ℕ) (l : Ledger G J A) → slice_get rack.slots at ≡ Some l → is_some l.home ≡ true

-- each slot that the script uses has as many jobs not told as the script says
abbrev pub OwesAsSaid : {S G J A T R : Type 0} → Conduct S T R → S → Rack G J A → Type 0
OwesAsSaid {S} {G} {J} {A} c script rack = (at : ℕ) (l : Ledger G J A) → at < c.uses script → slice_get rack.slots at ≡ Some l → l.told + c.owed script at ≡ length l.jobs

-- the script was served so many entries, and asks nothing more
pub record ServedAlone {S G J A P T R : Type 0} (m : Meaning G J A P T R) (c : Conduct S T R) (p : Plain P c) (script : S) (rack : Rack G J A) : Type 0 where
  pub entries : ℕ
  pub fits : Fits m c (after m c entries p) (record { start = script; script = script; hand = Finished; rack = rack; workers = [] })
