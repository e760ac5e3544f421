-- What a call finds and leaves of a part of the outside.
use Rattle.std.specs.Prelude.{◌≡◌, ◌↔◌, ◌≤◌, ℕ}
use Rattle.std.specs.FinSet as set
use Rattle.fj_outside.specs.Faults.{Rose}
use Rattle.fj_outside.specs.Holdings.{Holdings}

-- A part of the outside that tells what it holds, or does not: what that is before and after, whether it is as it was, whether its count
-- of faults rose, and whether it goes on telling or not and counts no less than before.
pub record Seen (H : Type 0) : Type 1 where
  pub tells : Type 0
  pub before : H
  pub after : H
  pub same : Type 0
  pub rose : Type 0
  pub goes_on : Type 0

abbrev pub seen : {X H : Type 0} → (X → Type 0) → (X → H) → (X → ℕ) → X → X → Seen H
seen tells holds count old new = record {
  tells = tells old;
  before = holds old;
  after = holds new;
  same = new ≡ old;
  rose = Rose (count old) (count new);
  goes_on = (tells old ↔ tells new) × (count old ≤ count new);
}

-- what a disk holds, with its own number
pub record OnDisk : Type 0 where
  pub held : Holdings
  pub own : ℕ

abbrev pub on_disk : {D : Type 0} → (D → Holdings) → (D → ℕ) → D → OnDisk
on_disk held refusals disk = record { held = held disk; own = refusals disk }

-- a disk on which no file is in use, and with which nothing is done
abbrev pub left_alone : OnDisk → Seen OnDisk
left_alone disk = record { tells = disk.held.in_use ≡ set.empty; before = disk; after = disk; same = Unit {0}; rose = ⊥; goes_on = Unit {0} }
