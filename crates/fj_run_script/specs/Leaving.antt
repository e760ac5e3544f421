-- What one call of a runner leaves of its disk, its sink and its machine.
use Rattle.std.specs.Prelude.{◌≡◌, ◌⊎◌, ◌↔◌, ℕ, ◌≤◌, List, Some, None, IsSome}
use Rattle.fj_outside.specs.Faults.{Rose}
use Rattle.fj_outside.specs.declared.outside.FileStore.{Ghosts}
use Rattle.fj_run_items.specs.Handing.{HandsOver}
use Rattle.fj_run_items.specs.declared.lost.Lost.TheVariants.{Disk, Sink}
use Rattle.fj_run_script.specs.Taking.{TakesMore}
use Rattle.fj_run_script.specs.declared.machine.Machine.{Machine}

pub record Leaves {W D F : Type 0} {ghosts : Ghosts F} (tells_out : W → Type 0) (taken : W → List ℕ) (count_out : W → ℕ) (tells : D → Type 0) (count refusals : D → ℕ)
    (out : W) (disk : D) (m : Machine F ghosts) (out' : W) (disk' : D) (m' : Machine F ghosts) : Type 0 where
  pub telling : tells disk ↔ tells disk'
  pub later : count disk ≤ count disk'
  pub own : tells disk → refusals disk ≤ refusals disk'
  pub telling_out : tells_out out ↔ tells_out out'
  pub later_out : count_out out ≤ count_out out'
  -- the sink took the records that ended, where nothing is lost but by the disk; and else it took more behind what it had
  pub output : tells_out out → (m'.tally.lost ≡ None) ⊎ (m'.tally.lost ≡ Some Disk) → HandsOver (taken out) (taken out') m.state.core.output m'.state.core.output
  pub front : tells_out out → TakesMore (taken out) (taken out')
  -- a fault of the outside has its cause
  pub of_disk : m'.tally.lost ≡ Some Disk → (m.tally.lost ≡ Some Disk) ⊎ Rose (count disk) (count disk')
  pub of_sink : m'.tally.lost ≡ Some Sink → (m.tally.lost ≡ Some Sink) ⊎ Rose (count_out out) (count_out out')
  -- what was lost first stays
  pub first : IsSome m.tally.lost → m'.tally.lost ≡ m.tally.lost
  pub deck : m'.deck ≡ m.deck
  pub looks : m'.looks ≡ m.looks

-- a call that touches neither disk nor sink
pub record Rests {F : Type 0} {ghosts : Ghosts F} (m m' : Machine F ghosts) : Type 0 where
  pub at : m'.at ≡ m.at
  pub names : m'.state.core.names ≡ m.state.core.names
  pub units : m'.state.core.units ≡ m.state.core.units
  pub output : m'.state.core.output ≡ m.state.core.output
  pub of_disk : m'.tally.lost ≡ Some Disk → m.tally.lost ≡ Some Disk
  pub of_sink : m'.tally.lost ≡ Some Sink → m.tally.lost ≡ Some Sink
  pub first : IsSome m.tally.lost → m'.tally.lost ≡ m.tally.lost
  pub deck : m'.deck ≡ m.deck
  pub looks : m'.looks ≡ m.looks

-- one call of a runner, whose sink, disk and machine go by these names: they are the same ones
pub record Leads {N : Type 0} (out disk machine out' disk' machine' : N) (left_so given_up_so short_so asking_so stays_so reason_so keeps_so : Type 0) : Type 0 where
  pub same_out : out' ≡ out
  pub same_disk : disk' ≡ disk
  pub same_machine : machine' ≡ machine
  pub leaves : left_so
  pub gives_up : given_up_so
  pub short : short_so
  pub asking : asking_so
  pub stays : stays_so
  pub reason : reason_so
  pub keeps : keeps_so
