-- What a step of a statement leaves of its disk, its sink and the core of its run, whatever it comes to.
use Rattle.std.specs.Prelude.{◌≡◌, ◌↔◌, ℕ, ◌≤◌, List, Result, Err, OnOk}
use Rattle.fj_outside.specs.Faults.{Rose}
use Rattle.fj_outside.specs.Holdings.{Holdings}
use Rattle.fj_run_items.specs.Handing.{HandsOver}
use Rattle.fj_run_items.specs.declared.lost.Lost.{Lost}
use Rattle.fj_run_items.specs.declared.lost.Lost.TheVariants.{Disk, Sink}
use Rattle.fj_run_units.specs.Names.{AreInUse}
use Rattle.fj_run_statements.specs.declared.state.Core.{Core}
use Rattle.fj_run_script.specs.Taking.{TakesMore}

-- it calls nothing of the outside
pub record Keeps (core core' : Core) : Type 0 where
  pub kinds : core'.store.kinds ≡ core.store.kinds
  pub names : core'.names ≡ core.names
  pub output : core'.output ≡ core.output

pub record Steps {W D X : Type 0} (tells_out : W → Type 0) (taken : W → List ℕ) (count_out : W → ℕ) (tells : D → Type 0) (held : D → Holdings) (count refusals : D → ℕ)
    (out : W) (disk : D) (core : Core) (result : Result X Lost) (out' : W) (disk' : D) (core' : Core) : Type 0 where
  pub kinds : core'.store.kinds ≡ core.store.kinds
  -- the names that it keeps are still those in use
  pub names : tells disk → AreInUse core.names (held disk).in_use → AreInUse core'.names (held disk').in_use
  pub telling : tells disk ↔ tells disk'
  pub later : count disk ≤ count disk'
  pub own : tells disk → refusals disk ≤ refusals disk'
  pub failed : result ≡ Err Disk → Rose (count disk) (count disk')
  pub telling_out : tells_out out ↔ tells_out out'
  pub later_out : count_out out ≤ count_out out'
  pub failed_out : result ≡ Err Sink → Rose (count_out out) (count_out out')
  -- the sink took the records that ended, also where the disk failed; where the run is given up, it took more behind what it had
  pub output : tells_out out → OnOk result (HandsOver (taken out) (taken out') core.output core'.output)
  pub still : tells_out out → result ≡ Err Disk → HandsOver (taken out) (taken out') core.output core'.output
  pub front : tells_out out → TakesMore (taken out) (taken out')
