-- When the slots, the names and the connection that a machine leaves are those of its units.
use Rattle.std.specs.Prelude.{◌≢◌, ℕ, List, Option, Some, None, IfSome, option_map}
use Rattle.fj_outside.specs.declared.outside.FileStore.{Ghosts}
use Rattle.fj_connect.specs.Linked.{Linked}
use Rattle.fj_slot.specs.Serving.{Meaning}
use Rattle.fj_world.specs.Rack.{Rack}
use Rattle.fj_bay.specs.Bay.{Bay}
use Rattle.fj_bay.specs.Jobs.{Job, Answer}
use Rattle.fj_meaning_jobs.specs.Core.{Connected}
use Rattle.fj_run_units.specs.Having.{HaveFiles}
use Rattle.fj_run_end.specs.Holding.{HoldUnits}
use Rattle.fj_run_statements.specs.Having.{HaveBut}
use Rattle.fj_run_script.specs.declared.machine.Machine.{Machine}

-- the name of a connection that was kept
abbrev pub kept_name : {F : Type 0} → Option (Linked F) → Option (List ℕ)
kept_name {F} kept = option_map (λ (c : Linked F). c.name) kept

-- it is not that one
abbrev pub IsOther : {F : Type 0} → Option (Linked F) → List ℕ → Type 0
IsOther {F} kept name = IfSome kept (λ (c : Linked F). c.name ≢ name)

-- the files that are out are those of the units, and of a connection that was kept, which no unit has
abbrev pub AreOut : Option (List ℕ) → List (List ℕ) → List Connected → Type 0
AreOut None names us = HaveFiles names us
AreOut (Some name) names us = HaveBut name names us

-- Each slot holds the connection of its unit, if it has one, and of no other; and the files that are out are those.
pub record LeavesFit {E J A F : Type 0} {ghosts : Ghosts F} (meaning : Meaning E J A Bay Job Answer) (rack : Rack E J A) (m : Machine F ghosts) : Type 0 where
  pub held : HoldUnits meaning rack m.state.core.units
  pub out : AreOut (kept_name m.kept) m.state.core.names m.state.core.units
