-- Events, one after another.
use Rattle.std.specs.Prelude.{◌≡◌, ℕ, ◌+◌, ◌≤◌, Bool, true, false, ◌&&◌, List, length, Some, slice_get, if◌then◌else◌}
use Rattle.fj_slot.specs.Serving.{Meaning}
use Rattle.fj_world.specs.declared.event.Event.{Event}
use Rattle.fj_world.specs.Conduct.{Conduct}
use Rattle.fj_world.specs.Fits.{Fits, StepFits}
use Rattle.fj_world.specs.Happening.{Happens}
use Rattle.fj_world.specs.Keeping.{Keeps}
use Rattle.fj_world.specs.Plain.{Plain, after}
use Rattle.fj_world.specs.Scene.{Scene}
use Rattle.fj_world.specs.Sketch.{Moves}
use Rattle.fj_world.specs.Steps.{is_enabled, is_script}

-- one event: it was enabled and happened, or it was not and nothing changed
pub record Steps {S G J A P T R : Type 0} (m : Meaning G J A P T R) (c : Conduct S T R) (event : Event) (enabled : Bool) (old new : Scene S G J A P T R) : Type 0 where
  pub variant : enabled ≡ is_enabled old event
  pub none : enabled ≡ false → new ≡ old
  pub happens : enabled ≡ true → Happens m c event old new
  pub keeps : enabled ≡ true → Keeps m c old new
  -- a script that is over is served no more
  pub going : enabled ≡ true → is_script event ≡ true → c.over old.script ≡ false
  pub fits : (p : Plain P c) → Fits m c p old → StepFits m c event enabled p new
  pub moves : enabled ≡ true → Moves m c event old new

-- the first events of a list: how many there were, how many were enabled, and how many of these served the script
pub data Runs {S G J A P T R : Type 0} (m : Meaning G J A P T R) (c : Conduct S T R) (events : List Event) (old : Scene S G J A P T R) : ℕ → ℕ → ℕ → Scene S G J A P T R → Type 0 where
  Begins : Runs m c events old 0 0 0 old
  Further : (k enabled served : ℕ) (event : Event) (was : Bool) (mid new : Scene S G J A P T R) → Runs m c events old k enabled served mid
      → slice_get events k ≡ Some event → Steps m c event was mid new
      → Runs m c events old (k + 1) (enabled + (if was then 1 else 0)) (served + (if was && is_script event then 1 else 0)) new

-- The world fits after as many entries as served the script. Once the script is over the last of them may be a refusal or a
-- stop, which is no entry.
pub record FitsServed {S G J A P T R : Type 0} (m : Meaning G J A P T R) (c : Conduct S T R) (p : Plain P c) (served : ℕ) (w : Scene S G J A P T R) : Type 0 where
  pub entries : ℕ
  pub few : entries ≤ served
  pub many : served ≤ entries + 1
  pub exact : c.over w.script ≡ false → entries ≡ served
  pub fits : Fits m c (after m c entries p) w

-- all events of a list
pub record RunsThrough {S G J A P T R : Type 0} (m : Meaning G J A P T R) (c : Conduct S T R) (events : List Event) (enabled : ℕ) (old new : Scene S G J A P T R) : Type 0 where
  pub served : ℕ
  pub runs : Runs m c events old (length events) enabled served new
  pub keeps : Keeps m c old new
  pub fits : (p : Plain P c) → Fits m c p old → FitsServed m c p served new
