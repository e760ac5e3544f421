-- A call that gives up misses no look.
use Rattle.std.specs.Prelude.{◌≡◌, ◌<◌, ◌≤◌, Bool, true, false, List, length, Option, Some}
use Rattle.fj_outside.specs.declared.outside.FileStore.{Ghosts}
use Rattle.fj_meaning.specs.Statement.{Stated}
use Rattle.fj_meaning_turns.specs.Run.{Run}
use Rattle.fj_meaning_turns.specs.Turns.{Asked}
use Rattle.fj_meaning_looks.specs.Looking.{asked_until}
use Rattle.fj_meaning_looks.specs.Stretches.{StandsAtLook}
use Rattle.fj_run_script.specs.Machine.{rest_of}
use Rattle.fj_run_script.specs.declared.hand.Hand.TheVariants.{Idle}
use Rattle.fj_run_script.specs.declared.machine.Machine.{Machine}

-- Where these statements are left, it came no further than to where it asks; and not so far, where that is at a statement that looks.
pub record IsShort (looks : Stated → Run → Bool) (a : Asked) (rest : List Stated) : Type 0 where
  pub left : length a.run.rest ≤ length rest
  pub before_look : StandsAtLook looks a.run → length a.run.rest < length rest

-- an ask by which it is over
abbrev pub FallsShort : {F : Type 0} {ghosts : Ghosts F} → (Stated → Run → Bool) → Option Run → Machine F ghosts → Machine F ghosts → Type 0
FallsShort looks state m m' = (r : Run) → state ≡ Some r → m.tally.hand ≡ Idle → m.tally.over ≡ false → m'.tally.over ≡ true → IsShort looks (asked_until looks r) (rest_of m')
