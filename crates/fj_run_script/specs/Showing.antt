-- What a script over a machine, a disk and a sink shows.
use Rattle.std.specs.Prelude.{ℕ, Bool, List, None, if◌then◌else◌}
use Rattle.fj_outside.specs.Holdings.{Holdings}
use Rattle.fj_outside.specs.declared.outside.FileStore.{Ghosts}
use Rattle.fj_meaning.specs.Statement.{Stated}
use Rattle.fj_meaning_turns.specs.Run.{Run}
use Rattle.fj_meaning_turns.specs.Serving.{Shows}
use Rattle.fj_run_units.specs.Files.{files_of}
use Rattle.fj_run_script.specs.Failing.{IsGivenUp, FailsAsking, Stays, HasReason}
use Rattle.fj_run_script.specs.Kept.{KeepsFiles}
use Rattle.fj_run_script.specs.Leaving.{Leaves, Leads}
use Rattle.fj_run_script.specs.Machine.{run_of}
use Rattle.fj_run_script.specs.Short.{FallsShort}
use Rattle.fj_run_script.specs.Tallying.{due_of, owed_at}
use Rattle.fj_run_script.specs.declared.machine.Machine.{Machine}

-- by their names and what they are now; it finishes at statements that look so
abbrev pub shows_by : {S N W D F : Type 0} {ghosts : Ghosts F} → (looks : Stated → Run → Bool) (tells_out : W → Type 0) (taken : W → List ℕ) (count_out : W → ℕ)
    (tells : D → Type 0) (decided : D → Bool) (held : D → Holdings) (count refusals : D → ℕ) (told : F → Bool) (bytes : F → List ℕ)
    (out_name disk_name machine_name : S → N) (out : S → W) (disk : S → D) (machine : S → Machine F ghosts) → Shows S
shows_by looks tells_out taken count_out tells decided held count refusals told bytes out_name disk_name machine_name out disk machine = record {
  left = λ r. (machine r).tally.left;
  uses = λ _. 16;
  owed = λ r at. owed_at (machine r).tally.owed.items at;
  due = λ r. due_of (machine r).tally.hand;
  over = λ r. (machine r).tally.over;
  stopped = λ r. (machine r).tally.stopped;
  leads = λ old new. Leads (out_name old) (disk_name old) (machine_name old) (out_name new) (disk_name new) (machine_name new)
      (Leaves tells_out taken count_out tells count refusals (out old) (disk old) (machine old) (out new) (disk new) (machine new))
      (IsGivenUp (tells_out (out old)) (taken (out old)) (taken (out new)) (held (disk new)) (refusals (disk old)) (refusals (disk new))
      (if decided (disk old) then run_of told bytes (files_of (held (disk old))) (machine old) else None) (machine old) (machine new))
      (FallsShort looks (if decided (disk old) then run_of told bytes (files_of (held (disk old))) (machine old) else None) (machine old) (machine new))
      (FailsAsking (disk old) (disk new) (machine old) (machine new)) (Stays (taken (out old)) (taken (out new)) (disk old) (disk new) (machine old) (machine new)) (HasReason (machine old) (machine new)) (KeepsFiles (machine old) (machine new));
  state = λ r. if decided (disk r) then run_of told bytes (files_of (held (disk r))) (machine r) else None;
}
