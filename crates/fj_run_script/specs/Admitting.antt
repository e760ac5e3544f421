-- An ask that is admitted.
use Rattle.std.specs.Prelude.{◌≡◌, ◌<◌, ℕ, true, List}
use Rattle.fj_world.specs.declared.ask.Ask.{Ask}
use Rattle.fj_world.specs.declared.ask.Ask.TheVariants.{Submit, Settle, Finished}
use Rattle.fj_world.specs.Conduct.{IsDueAsk}
use Rattle.fj_run_script.specs.Tallying.{due_of, owed_at}
use Rattle.fj_run_script.specs.declared.tally.Tally.{Tally}

-- that is asked; once it is over nothing is
pub record IsDue {J : Type 0} (old : Tally) (result : Ask J) (new : Tally) : Type 0 where
  pub stopped : new.stopped ≡ old.stopped
  pub left : new.left ≡ old.left
  pub owed : new.owed ≡ old.owed
  pub due : IsDueAsk (due_of new.hand) result
  pub over : old.over ≡ true → new.over ≡ true
  pub ends : new.over ≡ true → result ≡ Finished

-- it may be asked: there is the slot, it owes an answer that is awaited, and one more ask may come
abbrev pub MayAsk : {J : Type 0} → Ask J → List ℕ → ℕ → Type 0
MayAsk (Submit slot job) owed left = (slot < 16) × (0 < left)
MayAsk (Settle slot) owed left = (slot < 16) × (0 < owed_at owed slot) × (0 < left)
MayAsk Finished owed left = Unit {0}

-- it is asked
pub record IsAdmitted {J : Type 0} (old : Tally) (ask result : Ask J) (new : Tally) : Type 0 where
  pub asked : result ≡ ask
  pub over : new.over ≡ old.over
  pub lost : new.lost ≡ old.lost
