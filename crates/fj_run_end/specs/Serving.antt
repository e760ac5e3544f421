-- The jobs that are left are performed.
use Rattle.std.specs.Prelude.{◌≡◌, ◌+◌, ◌⊎◌, true, is_some}
use Rattle.fj_slot.specs.Ledger.{Ledger}
use Rattle.fj_slot.specs.Serving.{Meaning}
use Rattle.fj_world.specs.Alone.{ServesOn}

-- the first job that was not done is done, or it stopped the slot
pub record ServesFirst {G J A P T R : Type 0} (m : Meaning G J A P T R) (old new : Ledger G J A) : Type 0 where
  pub serves : ServesOn m old new
  pub further : (new.done ≡ old.done + 1) ⊎ (is_some new.halt ≡ true)
