-- What the numbers that a seat sees say of the slot, in the slot's own words.
use Rattle.std.specs.Prelude.{◌≡◌, ◌≢◌, ◌↔◌, false, Some}
use Rattle.fj_outside.specs.declared.errors.Stop.{Stop}
use Rattle.fj_outside.specs.declared.errors.Stop.TheVariants.{Failed}
use Rattle.fj_slot.specs.Ledger.{Ledger, IsSized, can_begin}
use Rattle.fj_queue.specs.Cell.{submitted, progress, stop_code, code_of}
use Rattle.fj_queue.specs.Answers.{NothingToBegin}
use Rattle.fj_queue.specs.declared.view.View.{View}

-- the numbers that were seen are this slot's
pub record Saw {E J A T : Type 0} (v : View E T) (c : Ledger E J A) : Type 0 where
  pub jobs : v.submissions ≡ Some (submitted c)
  pub steps : v.progress ≡ Some (progress c)
  pub stop : v.stop ≡ Some (stop_code c.halt)

-- the numbers show that there was nothing to begin exactly where no job of the slot may be begun
abbrev pub ShowsNothingToBegin : (E J A T : Type 0) → Type 0
ShowsNothingToBegin E J A T = (v : View E T) (c : Ledger E J A) → IsSized c → Saw v c → (NothingToBegin v ↔ (can_begin c ≡ false))

-- the word for a stop is not that for none, and tells the two kinds apart
abbrev pub TellsStopsApart : Type 0
TellsStopsApart = (a b : Stop) → (code_of a ≢ 0) × (code_of a ≡ code_of b → ((a ≡ Failed) ↔ (b ≡ Failed)))
