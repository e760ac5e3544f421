-- Each look is met, once.
use Rattle.std.specs.Prelude.{◌≡◌, ℕ, ◌<◌, Bool, false, List, ◌∷◌, length, Some, None}
use Rattle.fj_slot.specs.Serving.{Meaning}
use Rattle.fj_world.specs.declared.ask.Ask.TheVariants.{Finished}
use Rattle.fj_world.specs.Plain.{PlainSlot}
use Rattle.fj_bay.specs.Bay.{Bay}
use Rattle.fj_bay.specs.Jobs.{Job, Answer}
use Rattle.fj_meaning.specs.Statement.{Stated}
use Rattle.fj_meaning_turns.specs.Passing.{passes}
use Rattle.fj_meaning_turns.specs.Run.{Run}
use Rattle.fj_meaning_turns.specs.Serving.{Shows}
use Rattle.fj_meaning_looks.specs.Looking.{asked_until}
use Rattle.fj_meaning_looks.specs.Stretches.{StandsAtLook, stretch, ToLook}

-- it passes statements to one that looks, and stops there
pub record MeetsLook (looks : Stated → Run → Bool) (r : Run) : Type 0 where
  pub at : Run
  pub count : ℕ
  pub passed : passes count r ≡ Some at
  pub stands : StandsAtLook looks at
  pub stops : asked_until looks r ≡ record { ask = Finished; run = at }

-- where the runner would pass statements to one that looks, it stops there or at an earlier one
abbrev pub LooksAreMet : Type 0
LooksAreMet = (looks : Stated → Run → Bool) (r run : Run) (count : ℕ) → r.ending ≡ None → passes count r ≡ Some run → StandsAtLook looks run → MeetsLook looks r

module _ {E J A S : Type 0} (m : Meaning E J A Bay Job Answer) (s : Shows S) (looks : Stated → Run → Bool) where
  -- a stretch that begins at a statement that does not look comes to a later one
  abbrev pub NextLookIsBehind : Type 0
  NextLookIsBehind = (r : Run) (qs : List (PlainSlot Bay Job)) (n : ℕ) (st : Stated) (behind : List Stated) → r.rest ≡ st ∷ behind → looks st r ≡ false →
      ToLook m s looks r qs (stretch m s looks n r qs) → length (stretch m s looks n r qs).script.rest < length r.rest
