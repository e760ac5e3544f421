-- The ask at hand, and what may be asked.
use Rattle.std.specs.Prelude.{◌≡◌, ℕ, ◌+◌, ◌^◌, ◌<◌, Bool, false, List, Option, Some, None, get_or}
use Rattle.fj_run_items.specs.declared.lost.Lost.{Lost}
use Rattle.fj_world.specs.Conduct as conduct
use Rattle.fj_world.specs.Conduct.{Due}
use Rattle.fj_run_script.specs.declared.hand.Hand.{Hand}
use Rattle.fj_run_script.specs.declared.hand.Hand.TheVariants.{Idle, Submitting, Settling}

abbrev pub due_of : Hand → Due
due_of Idle = conduct.Idle
due_of (Submitting slot) = conduct.Submitting slot
due_of (Settling slot) = conduct.Settling slot

-- the ask at hand may be asked
abbrev pub MaySubmit : Hand → Bool → ℕ → Type 0
MaySubmit hand over left = (slot : ℕ) → hand ≡ Submitting slot → (over ≡ false) × (slot < 16) × (0 < left)

abbrev pub MaySettle : Hand → Bool → ℕ → List ℕ → Type 0
MaySettle hand over left owed = (slot : ℕ) → hand ≡ Settling slot → (over ≡ false) × (slot < 16) × (0 < left) × (0 < get_or owed slot 0)

abbrev pub AreFew : ℕ → List ℕ → Type 0
AreFew left owed = (slot : ℕ) → get_or owed slot 0 + left < 2 ^ 63

-- by slot, how many submitted jobs are not told
abbrev pub owed_at : List ℕ → ℕ → ℕ
owed_at owed slot = get_or owed slot 0

-- what was lost first
abbrev pub first_lost : Option Lost → Lost → Option Lost
first_lost None lost = Some lost
first_lost (Some first) lost = Some first
