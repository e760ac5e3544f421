-- Which transfer an answer belongs to.
use Rattle.std.specs.Prelude.{◌≡◌, ℕ, ◌==◌, ◌&&◌, ◌<◌, Bool, false, List, length, get_or, Some, is_none}
use Rattle.fj_run_pending.specs.declared.held.Held.{Held}
use Rattle.fj_run_pending.specs.declared.held.Told.{Told}

-- its job has that number at that slot
abbrev pub is_at : ℕ → ℕ → Held → Bool
is_at slot number h = (h.slot == slot) && (h.number == number)

-- it is of the slot, and has no answer
abbrev pub waits_at : ℕ → Held → Bool
waits_at slot h = (h.slot == slot) && is_none h.answer

abbrev pub with_told : Told → Held → Held
with_told told h = record h { answer = Some told }

-- of the first ones none waits at the slot
abbrev pub NoneWaits : ℕ → List Held → ℕ → Type 0
NoneWaits slot hs n = (k : ℕ) (h : Held) → k < n → k < length hs → waits_at slot (get_or hs k h) ≡ false
