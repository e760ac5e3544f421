-- How a disk's own number counts the calls that failed.
use Rattle.std.specs.Prelude.{◌≡◌, ℕ, ◌≤◌, Bool, true, false, Result, Ok, Err}
use Rattle.fj_outside.specs.Faults.{Rose}
use Rattle.fj_outside.specs.declared.errors.Stop.{Stop}
use Rattle.fj_outside.specs.declared.errors.Stop.TheVariants.{Failed, Memory}

-- whether the outside failed, of a call for which memory can be refused too
abbrev pub has_failed : {T : Type 0} → Result T Stop → Bool
has_failed (Ok answer) = false
has_failed (Err Failed) = true
has_failed (Err (Memory error)) = false

-- the number before a call and after it: it rises where the call failed, and else stays; it never falls
abbrev pub CountsFailure : Bool → ℕ → ℕ → Type 0
CountsFailure true before now = (before ≤ now) × Rose before now
CountsFailure false before now = now ≡ before
