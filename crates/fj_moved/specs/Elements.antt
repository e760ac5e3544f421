-- The elements of a variable, which others may share.
use Rattle.std.specs.Prelude.{◌≡◌, ◌≤◌, ⊤, Bool, true, false, List, [], length, vec_capacity}
use Rattle.std.specs.List.{list_all}
use Rattle.fj_moved.specs.declared.elements.Kept.{Kept}
use Rattle.fj_moved.specs.declared.elements.Kept.TheVariants.{Own, Shared}

abbrev pub elements_of : {T : Type 0} → Kept T → List T
elements_of (Own items) = items
elements_of (Shared items spare) = items.value

abbrev pub is_own : {T : Type 0} → Kept T → Bool
is_own (Own items) = true
is_own (Shared items spare) = false

-- those that are shared are plain, and there is room for copies of them all
abbrev pub IsKept : {T : Type 0} → (T → Bool) → Kept T → Type 0
IsKept test (Own items) = ⊤
IsKept test (Shared items spare) = (list_all test items.value ≡ true) × (spare.items ≡ []) × (length items.value ≤ vec_capacity spare)
