-- The tests `is_refused` and `is_conflict` decide the cases of errors 3 and 8.
use Rattle.std.proofs.Common.{◌≡◌, ◌<◌, ◌||◌, ◌⊎◌, inl, inr, Bool, true, false, not, eqb, ltb, Decides, refl, ap, ◌∙◌}
use Rattle.std.specs.Prelude.{ℕ, Option, Some, None, IsSome, IsNone, IsSomeAnd, is_some}
use Rattle.std.specs.Bool.{beq}
use Rattle.std.specs.Cmp.{booleans_Decides}
use Rattle.std.proofs.lemmas.Bool.Decides.{Decides-eqb, Decides-ltb, Decides-and, Decides-or, Decides-like}
use Rattle.fj_modes.specs.declared.modes.Modes.{Modes}
use Rattle.fj_modes.specs.declared.specifiers.OpenSpec.{OpenSpec}
use Rattle.fj_modes.specs.declared.specifiers.Access.TheVariants.{Direct, Stream}
use Rattle.fj_modes.specs.declared.specifiers.FileStatus.{FileStatus}
use Rattle.fj_modes.specs.declared.specifiers.FileStatus.TheVariants.{Old, Scratch}
use Rattle.fj_modes.specs.declared.specifiers.Start.TheVariants.{AsIs}
use Rattle.fj_modes.specs.Words.{same_access, same_action, is_old, is_as_is, is_scratch, Differs}
use Rattle.fj_modes.specs.OpenSpec.{access_asked, formatted_asked, record_limit, names_edit_mode, is_refused, IsRefused, direct_lacks_length, stream_has_length, length_is_zero, length_is_above_limit, direct_has_position, unformatted_has_edit_mode, scratch_has_name}
use Rattle.fj_modes.specs.Modes.{is_conflict, IsConflict, changes_access, changes_form, changes_length, changes_action, changes_asynchronous, status_is_not_old, position_is_not_as_is, connection_has_no_edit_mode}
use Rattle.fj_modes.proofs.WordLemmas.{same_access-decides, same_action-decides, is_old-decides, is_scratch-decides, is_as_is-decides, given_and-decides, differs-decides}

itself : (b : Bool) → Decides b (b ≡ true)
itself b = (λ e. e, λ e. e)

not-decides : (b : Bool) → Decides (not b) (b ≡ false)
not-decides true = (λ e. cc, λ e. cc)
not-decides false = (λ _. refl, λ _. refl)

abbrev BadLength : OpenSpec → ℕ → Type 0
BadLength spec n = (n ≡ 0) ⊎ (record_limit (formatted_asked spec) < n)

-- the cases of error 3 in the order of the test
abbrev InOrder : OpenSpec → Type 0
InOrder spec =
    ((((((access_asked spec ≡ Direct) × IsNone spec.recl)
    ⊎ ((access_asked spec ≡ Stream) × IsSome spec.recl))
    ⊎ IsSomeAnd spec.recl (BadLength spec))
    ⊎ ((access_asked spec ≡ Direct) × IsSome spec.position))
    ⊎ ((formatted_asked spec ≡ false) × (names_edit_mode spec ≡ true)))
    ⊎ (IsSome spec.file × IsSomeAnd spec.status (λ s. s ≡ Scratch))

bad_length : (spec : OpenSpec) (given : Option ℕ) → spec.recl ≡ given → IsSomeAnd given (BadLength spec) → IsRefused spec
bad_length spec None e h = absurd h
bad_length spec (Some n) e (inl zero) = length_is_zero (e ∙ ap Some zero)
bad_length spec (Some n) e (inr above) = length_is_above_limit (rw e above)

is_scratch_status : (given : Option FileStatus) → IsSomeAnd given (λ s. s ≡ Scratch) → given ≡ Some Scratch
is_scratch_status None h = absurd h
is_scratch_status (Some s) h = ap Some h

from_order : (spec : OpenSpec) → InOrder spec → IsRefused spec
from_order spec (inl (inl (inl (inl (inl h))))) = direct_lacks_length h.0 h.1
from_order spec (inl (inl (inl (inl (inr h))))) = stream_has_length h.0 h.1
from_order spec (inl (inl (inl (inr h)))) = bad_length spec spec.recl refl h
from_order spec (inl (inl (inr h))) = direct_has_position h.0 h.1
from_order spec (inl (inr h)) = unformatted_has_edit_mode h.0 h.1
from_order spec (inr h) = scratch_has_name (is_scratch_status spec.status h.1) h.0

above_limit : (spec : OpenSpec) (given : Option ℕ) → IsSomeAnd given (λ n. record_limit (formatted_asked spec) < n) → IsSomeAnd given (BadLength spec)
above_limit spec None h = absurd h
above_limit spec (Some n) h = inr h

to_order : (spec : OpenSpec) → IsRefused spec → InOrder spec
to_order spec (direct_lacks_length d n) = inl (inl (inl (inl (inl (d, n)))))
to_order spec (stream_has_length s h) = inl (inl (inl (inl (inr (s, h)))))
to_order spec (length_is_zero z) = inl (inl (inl (inr (rw z (inl refl)))))
to_order spec (length_is_above_limit h) = inl (inl (inl (inr (above_limit spec spec.recl h))))
to_order spec (direct_has_position d h) = inl (inl (inr (d, h)))
to_order spec (unformatted_has_edit_mode f h) = inl (inr (f, h))
to_order spec (scratch_has_name s h) = inr (h, rw s refl)

pub is_refused-decides : (spec : OpenSpec) → Decides (is_refused spec) (IsRefused spec)
is_refused-decides spec =
    Decides-like (is_refused spec) (from_order spec) (to_order spec)
    (Decides-or _ _ (Decides-or _ _ (Decides-or _ _ (Decides-or _ _ (Decides-or _ _
    (Decides-and _ _ (same_access-decides (access_asked spec) Direct) (not-decides (is_some spec.recl)))
    (Decides-and _ _ (same_access-decides (access_asked spec) Stream) (itself (is_some spec.recl))))
    (given_and-decides (λ n. eqb n 0 || ltb (record_limit (formatted_asked spec)) n) (BadLength spec) (λ n. Decides-or _ _ (Decides-eqb n 0) (Decides-ltb (record_limit (formatted_asked spec)) n)) spec.recl))
    (Decides-and _ _ (same_access-decides (access_asked spec) Direct) (itself (is_some spec.position))))
    (Decides-and _ _ (not-decides (formatted_asked spec)) (itself (names_edit_mode spec))))
    (Decides-and _ _ (itself (is_some spec.file)) (given_and-decides is_scratch (λ s. s ≡ Scratch) is_scratch-decides spec.status)))

-- the cases of error 8 in the order of the test
abbrev ConflictInOrder : Modes → OpenSpec → Type 0
ConflictInOrder modes spec =
    (((((Differs spec.access modes.access
    ⊎ Differs spec.formatted modes.formatted)
    ⊎ Differs spec.recl modes.recl)
    ⊎ Differs spec.action modes.action)
    ⊎ Differs spec.asynchronous modes.asynchronous)
    ⊎ (Differs spec.status Old ⊎ Differs spec.position AsIs))
    ⊎ ((modes.formatted ≡ false) × (names_edit_mode spec ≡ true))

conflict_from_order : (modes : Modes) (spec : OpenSpec) → ConflictInOrder modes spec → IsConflict modes spec
conflict_from_order modes spec (inl (inl (inl (inl (inl (inl h)))))) = changes_access h
conflict_from_order modes spec (inl (inl (inl (inl (inl (inr h)))))) = changes_form h
conflict_from_order modes spec (inl (inl (inl (inl (inr h))))) = changes_length h
conflict_from_order modes spec (inl (inl (inl (inr h)))) = changes_action h
conflict_from_order modes spec (inl (inl (inr h))) = changes_asynchronous h
conflict_from_order modes spec (inl (inr (inl h))) = status_is_not_old h
conflict_from_order modes spec (inl (inr (inr h))) = position_is_not_as_is h
conflict_from_order modes spec (inr h) = connection_has_no_edit_mode h.0 h.1

conflict_to_order : (modes : Modes) (spec : OpenSpec) → IsConflict modes spec → ConflictInOrder modes spec
conflict_to_order modes spec (changes_access h) = inl (inl (inl (inl (inl (inl h)))))
conflict_to_order modes spec (changes_form h) = inl (inl (inl (inl (inl (inr h)))))
conflict_to_order modes spec (changes_length h) = inl (inl (inl (inl (inr h))))
conflict_to_order modes spec (changes_action h) = inl (inl (inl (inr h)))
conflict_to_order modes spec (changes_asynchronous h) = inl (inl (inr h))
conflict_to_order modes spec (status_is_not_old h) = inl (inr (inl h))
conflict_to_order modes spec (position_is_not_as_is h) = inl (inr (inr h))
conflict_to_order modes spec (connection_has_no_edit_mode f h) = inr (f, h)

pub is_conflict-decides : (modes : Modes) (spec : OpenSpec) → Decides (is_conflict modes spec) (IsConflict modes spec)
is_conflict-decides modes spec =
    Decides-like (is_conflict modes spec) (conflict_from_order modes spec) (conflict_to_order modes spec)
    (Decides-or _ _ (Decides-or _ _
    (Decides-or _ _ (Decides-or _ _ (Decides-or _ _ (Decides-or _ _
    (differs-decides (same_access modes.access) modes.access (same_access-decides modes.access) spec.access)
    (differs-decides (beq modes.formatted) modes.formatted (booleans_Decides modes.formatted) spec.formatted))
    (differs-decides (eqb modes.recl) modes.recl (Decides-eqb modes.recl) spec.recl))
    (differs-decides (same_action modes.action) modes.action (same_action-decides modes.action) spec.action))
    (differs-decides (beq modes.asynchronous) modes.asynchronous (booleans_Decides modes.asynchronous) spec.asynchronous))
    (Decides-or _ _
    (differs-decides is_old Old is_old-decides spec.status)
    (differs-decides is_as_is AsIs is_as_is-decides spec.position)))
    (Decides-and _ _ (not-decides modes.formatted) (itself (names_edit_mode spec))))
