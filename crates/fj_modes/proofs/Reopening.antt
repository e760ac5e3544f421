-- The laws of `settled` and `changed`.
use Rattle.std.proofs.Common.{◌≡◌, ◌<◌, ◌≤◌, ◌||◌, ℕ, zero, suc, Bool, true, false, cond, Decides, refl, ap, ◌∙◌, subst, arith, inl, inr, lit<}
use Rattle.std.specs.Prelude.{Option, Some, None, Ok, Err, is_some, unwrap_or}
use Rattle.std.proofs.lemmas.Bool.{cases_lt, cases_Bool}
use Rattle.fj_value.specs.declared.condition.Condition.TheVariants.{Error}
use Rattle.fj_value.specs.declared.edit.EditModes.{EditModes}
use Rattle.fj_value.specs.declared.edit.Delim.{Delim}
use Rattle.fj_modes.specs.declared.modes.Modes.{Modes}
use Rattle.fj_modes.specs.declared.specifiers.OpenSpec.{OpenSpec}
use Rattle.fj_modes.specs.declared.specifiers.Access.TheVariants.{Direct, Stream}
use Rattle.fj_modes.specs.declared.specifiers.FileStatus.TheVariants.{Old}
use Rattle.fj_modes.specs.declared.specifiers.Start.{Start}
use Rattle.fj_modes.specs.declared.specifiers.Start.TheVariants.{AsIs}
use Rattle.fj_modes.specs.Words.{Differs, Agrees, TakesOrKeeps}
use Rattle.fj_modes.specs.OpenSpec.{access_asked, formatted_asked, record_limit, names_edit_mode, is_refused, IsRefused, stream_has_length, length_is_zero, length_is_above_limit, direct_has_position, unformatted_has_edit_mode}
use Rattle.fj_modes.specs.Modes.{usual_edit, edit_asked, modes_asked, changed, is_conflict, IsConflict, changes_access, changes_form, changes_length, changes_action, changes_asynchronous, status_is_not_old, position_is_not_as_is, connection_has_no_edit_mode, IsConsistent, IsInEffect, IsChangeBy}
use Rattle.fj_modes.specs.Laws.{SettledIsConsistent, ChangedIsConsistent, InEffectStays, OpenedAgainStays, ChangedTakesOrKeeps, ChangedTwiceStays}
use Rattle.fj_modes.proofs.WordLemmas.{unwrap_or-agrees}
use Rattle.fj_modes.proofs.Refusals.{is_refused-decides, is_conflict-decides}

-- an answer that is no refusal
accepted : {A E : Type 0} (refuses : Bool) (e : E) (a b : A) → cond refuses (Err e) (Ok a) ≡ Ok b → (refuses ≡ false) × (a ≡ b)
accepted true e a b h = cc
accepted false e a b h = (refl, cc)

absent : {P : Type 0} (b : Bool) → Decides b P → (P → ⊥) → b ≡ false
absent true d never = absurd (never (d.0 refl))
absent false d never = refl

refuted : {P : Type 0} (b : Bool) → Decides b P → b ≡ false → P → ⊥
refuted b d e p = let t = d.1 p in cc

abbrev make : Bool → Bool → Delim → Bool → Bool → EditModes
make blank_zero comma delim pad plus = record { blank_zero = blank_zero; comma = comma; delim = delim; pad = pad; plus = plus }

same_edit : (a b : EditModes) → a.blank_zero ≡ b.blank_zero → a.comma ≡ b.comma → a.delim ≡ b.delim → a.pad ≡ b.pad → a.plus ≡ b.plus → a ≡ b
same_edit a b blank comma delim pad plus =
    ap (λ x. make x a.comma a.delim a.pad a.plus) blank
    ∙ ap (λ x. make b.blank_zero x a.delim a.pad a.plus) comma
    ∙ ap (λ x. make b.blank_zero b.comma x a.pad a.plus) delim
    ∙ ap (λ x. make b.blank_zero b.comma b.delim x a.plus) pad
    ∙ ap (λ x. make b.blank_zero b.comma b.delim b.pad x) plus

kept : {A : Type 0} (given : Option A) (before : A) → is_some given ≡ false → unwrap_or given before ≡ before
kept None before e = refl
kept (Some x) before e = cc

none_of_five : (a b c d e : Bool) → (a || b || c || d || e) ≡ false → (a ≡ false) × (b ≡ false) × (c ≡ false) × (d ≡ false) × (e ≡ false)
none_of_five false false false false false h = (refl, refl, refl, refl, refl)
none_of_five true b c d e h = cc
none_of_five false true c d e h = cc
none_of_five false false true d e h = cc
none_of_five false false false true e h = cc
none_of_five false false false false true h = cc

edit_kept : (before : EditModes) (spec : OpenSpec) → names_edit_mode spec ≡ false → edit_asked before spec ≡ before
edit_kept before spec e =
    let n = none_of_five (is_some spec.blank_zero) (is_some spec.comma) (is_some spec.delim) (is_some spec.pad) (is_some spec.plus) e in
    same_edit (edit_asked before spec) before (kept spec.blank_zero _ n.0) (kept spec.comma _ n.1) (kept spec.delim _ n.2) (kept spec.pad _ n.3) (kept spec.plus _ n.4)

record_limit-above_zero : (formatted : Bool) → 0 < record_limit formatted
record_limit-above_zero true = lit< tt
record_limit-above_zero false = lit< tt

module _ (spec : OpenSpec) (fine : IsRefused spec → ⊥) where
  length_above_zero : (given : Option ℕ) → spec.recl ≡ given → 0 < unwrap_or given (record_limit (formatted_asked spec))
  length_above_zero None e = record_limit-above_zero (formatted_asked spec)
  length_above_zero (Some zero) e = absurd (fine (length_is_zero e))
  length_above_zero (Some (suc n)) e = omega arith

  length_within_limit : (given : Option ℕ) → spec.recl ≡ given → unwrap_or given (record_limit (formatted_asked spec)) ≤ record_limit (formatted_asked spec)
  length_within_limit None e = omega arith
  length_within_limit (Some n) e =
      elim (cases_lt (record_limit (formatted_asked spec)) n) [ inl above ↦ absurd (fine (length_is_above_limit (rw e above))) | inr within ↦ within ]

  stream_length : access_asked spec ≡ Stream → (given : Option ℕ) → spec.recl ≡ given → unwrap_or given (record_limit (formatted_asked spec)) ≡ record_limit (formatted_asked spec)
  stream_length stream None e = refl
  stream_length stream (Some n) e = absurd (fine (stream_has_length stream (rw e refl)))

  direct_start : access_asked spec ≡ Direct → (given : Option Start) → spec.position ≡ given → unwrap_or given AsIs ≡ AsIs
  direct_start direct None e = refl
  direct_start direct (Some start) e = absurd (fine (direct_has_position direct (rw e refl)))

  no_edit_mode : formatted_asked spec ≡ false → names_edit_mode spec ≡ false
  no_edit_mode unformatted =
      elim (cases_Bool (names_edit_mode spec)) [ inl named ↦ absurd (fine (unformatted_has_edit_mode unformatted named)) | inr none ↦ none ]

  asked_is_consistent : IsConsistent (modes_asked spec)
  asked_is_consistent = record {
    length_above_zero = length_above_zero spec.recl refl;
    length_within_limit = length_within_limit spec.recl refl;
    stream_length = λ stream. stream_length stream spec.recl refl;
    direct_start = λ direct. direct_start direct spec.position refl;
    unformatted_edit = λ unformatted. edit_kept usual_edit spec (no_edit_mode unformatted);
  }

not_refused : (spec : OpenSpec) → is_refused spec ≡ false → IsRefused spec → ⊥
not_refused spec e = refuted (is_refused spec) (is_refused-decides spec) e

pub settled_is_consistent : SettledIsConsistent
settled_is_consistent spec modes e =
    let a = accepted (is_refused spec) (Error 3) (modes_asked spec) modes e in
    subst IsConsistent a.1 (asked_is_consistent spec (not_refused spec a.0))

not_in_conflict : (modes : Modes) (spec : OpenSpec) → is_conflict modes spec ≡ false → IsConflict modes spec → ⊥
not_in_conflict modes spec e = refuted (is_conflict modes spec) (is_conflict-decides modes spec) e

no_conflict_mode : (modes : Modes) (spec : OpenSpec) → is_conflict modes spec ≡ false → modes.formatted ≡ false → names_edit_mode spec ≡ false
no_conflict_mode modes spec e unformatted =
    elim (cases_Bool (names_edit_mode spec)) [
      | inl named ↦ absurd (not_in_conflict modes spec e (connection_has_no_edit_mode unformatted named))
      | inr none ↦ none
    ]

pub changed_is_consistent : ChangedIsConsistent
changed_is_consistent before spec after consistent e =
    let a = accepted (is_conflict before spec) (Error 8) (record before { edit = edit_asked before.edit spec }) after e in
    subst IsConsistent a.1 (record {
      length_above_zero = consistent.length_above_zero;
      length_within_limit = consistent.length_within_limit;
      stream_length = consistent.stream_length;
      direct_start = consistent.direct_start;
      unformatted_edit = λ unformatted. edit_kept before.edit spec (no_conflict_mode before spec a.0 unformatted) ∙ consistent.unformatted_edit unformatted;
    })

module _ {A : Type 0} where
  agrees-taken : (given : Option A) (before : A) → Agrees given (unwrap_or given before)
  agrees-taken None before = tt
  agrees-taken (Some x) before = refl

  agrees-differs : (given : Option A) (value : A) → Agrees given value → Differs given value → ⊥
  agrees-differs None value a d = d
  agrees-differs (Some x) value a d = d a

  taken-twice : (given : Option A) (before : A) → unwrap_or given (unwrap_or given before) ≡ unwrap_or given before
  taken-twice None before = refl
  taken-twice (Some x) before = refl

  takes_or_keeps : (given : Option A) (before : A) → TakesOrKeeps given before (unwrap_or given before)
  takes_or_keeps None before = refl
  takes_or_keeps (Some x) before = refl

in_effect-conflict : (modes : Modes) (spec : OpenSpec) → IsInEffect modes spec → IsConflict modes spec → ⊥
in_effect-conflict modes spec h (changes_access d) = agrees-differs spec.access modes.access h.access d
in_effect-conflict modes spec h (changes_form d) = agrees-differs spec.formatted modes.formatted h.form d
in_effect-conflict modes spec h (changes_length d) = agrees-differs spec.recl modes.recl h.length d
in_effect-conflict modes spec h (changes_action d) = agrees-differs spec.action modes.action h.action d
in_effect-conflict modes spec h (changes_asynchronous d) = agrees-differs spec.asynchronous modes.asynchronous h.asynchronous d
in_effect-conflict modes spec h (status_is_not_old d) = agrees-differs spec.status Old h.status d
in_effect-conflict modes spec h (position_is_not_as_is d) = agrees-differs spec.position AsIs h.position d
in_effect-conflict modes spec h (connection_has_no_edit_mode unformatted named) = let none = h.unformatted unformatted in cc

pub in_effect_stays : InEffectStays
in_effect_stays modes spec h =
    let free = absent (is_conflict modes spec) (is_conflict-decides modes spec) (in_effect-conflict modes spec h) in
    let same = same_edit (edit_asked modes.edit spec) modes.edit
    (unwrap_or-agrees spec.blank_zero _ h.blank_zero) (unwrap_or-agrees spec.comma _ h.comma) (unwrap_or-agrees spec.delim _ h.delim)
    (unwrap_or-agrees spec.pad _ h.pad) (unwrap_or-agrees spec.plus _ h.plus) in
    rw free (ap (λ edit. Ok (record modes { edit = edit })) same)

asked_is_in_effect : (spec : OpenSpec) → is_refused spec ≡ false → IsInEffect (modes_asked spec) (record spec { status = None; position = None })
asked_is_in_effect spec e = record {
  access = agrees-taken spec.access _;
  form = agrees-taken spec.formatted _;
  length = agrees-taken spec.recl _;
  action = agrees-taken spec.action _;
  asynchronous = agrees-taken spec.asynchronous _;
  status = tt;
  position = tt;
  blank_zero = agrees-taken spec.blank_zero _;
  comma = agrees-taken spec.comma _;
  delim = agrees-taken spec.delim _;
  pad = agrees-taken spec.pad _;
  plus = agrees-taken spec.plus _;
  unformatted = no_edit_mode spec (not_refused spec e);
}

pub opened_again_stays : OpenedAgainStays
opened_again_stays spec modes e =
    let a = accepted (is_refused spec) (Error 3) (modes_asked spec) modes e in
    subst (λ m. changed m (record spec { status = None; position = None }) ≡ Ok m) a.1
    (in_effect_stays (modes_asked spec) (record spec { status = None; position = None }) (asked_is_in_effect spec a.0))

pub changed_takes_or_keeps : ChangedTakesOrKeeps
changed_takes_or_keeps before spec after e =
    let a = accepted (is_conflict before spec) (Error 8) (record before { edit = edit_asked before.edit spec }) after e in
    subst (IsChangeBy before spec) a.1 (record {
      blank_zero = takes_or_keeps spec.blank_zero before.edit.blank_zero;
      comma = takes_or_keeps spec.comma before.edit.comma;
      delim = takes_or_keeps spec.delim before.edit.delim;
      pad = takes_or_keeps spec.pad before.edit.pad;
      plus = takes_or_keeps spec.plus before.edit.plus;
      others = refl;
    })

pub changed_twice_stays : ChangedTwiceStays
changed_twice_stays before spec after e =
    let a = accepted (is_conflict before spec) (Error 8) (record before { edit = edit_asked before.edit spec }) after e in
    let once = edit_asked before.edit spec in
    let same = same_edit (edit_asked once spec) once
    (taken-twice spec.blank_zero before.edit.blank_zero) (taken-twice spec.comma before.edit.comma) (taken-twice spec.delim before.edit.delim)
    (taken-twice spec.pad before.edit.pad) (taken-twice spec.plus before.edit.plus) in
    subst (λ m. changed m spec ≡ Ok m) a.1 (rw a.0 (ap (λ edit. Ok (record before { edit = edit })) same))
