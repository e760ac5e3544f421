-- What is told of a field.
use Rattle.std.proofs.Common.{◌≡◌, ◌≢◌, ℕ, ◌^◌, ◌==◌, ℤ, Bool, true, false, cond, List, Option, Some, None, Result, Ok, Err, refl, ap, subst, ◌⊎◌, inl, inr, arith}
use Rattle.std.specs.Prelude.{nat_lt}
use Rattle.std.proofs.lemmas.Bool.{ne_eqb, cases_Bool}
use Rattle.fj_value.specs.Edit.{integer_widths, bits_widths, logical_width, text_width, is_bits_base}
use Rattle.fj_value.specs.Kind.{integer_bits, text_length, fits_bits}
use Rattle.fj_value.specs.Reading.{truth_read}
use Rattle.fj_value.specs.Digits.{from_twos_complement}
use Rattle.fj_value.specs.declared.edit.Edit.{Edit}
use Rattle.fj_value.specs.declared.edit.Edit.TheVariants as edit
use Rattle.fj_value.specs.declared.kind.Kind.{Kind}
use Rattle.fj_value.specs.declared.kind.Kind.TheVariants.{Int4, Int8, Logical, Chars}
use Rattle.fj_value.specs.declared.value.Value.{Value}
use Rattle.fj_value.specs.declared.value.Value.TheVariants as value
use Rattle.fj_value.specs.declared.condition.Condition.{Condition}
use Rattle.fj_value.specs.declared.condition.Condition.TheVariants.{Fine, EndOfFile, EndOfRecord, Error}
use Rattle.fj_edit_in.specs.InputField.{input_field, integer_value, bits_value, logical_value, logical_kind, characters_read, signed_number, unsigned_number, trimmed, read_by}
use Rattle.fj_transfer.specs.Input.{is_mismatch, width_for}
use Rattle.fj_input_laws.specs.Fields.{IsFor, IsTold, FieldsAreTold, field_width}

-- ---- the descriptor and the kind

not_true : (b : Bool) → (b ≡ true → ⊥) → b ≡ false
not_true true never = absurd (never refl)
not_true false never = refl

base_for : (b : Bool) → (b ≡ true) ⊎ (b ≡ true → ⊥)
base_for true = inl refl
base_for false = inr (λ e. cc)

pub is_for : (e : Edit) (k : Kind) → IsFor e k ⊎ (IsFor e k → ⊥)
is_for (edit.Int w m) Int4 = inl tt
is_for (edit.Int w m) Int8 = inl tt
is_for (edit.Int w m) Logical = inr (λ h. h)
is_for (edit.Int w m) (Chars n) = inr (λ h. h)
is_for (edit.Bits base w m) Int4 = base_for (is_bits_base base)
is_for (edit.Bits base w m) Int8 = base_for (is_bits_base base)
is_for (edit.Bits base w m) Logical = inr (λ h. h)
is_for (edit.Bits base w m) (Chars n) = inr (λ h. h)
is_for (edit.Log w) Int4 = inr (λ h. h)
is_for (edit.Log w) Int8 = inr (λ h. h)
is_for (edit.Log w) Logical = inl tt
is_for (edit.Log w) (Chars n) = inr (λ h. h)
is_for (edit.Chars w) Int4 = inr (λ h. h)
is_for (edit.Chars w) Int8 = inr (λ h. h)
is_for (edit.Chars w) Logical = inr (λ h. h)
is_for (edit.Chars w) (Chars n) = inl tt
is_for (edit.General w d) k = inl tt

pub width_is : (e : Edit) (k : Kind) → width_for e k ≡ field_width e k
width_is (edit.Int w m) k = refl
width_is (edit.Bits base w m) k = refl
width_is (edit.Log w) k = refl
width_is (edit.Chars (Some w)) k = refl
width_is (edit.Chars None) Int4 = refl
width_is (edit.Chars None) Int8 = refl
width_is (edit.Chars None) Logical = refl
width_is (edit.Chars None) (Chars n) = refl
width_is (edit.General w d) k = refl

-- ---- 12

no_kind : {D K : Type 0} (d : Option D) (read : D → K → Result Value Condition) → read_by d None read ≡ Err (Error 12)
no_kind (Some d) read = refl
no_kind None read = refl

module _ (blank_zero : Bool) (cs : List ℕ) where
  abbrev bits_read : ℕ → ℕ → Option ℕ → ℕ → Bool → Result Value Condition
  bits_read base w m bits known = read_by {D = ℕ × ℕ × Option ℕ} (cond known (Some (base, w, m)) None) (Some bits) (λ d n. bits_value n (unsigned_number d.0 blank_zero (trimmed cs)))

  pub not_for : (e : Edit) (k : Kind) → (IsFor e k → ⊥) → input_field e k blank_zero cs ≡ Err (Error 12)
  not_for (edit.Int w m) Int4 never = absurd (never tt)
  not_for (edit.Int w m) Int8 never = absurd (never tt)
  not_for (edit.Int w m) Logical never = refl
  not_for (edit.Int w m) (Chars n) never = refl
  not_for (edit.Bits base w m) Int4 never = ap (bits_read base w m 32) (not_true (is_bits_base base) never)
  not_for (edit.Bits base w m) Int8 never = ap (bits_read base w m 64) (not_true (is_bits_base base) never)
  not_for (edit.Bits base w m) Logical never = no_kind (bits_widths (edit.Bits base w m)) (λ d n. bits_value n (unsigned_number d.0 blank_zero (trimmed cs)))
  not_for (edit.Bits base w m) (Chars n) never = no_kind (bits_widths (edit.Bits base w m)) (λ d n. bits_value n (unsigned_number d.0 blank_zero (trimmed cs)))
  not_for (edit.Log w) Int4 never = refl
  not_for (edit.Log w) Int8 never = refl
  not_for (edit.Log w) Logical never = absurd (never tt)
  not_for (edit.Log w) (Chars n) never = refl
  not_for (edit.Chars w) Int4 never = refl
  not_for (edit.Chars w) Int8 never = refl
  not_for (edit.Chars w) Logical never = refl
  not_for (edit.Chars w) (Chars n) never = absurd (never tt)
  not_for (edit.General w d) k never = absurd (never tt)

-- ---- what else is told

abbrev OfIntegers : Result Value Condition → Type 0
OfIntegers r = IsTold Int4 r × IsTold Int8 r

in_range : (b : Bool) (v : Value) → OfIntegers (cond b (Ok v) (Err (Error 14)))
in_range true v = (tt, tt)
in_range false v = (λ never. refl, λ never. refl)

integer_told : (bits : ℕ) (o : Option ℤ) → OfIntegers (integer_value bits o)
integer_told bits None = (λ never. absurd (never refl), λ never. absurd (never refl))
integer_told bits (Some z) = in_range (fits_bits bits z) (value.Int z)

bits_told : (bits : ℕ) (o : Option ℕ) → OfIntegers (bits_value bits o)
bits_told bits None = (λ never. absurd (never refl), λ never. absurd (never refl))
bits_told bits (Some n) = in_range (nat_lt n (2 ^ bits)) (value.Int (from_twos_complement bits n))

logical_told : (o : Option Bool) → IsTold Logical (logical_value o)
logical_told None = refl
logical_told (Some b) = tt

module _ (blank_zero : Bool) (cs : List ℕ) where
  bits_for : (base w : ℕ) (m : Option ℕ) (bits : ℕ) (known : Bool) → known ≡ true → OfIntegers (bits_read blank_zero cs base w m bits known)
  bits_for base w m bits true e = bits_told bits (unsigned_number base blank_zero (trimmed cs))
  bits_for base w m bits false e = cc

  pub told_for : (e : Edit) (k : Kind) → IsFor e k → IsTold k (input_field e k blank_zero cs)
  told_for (edit.Int w m) Int4 h = (integer_told 32 (signed_number blank_zero (trimmed cs))).0
  told_for (edit.Int w m) Int8 h = (integer_told 64 (signed_number blank_zero (trimmed cs))).1
  told_for (edit.Int w m) Logical h = absurd h
  told_for (edit.Int w m) (Chars n) h = absurd h
  told_for (edit.Bits base w m) Int4 h = (bits_for base w m 32 (is_bits_base base) h).0
  told_for (edit.Bits base w m) Int8 h = (bits_for base w m 64 (is_bits_base base) h).1
  told_for (edit.Bits base w m) Logical h = absurd h
  told_for (edit.Bits base w m) (Chars n) h = absurd h
  told_for (edit.Log w) Int4 h = absurd h
  told_for (edit.Log w) Int8 h = absurd h
  told_for (edit.Log w) Logical h = logical_told (truth_read (trimmed cs))
  told_for (edit.Log w) (Chars n) h = absurd h
  told_for (edit.Chars w) Int4 h = absurd h
  told_for (edit.Chars w) Int8 h = absurd h
  told_for (edit.Chars w) Logical h = absurd h
  told_for (edit.Chars w) (Chars n) h = tt
  told_for (edit.General w d) Int4 h = (integer_told 32 (signed_number blank_zero (trimmed cs))).0
  told_for (edit.General w d) Int8 h = (integer_told 64 (signed_number blank_zero (trimmed cs))).1
  told_for (edit.General w d) Logical h = logical_told (truth_read (trimmed cs))
  told_for (edit.General w d) (Chars n) h = tt

pub fields_are_told : FieldsAreTold
fields_are_told = record {
  descriptor_is_for_others = λ e k blank_zero chars never. not_for blank_zero chars e k never;
  descriptor_is_for_it = λ e k blank_zero chars right. told_for blank_zero chars e k right;
}

-- ---- what is told is an error, and not 12

abbrev pub IsOther : Result Value Condition → Type 0
IsOther r = (is_mismatch r ≡ false) × (r ≢ Err Fine) × (r ≢ Err EndOfRecord)

not_12 : (n : ℕ) → (n ≢ 13 → n ≡ 14) → (n == 12) ≡ false
not_12 n h = ne_eqb n 12 (λ e. let other : n ≡ 14 = h (λ e'. absurd (omega (arith, e, e'))) in absurd (omega (arith, e, other)))

error_is_other : (n : ℕ) → (n == 12) ≡ false → IsOther (Err (Error n))
error_is_other n e = (e, λ x. cc, λ x. cc)

pub is_other : (k : Kind) (r : Result Value Condition) → IsTold k r → IsOther r
is_other k (Ok v) h = (refl, λ x. cc, λ x. cc)
is_other (Chars n) (Err condition) h = absurd h
is_other Logical (Err condition) h = subst (λ (c : Condition). IsOther (Err c)) (back h) (error_is_other 13 refl)
  where
    back : condition ≡ Error 13 → Error 13 ≡ condition
    back e = cc
is_other Int4 (Err (Error n)) h = error_is_other n (not_12 n h)
is_other Int4 (Err Fine) h = absurd h
is_other Int4 (Err EndOfFile) h = absurd h
is_other Int4 (Err EndOfRecord) h = absurd h
is_other Int8 (Err (Error n)) h = error_is_other n (not_12 n h)
is_other Int8 (Err Fine) h = absurd h
is_other Int8 (Err EndOfFile) h = absurd h
is_other Int8 (Err EndOfRecord) h = absurd h
