-- Each kind of field comes back.
use Rattle.std.proofs.Common.{◌≡◌, ◌≢◌, ℕ, zero, suc, ◌+◌, ◌-◌, ◌^◌, ◌<◌, ◌≤◌, Bool, true, false, cond, eqb, ltb, List, [], ◌∷◌, ◌++◌, length, drop, replicate, Option, Some, None, Ok, ℤ, pos, negsuc, neg_ℤ, unsigned_abs, refl, sym, ap, subst, ◌∙◌, inl, inr, arith}
use Rattle.std.specs.List.{list_all, Contains}
use Rattle.std.specs.Char.{is_digit}
use Rattle.std.specs.Option.{option_map}
use Rattle.std.proofs.lemmas.Bool.Decides.{nat_tests}
use Rattle.std.proofs.lemmas.Grind.{common_steps}
use Rattle.std.proofs.lemmas.List.{length-append, length-replicate, take_all}
use Rattle.fj_value.specs.Digits.{number_in, numeral, twos_complement}
use Rattle.fj_value.proofs.DigitLaws.{below_bits, back_from_bits, fits_bits-true}
use Rattle.fj_value.specs.Kind.{FitsBits, IsOfKind, integer_bits, text_length}
use Rattle.fj_value.specs.Edit.{bits_widths, width_of, is_bits_base}
use Rattle.fj_value.specs.declared.edit.Edit.{Edit}
use Rattle.fj_value.specs.declared.edit.Edit.TheVariants as edit
use Rattle.fj_value.specs.declared.kind.Kind.{Kind}
use Rattle.fj_value.specs.declared.kind.Kind.TheVariants.{Int4, Int8, Logical, Chars}
use Rattle.fj_value.specs.declared.value.Value.{Value}
use Rattle.fj_value.specs.declared.value.Value.TheVariants as value
use Rattle.fj_edit_out.specs.Item.{integer_in, bits_in, logical_in}
use Rattle.fj_edit_out.specs.OutputField.{with_sign as signed_text, zero_filled, integer_field, bits_field, logical_field, text_field, field_of, output_field}
use Rattle.fj_value.specs.Shown.{sign}
use Rattle.fj_value.specs.Reading.{with_sign, truth_read, assigned_text}
use Rattle.fj_edit_in.specs.InputField.{trimmed, blanks_read, signed_number, unsigned_number, characters_read, integer_value, bits_value, logical_value, read_by, logical_kind, input_field}
use Rattle.fj_edit_laws.proofs.Blanks.{trimmed-blanks, trimmed-first, trimmed-none, trimmed-adjusted, none_or_some}
use Rattle.fj_edit_laws.proofs.Numbers.{first_digit, no_blank, no_plus, no_minus, filled_digits, filled_read, filled_none}

unlike : (c d : ℕ) → c ≢ d → eqb c d ≡ false
unlike c d h = grind (arith, nat_tests)

below_true : (n m : ℕ) → n < m → ltb n m ≡ true
below_true n m h = grind (arith, nat_tests)

-- digits without a sign
unsigned_read : (blank_zero : Bool) (n : ℕ) (digits : List ℕ) → list_all (λ x. is_digit x 10) digits ≡ true → (0 < length digits → number_in 10 (blanks_read blank_zero digits) ≡ Some n) → (length digits ≡ 0 → n ≡ 0) → signed_number blank_zero (trimmed digits) ≡ Some (pos n)
unsigned_read blank_zero n [] digits read none = ap (signed_number blank_zero) trimmed-none ∙ ap (λ k. Some (pos k)) (sym (none refl))
unsigned_read blank_zero n (d ∷ ds) digits read none =
    let digit = first_digit 10 d ds digits in
    let minus = unlike d 45 (no_minus 10 d (omega arith) digit) in
    let plus = unlike d 43 (no_plus 10 d (omega arith) digit) in
    ap (signed_number blank_zero) (trimmed-first d ds (no_blank 10 d (omega arith) digit))
    ∙ rw minus (rw plus (ap (option_map (with_sign false)) (read (omega arith))))

signed_text-some : (s digits : List ℕ) → 0 < length digits → signed_text s digits ≡ s ++ digits
signed_text-some s digits some = grind (arith, nat_tests)

signed_text-none : (s : List ℕ) (digits : List ℕ) → length digits ≡ 0 → signed_text s digits ≡ []
signed_text-none s digits none = grind (arith, nat_tests)

-- digits behind a sign
minus_read : (blank_zero : Bool) (n : ℕ) (digits : List ℕ) → number_in 10 (blanks_read blank_zero digits) ≡ Some n → 0 < length digits → signed_number blank_zero (trimmed (signed_text (45 ∷ []) digits)) ≡ Some (neg_ℤ (pos n))
minus_read blank_zero n digits read some =
    ap (λ t. signed_number blank_zero (trimmed t)) (signed_text-some (45 ∷ []) digits some)
    ∙ ap (signed_number blank_zero) (trimmed-first 45 digits (λ e. absurd (omega arith)))
    ∙ ap (option_map (with_sign true)) read

plus_read : (blank_zero : Bool) (n : ℕ) (digits : List ℕ) → number_in 10 (blanks_read blank_zero digits) ≡ Some n → 0 < length digits → signed_number blank_zero (trimmed (signed_text (43 ∷ []) digits)) ≡ Some (pos n)
plus_read blank_zero n digits read some =
    ap (λ t. signed_number blank_zero (trimmed t)) (signed_text-some (43 ∷ []) digits some)
    ∙ ap (signed_number blank_zero) (trimmed-first 43 digits (λ e. absurd (omega arith)))
    ∙ ap (option_map (with_sign false)) read

no_text_read : (blank_zero : Bool) (s digits : List ℕ) (n : ℕ) → length digits ≡ 0 → n ≡ 0 → signed_number blank_zero (trimmed (signed_text s digits)) ≡ Some (pos n)
no_text_read blank_zero s digits n none is_zero =
    ap (λ t. signed_number blank_zero (trimmed t)) (signed_text-none s digits none) ∙ ap (signed_number blank_zero) trimmed-none ∙ ap (λ k. Some (pos k)) (sym is_zero)

-- an integer's text is read as the integer
digits_read : (blank_zero : Bool) (base n : ℕ) (digits : List ℕ) → base ≤ 36 → list_all (λ x. is_digit x base) digits ≡ true → (0 < length digits → number_in base (blanks_read blank_zero digits) ≡ Some n) → (length digits ≡ 0 → n ≡ 0) → unsigned_number base blank_zero (trimmed digits) ≡ Some n
digits_read blank_zero base n [] high digits read none = ap (unsigned_number base blank_zero) trimmed-none ∙ ap (λ k. Some k) (sym (none refl))
digits_read blank_zero base n (d ∷ ds) high digits read none =
    ap (unsigned_number base blank_zero) (trimmed-first d ds (no_blank base d high (first_digit base d ds digits))) ∙ read (omega arith)

text_read : (blank_zero plus : Bool) (m : Option ℕ) (z : ℤ) → signed_number blank_zero (trimmed (signed_text (sign plus z) (zero_filled m (numeral 10 (unsigned_abs z))))) ≡ Some z
text_read blank_zero plus m (negsuc n) = elim (none_or_some (length (zero_filled m (numeral 10 (suc n))))) [
  | inl none ↦ absurd (let e = filled_none 10 (suc n) m (omega arith) none in omega arith)
  | inr some ↦ minus_read blank_zero (suc n) (zero_filled m (numeral 10 (suc n))) (filled_read 10 (suc n) m blank_zero (omega arith) (omega arith) some) some
]
text_read blank_zero true m (pos n) = elim (none_or_some (length (zero_filled m (numeral 10 n)))) [
  | inl none ↦ no_text_read blank_zero (43 ∷ []) (zero_filled m (numeral 10 n)) n none (filled_none 10 n m (omega arith) none)
  | inr some ↦ plus_read blank_zero n (zero_filled m (numeral 10 n)) (filled_read 10 n m blank_zero (omega arith) (omega arith) some) some
]
text_read blank_zero false m (pos n) = elim (none_or_some (length (zero_filled m (numeral 10 n)))) [
  | inl none ↦ no_text_read blank_zero [] (zero_filled m (numeral 10 n)) n none (filled_none 10 n m (omega arith) none)
  | inr some ↦
      ap (λ t. signed_number blank_zero (trimmed t)) (signed_text-some [] (zero_filled m (numeral 10 n)) some)
      ∙ unsigned_read blank_zero n (zero_filled m (numeral 10 n)) (filled_digits 10 n m (omega arith) (omega arith)) (filled_read 10 n m blank_zero (omega arith) (omega arith)) (filled_none 10 n m (omega arith))
]

-- the digits of bits
bits_read : (blank_zero : Bool) (base n : ℕ) (m : Option ℕ) → 2 ≤ base → base ≤ 36 → unsigned_number base blank_zero (trimmed (zero_filled m (numeral base n))) ≡ Some n
bits_read blank_zero base n m low high = digits_read blank_zero base n (zero_filled m (numeral base n)) high (filled_digits base n m low high) (filled_read base n m blank_zero low high) (filled_none base n m low)

integer_back : (bits : ℕ) (blank_zero plus : Bool) (d : ℕ × Option ℕ) (z : ℤ) → FitsBits bits z → ¬ Contains {X = ℕ} (integer_field plus d z) 42 → integer_value bits (signed_number blank_zero (trimmed (integer_field plus d z))) ≡ Ok (value.Int z)
integer_back bits blank_zero plus (w, m) z fits none =
    ap (λ t. integer_value bits (signed_number blank_zero t)) (trimmed-adjusted w (signed_text (sign plus z) (zero_filled m (numeral 10 (unsigned_abs z)))) none)
    ∙ ap (integer_value bits) (text_read blank_zero plus m z)
    ∙ rw (fits_bits-true bits z fits) refl

bits_back : (bits : ℕ) (blank_zero : Bool) (base w : ℕ) (m : Option ℕ) (z : ℤ) → 0 < bits → 2 ≤ base → base ≤ 36 → FitsBits bits z → ¬ Contains {X = ℕ} (bits_field (base, w, m) (twos_complement bits z)) 42 → bits_value bits (unsigned_number base blank_zero (trimmed (bits_field (base, w, m) (twos_complement bits z)))) ≡ Ok (value.Int z)
bits_back bits blank_zero base w m z some low high fits none =
    let small : ltb (twos_complement bits z) (2 ^ bits) ≡ true = below_true (twos_complement bits z) (2 ^ bits) (below_bits bits z) in
    ap (λ t. bits_value bits (unsigned_number base blank_zero t)) (trimmed-adjusted w (zero_filled m (numeral base (twos_complement bits z))) none)
    ∙ ap (bits_value bits) (bits_read blank_zero base (twos_complement bits z) m low high)
    ∙ rw small (ap (λ k. Ok (value.Int k)) (back_from_bits bits z some fits))

logical_back : (w : ℕ) (truth : Bool) → logical_value (truth_read (trimmed (logical_field w truth))) ≡ Ok (value.Log truth)
logical_back w true = ap (λ t. logical_value (truth_read t)) (trimmed-blanks (w - 1) (84 ∷ []) ∙ trimmed-first 84 [] (λ e. absurd (omega arith)))
logical_back w false = ap (λ t. logical_value (truth_read t)) (trimmed-blanks (w - 1) (70 ∷ []) ∙ trimmed-first 70 [] (λ e. absurd (omega arith)))

integers_back : (d : Option (ℕ × Option ℕ)) (k : Kind) (v : Value) (plus blank_zero : Bool) (field : List ℕ) → IsOfKind k v → field_of (integer_field plus) d (integer_in k v) ≡ Some field → ¬ Contains {X = ℕ} field 42 → read_by d (integer_bits k) (λ _ bits. integer_value bits (signed_number blank_zero (trimmed field))) ≡ Ok v
integers_back (Some d) Int4 (value.Int z) plus blank_zero field fits written none =
    let same : integer_field plus d z ≡ field = cc in
    let P : List ℕ → Type 0 = λ t. ¬ Contains {X = ℕ} t 42 → integer_value 32 (signed_number blank_zero (trimmed t)) ≡ Ok (value.Int z) in
    subst P same (integer_back 32 blank_zero plus d z fits) none
integers_back (Some d) Int8 (value.Int z) plus blank_zero field fits written none =
    let same : integer_field plus d z ≡ field = cc in
    let P : List ℕ → Type 0 = λ t. ¬ Contains {X = ℕ} t 42 → integer_value 64 (signed_number blank_zero (trimmed t)) ≡ Ok (value.Int z) in
    subst P same (integer_back 64 blank_zero plus d z fits) none
integers_back _ _ _ plus blank_zero field fits written none = cc

base_low : (base : ℕ) → is_bits_base base ≡ true → 2 ≤ base
base_low base h = grind (arith, nat_tests)

base_high : (base : ℕ) → is_bits_base base ≡ true → base ≤ 36
base_high base h = grind (arith, nat_tests)

all_bits_back : (b : Bool) (base w : ℕ) (m : Option ℕ) (k : Kind) (v : Value) (blank_zero : Bool) (field : List ℕ) → is_bits_base base ≡ b → IsOfKind k v → field_of bits_field (cond b (Some (base, w, m)) None) (bits_in k v) ≡ Some field → ¬ Contains {X = ℕ} field 42 → read_by {D = ℕ × ℕ × Option ℕ} (cond b (Some (base, w, m)) None) (integer_bits k) (λ d bits. bits_value bits (unsigned_number d.0 blank_zero (trimmed field))) ≡ Ok v
all_bits_back true base w m Int4 (value.Int z) blank_zero field is fits written none =
    let same : bits_field (base, w, m) (twos_complement 32 z) ≡ field = cc in
    let P : List ℕ → Type 0 = λ t. ¬ Contains {X = ℕ} t 42 → bits_value 32 (unsigned_number base blank_zero (trimmed t)) ≡ Ok (value.Int z) in
    subst P same (bits_back 32 blank_zero base w m z (omega arith) (base_low base is) (base_high base is) fits) none
all_bits_back true base w m Int8 (value.Int z) blank_zero field is fits written none =
    let same : bits_field (base, w, m) (twos_complement 64 z) ≡ field = cc in
    let P : List ℕ → Type 0 = λ t. ¬ Contains {X = ℕ} t 42 → bits_value 64 (unsigned_number base blank_zero (trimmed t)) ≡ Ok (value.Int z) in
    subst P same (bits_back 64 blank_zero base w m z (omega arith) (base_low base is) (base_high base is) fits) none
all_bits_back _ base w m _ _ blank_zero field is fits written none = cc

logicals_back : (d : Option ℕ) (k : Kind) (v : Value) (field : List ℕ) → field_of logical_field d (logical_in k v) ≡ Some field → read_by d (logical_kind k) (λ _ _. logical_value (truth_read (trimmed field))) ≡ Ok v
logicals_back (Some w) Logical (value.Log truth) field written =
    let same : logical_field w truth ≡ field = cc in
    let P : List ℕ → Type 0 = λ t. logical_value (truth_read (trimmed t)) ≡ Ok (value.Log truth) in
    subst P same (logical_back w truth)
logicals_back _ _ _ field written = cc

pub numbers_back : (e : Edit) (k : Kind) (v : Value) (plus blank_zero : Bool) (field : List ℕ) → IsOfKind k v → text_length k ≡ None → output_field e v k plus ≡ Some field → ¬ Contains {X = ℕ} field 42 → input_field e k blank_zero field ≡ Ok v
numbers_back (edit.Int w m) k v plus blank_zero field fits kind written none = integers_back (Some (w, m)) k v plus blank_zero field fits written none
numbers_back (edit.Bits base w m) k v plus blank_zero field fits kind written none = all_bits_back (is_bits_base base) base w m k v blank_zero field refl fits written none
numbers_back (edit.Log w) k v plus blank_zero field fits kind written none = logicals_back (Some w) k v field written
numbers_back (edit.General w d) Int4 v plus blank_zero field fits kind written none = integers_back (Some (w, None)) Int4 v plus blank_zero field fits written none
numbers_back (edit.General w d) Int8 v plus blank_zero field fits kind written none = integers_back (Some (w, None)) Int8 v plus blank_zero field fits written none
numbers_back (edit.General w d) Logical v plus blank_zero field fits kind written none = logicals_back (Some w) Logical v field written
numbers_back (edit.General w d) (Chars n) v plus blank_zero field fits kind written none = cc
numbers_back (edit.Chars w) (Chars n) v plus blank_zero field fits kind written none = cc
numbers_back (edit.Chars w) _ v plus blank_zero field fits kind written none = cc

text_alone : (text : List ℕ) → characters_read (length text) text ≡ text
text_alone text = grind (arith, common_steps)

drop-replicate : (count : ℕ) (cs : List ℕ) → drop count (replicate count 32 ++ cs) ≡ cs
drop-replicate zero cs = refl
drop-replicate (suc count) cs = drop-replicate count cs

whole_text : (text : List ℕ) → assigned_text (length text) text ≡ text
whole_text text = grind (arith, common_steps)

behind_blanks : (count : ℕ) (text : List ℕ) → characters_read (length text) (replicate count 32 ++ text) ≡ text
behind_blanks count text =
    let long : length (replicate {A = ℕ} count 32 ++ text) ≡ count + length text = length-append (replicate {A = ℕ} count 32) text ∙ ap (λ n. n + length text) (length-replicate {A = ℕ} count 32) in
    let skipped : length (replicate {A = ℕ} count 32 ++ text) - length text ≡ count = omega arith in
    ap (λ n. assigned_text (length text) (drop n (replicate {A = ℕ} count 32 ++ text))) skipped
    ∙ ap (assigned_text (length text)) (drop-replicate count text)
    ∙ whole_text text

text_in_width : (w : ℕ) (text : List ℕ) → length text ≤ w → characters_read (length text) (text_field (Some w) text) ≡ text
text_in_width w text wide =
    ap (λ t. characters_read (length text) (replicate {A = ℕ} (w - length text) 32 ++ t)) (take_all w text wide) ∙ behind_blanks (w - length text) text

-- under G0 without a width
text_in_some_width : (b : Bool) (w : ℕ) (text : List ℕ) → length text ≤ w → characters_read (length text) (text_field (cond b None (Some w)) text) ≡ text
text_in_some_width true w text wide = text_alone text
text_in_some_width false w text wide = text_in_width w text wide

field_of-none : {D V : Type 0} (write : D → V → List ℕ) (d : Option D) → field_of write d None ≡ None
field_of-none write None = refl
field_of-none write (Some d) = refl

pub characters_back : (e : Edit) (text : List ℕ) (plus blank_zero : Bool) (field : List ℕ) → ((w : ℕ) → width_of e ≡ Some w → length text ≤ w) → output_field e (value.Chars text) (Chars (length text)) plus ≡ Some field → input_field e (Chars (length text)) blank_zero field ≡ Ok (value.Chars text)
characters_back (edit.Chars None) text plus blank_zero field wide written =
    let same : text ≡ field = cc in
    ap (λ t. Ok (value.Chars (characters_read (length text) t))) (sym same) ∙ ap (λ t. Ok (value.Chars t)) (text_alone text)
characters_back (edit.Chars (Some w)) text plus blank_zero field wide written =
    let same : text_field (Some w) text ≡ field = cc in
    ap (λ t. Ok (value.Chars (characters_read (length text) t))) (sym same) ∙ ap (λ t. Ok (value.Chars t)) (text_in_width w text (wide w refl))
characters_back (edit.General w d) text plus blank_zero field wide written =
    let same : text_field (cond (eqb w 0) None (Some w)) text ≡ field = cc in
    ap (λ t. Ok (value.Chars (characters_read (length text) t))) (sym same) ∙ ap (λ t. Ok (value.Chars t)) (text_in_some_width (eqb w 0) w text (wide w refl))
characters_back (edit.Bits base w m) text plus blank_zero field wide written = let none = field_of-none bits_field (bits_widths (edit.Bits base w m)) in cc
characters_back _ text plus blank_zero field wide written = cc
