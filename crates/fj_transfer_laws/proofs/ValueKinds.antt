-- What fields and bytes are read as is of the kind that it is read for.
use Rattle.std.proofs.Common.{◌≡◌, ℕ, ℤ, ◌-◌, ◌^◌, ◌<◌, Bool, true, false, cond, List, length, drop, Option, Some, None, Result, Ok, Err, refl, subst, inl, inr, arith, length-append, length-take}
use Rattle.std.specs.Prelude.{nat_lt}
use Rattle.std.specs.Int.{w32, w64, cast_signed, from_le_bytes}
use Rattle.std.proofs.lemmas.Bool.{cases_lt}
use Rattle.std.proofs.lemmas.Bool.Decides.{nat_tests}
use Rattle.std.proofs.lemmas.Option.{none-some}
use Rattle.std.proofs.lemmas.Int.{ints}
use Rattle.std.proofs.lemmas.List.{length-replicate}
use Rattle.fj_value.specs.Digits.{from_twos_complement}
use Rattle.fj_value.specs.Edit.{integer_widths, bits_widths, logical_width, text_width}
use Rattle.fj_value.specs.Kind.{FitsBits, IsOfKind, fits_bits, integer_bits, text_length}
use Rattle.fj_value.specs.Reading.{truth_read, assigned_text}
use Rattle.fj_value.specs.declared.kind.Kind.{Kind}
use Rattle.fj_value.specs.declared.kind.Kind.TheVariants.{Int4, Int8, Logical, Chars}
use Rattle.fj_value.specs.declared.edit.Edit.{Edit}
use Rattle.fj_value.specs.declared.edit.Edit.TheVariants as edit
use Rattle.fj_value.specs.declared.value.Value.{Value}
use Rattle.fj_value.specs.declared.value.Value.TheVariants as value
use Rattle.fj_value.specs.declared.condition.Condition.{Condition}
use Rattle.fj_value.specs.declared.condition.Condition.TheVariants.{Error}
use Rattle.fj_value.proofs.DigitLaws.{from_fits, fits_bits-fits}
use Rattle.fj_edit_in.specs.InputField.{input_field, integer_value, bits_value, logical_value, logical_kind, characters_read, signed_number, unsigned_number, trimmed, read_by, integer_input, logical_input, text_input}
use Rattle.fj_unfrec.specs.Stored.{stored_width, value_of}

-- ---- fields

-- the value, where there is one, is of the kind
abbrev pub Gives : Kind → Result Value Condition → Type 0
Gives kind (Ok v) = IsOfKind kind v
Gives kind (Err condition) = Unit {0}

if_so : (kind : Kind) (b : Bool) (v : Value) (condition : Condition) → (b ≡ true → IsOfKind kind v) → Gives kind (cond b (Ok v) (Err condition))
if_so kind true v condition h = h refl
if_so kind false v condition h = tt

-- a number of as many bits as an integer kind has
of_bits : (kind : Kind) (bits : ℕ) (z : ℤ) → integer_bits kind ≡ Some bits → FitsBits bits z → IsOfKind kind (value.Int z)
of_bits Int4 bits z e h = let same : bits ≡ 32 = cc in subst (λ (n : ℕ). FitsBits n z) same h
of_bits Int8 bits z e h = let same : bits ≡ 64 = cc in subst (λ (n : ℕ). FitsBits n z) same h
of_bits Logical bits z e h = absurd (none-some bits e)
of_bits (Chars n) bits z e h = absurd (none-some bits e)

some_bits : (kind : Kind) (bits : ℕ) → integer_bits kind ≡ Some bits → 0 < bits
some_bits Int4 bits e = let same : bits ≡ 32 = cc in omega arith
some_bits Int8 bits e = let same : bits ≡ 64 = cc in omega arith
some_bits Logical bits e = absurd (none-some bits e)
some_bits (Chars n) bits e = absurd (none-some bits e)

integer_gives : (kind : Kind) (bits : ℕ) (o : Option ℤ) → integer_bits kind ≡ Some bits → Gives kind (integer_value bits o)
integer_gives kind bits None e = tt
integer_gives kind bits (Some z) e = if_so kind (fits_bits bits z) (value.Int z) (Error 14) (λ fits. of_bits kind bits z e (fits_bits-fits bits z fits))

bits_give : (kind : Kind) (bits : ℕ) (o : Option ℕ) → integer_bits kind ≡ Some bits → Gives kind (bits_value bits o)
bits_give kind bits None e = tt
bits_give kind bits (Some n) e =
    if_so kind (nat_lt n (2 ^ bits)) (value.Int (from_twos_complement bits n)) (Error 14) (λ below. of_bits kind bits (from_twos_complement bits n) e (from_fits bits n (some_bits kind bits e) (grind (arith, nat_tests))))

logical_gives : (kind : Kind) (o : Option Bool) → logical_kind kind ≡ Some tt → Gives kind (logical_value o)
logical_gives kind None e = tt
logical_gives Logical (Some b) e = tt
logical_gives Int4 (Some b) e = absurd (none-some tt e)
logical_gives Int8 (Some b) e = absurd (none-some tt e)
logical_gives (Chars n) (Some b) e = absurd (none-some tt e)

as_long : (n : ℕ) (cs : List ℕ) → length (assigned_text n cs) ≡ n
as_long n cs = simp (length-append, length-take, length-replicate) (omega arith)

text_gives : (kind : Kind) (n : ℕ) (cs : List ℕ) → text_length kind ≡ Some n → Gives kind (Ok (value.Chars (characters_read n cs)))
text_gives (Chars m) n cs e = let same : n ≡ m = cc in subst (λ (k : ℕ). length (characters_read n cs) ≡ k) same (as_long n (drop (length cs - n) cs))
text_gives Int4 n cs e = absurd (none-some n e)
text_gives Int8 n cs e = absurd (none-some n e)
text_gives Logical n cs e = absurd (none-some n e)

-- what is read for a kind that the descriptor is for
for_kind : {D K : Type 0} (kind : Kind) (d : Option D) (o : Option K) (read : D → K → Result Value Condition) → ((x : D) (y : K) → o ≡ Some y → Gives kind (read x y)) → Gives kind (read_by d o read)
for_kind kind (Some d) (Some k) read h = h d k refl
for_kind kind (Some d) None read h = tt
for_kind kind None o read h = tt

integer_field : (e : Edit) (k : Kind) (zero : Bool) (cs : List ℕ) → Gives k (integer_input e k zero cs)
integer_field e k zero cs =
    for_kind k (integer_widths e) (integer_bits k) (λ _ bits. integer_value bits (signed_number zero (trimmed cs))) (λ _ bits is. integer_gives k bits (signed_number zero (trimmed cs)) is)

logical_field : (e : Edit) (k : Kind) (cs : List ℕ) → Gives k (logical_input e k cs)
logical_field e k cs = for_kind k (logical_width e) (logical_kind k) (λ _ _. logical_value (truth_read (trimmed cs))) (λ _ _ is. logical_gives k (truth_read (trimmed cs)) is)

text_field : (e : Edit) (k : Kind) (cs : List ℕ) → Gives k (text_input e k cs)
text_field e k cs = for_kind k (text_width e) (text_length k) (λ _ n. Ok (value.Chars (characters_read n cs))) (λ _ n is. text_gives k n cs is)

pub field_gives : (e : Edit) (k : Kind) (zero : Bool) (cs : List ℕ) → Gives k (input_field e k zero cs)
field_gives (edit.Int w m) k zero cs = integer_field (edit.Int w m) k zero cs
field_gives (edit.Bits base w m) k zero cs =
    for_kind k (bits_widths (edit.Bits base w m)) (integer_bits k) (λ d bits. bits_value bits (unsigned_number d.0 zero (trimmed cs))) (λ d bits is. bits_give k bits (unsigned_number d.0 zero (trimmed cs)) is)
field_gives (edit.Log w) k zero cs = logical_field (edit.Log w) k cs
field_gives (edit.Chars w) k zero cs = text_field (edit.Chars w) k cs
field_gives (edit.General w d) Int4 zero cs = integer_field (edit.General w d) Int4 zero cs
field_gives (edit.General w d) Int8 zero cs = integer_field (edit.General w d) Int8 zero cs
field_gives (edit.General w d) Logical zero cs = logical_field (edit.General w d) Logical cs
field_gives (edit.General w d) (Chars n) zero cs = text_field (edit.General w d) (Chars n) cs

-- ---- bytes

-- a word of so many bits is a number of so many bits, whatever the bytes
word_fits : (n : ℕ) → FitsBits 32 (cast_signed w32 n)
word_fits n = elim (cases_lt n (2 ^ 31)) [
  | inl low ↦ grind (arith, ints, nat_tests)
  | inr high ↦ grind (arith, ints, nat_tests)
]

long_word_fits : (n : ℕ) → FitsBits 64 (cast_signed w64 n)
long_word_fits n = elim (cases_lt n (2 ^ 63)) [
  | inl low ↦ grind (arith, ints, nat_tests)
  | inr high ↦ grind (arith, ints, nat_tests)
]

pub bytes_are_of_kind : (kind : Kind) (bytes : List ℕ) → length bytes ≡ stored_width kind → IsOfKind kind (value_of kind bytes)
bytes_are_of_kind Int4 bytes long = word_fits (from_le_bytes w32 bytes)
bytes_are_of_kind Int8 bytes long = long_word_fits (from_le_bytes w64 bytes)
bytes_are_of_kind Logical bytes long = tt
bytes_are_of_kind (Chars n) bytes long = long
