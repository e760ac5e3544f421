-- Fields of an input, one by one.
use Rattle.std.proofs.Common.{◌≡◌, ℕ, ◌-◌, ◌^◌, Bool, true, false, cond, List, ◌++◌, length, replicate, Option, Some, None, Result, Ok, Err, refl, sym, ap, ◌∙◌, arith}
use Rattle.std.specs.Prelude.{nat_lt}
use Rattle.std.proofs.lemmas.Bool.{eq-eqb}
use Rattle.std.proofs.lemmas.List.{append-nil}
use Rattle.fj_value.specs.declared.kind.Kind.{Kind}
use Rattle.fj_value.specs.declared.kind.Kind.TheVariants.{Int4, Int8, Logical, Chars}
use Rattle.fj_value.specs.declared.edit.Edit.{Edit}
use Rattle.fj_value.specs.declared.edit.Edit.TheVariants as edit
use Rattle.fj_value.specs.declared.value.Value.{Value}
use Rattle.fj_value.specs.declared.value.Value.TheVariants.{Undefined}
use Rattle.fj_value.specs.declared.condition.Condition.{Condition}
use Rattle.fj_value.specs.declared.condition.Condition.TheVariants.{Fine, EndOfFile, EndOfRecord, Error}
use Rattle.std.specs.Prelude.{ℤ}
use Rattle.fj_value.specs.declared.value.Value.TheVariants as value
use Rattle.fj_value.specs.Edit.{integer_widths, bits_widths, logical_width, text_width}
use Rattle.fj_value.specs.Kind.{fits_bits, integer_bits, text_length}
use Rattle.fj_value.specs.Reading.{truth_read}
use Rattle.fj_value.specs.Digits.{from_twos_complement}
use Rattle.fj_edit_in.specs.InputField.{input_field, integer_value, bits_value, logical_value, logical_kind, characters_read, signed_number, unsigned_number, trimmed, read_by, Reads}
use Rattle.fj_transfer.specs.Input.{without_padding, is_mismatch}
use Rattle.fj_transfer.specs.Reader.{is_fine}

-- ---- what an input field errs with is an error

abbrev IsValue : Result Value Condition → Type 0
IsValue (Ok v) = Unit {0}
IsValue (Err (Error n)) = Unit {0}
IsValue (Err _) = ⊥

tested : (b : Bool) (v : Value) (n : ℕ) → IsValue (cond b (Ok v) (Err (Error n)))
tested true v n = tt
tested false v n = tt

integer_is : (bits : ℕ) (o : Option ℤ) → IsValue (integer_value bits o)
integer_is bits None = tt
integer_is bits (Some z) = tested (fits_bits bits z) (value.Int z) 14

bits_are : (bits : ℕ) (o : Option ℕ) → IsValue (bits_value bits o)
bits_are bits None = tt
bits_are bits (Some n) = tested (nat_lt n (2 ^ bits)) (value.Int (from_twos_complement bits n)) 14

logical_is : (o : Option Bool) → IsValue (logical_value o)
logical_is None = tt
logical_is (Some b) = tt

by_descriptor : {D K : Type 0} (d : Option D) (k : Option K) (read : D → K → Result Value Condition) → ((x : D) (y : K) → IsValue (read x y)) → IsValue (read_by d k read)
by_descriptor (Some d) (Some k) read h = h d k
by_descriptor (Some d) None read h = tt
by_descriptor None k read h = tt

field_is : (e : Edit) (k : Kind) (b : Bool) (cs : List ℕ) → IsValue (input_field e k b cs)
field_is (edit.Int w m) k b cs = by_descriptor (integer_widths (edit.Int w m)) (integer_bits k) (λ _ bits. integer_value bits (signed_number b (trimmed cs))) (λ d bits. integer_is bits (signed_number b (trimmed cs)))
field_is (edit.Bits base w m) k b cs =
    by_descriptor (bits_widths (edit.Bits base w m)) (integer_bits k) (λ d bits. bits_value bits (unsigned_number d.0 b (trimmed cs))) (λ d bits. bits_are bits (unsigned_number d.0 b (trimmed cs)))
field_is (edit.Log w) k b cs = by_descriptor (logical_width (edit.Log w)) (logical_kind k) (λ _ _. logical_value (truth_read (trimmed cs))) (λ d k'. logical_is (truth_read (trimmed cs)))
field_is (edit.Chars w) k b cs = by_descriptor (text_width (edit.Chars w)) (text_length k) (λ _ n. Ok (value.Chars (characters_read n cs))) (λ d n. tt)
field_is (edit.General w d) Int4 b cs =
    by_descriptor (integer_widths (edit.General w d)) (integer_bits Int4) (λ _ bits. integer_value bits (signed_number b (trimmed cs))) (λ d' bits. integer_is bits (signed_number b (trimmed cs)))
field_is (edit.General w d) Int8 b cs =
    by_descriptor (integer_widths (edit.General w d)) (integer_bits Int8) (λ _ bits. integer_value bits (signed_number b (trimmed cs))) (λ d' bits. integer_is bits (signed_number b (trimmed cs)))
field_is (edit.General w d) Logical b cs =
    by_descriptor (logical_width (edit.General w d)) (logical_kind Logical) (λ _ _. logical_value (truth_read (trimmed cs))) (λ d' k'. logical_is (truth_read (trimmed cs)))
field_is (edit.General w d) (Chars n) b cs =
    by_descriptor (text_width (edit.General w d)) (text_length (Chars n)) (λ _ n'. Ok (value.Chars (characters_read n' cs))) (λ d' n'. tt)

what_is_told : (r : Result Value Condition) (old new : Value) (condition : Condition) → IsValue r → Reads r old new condition → cond (is_fine condition) (Ok new) (Err condition) ≡ r
what_is_told (Ok v) old new condition h reads = ap (λ c. cond (is_fine c) (Ok new) (Err c)) reads.0 ∙ ap (λ v'. Ok v') reads.1
what_is_told (Err (Error n)) old new condition h reads = ap (λ c. cond (is_fine c) (Ok new) (Err c)) reads.0
what_is_told (Err Fine) old new condition h reads = absurd h
what_is_told (Err EndOfFile) old new condition h reads = absurd h
what_is_told (Err EndOfRecord) old new condition h reads = absurd h

pub value_read : (e : Edit) (k : Kind) (blank_zero : Bool) (chars : List ℕ) (old new : Value) (condition : Condition) → Reads (input_field e k blank_zero chars) old new condition
    → cond (is_fine condition) (Ok new) (Err condition) ≡ input_field e k blank_zero chars
value_read e k blank_zero chars old new condition reads = what_is_told (input_field e k blank_zero chars) old new condition (field_is e k blank_zero chars) reads

-- ---- fields that are all there, and others

pub all_there : (pad : Bool) (width : ℕ) (chars : List ℕ) (read : List ℕ → Result Value Condition) → length chars ≡ width
    → read chars ≡ without_padding pad width chars (read (chars ++ replicate (width - length chars) 32))
all_there pad width chars read e =
    let none : width - length chars ≡ 0 = omega arith in
    let same : read (chars ++ replicate (width - length chars) 32) ≡ read chars = ap (λ n. read (chars ++ replicate n 32)) none ∙ ap read (append-nil chars) in
    sym (by pad ∙ same)
  where
    by : (b : Bool) → without_padding b width chars (read (chars ++ replicate (width - length chars) 32)) ≡ read (chars ++ replicate (width - length chars) 32)
    by true = refl
    by false = ap (λ t. cond t (read (chars ++ replicate (width - length chars) 32)) (cond (is_mismatch (read (chars ++ replicate (width - length chars) 32))) (read (chars ++ replicate (width - length chars) 32)) (Ok Undefined))) (eq-eqb (length chars) width e)
