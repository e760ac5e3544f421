-- What constants are read as, and that items keep their kinds.
use Rattle.std.proofs.Common.{◌≡◌, ℕ, zero, suc, ℤ, ◌-◌, Bool, true, false, cond, eqb, List, [], ◌∷◌, length, Option, Some, None, sym, ap, ◌∙◌, refl, subst, inl, inr, arith, length-append, length-take}
use Rattle.std.proofs.lemmas.Bool.{cases_Bool, false≢true}
use Rattle.std.proofs.lemmas.Bool.Decides.{nat_tests}
use Rattle.std.proofs.lemmas.Option.{none-some}
use Rattle.std.proofs.lemmas.List.{length-replicate}
use Rattle.std.specs.Char.{is_digit, is_ascii_digit}
use Rattle.std.specs.List.{list_all}
use Rattle.std.specs.Option.{option_map}
use Rattle.fj_value.specs.Digits.{number_in}
use Rattle.fj_value.proofs.DigitLaws.{fits_bits-true, fits_bits-fits}
use Rattle.fj_value.specs.Kind.{FitsBits, IsOfKind, fits_bits}
use Rattle.fj_value.specs.declared.kind.Kind.TheVariants.{Int4, Int8, Logical, Chars}
use Rattle.fj_value.specs.declared.value.Cell.{Cell}
use Rattle.fj_value.specs.declared.value.Value.{Value}
use Rattle.fj_value.specs.declared.value.Value.TheVariants as value
use Rattle.fj_value.specs.declared.condition.Condition.{Condition}
use Rattle.fj_value.specs.declared.condition.Condition.TheVariants.{Error}
use Rattle.fj_list.specs.declared.constant.Form.{Form}
use Rattle.fj_list.specs.declared.constant.Form.TheVariants.{Null, Undelimited, Delimited}
use Rattle.fj_list.specs.declared.constant.Read.{Read}
use Rattle.fj_list.specs.declared.constant.Read.TheVariants as read
use Rattle.fj_list.specs.Stream.{Stream, stream}
use Rattle.fj_value.specs.Reading.{with_sign, truth_read, assigned_text}
use Rattle.fj_list.specs.Constant.{signed_number, integer_in, integer_read, logical_read, read_as}
use Rattle.fj_list.specs.ConstantLaws as laws
use Rattle.fj_list.specs.ConstantLaws.{IsInteger, IsIntegerRead, IntegersAreRead, ConstantsAreOfKind, HaveKinds, CellsKeepKinds}
use Rattle.fj_list.specs.ListInput.{Split, stopped, Outcome, split, supplied, served, served_from, items_read, list_input}
use Rattle.fj_moved.specs.Cells.{kind_at, with_value}
use Rattle.fj_list.proofs.Numbers.{no_digit_is}
use Rattle.fj_list.proofs.GrammarLaws.{digit_first, all_digits}
use Rattle.fj_list.proofs.Plain.{NoSign, integer_unsigned}

fits_not : (bits : ℕ) (z : ℤ) → (FitsBits bits z → ⊥) → fits_bits bits z ≡ false
fits_not bits z h = elim (cases_Bool (fits_bits bits z)) [
  | inl e ↦ absurd (h (fits_bits-fits bits z e))
  | inr e ↦ e
]

-- digits have no sign
no_sign : (c : ℕ) → is_digit c 10 ≡ true → (eqb c 45 ≡ false) × (eqb c 43 ≡ false)
no_sign c e = go (is_ascii_digit c) refl where
  go : (b : Bool) → is_ascii_digit c ≡ b → (eqb c 45 ≡ false) × (eqb c 43 ≡ false)
  go true h = (grind (arith, nat_tests), grind (arith, nat_tests))
  go false h = absurd (false≢true (sym (no_digit_is c h) ∙ e))

digits_no_sign : (ds : List ℕ) (n : ℕ) → number_in 10 ds ≡ Some n → NoSign ds
digits_no_sign [] n e = tt
digits_no_sign (d ∷ ds) n e = no_sign d (digit_first (is_digit d 10) (list_all (λ x. is_digit x 10) ds) (all_digits (d ∷ ds) n e)).0

integer_is : (cs : List ℕ) (z : ℤ) → IsInteger cs z → integer_in cs ≡ Some z
integer_is ds _ (laws.unsigned {n} e) = integer_unsigned ds (digits_no_sign ds n e) ∙ ap (option_map (with_sign false)) e
integer_is _ _ (laws.plus {ds} {n} e) = ap (option_map (with_sign false)) e
integer_is _ _ (laws.minus {ds} {n} e) = ap (option_map (with_sign true)) e

-- and the other way
is_code : (c d : ℕ) → eqb c d ≡ true → c ≡ d
is_code c d e = grind (arith, nat_tests)

integer_or : (cs : List ℕ) (z : ℤ) → integer_in cs ≡ Some z → IsInteger cs z
integer_or [] z e = absurd (none-some z e)
integer_or (c ∷ cs) z e = go (eqb c 45) (eqb c 43) refl refl where
  number : (ds : List ℕ) (negative : Bool) → signed_number negative ds ≡ Some z → (n : ℕ) × ((number_in 10 ds ≡ Some n) × (with_sign negative n ≡ z))
  number ds negative h = found (number_in 10 ds) refl where
    found : (o : Option ℕ) → number_in 10 ds ≡ o → (n : ℕ) × ((number_in 10 ds ≡ Some n) × (with_sign negative n ≡ z))
    found None is = absurd (none-some z (sym (ap (option_map (with_sign negative)) is) ∙ h))
    found (Some n) is = let same : Some (with_sign negative n) ≡ Some z = sym (ap (option_map (with_sign negative)) is) ∙ h in (n, (is, cc))

  by : Bool → Bool → Option ℤ
  by a b = cond a (signed_number true cs) (cond b (signed_number false cs) (signed_number false (c ∷ cs)))

  go : (a b : Bool) → eqb c 45 ≡ a → eqb c 43 ≡ b → IsInteger (c ∷ cs) z
  go true b is is' =
      let found = number cs true (sym (ap (λ a. by a (eqb c 43)) is) ∙ e) in
      subst (λ (d : ℕ). IsInteger (d ∷ cs) z) (sym (is_code c 45 is)) (subst (λ (y : ℤ). IsInteger (45 ∷ cs) y) found.1.1 (laws.minus found.1.0))
  go false true is is' =
      let found = number cs false (sym (ap (λ a. by a (eqb c 43)) is ∙ ap (by false) is') ∙ e) in
      subst (λ (d : ℕ). IsInteger (d ∷ cs) z) (sym (is_code c 43 is')) (subst (λ (y : ℤ). IsInteger (43 ∷ cs) y) found.1.1 (laws.plus found.1.0))
  go false false is is' =
      let found = number (c ∷ cs) false (sym (ap (λ a. by a (eqb c 43)) is ∙ ap (by false) is') ∙ e) in
      subst (λ (y : ℤ). IsInteger (c ∷ cs) y) found.1.1 (laws.unsigned found.1.0)

integer_reads : (bits : ℕ) (cs : List ℕ) → IsIntegerRead bits cs (integer_read bits (integer_in cs))
integer_reads bits cs = record {
  fits = λ z is h. ap (integer_read bits) (integer_is cs z is) ∙ ap (λ b. cond b (read.Defined (value.Int z)) (read.Wrong (Error 14))) (fits_bits-true bits z h);
  too_great = λ z is h. ap (integer_read bits) (integer_is cs z is) ∙ ap (λ b. cond b (read.Defined (value.Int z)) (read.Wrong (Error 14))) (fits_not bits z h);
  no_number = λ none. other none (integer_in cs) refl;
} where
  other : ((z : ℤ) → IsInteger cs z → ⊥) → (o : Option ℤ) → integer_in cs ≡ o → integer_read bits (integer_in cs) ≡ read.Wrong (Error 13)
  other none None e = ap (integer_read bits) e
  other none (Some z) e = absurd (none z (integer_or cs z e))

pub integers_read : IntegersAreRead
integers_read Int4 bits cs e = let same : 32 ≡ bits = cc in subst (λ (n : ℕ). IsIntegerRead n cs (integer_read 32 (integer_in cs))) same (integer_reads 32 cs)
integers_read Int8 bits cs e = let same : 64 ≡ bits = cc in subst (λ (n : ℕ). IsIntegerRead n cs (integer_read 64 (integer_in cs))) same (integer_reads 64 cs)
integers_read Logical bits cs e = absurd (none-some bits e)
integers_read (Chars n) bits cs e = absurd (none-some bits e)

-- kinds
whole_length : (n : ℕ) (cs : List ℕ) → length (assigned_text n cs) ≡ n
whole_length n cs = simp (length-append, length-take, length-replicate) (omega arith)

integer_kind : (bits : ℕ) (o : Option ℤ) (v : Value) → integer_read bits o ≡ read.Defined v → (z : ℤ) × ((v ≡ value.Int z) × FitsBits bits z)
integer_kind bits None v e = absurd (cc)
integer_kind bits (Some z) v e = go (fits_bits bits z) refl where
  go : (b : Bool) → fits_bits bits z ≡ b → (z' : ℤ) × ((v ≡ value.Int z') × FitsBits bits z')
  go true h = let same : read.Defined (value.Int z) ≡ read.Defined v = sym (ap (λ b. cond b (read.Defined (value.Int z)) (read.Wrong (Error 14))) h) ∙ e in (z, (cc, fits_bits-fits bits z h))
  go false h = let same : read.Wrong (Error 14) ≡ read.Defined v = sym (ap (λ b. cond b (read.Defined (value.Int z)) (read.Wrong (Error 14))) h) ∙ e in absurd (cc)

logical_kind : (o : Option Bool) (v : Value) → logical_read o ≡ read.Defined v → IsOfKind Logical v
logical_kind None v e = absurd (cc)
logical_kind (Some b) v e = let same : value.Log b ≡ v = cc in subst (IsOfKind Logical) same tt

text_kind : (n : ℕ) (cs : List ℕ) (v : Value) → read.Defined (value.Chars (assigned_text n cs)) ≡ read.Defined v → IsOfKind (Chars n) v
text_kind n cs v e = let same : value.Chars (assigned_text n cs) ≡ v = cc in subst (IsOfKind (Chars n)) same (whole_length n cs)

pub constants_of_kind : ConstantsAreOfKind
constants_of_kind kind Null cs v e = absurd (cc)
constants_of_kind Int4 Undelimited cs v e = let is = integer_kind 32 (integer_in cs) v e in subst (IsOfKind Int4) (sym is.1.0) is.1.1
constants_of_kind Int8 Undelimited cs v e = let is = integer_kind 64 (integer_in cs) v e in subst (IsOfKind Int8) (sym is.1.0) is.1.1
constants_of_kind Logical Undelimited cs v e = logical_kind (truth_read cs) v e
constants_of_kind (Chars n) Undelimited cs v e = text_kind n cs v e
constants_of_kind Int4 Delimited cs v e = absurd (cc)
constants_of_kind Int8 Delimited cs v e = absurd (cc)
constants_of_kind Logical Delimited cs v e = absurd (cc)
constants_of_kind (Chars n) Delimited cs v e = text_kind n cs v e

-- cells
value_kept : (cells : List Cell) (at : ℕ) (v : Value) → IsOfKind (kind_at cells at) v → HaveKinds cells → HaveKinds (with_value cells at v)
value_kept [] at v is h = tt
value_kept (cell ∷ cells) zero v is h = (inr is, h.1)
value_kept (cell ∷ cells) (suc at) v is h = (h.0, value_kept cells at v is h.1)

-- items keep the kinds of cells
abbrev Keeps : (List Cell → Outcome) → Type 0
Keeps next = (cells : List Cell) → HaveKinds cells → HaveKinds (next cells).cells

served_kinds : (got : Read) (cells : List Cell) (at : ℕ) (s : Stream) (next : List Cell → Outcome) → ((v : Value) → got ≡ read.Defined v → IsOfKind (kind_at cells at) v) → Keeps next → HaveKinds cells → HaveKinds (served got cells at s next).cells
served_kinds read.Null cells at s next of on h = on cells h
served_kinds (read.Defined v) cells at s next of on h = on (with_value cells at v) (value_kept cells at v (of v refl) h)
served_kinds (read.Wrong condition) cells at s next of on h = h

from_kinds : (sp : Split) (cells : List Cell) (at : ℕ) (next : ℕ → Form → List ℕ → Stream → List Cell → Outcome) → ((n : ℕ) (form : Form) (cs : List ℕ) (s : Stream) → Keeps (next n form cs s)) → HaveKinds cells → HaveKinds (served_from sp cells at next).cells
from_kinds (Rattle.fj_list.specs.ListInput.value n form cs s) cells at next on h = served_kinds (read_as (kind_at cells at) form cs) cells at s (next (n - 1) form cs s) (constants_of_kind (kind_at cells at) form cs) (on (n - 1) form cs s) h
from_kinds (stopped condition s) cells at next on h = h

items_kinds : (comma : Bool) (ending : Condition) (order : List ℕ) (first : Bool) (n : ℕ) (form : Form) (cs : List ℕ) (s : Stream) → Keeps (λ cells. items_read comma ending order cells first n form cs s)
items_kinds comma ending [] first n form cs s cells h = h
items_kinds comma ending (at ∷ order) first n form cs s cells h =
    from_kinds (supplied n form cs s (split comma ending first s)) cells at (λ n' form' cs' s' cells'. items_read comma ending order cells' false n' form' cs' s')
    (λ n' form' cs' s'. items_kinds comma ending order false n' form' cs' s') h

pub kinds_kept : CellsKeepKinds
kinds_kept comma [] ending cells order h = h
kinds_kept comma (line ∷ lines) ending cells order h = items_kinds comma ending order true 0 Null [] (stream (line ∷ lines)) cells h
