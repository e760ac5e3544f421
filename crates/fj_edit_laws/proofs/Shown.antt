-- Values are shown as output fields are.
use Rattle.std.proofs.Common.{◌≡◌, ℕ, zero, suc, ◌-◌, ◌^◌, ◌<◌, Bool, true, false, cond, eqb, List, [], ◌∷◌, ◌++◌, length, Some, None, ℤ, pos, negsuc, sym, ap, ◌∙◌, refl, arith, length-append}
use Rattle.std.proofs.lemmas.Bool.Decides.{nat_tests}
use Rattle.std.specs.Prelude.{unsigned_abs, replicate}
use Rattle.std.specs.Fmt.{decimal}
use Rattle.std.proofs.lemmas.Fmt.{decimal_digit, decimal_nonempty}
use Rattle.fj_value.specs.Digits.{numeral}
use Rattle.fj_value.proofs.DigitLaws.{numeral-decimal}
use Rattle.fj_value.specs.Kind.{IsOfKind}
use Rattle.fj_value.specs.declared.kind.Kind.{Kind}
use Rattle.fj_value.specs.declared.kind.Kind.TheVariants.{Int4, Int8}
use Rattle.fj_value.specs.declared.edit.Delim.{Delim}
use Rattle.fj_value.specs.declared.edit.EditModes.{EditModes}
use Rattle.fj_value.specs.declared.edit.Edit.TheVariants as edit
use Rattle.fj_value.specs.declared.value.Value.TheVariants as value
use Rattle.fj_edit_out.specs.OutputField.{zero_filled, with_sign, adjusted, integer_field, output_field}
use Rattle.fj_list.specs.ListText.{mark_of, characters_shown, integer_shown, shown}
use Rattle.fj_list.proofs.Plain.{magnitude}
use Rattle.fj_edit_laws.specs.Shown.{ValuesAreShownAsFields}

no_zeros : (digits : List ℕ) → 0 < length digits → zero_filled None digits ≡ digits
no_zeros digits some = let none : 1 - length digits ≡ 0 = omega arith in ap (λ k. replicate k 48 ++ digits) none

no_digits : numeral 10 0 ≡ []
unfolding numeral
no_digits = refl

digits_shown : (n : ℕ) → n < 2 ^ 64 → zero_filled None (numeral 10 n) ≡ decimal n
digits_shown zero h = ap (zero_filled None) no_digits ∙ sym (decimal_digit 0 (omega arith))
digits_shown (suc n) h =
    let is = numeral-decimal (suc n) (omega arith) h in
    ap (zero_filled None) is ∙ no_zeros (decimal (suc n)) (decimal_nonempty (suc n) h)

not_zero : (n : ℕ) → 0 < n → eqb n 0 ≡ false
not_zero n h = grind (arith, nat_tests)

-- a sign before digits, with the width that they have
signed : (mark digits : List ℕ) → 0 < length digits → adjusted 0 (with_sign mark digits) ≡ mark ++ digits
signed mark digits some =
    let longer : 0 < length (mark ++ digits) = omega (arith, length-append mark digits) in
    ap (λ b. adjusted 0 (cond b [] (mark ++ digits))) (not_zero (length digits) some)
    ∙ ap (λ b. cond b (32 ∷ []) (mark ++ digits)) (not_zero (length (mark ++ digits)) longer)

integer_as_field : (plus : Bool) (n : ℤ) → unsigned_abs n < 2 ^ 64 → integer_field plus (0, None) n ≡ integer_shown plus n
integer_as_field true (pos n) h =
    ap (λ ds. adjusted 0 (with_sign (43 ∷ []) ds)) (digits_shown n h) ∙ signed (43 ∷ []) (decimal n) (decimal_nonempty n h)
integer_as_field false (pos n) h =
    ap (λ ds. adjusted 0 (with_sign [] ds)) (digits_shown n h) ∙ signed [] (decimal n) (decimal_nonempty n h)
integer_as_field plus (negsuc n) h =
    ap (λ ds. adjusted 0 (with_sign (45 ∷ []) ds)) (digits_shown (suc n) h) ∙ signed (45 ∷ []) (decimal (suc n)) (decimal_nonempty (suc n) h)

integers : (modes : EditModes) (kind : Kind) (n : ℤ) → IsOfKind kind (value.Int n) → output_field (edit.Int 0 None) (value.Int n) kind modes.plus ≡ Some (shown modes (value.Int n))
integers modes Int4 n is = ap (λ (cs : List ℕ). Some cs) (integer_as_field modes.plus n (magnitude 32 n (omega arith) is).1)
integers modes Int8 n is = ap (λ (cs : List ℕ). Some cs) (integer_as_field modes.plus n (magnitude 64 n (omega arith) is).1)
integers modes _ n is = absurd is

pub values_as_fields : ValuesAreShownAsFields
values_as_fields modes = record {
  integers = integers modes;
  logicals = λ truth. refl;
  characters = λ width text plain. ap (λ (d : Delim). Some (characters_shown (mark_of d) text)) (sym plain);
}
