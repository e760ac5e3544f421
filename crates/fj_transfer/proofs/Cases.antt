-- Worked cases of output under an explicit format, computed from the definition.
use Rattle.std.proofs.Common.{◌≡◌, ℕ, ◌<◌, ◌/◌, ◌%◌, lit<, lit≤, ℤ, Bool, true, false, List, [], ◌∷◌, ◌++◌, length, map, Some, None, Ok, Err, pos, negsuc, refl, ap, ◌∙◌}
use Rattle.std.specs.Prelude.{codes}
use Rattle.std.specs.Fmt.{digit_glyph}
use Rattle.fj_value.proofs.DigitLaws.{numeral-step, numeral-zero}
use Rattle.fj_value.specs.Digits.{numeral, twos_complement}
use Rattle.fj_value.specs.declared.edit.Edit.{Edit}
use Rattle.fj_value.specs.declared.edit.Edit.TheVariants as edit
use Rattle.fj_value.specs.declared.kind.Kind.TheVariants.{Int4, Chars}
use Rattle.fj_value.specs.declared.value.Value.TheVariants as value
use Rattle.fj_value.specs.declared.edit.Delim.TheVariants.{Plain}
use Rattle.fj_value.specs.declared.edit.EditModes.{EditModes}
use Rattle.fj_value.specs.declared.condition.Condition.TheVariants.{Error}
use Rattle.fj_format.specs.declared.item.FormatItem.{FormatItem}
use Rattle.fj_format.specs.declared.item.FormatItem.TheVariants.{Field, Group, Str, Skip, Tab}
use Rattle.fj_format.specs.Unfolding as step
use Rattle.fj_format.specs.Unfolding.{Steps, pass, again, has_unlimited}
use Rattle.fj_format.proofs.UnfoldingLaws.{written_out-Field, written_out-Group, written_out-Skip, written_out-Str, written_out-Tab, is_group-Field, is_group-Group, is_group-Str, is_group-Tab, is_unlimited-Field, is_unlimited-Group, is_unlimited-Str, is_unlimited-Tab}
use Rattle.fj_control.specs.Steps.{control, round_of, rounds}
use Rattle.fj_line.specs.Actions.{AtHand, first_record, output}
use Rattle.fj_control.specs.Paired.{paired}
use Rattle.fj_moved.specs.Items.{Output}
use Rattle.fj_list.specs.ListText.{text_of}
use Rattle.fj_transfer.specs.Explicit.{action_of, ending, explicit_actions}

abbrev usual : EditModes
usual = record { blank_zero = false; comma = false; delim = Plain; pad = true; plus = false }

by_steps : (hand : AtHand) (advance : Bool) (f : List FormatItem) (items : List Output) (p a : Steps) → has_unlimited f ≡ false → pass f ≡ p → again f ≡ a
    → output hand (explicit_actions usual advance f items)
    ≡ output hand (map action_of (paired usual (control (p ++ rounds (length items) (step.colon ∷ step.slash ∷ a)) (length items)) items) ++ ending advance)
by_steps hand advance f items p a none e h =
    ap (λ l. output hand (map action_of (paired usual (control (l ++ rounds (length items) (round_of (has_unlimited f) (again f))) (length items)) items) ++ ending advance)) e
    ∙ ap (λ b. output hand (map action_of (paired usual (control (p ++ rounds (length items) (round_of b (again f))) (length items)) items) ++ ending advance)) none
    ∙ ap (λ l. output hand (map action_of (paired usual (control (p ++ rounds (length items) (step.colon ∷ step.slash ∷ l)) (length items)) items) ++ ending advance)) h

abbrev integer : ℤ → Output
integer n = (Int4, value.Int n)

abbrev text : List ℕ → Output
text chars = (Chars (length chars), value.Chars chars)

-- (I3,2(1X,I2)) of 1 to 6
abbrev with_a_group : List FormatItem
with_a_group = Field 1 (edit.Int 3 None) ∷ Group 2 (Skip 1 ∷ Field 1 (edit.Int 2 None) ∷ []) ∷ []

abbrev group_steps : Steps
group_steps = step.right 1 ∷ step.edit (edit.Int 2 None) ∷ step.right 1 ∷ step.edit (edit.Int 2 None) ∷ []

pub reverts_to_the_group : output (first_record 80 0) (explicit_actions usual true with_a_group (map (λ n. integer (pos n)) (1 ∷ 2 ∷ 3 ∷ 4 ∷ 5 ∷ 6 ∷ [])))
    ≡ Ok (text_of (codes "  1  2  3" ∷ codes "  4  5" ∷ codes "  6" ∷ []))
unfolding numeral
reverts_to_the_group = by_steps _ true with_a_group (map (λ n. integer (pos n)) (1 ∷ 2 ∷ 3 ∷ 4 ∷ 5 ∷ 6 ∷ [])) (step.edit (edit.Int 3 None) ∷ group_steps) group_steps
    (simp (is_unlimited-Field, is_unlimited-Group))
    (simp (written_out-Field, written_out-Group, written_out-Skip))
    (simp (is_group-Field, is_group-Group, written_out-Field, written_out-Group, written_out-Skip))

-- (T4,A,T1,A) of CD and AB
abbrev with_tabs : List FormatItem
with_tabs = Tab 4 ∷ Field 1 (edit.Chars None) ∷ Tab 1 ∷ Field 1 (edit.Chars None) ∷ []

abbrev tab_steps : Steps
tab_steps = step.tab 4 ∷ step.edit (edit.Chars None) ∷ step.tab 1 ∷ step.edit (edit.Chars None) ∷ []

pub back_to_the_limit : output (first_record 80 0) (explicit_actions usual false with_tabs (text (codes "CD") ∷ text (codes "AB") ∷ [])) ≡ Ok (codes "AB CD")
back_to_the_limit = by_steps _ false with_tabs (text (codes "CD") ∷ text (codes "AB") ∷ []) tab_steps tab_steps
    (simp (is_unlimited-Field, is_unlimited-Tab))
    (simp (written_out-Field, written_out-Tab))
    (simp (is_group-Field, is_group-Tab, written_out-Field, written_out-Tab))

-- the limit of a record, with one character that stood there
pub past_the_limit : output (first_record 5 1) (explicit_actions usual false with_tabs (text (codes "CD") ∷ text (codes "AB") ∷ [])) ≡ Err (Error 15)
past_the_limit = by_steps _ false with_tabs (text (codes "CD") ∷ text (codes "AB") ∷ []) tab_steps tab_steps
    (simp (is_unlimited-Field, is_unlimited-Tab))
    (simp (written_out-Field, written_out-Tab))
    (simp (is_group-Field, is_group-Tab, written_out-Field, written_out-Tab))

-- ('x') of 5
abbrev without_data : List FormatItem
without_data = Str (codes "x") ∷ []

pub no_descriptor : output (first_record 80 0) (explicit_actions usual true without_data (integer (pos 5) ∷ [])) ≡ Err (Error 11)
no_descriptor = by_steps _ true without_data (integer (pos 5) ∷ []) (step.string (codes "x") ∷ []) (step.string (codes "x") ∷ [])
    (simp is_unlimited-Str)
    (simp written_out-Str) (simp (is_group-Str, written_out-Str))

-- one descriptor and one item
abbrev one_field : Edit → List FormatItem
one_field e = Field 1 e ∷ []

alone : (e : Edit) (items : List Output) → output (first_record 80 0) (explicit_actions usual true (one_field e) items)
    ≡ output (first_record 80 0) (map action_of (paired usual (control ((step.edit e ∷ []) ++ rounds (length items) (step.colon ∷ step.slash ∷ step.edit e ∷ [])) (length items)) items) ++ ending true)
alone e items = by_steps _ true (one_field e) items (step.edit e ∷ []) (step.edit e ∷ []) (simp is_unlimited-Field) (simp written_out-Field) (simp (is_group-Field, written_out-Field))

pub with_zeros : output (first_record 80 0) (explicit_actions usual true (one_field (edit.Int 5 (Some 3))) (integer (negsuc 6) ∷ [])) ≡ Ok (text_of (codes " -007" ∷ []))
unfolding numeral
with_zeros = alone (edit.Int 5 (Some 3)) (integer (negsuc 6) ∷ [])

bits : twos_complement 32 (negsuc 0) ≡ 4294967295
unfolding twos_complement
bits = refl

f_behind : (n m : ℕ) (front : List ℕ) → 0 < n → n / 16 ≡ m → n % 16 ≡ 15 → numeral 16 m ≡ front → numeral 16 n ≡ front ++ 70 ∷ []
f_behind n m front some part last is =
    numeral-step 16 n (lit≤ tt) some ∙ ap (λ k. numeral 16 k ++ digit_glyph true (n % 16) ∷ []) part ∙ ap (λ d. numeral 16 m ++ digit_glyph true d ∷ []) last ∙ ap (λ l. l ++ 70 ∷ []) is

digits : numeral 16 4294967295 ≡ codes "FFFFFFFF"
digits = f_behind 4294967295 268435455 _ (lit< tt) refl refl (f_behind 268435455 16777215 _ (lit< tt) refl refl (f_behind 16777215 1048575 _ (lit< tt) refl refl
    (f_behind 1048575 65535 _ (lit< tt) refl refl (f_behind 65535 4095 _ (lit< tt) refl refl (f_behind 4095 255 _ (lit< tt) refl refl
    (f_behind 255 15 _ (lit< tt) refl refl (f_behind 15 0 [] (lit< tt) refl refl (numeral-zero 16))))))))

pub in_hexadecimal : output (first_record 80 0) (explicit_actions usual true (one_field (edit.Bits 16 8 None)) (integer (negsuc 0) ∷ [])) ≡ Ok (text_of (codes "FFFFFFFF" ∷ []))
in_hexadecimal = alone (edit.Bits 16 8 None) (integer (negsuc 0) ∷ []) ∙ rw (bits, digits) refl

-- an integer under A
pub not_for_the_item : output (first_record 80 0) (explicit_actions usual true (one_field (edit.Chars None)) (integer (pos 5) ∷ [])) ≡ Err (Error 12)
not_for_the_item = alone (edit.Chars None) (integer (pos 5) ∷ [])
