-- Worked cases of format control, computed from the definitions.
use Rattle.std.proofs.Common.{ℕ, suc, arith, ◌≡◌, false, codes, List, [], ◌∷◌, ◌++◌, None, refl, ap, ◌∙◌}
use Rattle.fj_value.specs.declared.edit.Edit.{Edit}
use Rattle.fj_value.specs.declared.edit.Edit.TheVariants.{Int, Chars, General}
use Rattle.fj_format.specs.declared.item.FormatItem.{FormatItem}
use Rattle.fj_format.specs.declared.item.FormatItem.TheVariants.{Field, Group, Str, Skip, Slash, Colon, Unlimited}
use Rattle.fj_format.specs.Unfolding.{Steps, edit, string, right, slash, colon, repeated, pass, again, has_unlimited}
use Rattle.fj_format.proofs.UnfoldingLaws.{written_out-Field, written_out-Group, written_out-Str, written_out-Skip, written_out-Slash, written_out-Colon, is_unlimited-Field, is_unlimited-Group, is_unlimited-Skip, is_unlimited-Colon, is_group-Colon, is_group-Field, is_group-Skip}
use Rattle.fj_control.specs.Steps.{gives, done, no_data, control, round_of, rounds, steps}
use Rattle.fj_control.proofs.Control.{goes_on_in_the_record}
use Rattle.fj_control.proofs.Reversion.{again_from_group, again_from_start}

abbrev i1 : Edit
i1 = Int 1 None

abbrev i2 : Edit
i2 = Int 2 None

abbrev i3 : Edit
i3 = Int 3 None

-- (I3,2(1X,I2))
abbrev with_a_group : List FormatItem
with_a_group = Field 1 i3 ∷ Group 2 (Skip 1 ∷ Field 1 i2 ∷ []) ∷ []

pass-with_a_group : pass with_a_group ≡ edit i3 ∷ right 1 ∷ edit i2 ∷ right 1 ∷ edit i2 ∷ []
pass-with_a_group = simp (written_out-Field, written_out-Group, written_out-Skip)

again-with_a_group : again with_a_group ≡ right 1 ∷ edit i2 ∷ right 1 ∷ edit i2 ∷ []
again-with_a_group =
    again_from_group (Field 1 i3 ∷ []) 2 (Skip 1 ∷ Field 1 i2 ∷ []) [] refl ∙ simp (written_out-Field, written_out-Skip)

steps_by : (f : List FormatItem) (p a : Steps) (n : ℕ) → has_unlimited f ≡ false → pass f ≡ p → again f ≡ a → steps f n ≡ control (p ++ rounds n (colon ∷ slash ∷ a)) n
steps_by f p a n none e h =
    ap (λ l. control (l ++ rounds n (round_of (has_unlimited f) (again f))) n) e ∙ ap (λ b. control (p ++ rounds n (round_of b (again f))) n) none
    ∙ ap (λ l. control (p ++ rounds n (colon ∷ slash ∷ l)) n) h

-- With six items the repeat count of the group is used again.
pub six_items : steps with_a_group 6 ≡ gives (edit i3) ∷ gives (right 1) ∷ gives (edit i2) ∷ gives (right 1) ∷ gives (edit i2)
    ∷ gives slash ∷ gives (right 1) ∷ gives (edit i2) ∷ gives (right 1) ∷ gives (edit i2) ∷ gives slash ∷ gives (right 1) ∷ gives (edit i2) ∷ gives (right 1) ∷ done ∷ []
six_items = steps_by with_a_group _ _ 6 (simp (is_unlimited-Field, is_unlimited-Group)) pass-with_a_group again-with_a_group

-- (2(I1,/),:,A)
abbrev with_a_colon : List FormatItem
with_a_colon = Group 2 (Field 1 i1 ∷ Slash 1 ∷ []) ∷ Colon ∷ Field 1 (Chars None) ∷ []

abbrev with_a_colon_pass : Steps
with_a_colon_pass = edit i1 ∷ slash ∷ edit i1 ∷ slash ∷ colon ∷ edit (Chars None) ∷ []

pass-with_a_colon : pass with_a_colon ≡ with_a_colon_pass
pass-with_a_colon = simp (written_out-Field, written_out-Group, written_out-Slash, written_out-Colon)

again-with_a_colon : again with_a_colon ≡ with_a_colon_pass
again-with_a_colon =
    again_from_group [] 2 (Field 1 i1 ∷ Slash 1 ∷ []) (Colon ∷ Field 1 (Chars None) ∷ []) (simp (is_group-Colon, is_group-Field))
    ∙ simp (written_out-Field, written_out-Slash, written_out-Colon)

none-with_a_colon : has_unlimited with_a_colon ≡ false
none-with_a_colon = simp (is_unlimited-Field, is_unlimited-Group, is_unlimited-Colon)

pub one_item : steps with_a_colon 1 ≡ gives (edit i1) ∷ gives slash ∷ done ∷ []
one_item = steps_by with_a_colon _ _ 1 none-with_a_colon pass-with_a_colon again-with_a_colon

-- The colon ends control.
pub two_items : steps with_a_colon 2 ≡ gives (edit i1) ∷ gives slash ∷ gives (edit i1) ∷ gives slash ∷ done ∷ []
two_items = steps_by with_a_colon _ _ 2 none-with_a_colon pass-with_a_colon again-with_a_colon

pub four_items : steps with_a_colon 4 ≡ gives (edit i1) ∷ gives slash ∷ gives (edit i1) ∷ gives slash ∷ gives (edit (Chars None)) ∷ gives slash ∷ gives (edit i1) ∷ gives slash ∷ done ∷ []
four_items = steps_by with_a_colon _ _ 4 none-with_a_colon pass-with_a_colon again-with_a_colon

-- (I1,1X) and no item; and (1X) and an item, for which it has no data descriptor
pub no_item : steps (Field 1 i1 ∷ Skip 1 ∷ []) 0 ≡ done ∷ []
no_item = steps_by (Field 1 i1 ∷ Skip 1 ∷ []) (edit i1 ∷ right 1 ∷ []) _ 0 (simp (is_unlimited-Field, is_unlimited-Skip)) (simp (written_out-Field, written_out-Skip)) refl

pub no_descriptor : steps (Skip 1 ∷ []) 1 ≡ gives (right 1) ∷ no_data ∷ []
no_descriptor = steps_by (Skip 1 ∷ []) (right 1 ∷ []) (right 1 ∷ []) 1 (simp is_unlimited-Skip) (simp written_out-Skip)
    (again_from_start (Skip 1 ∷ []) (simp is_group-Skip) ∙ simp written_out-Skip)

-- (I1,*(G0,:,','))
abbrev open_items : List FormatItem
open_items = Field 1 (General 0 0) ∷ Colon ∷ Str (codes ",") ∷ []

open_items_pass : pass open_items ≡ edit (General 0 0) ∷ colon ∷ string (codes ",") ∷ []
open_items_pass = simp (written_out-Field, written_out-Colon, written_out-Str)

open_steps : (n : ℕ) → steps (Field 1 i1 ∷ Unlimited open_items ∷ []) n ≡ control ((edit i1 ∷ []) ++ repeated (suc n) (edit (General 0 0) ∷ colon ∷ string (codes ",") ∷ [])) n
open_steps n =
    let first : pass (Field 1 i1 ∷ []) ≡ edit i1 ∷ [] = simp written_out-Field in
    goes_on_in_the_record (Field 1 i1 ∷ []) open_items n (suc n) (simp (written_out-Field, written_out-Colon, written_out-Str)) (omega arith)
    ∙ ap (λ l. control (pass (Field 1 i1 ∷ []) ++ repeated (suc n) l) n) open_items_pass
    ∙ ap (λ l. control (l ++ repeated (suc n) (edit (General 0 0) ∷ colon ∷ string (codes ",") ∷ [])) n) first

-- The colon ends control; with no item the first data descriptor does.
pub three_open : steps (Field 1 i1 ∷ Unlimited open_items ∷ []) 3 ≡ gives (edit i1) ∷ gives (edit (General 0 0)) ∷ gives (string (codes ",")) ∷ gives (edit (General 0 0)) ∷ done ∷ []
three_open = open_steps 3

pub none_open : steps (Field 1 i1 ∷ Unlimited open_items ∷ []) 0 ≡ done ∷ []
none_open = open_steps 0
