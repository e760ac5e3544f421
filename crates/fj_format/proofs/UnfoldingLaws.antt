-- The steps of each kind of item.
use Rattle.std.proofs.Common.{ℕ, Bool, true, false, ◌||◌, ◌+◌, ◌*◌, ◌≡◌, ◌≤◌, arith, List, [], ◌∷◌, ◌++◌, map, max, refl, sym, subst, ap, ◌∙◌}
use Rattle.std.specs.List.{list_any}
use Rattle.fj_format.specs.declared.item.ModeStep.{ModeStep}
use Rattle.fj_value.specs.declared.edit.Edit.{Edit}
use Rattle.fj_format.specs.declared.item.FormatItem.{FormatItem, out-FormatItem}
use Rattle.fj_format.specs.declared.item.FormatItem.TheVariants as item
use Rattle.fj_format.specs.declared.item.FormatItem.TheVariants.{rolls-Group, rolls-Field, rolls-Str, rolls-Tab, rolls-Left, rolls-Right, rolls-Skip, rolls-Slash, rolls-Colon, rolls-Mode, rolls-Unlimited}
use Rattle.fj_format.specs.declared.item.FormatItem.TheOpen.{FormatItem-F}
use Rattle.fj_format.specs.declared.item.FormatItem.TheFolds.{fold-FormatItem, fold-roll-FormatItem, fold_out-FormatItem, map-FormatItem}
use Rattle.fj_format.specs.Unfolding.{edit, string, tab, left, right, slash, colon, mode, is_group, group_step, is_unlimited, unlimited_step, deepest, height_step, height, unbounded_step, has_width_zero, total, work_step, work, Steps, repeated, joined, item_step, written_out, pass}

joined-map : (xs : List FormatItem) → joined (map written_out xs) ≡ pass xs
joined-map [] = refl
joined-map (x ∷ xs) = ap (λ l. written_out x ++ l) (joined-map xs)

pub written_out-Field : (r : ℕ) (e : Edit) → written_out (item.Field r e) ≡ repeated r (edit e ∷ [])
written_out-Field r e = ap written_out (sym (rolls-Field r e)) ∙ fold-roll-FormatItem Steps item_step (FormatItem-F.Field r e)

pub written_out-Str : (s : List ℕ) → written_out (item.Str s) ≡ string s ∷ []
written_out-Str s = ap written_out (sym (rolls-Str s)) ∙ fold-roll-FormatItem Steps item_step (FormatItem-F.Str s)

pub written_out-Tab : (n : ℕ) → written_out (item.Tab n) ≡ tab n ∷ []
written_out-Tab n = ap written_out (sym (rolls-Tab n)) ∙ fold-roll-FormatItem Steps item_step (FormatItem-F.Tab n)

pub written_out-Left : (n : ℕ) → written_out (item.Left n) ≡ left n ∷ []
written_out-Left n = ap written_out (sym (rolls-Left n)) ∙ fold-roll-FormatItem Steps item_step (FormatItem-F.Left n)

pub written_out-Right : (n : ℕ) → written_out (item.Right n) ≡ right n ∷ []
written_out-Right n = ap written_out (sym (rolls-Right n)) ∙ fold-roll-FormatItem Steps item_step (FormatItem-F.Right n)

pub written_out-Skip : (n : ℕ) → written_out (item.Skip n) ≡ right n ∷ []
written_out-Skip n = ap written_out (sym (rolls-Skip n)) ∙ fold-roll-FormatItem Steps item_step (FormatItem-F.Skip n)

pub written_out-Slash : (n : ℕ) → written_out (item.Slash n) ≡ repeated n (slash ∷ [])
written_out-Slash n = ap written_out (sym (rolls-Slash n)) ∙ fold-roll-FormatItem Steps item_step (FormatItem-F.Slash n)

pub written_out-Colon : written_out item.Colon ≡ colon ∷ []
written_out-Colon = ap written_out (sym rolls-Colon) ∙ fold-roll-FormatItem Steps item_step FormatItem-F.Colon

pub written_out-Mode : (m : ModeStep) → written_out (item.Mode m) ≡ mode m ∷ []
written_out-Mode m = ap written_out (sym (rolls-Mode m)) ∙ fold-roll-FormatItem Steps item_step (FormatItem-F.Mode m)

pub written_out-Group : (r : ℕ) (xs : List FormatItem) → written_out (item.Group r xs) ≡ repeated r (pass xs)
written_out-Group r xs = ap written_out (sym (rolls-Group r xs)) ∙ fold-roll-FormatItem Steps item_step (FormatItem-F.Group r xs) ∙ ap (λ l. repeated r l) (joined-map xs)

pub written_out-Unlimited : (xs : List FormatItem) → written_out (item.Unlimited xs) ≡ pass xs
written_out-Unlimited xs = ap written_out (sym (rolls-Unlimited xs)) ∙ fold-roll-FormatItem Steps item_step (FormatItem-F.Unlimited xs) ∙ joined-map xs

deepest-map : (xs : List FormatItem) → deepest (map (fold-FormatItem ℕ height_step) xs) ≡ height xs
deepest-map [] = refl
deepest-map (x ∷ xs) = ap (λ n. max (fold-FormatItem ℕ height_step x) n) (deepest-map xs)

pub height-Group : (r : ℕ) (xs : List FormatItem) → fold-FormatItem ℕ height_step (item.Group r xs) ≡ height xs + 1
height-Group r xs = ap (fold-FormatItem ℕ height_step) (sym (rolls-Group r xs)) ∙ fold-roll-FormatItem ℕ height_step (FormatItem-F.Group r xs) ∙ ap (λ n. n + 1) (deepest-map xs)

pub height-Unlimited : (xs : List FormatItem) → fold-FormatItem ℕ height_step (item.Unlimited xs) ≡ height xs + 1
height-Unlimited xs = ap (fold-FormatItem ℕ height_step) (sym (rolls-Unlimited xs)) ∙ fold-roll-FormatItem ℕ height_step (FormatItem-F.Unlimited xs) ∙ ap (λ n. n + 1) (deepest-map xs)

any-map : (xs : List FormatItem) → list_any (λ b. b) (map (fold-FormatItem Bool unbounded_step) xs) ≡ has_width_zero xs
any-map [] = refl
any-map (x ∷ xs) = ap (λ b. fold-FormatItem Bool unbounded_step x || b) (any-map xs)

pub has_width_zero-Group : (r : ℕ) (xs : List FormatItem) → fold-FormatItem Bool unbounded_step (item.Group r xs) ≡ has_width_zero xs
has_width_zero-Group r xs =
    ap (fold-FormatItem Bool unbounded_step) (sym (rolls-Group r xs)) ∙ fold-roll-FormatItem Bool unbounded_step (FormatItem-F.Group r xs) ∙ any-map xs

pub has_width_zero-Unlimited : (xs : List FormatItem) → fold-FormatItem Bool unbounded_step (item.Unlimited xs) ≡ has_width_zero xs
has_width_zero-Unlimited xs =
    ap (fold-FormatItem Bool unbounded_step) (sym (rolls-Unlimited xs)) ∙ fold-roll-FormatItem Bool unbounded_step (FormatItem-F.Unlimited xs) ∙ any-map xs

total-map : (xs : List FormatItem) → total (map (fold-FormatItem ℕ work_step) xs) ≡ work xs
total-map [] = refl
total-map (x ∷ xs) = ap (λ n. fold-FormatItem ℕ work_step x + n) (total-map xs)

pub work-Group : (r : ℕ) (xs : List FormatItem) → fold-FormatItem ℕ work_step (item.Group r xs) ≡ 1 + r * (work xs + 1)
work-Group r xs = ap (fold-FormatItem ℕ work_step) (sym (rolls-Group r xs)) ∙ fold-roll-FormatItem ℕ work_step (FormatItem-F.Group r xs) ∙ ap (λ n. 1 + r * (n + 1)) (total-map xs)

pub work-Unlimited : (xs : List FormatItem) → fold-FormatItem ℕ work_step (item.Unlimited xs) ≡ 1 + (work xs + 1)
work-Unlimited xs = ap (fold-FormatItem ℕ work_step) (sym (rolls-Unlimited xs)) ∙ fold-roll-FormatItem ℕ work_step (FormatItem-F.Unlimited xs) ∙ ap (λ n. 1 + (n + 1)) (total-map xs)

positive_layer : (d : FormatItem-F ℕ) → 1 ≤ work_step d
positive_layer (FormatItem-F.Field r e) = omega arith
positive_layer (FormatItem-F.Group r items) = omega arith
positive_layer (FormatItem-F.Str s) = omega arith
positive_layer (FormatItem-F.Tab n) = omega arith
positive_layer (FormatItem-F.Left n) = omega arith
positive_layer (FormatItem-F.Right n) = omega arith
positive_layer (FormatItem-F.Skip n) = omega arith
positive_layer (FormatItem-F.Slash n) = omega arith
positive_layer FormatItem-F.Colon = omega arith
positive_layer (FormatItem-F.Mode m) = omega arith
positive_layer (FormatItem-F.Unlimited items) = omega arith

-- each item is some work
pub work-positive : (x : FormatItem) → 1 ≤ fold-FormatItem ℕ work_step x
work-positive x = subst (λ n. 1 ≤ n) (sym (fold_out-FormatItem ℕ work_step x)) (positive_layer (map-FormatItem FormatItem ℕ (fold-FormatItem ℕ work_step) (out-FormatItem x)))

pub is_group-Field : (r : ℕ) (e : Edit) → is_group (item.Field r e) ≡ false
is_group-Field r e = ap is_group (sym (rolls-Field r e)) ∙ fold-roll-FormatItem Bool group_step (FormatItem-F.Field r e)

pub is_group-Group : (r : ℕ) (xs : List FormatItem) → is_group (item.Group r xs) ≡ true
is_group-Group r xs = ap is_group (sym (rolls-Group r xs)) ∙ fold-roll-FormatItem Bool group_step (FormatItem-F.Group r xs)

pub is_group-Str : (s : List ℕ) → is_group (item.Str s) ≡ false
is_group-Str s = ap is_group (sym (rolls-Str s)) ∙ fold-roll-FormatItem Bool group_step (FormatItem-F.Str s)

pub is_group-Tab : (n : ℕ) → is_group (item.Tab n) ≡ false
is_group-Tab n = ap is_group (sym (rolls-Tab n)) ∙ fold-roll-FormatItem Bool group_step (FormatItem-F.Tab n)

pub is_group-Left : (n : ℕ) → is_group (item.Left n) ≡ false
is_group-Left n = ap is_group (sym (rolls-Left n)) ∙ fold-roll-FormatItem Bool group_step (FormatItem-F.Left n)

pub is_group-Right : (n : ℕ) → is_group (item.Right n) ≡ false
is_group-Right n = ap is_group (sym (rolls-Right n)) ∙ fold-roll-FormatItem Bool group_step (FormatItem-F.Right n)

pub is_group-Skip : (n : ℕ) → is_group (item.Skip n) ≡ false
is_group-Skip n = ap is_group (sym (rolls-Skip n)) ∙ fold-roll-FormatItem Bool group_step (FormatItem-F.Skip n)

pub is_group-Slash : (n : ℕ) → is_group (item.Slash n) ≡ false
is_group-Slash n = ap is_group (sym (rolls-Slash n)) ∙ fold-roll-FormatItem Bool group_step (FormatItem-F.Slash n)

pub is_group-Colon : is_group item.Colon ≡ false
is_group-Colon = ap is_group (sym rolls-Colon) ∙ fold-roll-FormatItem Bool group_step FormatItem-F.Colon

pub is_group-Mode : (m : ModeStep) → is_group (item.Mode m) ≡ false
is_group-Mode m = ap is_group (sym (rolls-Mode m)) ∙ fold-roll-FormatItem Bool group_step (FormatItem-F.Mode m)

pub is_group-Unlimited : (xs : List FormatItem) → is_group (item.Unlimited xs) ≡ true
is_group-Unlimited xs = ap is_group (sym (rolls-Unlimited xs)) ∙ fold-roll-FormatItem Bool group_step (FormatItem-F.Unlimited xs)

pub height-Field : (r : ℕ) (e : Edit) → fold-FormatItem ℕ height_step (item.Field r e) ≡ 0
height-Field r e = ap (fold-FormatItem ℕ height_step) (sym (rolls-Field r e)) ∙ fold-roll-FormatItem ℕ height_step (FormatItem-F.Field r e)

pub height-Str : (s : List ℕ) → fold-FormatItem ℕ height_step (item.Str s) ≡ 0
height-Str s = ap (fold-FormatItem ℕ height_step) (sym (rolls-Str s)) ∙ fold-roll-FormatItem ℕ height_step (FormatItem-F.Str s)

pub height-Skip : (n : ℕ) → fold-FormatItem ℕ height_step (item.Skip n) ≡ 0
height-Skip n = ap (fold-FormatItem ℕ height_step) (sym (rolls-Skip n)) ∙ fold-roll-FormatItem ℕ height_step (FormatItem-F.Skip n)

pub height-Slash : (n : ℕ) → fold-FormatItem ℕ height_step (item.Slash n) ≡ 0
height-Slash n = ap (fold-FormatItem ℕ height_step) (sym (rolls-Slash n)) ∙ fold-roll-FormatItem ℕ height_step (FormatItem-F.Slash n)

pub height-Colon : fold-FormatItem ℕ height_step item.Colon ≡ 0
height-Colon = ap (fold-FormatItem ℕ height_step) (sym rolls-Colon) ∙ fold-roll-FormatItem ℕ height_step FormatItem-F.Colon

pub height-Tab : (n : ℕ) → fold-FormatItem ℕ height_step (item.Tab n) ≡ 0
height-Tab n = ap (fold-FormatItem ℕ height_step) (sym (rolls-Tab n)) ∙ fold-roll-FormatItem ℕ height_step (FormatItem-F.Tab n)

pub height-Left : (n : ℕ) → fold-FormatItem ℕ height_step (item.Left n) ≡ 0
height-Left n = ap (fold-FormatItem ℕ height_step) (sym (rolls-Left n)) ∙ fold-roll-FormatItem ℕ height_step (FormatItem-F.Left n)

pub height-Right : (n : ℕ) → fold-FormatItem ℕ height_step (item.Right n) ≡ 0
height-Right n = ap (fold-FormatItem ℕ height_step) (sym (rolls-Right n)) ∙ fold-roll-FormatItem ℕ height_step (FormatItem-F.Right n)

pub height-Mode : (m : ModeStep) → fold-FormatItem ℕ height_step (item.Mode m) ≡ 0
height-Mode m = ap (fold-FormatItem ℕ height_step) (sym (rolls-Mode m)) ∙ fold-roll-FormatItem ℕ height_step (FormatItem-F.Mode m)

pub is_unlimited-Group : (r : ℕ) (xs : List FormatItem) → is_unlimited (item.Group r xs) ≡ false
is_unlimited-Group r xs = ap is_unlimited (sym (rolls-Group r xs)) ∙ fold-roll-FormatItem Bool unlimited_step (FormatItem-F.Group r xs)

pub is_unlimited-Field : (r : ℕ) (e : Edit) → is_unlimited (item.Field r e) ≡ false
is_unlimited-Field r e = ap is_unlimited (sym (rolls-Field r e)) ∙ fold-roll-FormatItem Bool unlimited_step (FormatItem-F.Field r e)

pub is_unlimited-Str : (s : List ℕ) → is_unlimited (item.Str s) ≡ false
is_unlimited-Str s = ap is_unlimited (sym (rolls-Str s)) ∙ fold-roll-FormatItem Bool unlimited_step (FormatItem-F.Str s)

pub is_unlimited-Tab : (n : ℕ) → is_unlimited (item.Tab n) ≡ false
is_unlimited-Tab n = ap is_unlimited (sym (rolls-Tab n)) ∙ fold-roll-FormatItem Bool unlimited_step (FormatItem-F.Tab n)

pub is_unlimited-Left : (n : ℕ) → is_unlimited (item.Left n) ≡ false
is_unlimited-Left n = ap is_unlimited (sym (rolls-Left n)) ∙ fold-roll-FormatItem Bool unlimited_step (FormatItem-F.Left n)

pub is_unlimited-Right : (n : ℕ) → is_unlimited (item.Right n) ≡ false
is_unlimited-Right n = ap is_unlimited (sym (rolls-Right n)) ∙ fold-roll-FormatItem Bool unlimited_step (FormatItem-F.Right n)

pub is_unlimited-Skip : (n : ℕ) → is_unlimited (item.Skip n) ≡ false
is_unlimited-Skip n = ap is_unlimited (sym (rolls-Skip n)) ∙ fold-roll-FormatItem Bool unlimited_step (FormatItem-F.Skip n)

pub is_unlimited-Slash : (n : ℕ) → is_unlimited (item.Slash n) ≡ false
is_unlimited-Slash n = ap is_unlimited (sym (rolls-Slash n)) ∙ fold-roll-FormatItem Bool unlimited_step (FormatItem-F.Slash n)

pub is_unlimited-Colon : is_unlimited item.Colon ≡ false
is_unlimited-Colon = ap is_unlimited (sym rolls-Colon) ∙ fold-roll-FormatItem Bool unlimited_step FormatItem-F.Colon

pub is_unlimited-Mode : (m : ModeStep) → is_unlimited (item.Mode m) ≡ false
is_unlimited-Mode m = ap is_unlimited (sym (rolls-Mode m)) ∙ fold-roll-FormatItem Bool unlimited_step (FormatItem-F.Mode m)

pub is_unlimited-Unlimited : (xs : List FormatItem) → is_unlimited (item.Unlimited xs) ≡ true
is_unlimited-Unlimited xs = ap is_unlimited (sym (rolls-Unlimited xs)) ∙ fold-roll-FormatItem Bool unlimited_step (FormatItem-F.Unlimited xs)
