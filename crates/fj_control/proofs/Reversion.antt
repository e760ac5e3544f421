-- What is used again at the end of a pass.
use Rattle.std.proofs.Common.{ℕ, zero, suc, ◌+◌, ◌≡◌, ◌≤◌, ◌<◌, Bool, true, false, ◌||◌, cond, List, [], ◌∷◌, ◌++◌, length, take, drop, get_or, ◌-◌, length-drop, Option, Some, None, refl, sym, subst, ap, ◌∙◌, arith, add-one, unwrap_or, append-nil}
use Rattle.std.proofs.lemmas.List.{take_all}
use Rattle.fj_format.specs.declared.item.FormatItem.{FormatItem, out-FormatItem}
use Rattle.fj_format.specs.declared.item.FormatItem.TheVariants as item
use Rattle.fj_format.specs.declared.item.FormatItem.TheOpen.{FormatItem-F}
use Rattle.fj_format.specs.declared.item.FormatItem.TheFolds.{fold-FormatItem, fold_out-FormatItem, map-FormatItem}
use Rattle.fj_format.specs.Unfolding.{repeated, pass, written_out, again, is_group, group_step, from_last_group, first_some, again_items, height, height_step}
use Rattle.fj_format.proofs.UnfoldingLaws.{written_out-Group, written_out-Unlimited, is_group-Group, is_group-Unlimited}
use Rattle.fj_control.specs.Steps.{parentheses_step, right_parentheses, RevertsToTheLastGroup, RevertsToTheStart}
use Rattle.std.specs.List.{list_any}

drop_here : (i : ℕ) (xs : List FormatItem) (x : FormatItem) → i < length xs → x ≡ get_or xs i x → drop i xs ≡ x ∷ drop (suc i) xs
drop_here zero [] x lt e = absurd (omega arith)
drop_here zero (y ∷ xs) x lt e = ap (λ z. z ∷ xs) (sym e)
drop_here (suc i) [] x lt e = absurd (omega arith)
drop_here (suc i) (y ∷ xs) x lt e = drop_here i xs x (omega arith) e

last_found : (i : ℕ) (xs found : List FormatItem) → from_last_group (drop i xs) ≡ Some found → from_last_group xs ≡ Some found
last_found zero xs found h = h
last_found (suc i) [] found h = h
last_found (suc i) (x ∷ xs) found h = ap (λ o. first_some o (cond (is_group x) (Some (x ∷ xs)) None)) (last_found i xs found h)

pub group_here : (i : ℕ) (xs : List FormatItem) (x : FormatItem) → i < length xs → x ≡ get_or xs i x → from_last_group (drop (i + 1) xs) ≡ None → is_group x ≡ true → drop i xs ≡ again_items xs
group_here i xs x lt e h g =
    let d = drop_here i xs x lt e in
    let k : from_last_group (drop (suc i) xs) ≡ None = subst (λ n. from_last_group (drop n xs) ≡ None) (add-one i) h in
    let f : from_last_group (drop i xs) ≡ Some (drop i xs) =
    ap from_last_group d ∙ ap (λ o. first_some o (cond (is_group x) (Some (x ∷ drop (suc i) xs)) None)) k
    ∙ ap (λ b. cond b (Some (x ∷ drop (suc i) xs)) None) g ∙ ap (λ l. Some l) (sym d) in
    sym (ap (λ o. unwrap_or o xs) (last_found i xs (drop i xs) f))

pub no_group_here : (i : ℕ) (xs : List FormatItem) (x : FormatItem) → i < length xs → x ≡ get_or xs i x → from_last_group (drop (i + 1) xs) ≡ None → is_group x ≡ false → from_last_group (drop i xs) ≡ None
no_group_here i xs x lt e h g =
    let k : from_last_group (drop (suc i) xs) ≡ None = subst (λ n. from_last_group (drop n xs) ≡ None) (add-one i) h in
    ap from_last_group (drop_here i xs x lt e) ∙ ap (λ o. first_some o (cond (is_group x) (Some (x ∷ drop (suc i) xs)) None)) k
    ∙ ap (λ b. cond b (Some (x ∷ drop (suc i) xs)) None) g

pub again_found : (i : ℕ) (xs : List FormatItem) (x : FormatItem) → 0 < i → i ≤ length xs → x ≡ get_or xs (i - 1) x → from_last_group (drop i xs) ≡ None → is_group x ≡ true →
    take (length xs - (i - 1)) (drop (i - 1) xs) ≡ again_items xs
again_found i xs x p le e h g =
    let k : i ≡ (i - 1) + 1 = omega arith in
    take_all (length xs - (i - 1)) (drop (i - 1) xs) (omega (arith, length-drop (i - 1) xs))
    ∙ group_here (i - 1) xs x (omega arith) e (subst (λ n. from_last_group (drop n xs) ≡ None) k h) g

-- ---- heights

abbrev HeightBelow : Option (List FormatItem) → ℕ → Type 0
HeightBelow None n = Unit {0}
HeightBelow (Some ys) n = height ys ≤ n

below_more : (o : Option (List FormatItem)) (m n : ℕ) → m ≤ n → HeightBelow o m → HeightBelow o n
below_more None m n h k = tt
below_more (Some ys) m n h k = omega arith

last_below : (xs : List FormatItem) → HeightBelow (from_last_group xs) (height xs)
last_below [] = tt
last_below (x ∷ xs) = by_case (from_last_group xs) (is_group x) (below_more (from_last_group xs) (height xs) (height (x ∷ xs)) (omega arith) (last_below xs))
  where
    by_case : (o : Option (List FormatItem)) (b : Bool) → HeightBelow o (height (x ∷ xs)) → HeightBelow (first_some o (cond b (Some (x ∷ xs)) None)) (height (x ∷ xs))
    by_case (Some ys) b h = h
    by_case None true h = omega arith
    by_case None false h = tt

pub height-again : (xs : List FormatItem) → height (again_items xs) ≤ height xs
height-again xs = by_case (from_last_group xs) (last_below xs)
  where
    by_case : (o : Option (List FormatItem)) → HeightBelow o (height xs) → height (unwrap_or o xs) ≤ height xs
    by_case None h = omega arith
    by_case (Some ys) h = h

-- ---- items without a group

neither : (p q : Bool) → (p || q) ≡ false → (p ≡ false) × (q ≡ false)
neither true q h = cc
neither false q h = (refl, h)

flat_layer : (d : FormatItem-F FormatItem) → group_step (map-FormatItem FormatItem Bool is_group d) ≡ false → height_step (map-FormatItem FormatItem ℕ (fold-FormatItem ℕ height_step) d) ≡ 0
flat_layer (FormatItem-F.Field r e) h = refl
flat_layer (FormatItem-F.Group r items) h = absurd (let z : true ≡ false = h in cc)
flat_layer (FormatItem-F.Str s) h = refl
flat_layer (FormatItem-F.Tab n) h = refl
flat_layer (FormatItem-F.Left n) h = refl
flat_layer (FormatItem-F.Right n) h = refl
flat_layer (FormatItem-F.Skip n) h = refl
flat_layer (FormatItem-F.Slash n) h = refl
flat_layer FormatItem-F.Colon h = refl
flat_layer (FormatItem-F.Mode m) h = refl
flat_layer (FormatItem-F.Unlimited items) h = absurd (let z : true ≡ false = h in cc)

-- no list is inside them
pub flat : (xs : List FormatItem) → list_any is_group xs ≡ false → height xs ≡ 0
flat [] h = refl
flat (x ∷ xs) h =
    let k = neither (is_group x) (list_any is_group xs) h in
    let low : fold-FormatItem ℕ height_step x ≡ 0 = fold_out-FormatItem ℕ height_step x ∙ flat_layer (out-FormatItem x) (sym (fold_out-FormatItem Bool group_step x) ∙ k.0) in
    omega (arith, low, flat xs k.1)

-- ---- what is used again, by the last group

none_found : (xs : List FormatItem) → list_any is_group xs ≡ false → from_last_group xs ≡ None
none_found [] h = refl
none_found (x ∷ xs) h =
    let k = neither (is_group x) (list_any is_group xs) h in
    ap (λ o. first_some o (cond (is_group x) (Some (x ∷ xs)) None)) (none_found xs k.1) ∙ ap (λ b. cond b (Some (x ∷ xs)) None) k.0

last_at : (front : List FormatItem) (g : FormatItem) (tail : List FormatItem) → is_group g ≡ true → from_last_group tail ≡ None → from_last_group (front ++ g ∷ tail) ≡ Some (g ∷ tail)
last_at [] g tail is none =
    ap (λ o. first_some o (cond (is_group g) (Some (g ∷ tail)) None)) none ∙ ap (λ b. cond b (Some (g ∷ tail)) None) is
last_at (x ∷ front) g tail is none = ap (λ o. first_some o (cond (is_group x) (Some (x ∷ (front ++ g ∷ tail))) None)) (last_at front g tail is none)

pub again_from_group : (front : List FormatItem) (r : ℕ) (xs tail : List FormatItem) → list_any is_group tail ≡ false → again (front ++ item.Group r xs ∷ tail) ≡ repeated r (pass xs) ++ pass tail
again_from_group front r xs tail h =
    let g = item.Group r xs in
    ap (λ o. pass (unwrap_or o (front ++ g ∷ tail))) (last_at front g tail (is_group-Group r xs) (none_found tail h))
    ∙ ap (λ l. l ++ pass tail) (written_out-Group r xs)

pub again_from_start : (f : List FormatItem) → list_any is_group f ≡ false → again f ≡ pass f
again_from_start f h = ap (λ o. pass (unwrap_or o f)) (none_found f h)

-- the items of an unlimited item that stands last
pub again_unlimited : (front inner : List FormatItem) → again (front ++ item.Unlimited inner ∷ []) ≡ pass inner
again_unlimited front inner =
    ap (λ o. pass (unwrap_or o (front ++ item.Unlimited inner ∷ []))) (last_at front (item.Unlimited inner) [] (is_group-Unlimited inner) refl)
    ∙ append-nil (written_out (item.Unlimited inner)) ∙ written_out-Unlimited inner

-- ---- an item without a right parenthesis is no group

no_group_layer : (d : FormatItem-F FormatItem) → parentheses_step (map-FormatItem FormatItem ℕ (fold-FormatItem ℕ parentheses_step) d) ≡ 0 → group_step (map-FormatItem FormatItem Bool is_group d) ≡ false
no_group_layer (FormatItem-F.Field r e) h = refl
no_group_layer (FormatItem-F.Group r items) h = absurd (omega (arith, h))
no_group_layer (FormatItem-F.Str s) h = refl
no_group_layer (FormatItem-F.Tab n) h = refl
no_group_layer (FormatItem-F.Left n) h = refl
no_group_layer (FormatItem-F.Right n) h = refl
no_group_layer (FormatItem-F.Skip n) h = refl
no_group_layer (FormatItem-F.Slash n) h = refl
no_group_layer FormatItem-F.Colon h = refl
no_group_layer (FormatItem-F.Mode m) h = refl
no_group_layer (FormatItem-F.Unlimited items) h = absurd (omega (arith, h))

no_group : (x : FormatItem) → fold-FormatItem ℕ parentheses_step x ≡ 0 → is_group x ≡ false
no_group x h = fold_out-FormatItem Bool group_step x ∙ no_group_layer (out-FormatItem x) (sym (fold_out-FormatItem ℕ parentheses_step x) ∙ h)

no_groups : (xs : List FormatItem) → right_parentheses xs ≡ 0 → list_any is_group xs ≡ false
no_groups [] h = refl
no_groups (x ∷ xs) h = ap (λ b. b || list_any is_group xs) (no_group x (omega arith)) ∙ no_groups xs (omega arith)

pub reverts_to_the_last_group : RevertsToTheLastGroup
reverts_to_the_last_group front r xs tail h = again_from_group front r xs tail (no_groups tail h)

pub reverts_to_the_start : RevertsToTheStart
reverts_to_the_start f h = again_from_start f (no_groups f h)
