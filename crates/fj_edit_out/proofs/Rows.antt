-- Fields of integers one after another.
use Rattle.std.proofs.Common.{◌≡◌, ℕ, suc, ◌+◌, ◌-◌, ◌*◌, ◌<◌, ◌≤◌, List, [], ◌∷◌, ◌++◌, length, take, drop, get_or, replicate, flat_map, Option, Some, None, ℤ, sym, ap, ◌∙◌, arith, append_assoc}
use Rattle.std.proofs.Math.ListN.{drop_of_length-le}
use Rattle.std.proofs.Math.Seq.{take-append-add, take-append_seam}
use Rattle.std.proofs.lemmas.List.{at_drop_more, drop-drop, drop-replicate, take-replicate, length-replicate, length-drop, length-append, take-append-le, take-append-drop, take-take, append-nil}
use Rattle.std.proofs.lemmas.Slice.{take-put_mid, drop-put_mid}
use borrow.Rule.Slice.PartMut.{put_mid}
use Rattle.fj_value.specs.declared.kind.Kind.{Kind}
use Rattle.fj_value.specs.declared.value.Value.{Value}
use Rattle.fj_edit_out.specs.Item.{integer_in, with_integer, integers_in}

-- ---- the integers that are left

pub integers_are : (kind : Kind) (values : List Value) (i : ℕ) (v : Value) (o : Option ℤ) → i < length values → v ≡ get_or values i v → o ≡ integer_in kind v
    → integers_in kind (drop i values) ≡ with_integer o (integers_in kind (drop (i + 1) values))
integers_are kind values i v o h is same =
    at_drop_more (integers_in kind) values i v h
    ∙ ap (λ x. with_integer (integer_in kind x) (integers_in kind (drop (i + 1) values))) (sym is)
    ∙ ap (λ x. with_integer x (integers_in kind (drop (i + 1) values))) (sym same)

no_more : (o : Option ℤ) (more : List ℤ) (n : ℕ) → length more ≤ n → length (with_integer o more) ≤ suc n
no_more None more n h = omega arith
no_more (Some z) more n h = omega arith

pub integers_few : (kind : Kind) (values : List Value) → length (integers_in kind values) ≤ length values
integers_few kind [] = omega arith
integers_few kind (v ∷ vs) = no_more (integer_in kind v) (integers_in kind vs) (length vs) (integers_few kind vs)

-- ---- one field more

pub one_more : (i w : ℕ) → (i + 1) * w ≡ i * w + w
one_more i w = grind arith

left_more : (count i w : ℕ) → i < count → (count - i) * w ≡ (count - (i + 1)) * w + w
left_more count i w h =
    let e : count - i ≡ (count - (i + 1)) + 1 = omega arith in
    ap (λ k. k * w) e ∙ one_more (count - (i + 1)) w

pub within_row : (row : List ℕ) (at w count i : ℕ) → i < count → 0 < w → drop at row ≡ replicate ((count - i) * w) 32 → at ≤ length row
within_row row at w count i h some blank = omega (arith, length-drop at row, ap length blank, length-replicate {A = ℕ} ((count - i) * w) 32, left_more count i w h)

pub blank_field : (row : List ℕ) (at w count i : ℕ) → i < count → drop at row ≡ replicate ((count - i) * w) 32 → take w (drop at row) ≡ replicate w 32
blank_field row at w count i h blank = ap (take w) blank ∙ take-replicate w ((count - i) * w) 32 (omega (arith, left_more count i w h))

pub blanks_behind : (row field : List ℕ) (at w count i : ℕ) → i < count → at ≤ length row → length field ≡ w → drop at row ≡ replicate ((count - i) * w) 32 → drop (at + w) (put_mid at w row field) ≡ replicate ((count - (i + 1)) * w) 32
blanks_behind row field at w count i h within size blank =
    let less : (count - i) * w - w ≡ (count - (i + 1)) * w = omega (arith, left_more count i w h) in
    drop-put_mid at w row field (at + w) (omega arith) within size
    ∙ sym (drop-drop w at row) ∙ ap (drop w) blank ∙ drop-replicate w ((count - i) * w) 32 ∙ ap (λ k. replicate k 32) less

pub row_more : (f : ℤ → List ℕ) (row field : List ℕ) (at w : ℕ) (n : ℤ) (left more all : List ℤ) → at ≤ length row → length field ≡ w → field ≡ f n → left ≡ n ∷ more
    → take at row ++ flat_map f left ≡ flat_map f all → take (at + w) (put_mid at w row field) ++ flat_map f more ≡ flat_map f all
row_more f row field at w n left more all within size is next before =
    ap (λ l. l ++ flat_map f more) (take-put_mid at w row field (at + w) (omega arith) within ∙ ap (λ l. take at row ++ l) is)
    ∙ append_assoc (take at row) (f n) (flat_map f more)
    ∙ ap (λ l. take at row ++ flat_map f l) (sym next) ∙ before

-- ---- a row behind what stood there

pub row_behind : (old slice row post rest new fields : List ℕ) (start n len : ℕ) → take start slice ≡ old → length old ≡ start → n ≤ length row → start + n ≤ len → take n row ≡ fields
    → new ≡ take (start + n) (take len ((take start slice ++ (row ++ post)) ++ rest)) → new ≡ old ++ fields
row_behind old slice row post rest new fields start n len front long few fits is e =
    let size : length (old ++ row) ≡ start + length row = omega (arith, length-append old row, long) in
    e ∙ take-take (start + n) len ((take start slice ++ (row ++ post)) ++ rest) fits
    ∙ ap (λ l. take (start + n) ((l ++ (row ++ post)) ++ rest)) front
    ∙ ap (take (start + n)) (ap (λ l. l ++ rest) (sym (append_assoc old row post)) ∙ append_assoc (old ++ row) post rest)
    ∙ take-append-le (start + n) (old ++ row) (post ++ rest) (omega (arith, size))
    ∙ ap (λ k. take (k + n) (old ++ row)) (sym long)
    ∙ take-append-add old row n
    ∙ ap (λ l. old ++ l) is

pub grown_front : (old grown : List ℕ) (start more k : ℕ) → length old ≡ start → grown ≡ take (start + more) old ++ replicate k 32 → take start grown ≡ old
grown_front old grown start more k long e =
    let n = start + more in
    let none : drop n old ≡ [] = drop_of_length-le old {i = n} (omega arith) in
    let all : take n old ≡ old = sym (append-nil (take n old)) ∙ ap (λ l. take n old ++ l) (sym none) ∙ take-append-drop n old in
    ap (take start) (e ∙ ap (λ l. l ++ replicate k 32) all) ∙ ap (λ n. take n (old ++ replicate k 32)) (sym long) ∙ take-append_seam old (replicate k 32)
