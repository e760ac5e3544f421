-- The pending transfers by identifier, and as prohibitions see them.
use Rattle.std.proofs.Common.{◌≡◌, ◌≢◌, ℕ, zero, suc, ℤ, pos, negsuc, ◌<ℤ◌, ltb, ◌<◌, ◌≤◌, ◌&&◌, ◌||◌, cond, not, eqb, Bool, true, false, List, [], ◌∷◌, ◌++◌, length, get_or, remove, Option, Some, None, All, refl, sym, ap, ◌∙◌, inl, inr, arith}
use Rattle.std.proofs.lemmas.Bool.{ne_eqb, eq-eqb, cases_lt}
use Rattle.std.proofs.lemmas.Int.{ints}
use Rattle.std.proofs.lemmas.List.Quantifiers.{all_pairs_push, all_pairs_remove}
use Rattle.std.specs.List.Sorted.{IsPartitionedBy, IsPartitionPoint}
use Rattle.std.proofs.lemmas.Bool.Decides.{eqb_tells, nat_tests, same_from_decides, Decides-int_eq, Decides-eqb}
use Rattle.std.specs.Ordering.{int_eq}
use Rattle.std.proofs.lemmas.List.Elements.{All-head, All-tail}
use Rattle.std.specs.List.{list_any, find, filter}
use Rattle.fj_value.specs.declared.place.Place.{Place}
use Rattle.fj_store.specs.Places.{is_among}
use Rattle.fj_book.specs.declared.pending.Pending.{Pending}
use Rattle.fj_book.specs.Entries.{tag_of, has_tag, IsAscending, holders}
use Rattle.fj_book.specs.Counting.{holds_in}
use Rattle.fj_book.specs.Prohibitions.{is_read, is_held, has_id}
use Rattle.fj_book.proofs.AnyLemmas.{any_or}
use Rattle.fj_store.proofs.RunLemmas.{any_same}

pos_same : (a b : ℕ) → pos a ≡ pos b → a ≡ b
pos_same a b e = cc

int_is : (a b : ℕ) → int_eq (pos a) (pos b) ≡ eqb a b
int_is a b = same_from_decides {P = a ≡ b} (int_eq (pos a) (pos b)) (eqb a b) ((λ e. pos_same a b ((Decides-int_eq (pos a) (pos b)).0 e)), (λ h. (Decides-int_eq (pos a) (pos b)).1 (ap pos h))) (Decides-eqb a b)

-- ---- no transfer of an identifier

pub find_absent : (tag : ℕ) (es : List Pending) → All (λ e. tag_of e ≢ tag) es → find (has_tag tag) es ≡ None
find_absent tag [] h = refl
find_absent tag (e ∷ es) h =
    let differs : has_tag tag e ≡ false = ne_eqb (tag_of e) tag (All-head (λ x. tag_of x ≢ tag) e es h) in
    ap (λ b. cond b (Some e) (find (has_tag tag) es)) differs ∙ find_absent tag es (All-tail (λ x. tag_of x ≢ tag) e es h)

pub filter_absent : (tag : ℕ) (es : List Pending) → All (λ e. tag_of e ≢ tag) es → filter (λ e. not (has_tag tag e)) es ≡ es
filter_absent tag [] h = refl
filter_absent tag (e ∷ es) h =
    let differs : has_tag tag e ≡ false = ne_eqb (tag_of e) tag (All-head (λ x. tag_of x ≢ tag) e es h) in
    ap (λ b. cond (not b) (e ∷ filter (λ x. not (has_tag tag x)) es) (filter (λ x. not (has_tag tag x)) es)) differs
    ∙ ap (λ xs. e ∷ xs) (filter_absent tag es (All-tail (λ x. tag_of x ≢ tag) e es h))

pub ids_absent : (unit tag : ℕ) (es : List Pending) → All (λ e. tag_of e ≢ tag) es → list_any (has_id (Some unit) (pos tag)) (holders es) ≡ false
ids_absent unit tag [] h = refl
ids_absent unit tag (e ∷ es) h =
    let differs : int_eq (pos (tag_of e)) (pos tag) ≡ false = int_is (tag_of e) tag ∙ ne_eqb (tag_of e) tag (All-head (λ x. tag_of x ≢ tag) e es h) in
    let rest = ids_absent unit tag es (All-tail (λ x. tag_of x ≢ tag) e es h) in
    ap (λ b. (eqb e.unit unit && b) || list_any (has_id (Some unit) (pos tag)) (holders es)) differs
    ∙ ap (λ b. (eqb e.unit unit && false) || b) rest ∙ (let go : (b : Bool) → ((b && false) || false) ≡ false = λ b. elim b as (λ z. ((z && false) || false) ≡ false) [ true ↦ refl | false ↦ refl ] in go (eqb e.unit unit))

-- ---- the one transfer of an identifier

pub tail_ascends : (e : Pending) (es : List Pending) → IsAscending (e ∷ es) → IsAscending es
tail_ascends e es h = λ i j d lt within. h (suc i) (suc j) d (omega arith) (omega arith)

later_differ : (e : Pending) (es : List Pending) → IsAscending (e ∷ es) → All (λ x. tag_of x ≢ tag_of e) es
later_differ e es h = λ k d within. let above : tag_of e < tag_of (get_or es k d) = h 0 (suc k) d (omega arith) (omega arith) in (λ same. absurd (omega arith))

first_below : (e : Pending) (es : List Pending) (i : ℕ) (x : Pending) → IsAscending (e ∷ es) → i < length es → get_or es i x ≡ x → tag_of e < tag_of x
first_below e es i x h low is = let above : tag_of e < tag_of (get_or es i x) = h 0 (suc i) x (omega arith) (omega arith) in let same : tag_of (get_or es i x) ≡ tag_of x = ap tag_of is in omega arith

pub find_at : (es : List Pending) (i : ℕ) (x : Pending) → IsAscending es → i < length es → get_or es i x ≡ x → find (has_tag (tag_of x)) es ≡ Some x
find_at [] i x up low is = absurd (omega arith)
find_at (e ∷ es) zero x up low is =
    let same_tag : has_tag (tag_of x) e ≡ true = eq-eqb (tag_of e) (tag_of x) (ap tag_of is) in
    ap (λ b. cond b (Some e) (find (has_tag (tag_of x)) es)) same_tag ∙ ap (λ z. Some z) is
find_at (e ∷ es) (suc i) x up low is =
    let below : tag_of e < tag_of x = first_below e es i x up (omega arith) is in
    let differs : has_tag (tag_of x) e ≡ false = grind (arith, nat_tests) in
    ap (λ b. cond b (Some e) (find (has_tag (tag_of x)) es)) differs ∙ find_at es i x (tail_ascends e es up) (omega arith) is

pub filter_at : (es : List Pending) (i : ℕ) (x : Pending) → IsAscending es → i < length es → get_or es i x ≡ x → filter (λ e. not (has_tag (tag_of x) e)) es ≡ remove es i
filter_at [] i x up low is = absurd (omega arith)
filter_at (e ∷ es) zero x up low is =
    let same_tag : has_tag (tag_of x) e ≡ true = eq-eqb (tag_of e) (tag_of x) (ap tag_of is) in
    let differ : All (λ y. tag_of y ≢ tag_of x) es = λ k d within. (λ same. later_differ e es up k d within (same ∙ sym (ap tag_of is))) in
    ap (λ b. cond (not b) (e ∷ filter (λ y. not (has_tag (tag_of x) y)) es) (filter (λ y. not (has_tag (tag_of x) y)) es)) same_tag ∙ filter_absent (tag_of x) es differ
filter_at (e ∷ es) (suc i) x up low is =
    let below : tag_of e < tag_of x = first_below e es i x up (omega arith) is in
    let differs : has_tag (tag_of x) e ≡ false = grind (arith, nat_tests) in
    ap (λ b. cond (not b) (e ∷ filter (λ y. not (has_tag (tag_of x) y)) es) (filter (λ y. not (has_tag (tag_of x) y)) es)) differs
    ∙ ap (λ xs. e ∷ xs) (filter_at es i x (tail_ascends e es up) (omega arith) is)

or_nothing : (b : Bool) → (b || false) ≡ b
or_nothing true = refl
or_nothing false = refl

and_true : (b : Bool) → (b && true) ≡ b
and_true true = refl
and_true false = refl

and_false : (b c : Bool) → ((b && false) || c) ≡ c
and_false true c = refl
and_false false c = refl

pub ids_at : (unit : ℕ) (es : List Pending) (i : ℕ) (x : Pending) → IsAscending es → i < length es → get_or es i x ≡ x → list_any (has_id (Some unit) (pos (tag_of x))) (holders es) ≡ eqb x.unit unit
ids_at unit [] i x up low is = absurd (omega arith)
ids_at unit (e ∷ es) zero x up low is =
    let same_tag : int_eq (pos (tag_of e)) (pos (tag_of x)) ≡ true = int_is (tag_of e) (tag_of x) ∙ eq-eqb (tag_of e) (tag_of x) (ap tag_of is) in
    let differ : All (λ y. tag_of y ≢ tag_of x) es = λ k d within. (λ same. later_differ e es up k d within (same ∙ sym (ap tag_of is))) in
    ap (λ b. (eqb e.unit unit && b) || list_any (has_id (Some unit) (pos (tag_of x))) (holders es)) same_tag
    ∙ ap (λ b. (eqb e.unit unit && true) || b) (ids_absent unit (tag_of x) es differ)
    ∙ or_nothing (eqb e.unit unit && true) ∙ and_true (eqb e.unit unit) ∙ ap (λ z. eqb z.unit unit) is
ids_at unit (e ∷ es) (suc i) x up low is =
    let below : tag_of e < tag_of x = first_below e es i x up (omega arith) is in
    let apart : eqb (tag_of e) (tag_of x) ≡ false = grind (arith, nat_tests) in
    let differs : int_eq (pos (tag_of e)) (pos (tag_of x)) ≡ false = int_is (tag_of e) (tag_of x) ∙ apart in
    ap (λ b. (eqb e.unit unit && b) || list_any (has_id (Some unit) (pos (tag_of x))) (holders es)) differs
    ∙ and_false (eqb e.unit unit) (list_any (has_id (Some unit) (pos (tag_of x))) (holders es))
    ∙ ids_at unit es i x (tail_ascends e es up) (omega arith) is

-- an identifier below 0 is of no transfer
pub ids_negative : (unit : Option ℕ) (n : ℕ) (es : List Pending) → list_any (has_id unit (negsuc n)) (holders es) ≡ false
ids_negative None n [] = refl
ids_negative None n (e ∷ es) = ids_negative None n es
ids_negative (Some unit) n [] = refl
ids_negative (Some unit) n (e ∷ es) = and_false (eqb e.unit unit) (list_any (has_id (Some unit) (negsuc n)) (holders es)) ∙ ids_negative (Some unit) n es

pub ids_unitless : (id : ℤ) (es : List Pending) → list_any (has_id None id) (holders es) ≡ false
ids_unitless id [] = refl
ids_unitless id (e ∷ es) = ids_unitless id es

-- ---- holders by direction

pub read_is : (es : List Pending) (p : Place) → list_any (holds_in true p) es ≡ is_read (holders es) p
read_is [] p = refl
read_is (e ∷ es) p = ap (λ b. (e.input && is_among e.places p) || b) (read_is es p)

both : (i a r s : Bool) → (((i && a) || r) || ((not i && a) || s)) ≡ (a || (r || s))
both true true r s = refl
both true false r s = refl
both false true true s = refl
both false true false s = refl
both false false r s = refl

pub held_is : (es : List Pending) (p : Place) → (list_any (holds_in true p) es || list_any (holds_in false p) es) ≡ is_held (holders es) p
held_is [] p = refl
held_is (e ∷ es) p = both e.input (is_among e.places p) (list_any (holds_in true p) es) (list_any (holds_in false p) es) ∙ ap (λ b. is_among e.places p || b) (held_is es p)

pub either_is : (es : List Pending) (places : List Place) → (list_any (λ place. list_any (holds_in true place) es) places || list_any (λ place. list_any (holds_in false place) es) places) ≡ list_any (is_held (holders es)) places
either_is es places =
    sym (any_or (λ place. list_any (holds_in true place) es) (λ place. list_any (holds_in false place) es) places)
    ∙ any_same (λ place. list_any (holds_in true place) es || list_any (holds_in false place) es) (is_held (holders es)) (λ p. held_is es p) places

pub ids_low : (unit : Option ℕ) (id : ℤ) (es : List Pending) → id <ℤ pos 0 → list_any (has_id unit id) (holders es) ≡ false
ids_low unit (pos n) es low = absurd (omega (arith, ints, low))
ids_low unit (negsuc n) es low = ids_negative unit n es

-- ---- what a partition by identifiers says

pub none_of : (es : List Pending) (tag at : ℕ) → IsAscending es → ((k : ℕ) (d : Pending) → k < at → tag_of (get_or es k d) < tag) → ((k : ℕ) (d : Pending) → at ≤ k → k < length es → tag ≤ tag_of (get_or es k d))
    → ((d : Pending) → at < length es → tag_of (get_or es at d) ≢ tag) → All (λ e. tag_of e ≢ tag) es
none_of es tag at up below from here k d within =
    λ same. elim (cases_lt k at) [
      | inl low ↦ absurd (omega (arith, below k d low))
      | inr high ↦ elim (eqb_tells k at) [
        | inl this ↦ here d (omega arith) (ap (λ n. tag_of (get_or es n d)) (sym this.1) ∙ same)
        | inr other ↦ absurd (omega (arith, up at k d (omega arith) within, from at d (omega arith) (omega arith)))
      ]
    ]

pub is_parted : (es : List Pending) (tag : ℕ) → IsAscending es → IsPartitionedBy (λ (e : Pending). ltb (tag_of e) tag) es
is_parted es tag up i j d low within below = elim (eqb_tells i j) [
  | inl same ↦ ap (λ n. ltb (tag_of (get_or es n d)) tag) same.1 ∙ below
  | inr other ↦ let under : tag_of (get_or es i d) < tag_of (get_or es j d) = up i j d (omega arith) within in grind (arith, nat_tests)
]

pub parted_below : (es : List Pending) (tag at : ℕ) → IsPartitionPoint (λ (e : Pending). ltb (tag_of e) tag ≡ true) (λ (e : Pending). ltb (tag_of e) tag ≡ false) es at → (k : ℕ) (d : Pending) → k < at → tag_of (get_or es k d) < tag
parted_below es tag at parted k d low = let below : ltb (tag_of (get_or es k d)) tag ≡ true = parted.0 k d (omega arith) low in grind (arith, nat_tests)

pub parted_from : (es : List Pending) (tag at : ℕ) → IsPartitionPoint (λ (e : Pending). ltb (tag_of e) tag ≡ true) (λ (e : Pending). ltb (tag_of e) tag ≡ false) es at → (k : ℕ) (d : Pending) → at ≤ k → k < length es → tag ≤ tag_of (get_or es k d)
parted_from es tag at parted k d high within = let above : ltb (tag_of (get_or es k d)) tag ≡ false = parted.1 k d high within in grind (arith, nat_tests)

pub same_read : (es : List Pending) (i : ℕ) (d d' : Pending) → i < length es → get_or es i d ≡ get_or es i d'
same_read [] i d d' low = absurd (omega arith)
same_read (e ∷ es) zero d d' low = refl
same_read (e ∷ es) (suc i) d d' low = same_read es i d d' (omega arith)

pub ascending_removed : (es : List Pending) (at : ℕ) → at < length es → IsAscending es → IsAscending (remove es at)
ascending_removed es at low up = all_pairs_remove (λ (a b : Pending). tag_of a < tag_of b) es at low up

pub ascending_pushed : (es : List Pending) (e : Pending) → IsAscending es → All (λ x. tag_of x < tag_of e) es → IsAscending (es ++ e ∷ [])
ascending_pushed es e up below = all_pairs_push (λ (a b : Pending). tag_of a < tag_of b) es e up (λ k d within. below k d within)
