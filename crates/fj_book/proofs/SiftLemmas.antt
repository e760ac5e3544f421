-- Going over the first elements of a list, of which each leaves or goes behind all that are left.
use Rattle.std.proofs.Common.{◌≡◌, ℕ, ◌+◌, ◌<◌, ◌≤◌, ◌&&◌, cond, not, Bool, true, false, List, [], ◌∷◌, ◌++◌, length, length-append, length-drop, length-take, append_assoc, append-nil, drop, take, get_or, Option, All, refl, sym, ap, subst, ◌∙◌, arith}
use Rattle.std.specs.Prelude.{filter, nat_le}
use Rattle.std.specs.List.{count_by}
use Rattle.std.specs.List.Sorted.{IsPartitionPoint}
use Rattle.std.proofs.Math.Seq.{drop-append_seam, take-append_seam}
use Rattle.std.proofs.lemmas.Bool.{le-leb}
use Rattle.std.proofs.lemmas.Bool.Decides.{nat_tests}
use Rattle.std.proofs.lemmas.List.{get_or-take, get_or-drop, take-append-drop}
use Rattle.std.proofs.lemmas.List.Elements.{All-head, All-tail, filter-append, filter_more}
use Rattle.std.proofs.lemmas.List.Kept.{AllPairs-filter}
use Rattle.std.proofs.lemmas.List.Sums.{sum_by-append}
use Rattle.fj_book.specs.declared.pending.Pending.{Pending}
use Rattle.fj_book.specs.Counting.{holds_in, AreCounted, IsKept}
use Rattle.fj_book.specs.Entries.{tag_of, is_of, is_told, IsAscending}
use Rattle.fj_book.proofs.AnyLemmas.{item_at, same_item}
use Rattle.fj_book.proofs.CountLemmas.{kept_as}

-- ---- one element

pub never_empty : {X : Type 0} (xs ys : List X) (i : ℕ) → i < length xs → drop i xs ++ ys ≡ [] → ⊥
never_empty xs ys i low none = let none_long : length (drop i xs ++ ys) ≡ 0 = ap length none in absurd (omega (arith, low, none_long, length-append (drop i xs) ys, length-drop i xs))

pub first_is : {X : Type 0} (xs ys next : List X) (i : ℕ) (e : X) → i < length xs → drop i xs ++ ys ≡ e ∷ next → (e ≡ get_or xs i e) × (next ≡ drop (i + 1) xs ++ ys)
first_is xs ys next i e low is = parts (get_or xs i e) (drop (i + 1) xs ++ ys) (ap (λ l. l ++ ys) (sym (item_at xs i (get_or xs i e) low (same_item xs i e low))) ∙ is)
  where
    parts : {X : Type 0} {e : X} {next : List X} (x : X) (rest : List X) → x ∷ rest ≡ e ∷ next → (e ≡ x) × (next ≡ rest)
    parts x rest same = (cc, cc)

module _ {X : Type 0} (q : X → Bool) (xs : List X) (i : ℕ) (e : X) (low : i < length xs) (is : e ≡ get_or xs i e) where
  more : (b : Bool) → q e ≡ b → filter q (take (i + 1) xs) ≡ filter q (take i xs) ++ cond b (e ∷ []) []
  more b same = filter_more q xs i e low ∙ ap (λ x. filter q (take i xs) ++ cond (q x) (x ∷ []) []) (sym is) ∙ ap (λ c. filter q (take i xs) ++ cond c (e ∷ []) []) same

  pub passes : q e ≡ true → filter q (take (i + 1) xs) ≡ filter q (take i xs) ++ e ∷ []
  passes same = more true same

  pub fails : q e ≡ false → filter q (take (i + 1) xs) ≡ filter q (take i xs)
  fails same = more false same ∙ append-nil (filter q (take i xs))

module _ {X : Type 0} (q : X → Bool) (xs now next : List X) (i : ℕ) (e : X) (low : i < length xs) (so_far : now ≡ drop i xs ++ filter q (take i xs)) (popped : now ≡ e ∷ next) where
  is_first : (e ≡ get_or xs i e) × (next ≡ drop (i + 1) xs ++ filter q (take i xs))
  is_first = first_is xs (filter q (take i xs)) next i e low (sym so_far ∙ popped)

  pub popped_is : e ≡ get_or xs i e
  popped_is = is_first.0

  pub goes_behind : q e ≡ true → next ++ e ∷ [] ≡ drop (i + 1) xs ++ filter q (take (i + 1) xs)
  goes_behind same =
      ap (λ l. l ++ e ∷ []) is_first.1 ∙ append_assoc (drop (i + 1) xs) (filter q (take i xs)) (e ∷ [])
      ∙ ap (λ l. drop (i + 1) xs ++ l) (sym (passes q xs i e low is_first.0 same))

  pub leaves : q e ≡ false → next ≡ drop (i + 1) xs ++ filter q (take (i + 1) xs)
  leaves same = is_first.1 ∙ ap (λ l. drop (i + 1) xs ++ l) (sym (fails q xs i e low is_first.0 same))

-- ---- the elements from a place on

-- a list that is turned so far that they come first, once they are gone over
pub turned_back : {X : Type 0} (q : X → Bool) (xs : List X) (at n : ℕ) → n + at ≡ length xs → drop n (drop at xs ++ take at xs) ++ filter q (take n (drop at xs ++ take at xs)) ≡ take at xs ++ filter q (drop at xs)
turned_back q xs at n all =
    let long : length (drop at xs) ≡ n = omega (arith, all, length-drop at xs) in
    ap (λ k. drop k (drop at xs ++ take at xs) ++ filter q (take k (drop at xs ++ take at xs))) (sym long)
    ∙ ap (λ l. l ++ filter q (take (length (drop at xs)) (drop at xs ++ take at xs))) (drop-append_seam (drop at xs) (take at xs))
    ∙ ap (λ l. take at xs ++ filter q l) (take-append_seam (drop at xs) (take at xs))

pub turned_long : {X : Type 0} (xs : List X) (at n : ℕ) → n + at ≡ length xs → n ≤ length (drop at xs ++ take at xs)
turned_long xs at n all = omega (arith, all, length-append (drop at xs) (take at xs), length-drop at xs)

module _ {X : Type 0} (P Q : X → Type 0) (xs : List X) (at : ℕ) (parted : IsPartitionPoint P Q xs at) where
  pub parted_take : All P (take at xs)
  parted_take k d within =
      let cut = length-take at xs in
      let early : k < at = omega (arith, within, cut) in
      subst P (sym (get_or-take at xs k d early)) (parted.0 k d (omega (arith, within, cut)) early)

  pub parted_drop : All Q (drop at xs)
  parted_drop k d within =
      let cut = length-drop at xs in
      subst Q (sym (get_or-drop at xs k d)) (parted.1 (at + k) d (omega arith) (omega (arith, within, cut)))

-- ---- transfers that are told from an identifier on

low_left : (unit : Option ℕ) (first : ℕ) (es : List Pending) → All (λ (e : Pending). tag_of e < first) es → filter (λ e. not (is_told unit first e)) es ≡ es
low_left unit first [] low = refl
low_left unit first (e ∷ es) low =
    let under : tag_of e < first = All-head (λ (x : Pending). tag_of x < first) e es low in
    let untold : nat_le first (tag_of e) ≡ false = grind (arith, nat_tests) in
    ap (λ b. cond (not (b && is_of unit e)) (e ∷ filter (λ x. not (is_told unit first x)) es) (filter (λ x. not (is_told unit first x)) es)) untold
    ∙ ap (λ l. e ∷ l) (low_left unit first es (All-tail (λ (x : Pending). tag_of x < first) e es low))

high_left : (unit : Option ℕ) (first : ℕ) (es : List Pending) → All (λ (e : Pending). first ≤ tag_of e) es → filter (λ e. not (is_told unit first e)) es ≡ filter (λ e. not (is_of unit e)) es
high_left unit first [] high = refl
high_left unit first (e ∷ es) high =
    ap (λ b. cond (not (b && is_of unit e)) (e ∷ filter (λ x. not (is_told unit first x)) es) (filter (λ x. not (is_told unit first x)) es))
    (le-leb first (tag_of e) (All-head (λ (x : Pending). first ≤ tag_of x) e es high))
    ∙ ap (λ l. cond (not (is_of unit e)) (e ∷ l) l) (high_left unit first es (All-tail (λ (x : Pending). first ≤ tag_of x) e es high))

pub left_from : (unit : Option ℕ) (first at : ℕ) (es : List Pending) → IsPartitionPoint (λ (e : Pending). tag_of e < first) (λ (e : Pending). first ≤ tag_of e) es at
    → take at es ++ filter (λ e. not (is_of unit e)) (drop at es) ≡ filter (λ e. not (is_told unit first e)) es
left_from unit first at es parted =
    let left : Pending → Bool = λ e. not (is_told unit first e) in
    sym (ap (filter left) (sym (take-append-drop at es)) ∙ filter-append left (take at es) (drop at es)
    ∙ ap (λ l. l ++ filter left (drop at es)) (low_left unit first (take at es) (parted_take (λ (e : Pending). tag_of e < first) (λ (e : Pending). first ≤ tag_of e) es at parted))
    ∙ ap (λ l. take at es ++ l) (high_left unit first (drop at es) (parted_drop (λ (e : Pending). tag_of e < first) (λ (e : Pending). first ≤ tag_of e) es at parted)))

-- ---- counts

count_turned : {X : Type 0} (f : X → Bool) (xs ys : List X) → count_by f (xs ++ ys) ≡ count_by f (ys ++ xs)
count_turned {X} f xs ys =
    let one : X → ℕ = λ x. cond (f x) 1 0 in
    let there : count_by f (xs ++ ys) ≡ count_by f xs + count_by f ys = sum_by-append one xs ys in
    let back : count_by f (ys ++ xs) ≡ count_by f ys + count_by f xs = sum_by-append one ys xs in
    omega (arith, there, back)

pub counted_as : (es es' : List Pending) (inputs inputs' outputs outputs' : List (List ℕ)) → es' ≡ es → inputs' ≡ inputs → outputs' ≡ outputs → AreCounted es inputs outputs → AreCounted es' inputs' outputs'
counted_as es es' inputs inputs' outputs outputs' a b c counted =
    subst (λ l. AreCounted l inputs' outputs') (sym a) (subst (λ t. AreCounted es t outputs') (sym b) (subst (λ t. AreCounted es inputs t) (sym c) counted))

pub counted_turned : (xs ys : List Pending) (inputs outputs : List (List ℕ)) → AreCounted (xs ++ ys) inputs outputs → AreCounted (ys ++ xs) inputs outputs
counted_turned xs ys inputs outputs counted = (
  λ p n here. counted.0 p n here ∙ count_turned (holds_in true p) xs ys,
  λ p n here. counted.1 p n here ∙ count_turned (holds_in false p) xs ys,
)

pub kept_from : (unit : Option ℕ) (first : ℕ) (es left : List Pending) (inputs outputs : List (List ℕ)) → IsAscending es → left ≡ filter (λ e. not (is_told unit first e)) es → AreCounted left inputs outputs → IsKept left inputs outputs
kept_from unit first es left inputs outputs up is counted =
    kept_as (filter (λ e. not (is_told unit first e)) es) left inputs outputs is (AllPairs-filter (λ (a b : Pending). tag_of a < tag_of b) (λ e. not (is_told unit first e)) es up)
    (subst (λ l. AreCounted l inputs outputs) is counted)
