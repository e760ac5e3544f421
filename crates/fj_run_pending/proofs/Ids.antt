-- Ascending lists: the one element of a number, and parting by numbers.
use Rattle.std.proofs.Common.{◌≡◌, ◌≢◌, ℕ, zero, suc, ◌+◌, ltb, ◌<◌, ◌≤◌, cond, eqb, not, true, false, List, [], ◌∷◌, length, get_or, remove, All, refl, sym, ap, ◌∙◌, inl, inr, arith}
use Rattle.std.specs.List.{AllPairs, filter}
use Rattle.std.specs.List.Sorted.{IsPartitionedBy, IsPartitionPoint}
use Rattle.std.proofs.lemmas.Bool.{ne_eqb, eq-eqb, cases_lt}
use Rattle.std.proofs.lemmas.Bool.Decides.{eqb_tells, nat_tests}
use Rattle.std.proofs.lemmas.List.Elements.{All-head, All-tail}
use Rattle.fj_meaning.proofs.Lists.{pairs_tail}

pub same_read : {X : Type 0} (xs : List X) (i : ℕ) (d d' : X) → i < length xs → get_or xs i d ≡ get_or xs i d'
same_read [] i d d' low = absurd (omega arith)
same_read (x ∷ xs) zero d d' low = refl
same_read (x ∷ xs) (suc i) d d' low = same_read xs i d d' (omega arith)

module _ {X : Type 0} (n : X → ℕ) where
  abbrev pub Ascends : List X → Type 0
  Ascends xs = AllPairs (λ a b. n a < n b) xs

  pub is_parted : (xs : List X) (t : ℕ) → Ascends xs → IsPartitionedBy (λ x. ltb (n x) t) xs
  is_parted xs t up i j d low within below = elim (eqb_tells i j) [
    | inl same ↦ ap (λ k. ltb (n (get_or xs k d)) t) same.1 ∙ below
    | inr other ↦ let under : n (get_or xs i d) < n (get_or xs j d) = up i j d (omega arith) within in grind (arith, nat_tests)
  ]

  pub parted_below : (xs : List X) (t at : ℕ) → IsPartitionPoint (λ x. ltb (n x) t ≡ true) (λ x. ltb (n x) t ≡ false) xs at → (k : ℕ) (d : X) → k < at → n (get_or xs k d) < t
  parted_below xs t at parted k d low = let below : ltb (n (get_or xs k d)) t ≡ true = parted.0 k d (omega arith) low in grind (arith, nat_tests)

  pub parted_from : (xs : List X) (t at : ℕ) → IsPartitionPoint (λ x. ltb (n x) t ≡ true) (λ x. ltb (n x) t ≡ false) xs at → (k : ℕ) (d : X) → at ≤ k → k < length xs → t ≤ n (get_or xs k d)
  parted_from xs t at parted k d high within = let above : ltb (n (get_or xs k d)) t ≡ false = parted.1 k d high within in grind (arith, nat_tests)

  -- no element has the number, where the one at the parting has another
  pub none_of : (xs : List X) (t at : ℕ) → Ascends xs → ((k : ℕ) (d : X) → k < at → n (get_or xs k d) < t) → ((k : ℕ) (d : X) → at ≤ k → k < length xs → t ≤ n (get_or xs k d))
      → ((d : X) → at < length xs → n (get_or xs at d) ≢ t) → All (λ x. n x ≢ t) xs
  none_of xs t at up below from here k d within =
      λ same. elim (cases_lt k at) [
        | inl low ↦ absurd (omega (arith, below k d low))
        | inr high ↦ elim (eqb_tells k at) [
          | inl this ↦ here d (omega arith) (ap (λ i. n (get_or xs i d)) (sym this.1) ∙ same)
          | inr other ↦ absurd (omega (arith, up at k d (omega arith) within, from at d (omega arith) (omega arith)))
        ]
      ]

  later_differ : (x : X) (xs : List X) → Ascends (x ∷ xs) → All (λ y. n y ≢ n x) xs
  later_differ x xs h = λ k d within. let above : n x < n (get_or xs k d) = h 0 (suc k) d (omega arith) (omega arith) in (λ same. absurd (omega arith))

  first_below : (x : X) (xs : List X) (i : ℕ) (y : X) → Ascends (x ∷ xs) → i < length xs → get_or xs i y ≡ y → n x < n y
  first_below x xs i y h low is = let above : n x < n (get_or xs i y) = h 0 (suc i) y (omega arith) (omega arith) in let same : n (get_or xs i y) ≡ n y = ap n is in omega arith

  pub filter_absent : (t : ℕ) (xs : List X) → All (λ x. n x ≢ t) xs → filter (λ x. eqb (n x) t) xs ≡ []
  filter_absent t [] h = refl
  filter_absent t (x ∷ xs) h =
      ap (λ b. cond b (x ∷ filter (λ y. eqb (n y) t) xs) (filter (λ y. eqb (n y) t) xs)) (ne_eqb (n x) t (All-head (λ y. n y ≢ t) x xs h))
      ∙ filter_absent t xs (All-tail (λ y. n y ≢ t) x xs h)

  -- the one element of its number
  pub filter_one : (xs : List X) (i : ℕ) (y : X) → Ascends xs → i < length xs → get_or xs i y ≡ y → filter (λ x. eqb (n x) (n y)) xs ≡ y ∷ []
  filter_one [] i y up low is = absurd (omega arith)
  filter_one (x ∷ xs) zero y up low is =
      ap (λ b. cond b (x ∷ filter (λ z. eqb (n z) (n y)) xs) (filter (λ z. eqb (n z) (n y)) xs)) (eq-eqb (n x) (n y) (ap n is))
      ∙ ap (λ l. x ∷ l) (filter_absent (n y) xs (λ k d within same. later_differ x xs up k d within (same ∙ sym (ap n is))))
      ∙ ap (λ z. z ∷ []) is
  filter_one (x ∷ xs) (suc i) y up low is =
      let below : n x < n y = first_below x xs i y up (omega arith) is in
      let differs : eqb (n x) (n y) ≡ false = grind (arith, nat_tests) in
      ap (λ b. cond b (x ∷ filter (λ z. eqb (n z) (n y)) xs) (filter (λ z. eqb (n z) (n y)) xs)) differs ∙ filter_one xs i y (pairs_tail (λ a b. n a < n b) x xs up) (omega arith) is

  filter_others : (t : ℕ) (xs : List X) → All (λ x. n x ≢ t) xs → filter (λ x. not (eqb (n x) t)) xs ≡ xs
  filter_others t [] h = refl
  filter_others t (x ∷ xs) h =
      ap (λ b. cond (not b) (x ∷ filter (λ y. not (eqb (n y) t)) xs) (filter (λ y. not (eqb (n y) t)) xs)) (ne_eqb (n x) t (All-head (λ y. n y ≢ t) x xs h))
      ∙ ap (λ l. x ∷ l) (filter_others t xs (All-tail (λ y. n y ≢ t) x xs h))

  -- all but the one element of its number
  filter_removed : (xs : List X) (i : ℕ) (y : X) → Ascends xs → i < length xs → get_or xs i y ≡ y → filter (λ x. not (eqb (n x) (n y))) xs ≡ remove xs i
  filter_removed [] i y up low is = absurd (omega arith)
  filter_removed (x ∷ xs) zero y up low is =
      ap (λ b. cond (not b) (x ∷ filter (λ z. not (eqb (n z) (n y))) xs) (filter (λ z. not (eqb (n z) (n y))) xs)) (eq-eqb (n x) (n y) (ap n is))
      ∙ filter_others (n y) xs (λ k d within same. later_differ x xs up k d within (same ∙ sym (ap n is)))
  filter_removed (x ∷ xs) (suc i) y up low is =
      let below : n x < n y = first_below x xs i y up (omega arith) is in
      let differs : eqb (n x) (n y) ≡ false = grind (arith, nat_tests) in
      ap (λ b. cond (not b) (x ∷ filter (λ z. not (eqb (n z) (n y))) xs) (filter (λ z. not (eqb (n z) (n y))) xs)) differs
      ∙ ap (λ l. x ∷ l) (filter_removed xs i y (pairs_tail (λ a b. n a < n b) x xs up) (omega arith) is)

  -- none has the number
  pub none_taken : (t : ℕ) (xs : List X) → All (λ x. n x ≢ t) xs → ([] ≡ filter (λ x. eqb (n x) t) xs) × (xs ≡ filter (λ x. not (eqb (n x) t)) xs)
  none_taken t xs h = (sym (filter_absent t xs h), sym (filter_others t xs h))

  pub one_taken : (t : ℕ) (xs : List X) (i : ℕ) (y : X) → Ascends xs → i < length xs → get_or xs i y ≡ y → n y ≡ t → (y ∷ [] ≡ filter (λ x. eqb (n x) t) xs) × (remove xs i ≡ filter (λ x. not (eqb (n x) t)) xs)
  one_taken t xs i y up low is same =
      (sym (ap (λ k. filter (λ x. eqb (n x) k) xs) (sym same) ∙ filter_one xs i y up low is), sym (ap (λ k. filter (λ x. not (eqb (n x) k)) xs) (sym same) ∙ filter_removed xs i y up low is))

  -- what has a lower number than the element at a place stands before it
  pub id_before : (xs : List X) (at k : ℕ) (y d : X) → Ascends xs → at < length xs → y ≡ get_or xs at y → k < length xs → n (get_or xs k d) < n y → k < at
  id_before xs at k y d up low is within lt = elim (cases_lt k at) [
    | inl below ↦ below
    | inr from ↦ elim (eqb_tells at k) [
      | inl same ↦ let here : n (get_or xs k d) ≡ n y = ap n (ap (λ i. get_or xs i d) (sym same.1) ∙ same_read xs at d y low ∙ sym is) in absurd (omega arith)
      | inr other ↦
          let above : n (get_or xs at y) < n (get_or xs k y) = up at k y (omega arith) within in
          let this : n y ≡ n (get_or xs at y) = ap n is in
          let that : n (get_or xs k y) ≡ n (get_or xs k d) = ap n (same_read xs k y d within) in
          absurd (omega arith)
    ]
  ]

  -- no element has a greater number than the last one
  pub last_above : (xs : List X) (at k : ℕ) (y d : X) → Ascends xs → y ≡ get_or xs at y → at + 1 ≡ length xs → k < length xs → n (get_or xs k d) ≤ n y
  last_above xs at k y d up is last within = elim (eqb_tells k at) [
    | inl same ↦ let here : n (get_or xs k d) ≡ n y = ap n (ap (λ i. get_or xs i d) same.1 ∙ same_read xs at d y (omega arith) ∙ sym is) in omega arith
    | inr other ↦
        let above : n (get_or xs k y) < n (get_or xs at y) = up k at y (omega arith) (omega arith) in
        let this : n y ≡ n (get_or xs at y) = ap n is in
        let that : n (get_or xs k y) ≡ n (get_or xs k d) = ap n (same_read xs k y d within) in
        omega arith
  ]
