-- Tables read at a place, after a write.
use Rattle.std.proofs.Common.{◌≡◌, ◌⊎◌, ℕ, zero, suc, ◌<◌, ltb, get_or, ◌||◌, Bool, true, false, List, [], ◌∷◌, length, map, Option, Some, None, IfSome, slice_get, set, refl, sym, ap, subst, ◌∙◌, inl, inr, arith}
use Rattle.std.proofs.lemmas.List.{map-set}
use Rattle.std.proofs.lemmas.Option.{slice_get-map, slice_get_past, slice_get_read}
use Rattle.std.proofs.lemmas.Bool.{false≢true}
use Rattle.std.proofs.lemmas.Bool.Decides.{eqb_tells, nat_tests}
use Rattle.std.specs.List.{list_any}
use Rattle.std.specs.Option.{option_map, option_map_or, option_and_then}
use Rattle.fj_value.specs.declared.place.Place.{Place}
use Rattle.fj_store.specs.Places.{same_place}
use Rattle.fj_store.specs.Tables.{element_in, element_at, row_with, with_element}
use Rattle.fj_store.proofs.ListLemmas.{set_same, set_other, set_missing, set_itself, set_twice, set_swap}

-- ---- rows

in_same : {T : Type 0} → (n : ℕ) (row : List T) (x y : T) → element_in n row ≡ Some y → element_in n (row_with n x row) ≡ Some x
in_same zero row x y e = cc
in_same (suc n) row x y e = set_same row n x y e

in_other : {T : Type 0} → (n m : ℕ) (row : List T) (x : T) → (m ≡ n → ⊥) → element_in m (row_with n x row) ≡ element_in m row
in_other zero zero row x ne = refl
in_other zero (suc m) row x ne = refl
in_other (suc n) zero row x ne = refl
in_other (suc n) (suc m) row x ne = set_other row n m x (λ q. ne (ap suc q))

row_itself : {T : Type 0} → (n : ℕ) (row : List T) (x : T) → element_in n row ≡ Some x → row_with n x row ≡ row
row_itself zero row x e = refl
row_itself (suc n) row x e = set_itself row n x e

pub row_missing : {T : Type 0} → (n : ℕ) (row : List T) (x : T) → element_in n row ≡ None → row_with n x row ≡ row
row_missing zero row x e = refl
row_missing (suc n) row x e = set_missing row n x e

row_twice : {T : Type 0} → (n : ℕ) (row : List T) (x y : T) → row_with n y (row_with n x row) ≡ row_with n y row
row_twice zero row x y = refl
row_twice (suc n) row x y = set_twice row n x y

row_swap : {T : Type 0} → (n m : ℕ) (row : List T) (x y : T) → (m ≡ n → ⊥) → row_with m y (row_with n x row) ≡ row_with n x (row_with m y row)
row_swap zero zero row x y ne = refl
row_swap zero (suc m) row x y ne = refl
row_swap (suc n) zero row x y ne = refl
row_swap (suc n) (suc m) row x y ne = set_swap row n m x y (λ q. ne (ap suc q))

in_mapped : {T U : Type 0} → (f : T → U) (n : ℕ) (row : List T) → element_in n (map f row) ≡ option_map f (element_in n row)
in_mapped f zero row = refl
in_mapped f (suc n) row = slice_get-map f row n

row_mapped : {T U : Type 0} → (f : T → U) (n : ℕ) (row : List T) (x : T) → map f (row_with n x row) ≡ row_with n (f x) (map f row)
row_mapped f zero row x = refl
row_mapped f (suc n) row x = map-set f row n x

-- ---- tables

pub at_same : {T : Type 0} → (rows : List (List T)) (p : Place) (x y : T) → element_at rows p ≡ Some y → element_at (with_element rows p x) p ≡ Some x
at_same {T} rows p x y =
    let go : (o : Option (List T)) → slice_get rows p.var ≡ o → option_and_then (element_in p.index) o ≡ Some y
    → option_and_then (element_in p.index) (slice_get (option_map_or (λ row. set rows p.var (row_with p.index x row)) o rows) p.var) ≡ Some x =
    λ o. elim o as (λ z. slice_get rows p.var ≡ z → option_and_then (element_in p.index) z ≡ Some y
    → option_and_then (element_in p.index) (slice_get (option_map_or (λ row. set rows p.var (row_with p.index x row)) z rows) p.var) ≡ Some x) [
      | None ↦ λ e h. cc
      | Some row ↦ λ e h. rw (set_same rows p.var (row_with p.index x row) row e) (in_same p.index row x y h)
    ] in
    go (slice_get rows p.var) refl

pub same_fields : (p q : Place) → p.var ≡ q.var → p.index ≡ q.index → p ≡ q
same_fields p q var index =
    let first : Place = record { var = q.var; index = p.index } in
    let one : p ≡ first = ap (λ (v : ℕ). let r : Place = record { var = v; index = p.index } in r) var in
    let two : first ≡ q = ap (λ (i : ℕ). let r : Place = record { var = q.var; index = i } in r) index in
    one ∙ two

-- the same place, or two places of which one variable or index differs
pub places_tell : (p q : Place) → ((same_place p q ≡ true) × (p ≡ q)) ⊎ ((same_place p q ≡ false) × ((q.var ≡ p.var → ⊥) ⊎ ((q.var ≡ p.var) × (q.index ≡ p.index → ⊥))))
places_tell p q =
    elim (eqb_tells p.var q.var) [
      | inl var ↦ elim (eqb_tells p.index q.index) [
        | inl index ↦ inl (rw (var.0, index.0) refl, same_fields p q var.1 index.1)
        | inr index ↦ inr (rw (var.0, index.0) refl, inr (sym var.1, (λ e. index.1 (sym e))))
      ]
      | inr var ↦ inr (rw var.0 refl, inl (λ e. var.1 (sym e)))
    ]

at_other_var : {T : Type 0} → (rows : List (List T)) (p q : Place) (x : T) → (q.var ≡ p.var → ⊥) → element_at (with_element rows p x) q ≡ element_at rows q
at_other_var {T} rows p q x ne =
    let go : (o : Option (List T)) → option_and_then (element_in q.index) (slice_get (option_map_or (λ row. set rows p.var (row_with p.index x row)) o rows) q.var) ≡ element_at rows q =
    λ o. elim o as (λ z. option_and_then (element_in q.index) (slice_get (option_map_or (λ row. set rows p.var (row_with p.index x row)) z rows) q.var) ≡ element_at rows q) [
      | None ↦ refl
      | Some row ↦ ap (option_and_then (element_in q.index)) (set_other rows p.var q.var (row_with p.index x row) ne)
    ] in
    go (slice_get rows p.var)

at_other_index : {T : Type 0} → (rows : List (List T)) (p q : Place) (x : T) → q.var ≡ p.var → (q.index ≡ p.index → ⊥) → element_at (with_element rows p x) q ≡ element_at rows q
at_other_index {T} rows p q x same ne =
    let go : (o : Option (List T)) → slice_get rows p.var ≡ o → option_and_then (element_in q.index) (slice_get (option_map_or (λ row. set rows p.var (row_with p.index x row)) o rows) p.var) ≡ option_and_then (element_in q.index) (slice_get rows p.var) =
    λ o. elim o as (λ z. slice_get rows p.var ≡ z → option_and_then (element_in q.index) (slice_get (option_map_or (λ row. set rows p.var (row_with p.index x row)) z rows) p.var) ≡ option_and_then (element_in q.index) (slice_get rows p.var)) [
      | None ↦ λ e. refl
      | Some row ↦ λ e. rw (set_same rows p.var (row_with p.index x row) row e, e) (in_other p.index q.index row x ne)
    ] in
    let P : ℕ → Type 0 = λ v. option_and_then (element_in q.index) (slice_get (with_element rows p x) v) ≡ option_and_then (element_in q.index) (slice_get rows v) in
    subst P (sym same) (go (slice_get rows p.var) refl)

pub at_other : {T : Type 0} → (rows : List (List T)) (p q : Place) (x : T) → same_place p q ≡ false → element_at (with_element rows p x) q ≡ element_at rows q
at_other rows p q x h =
    elim (places_tell p q) [
      | inl same ↦ absurd (false≢true (sym h ∙ same.0))
      | inr other ↦ elim other.1 [ inl var ↦ at_other_var rows p q x var | inr index ↦ at_other_index rows p q x index.0 index.1 ]
    ]

pub with_itself : {T : Type 0} → (rows : List (List T)) (p : Place) (x : T) → element_at rows p ≡ Some x → with_element rows p x ≡ rows
with_itself {T} rows p x =
    let go : (o : Option (List T)) → slice_get rows p.var ≡ o → option_and_then (element_in p.index) o ≡ Some x → option_map_or (λ row. set rows p.var (row_with p.index x row)) o rows ≡ rows =
    λ o. elim o as (λ z. slice_get rows p.var ≡ z → option_and_then (element_in p.index) z ≡ Some x → option_map_or (λ row. set rows p.var (row_with p.index x row)) z rows ≡ rows) [
      | None ↦ λ e h. refl
      | Some row ↦ λ e h. rw (row_itself p.index row x h) (set_itself rows p.var row e)
    ] in
    go (slice_get rows p.var) refl

pub with_missing : {T : Type 0} → (rows : List (List T)) (p : Place) (x : T) → element_at rows p ≡ None → with_element rows p x ≡ rows
with_missing {T} rows p x =
    let go : (o : Option (List T)) → slice_get rows p.var ≡ o → option_and_then (element_in p.index) o ≡ None → option_map_or (λ row. set rows p.var (row_with p.index x row)) o rows ≡ rows =
    λ o. elim o as (λ z. slice_get rows p.var ≡ z → option_and_then (element_in p.index) z ≡ None → option_map_or (λ row. set rows p.var (row_with p.index x row)) z rows ≡ rows) [
      | None ↦ λ e h. refl
      | Some row ↦ λ e h. rw (row_missing p.index row x h) (set_itself rows p.var row e)
    ] in
    go (slice_get rows p.var) refl

-- each element mapped
pub mapped_at : {T U : Type 0} → (f : T → U) (rows : List (List T)) (p : Place) → element_at (map (map f) rows) p ≡ option_map f (element_at rows p)
mapped_at {T} f rows p =
    let go : (o : Option (List T)) → option_and_then (element_in p.index) (option_map (map f) o) ≡ option_map f (option_and_then (element_in p.index) o) =
    λ o. elim o as (λ z. option_and_then (element_in p.index) (option_map (map f) z) ≡ option_map f (option_and_then (element_in p.index) z)) [
      | None ↦ refl
      | Some row ↦ in_mapped f p.index row
    ] in
    ap (option_and_then (element_in p.index)) (slice_get-map (map f) rows p.var) ∙ go (slice_get rows p.var)

pub mapped_with : {T U : Type 0} → (f : T → U) (rows : List (List T)) (p : Place) (x : T) → map (map f) (with_element rows p x) ≡ with_element (map (map f) rows) p (f x)
mapped_with {T} {U} f rows p x =
    let whole : Option (List U) → List (List U) = λ o. option_map_or (λ row. set (map (map f) rows) p.var (row_with p.index (f x) row)) o (map (map f) rows) in
    let go : (o : Option (List T)) → map (map f) (option_map_or (λ row. set rows p.var (row_with p.index x row)) o rows) ≡ whole (option_map (map f) o) =
    λ o. elim o as (λ z. map (map f) (option_map_or (λ row. set rows p.var (row_with p.index x row)) z rows) ≡ whole (option_map (map f) z)) [
      | None ↦ refl
      | Some row ↦ map-set (map f) rows p.var (row_with p.index x row) ∙ ap (λ ys. set (map (map f) rows) p.var ys) (row_mapped f p.index row x)
    ] in
    go (slice_get rows p.var) ∙ sym (ap whole (slice_get-map (map f) rows p.var))

-- ---- the same, of the rows that were read

pub past_rows : {T : Type 0} → (rows : List T) (var : ℕ) → false ≡ ltb var (length rows) → slice_get rows var ≡ None
past_rows rows var past = slice_get_past rows var (grind (arith, nat_tests))

pub row_read : {T : Type 0} → (items rows : List (List T)) (p : Place) (row : List T) → items ≡ rows → p.var < length items → row ≡ get_or items p.var row → slice_get rows p.var ≡ Some row
row_read {T} items rows p row same in_rows e =
    let P : List (List T) → Type 0 = λ z. slice_get z p.var ≡ Some row in
    subst P same (slice_get_read items (length items) p.var row refl in_rows e)

-- ---- two writes

pub with_found : {T : Type 0} → (rows : List (List T)) (p : Place) (x : T) (row : List T) → slice_get rows p.var ≡ Some row → with_element rows p x ≡ set rows p.var (row_with p.index x row)
with_found rows p x row e = rw e refl

pub with_lost : {T : Type 0} → (rows : List (List T)) (p : Place) (x : T) → slice_get rows p.var ≡ None → with_element rows p x ≡ rows
with_lost rows p x e = rw e refl

pub row_tells : {R : Type 0} → (o : Option R) → (o ≡ None) ⊎ ((r : R) × (o ≡ Some r))
row_tells None = inl refl
row_tells (Some r) = inr (r, refl)

pub with_twice : {T : Type 0} → (rows : List (List T)) (p : Place) (x y : T) → with_element (with_element rows p x) p y ≡ with_element rows p y
with_twice rows p x y = elim (row_tells (slice_get rows p.var)) [
  | inl lost ↦ ap (λ r. with_element r p y) (with_lost rows p x lost)
  | inr here ↦
      ap (λ r. with_element r p y) (with_found rows p x here.0 here.1)
      ∙ with_found (set rows p.var (row_with p.index x here.0)) p y (row_with p.index x here.0) (set_same rows p.var (row_with p.index x here.0) here.0 here.1)
      ∙ set_twice rows p.var (row_with p.index x here.0) (row_with p.index y (row_with p.index x here.0))
      ∙ ap (λ r. set rows p.var r) (row_twice p.index here.0 x y)
      ∙ sym (with_found rows p y here.0 here.1)
]

other_row : {T : Type 0} → (rows : List (List T)) (p q : Place) (x : T) → (q.var ≡ p.var → ⊥) → slice_get (with_element rows p x) q.var ≡ slice_get rows q.var
other_row rows p q x ne = elim (row_tells (slice_get rows p.var)) [
  | inl lost ↦ ap (λ r. slice_get r q.var) (with_lost rows p x lost)
  | inr here ↦ ap (λ r. slice_get r q.var) (with_found rows p x here.0 here.1) ∙ set_other rows p.var q.var (row_with p.index x here.0) ne
]

swap_vars : {T : Type 0} → (rows : List (List T)) (p q : Place) (x y : T) → (q.var ≡ p.var → ⊥) → with_element (with_element rows p x) q y ≡ with_element (with_element rows q y) p x
swap_vars rows p q x y ne = elim (row_tells (slice_get rows p.var)) [
  | inl lost ↦ ap (λ r. with_element r q y) (with_lost rows p x lost) ∙ sym (with_lost (with_element rows q y) p x (other_row rows q p y (λ e. ne (sym e)) ∙ lost))
  | inr here ↦ elim (row_tells (slice_get rows q.var)) [
    | inl lost ↦ with_lost (with_element rows p x) q y (other_row rows p q x ne ∙ lost) ∙ sym (ap (λ r. with_element r p x) (with_lost rows q y lost))
    | inr there ↦
        with_found (with_element rows p x) q y there.0 (other_row rows p q x ne ∙ there.1)
        ∙ ap (λ r. set r q.var (row_with q.index y there.0)) (with_found rows p x here.0 here.1)
        ∙ set_swap rows p.var q.var (row_with p.index x here.0) (row_with q.index y there.0) ne
        ∙ sym (ap (λ r. set r p.var (row_with p.index x here.0)) (with_found rows q y there.0 there.1))
        ∙ sym (with_found (with_element rows q y) p x here.0 (other_row rows q p y (λ e. ne (sym e)) ∙ here.1))
  ]
]

-- in one row, with the variable as a number by itself
swap_in_row : {T : Type 0} → (rows : List (List T)) (var i k : ℕ) (x y : T) → (k ≡ i → ⊥)
    → with_element (with_element rows (record { var = var; index = i }) x) (record { var = var; index = k }) y ≡ with_element (with_element rows (record { var = var; index = k }) y) (record { var = var; index = i }) x
swap_in_row rows var i k x y ne =
    let p : Place = record { var = var; index = i } in
    let q : Place = record { var = var; index = k } in
    elim (row_tells (slice_get rows var)) [
      | inl lost ↦ ap (λ r. with_element r q y) (with_lost rows p x lost) ∙ with_lost rows q y lost ∙ sym (ap (λ r. with_element r p x) (with_lost rows q y lost) ∙ with_lost rows p x lost)
      | inr here ↦
          ap (λ r. with_element r q y) (with_found rows p x here.0 here.1)
          ∙ with_found (set rows var (row_with i x here.0)) q y (row_with i x here.0) (set_same rows var (row_with i x here.0) here.0 here.1)
          ∙ set_twice rows var (row_with i x here.0) (row_with k y (row_with i x here.0))
          ∙ ap (λ r. set rows var r) (row_swap i k here.0 x y ne)
          ∙ sym (ap (λ r. with_element r p x) (with_found rows q y here.0 here.1)
          ∙ with_found (set rows var (row_with k y here.0)) p x (row_with k y here.0) (set_same rows var (row_with k y here.0) here.0 here.1)
          ∙ set_twice rows var (row_with k y here.0) (row_with i x (row_with k y here.0)))
    ]

pub with_swap : {T : Type 0} → (rows : List (List T)) (p q : Place) (x y : T) → ((q.var ≡ p.var → ⊥) ⊎ ((q.var ≡ p.var) × (q.index ≡ p.index → ⊥))) → with_element (with_element rows p x) q y ≡ with_element (with_element rows q y) p x
with_swap rows p q x y (inl ne) = swap_vars rows p q x y ne
with_swap rows p q x y (inr one) =
    let here : Place = record { var = p.var; index = q.index } in
    let same : here ≡ q = same_fields here q (sym one.0) refl in
    let P : Place → Type 0 = λ z. with_element (with_element rows p x) z y ≡ with_element (with_element rows z y) p x in
    subst P same (swap_in_row rows p.var p.index q.index x y one.1)

-- ---- rows of which no element passes a test

neither : (a b : Bool) → (a || b) ≡ false → (a ≡ false) × (b ≡ false)
neither true b e = absurd (false≢true (sym e))
neither false b e = (refl, e)

none_in : {T : Type 0} → (p : T → Bool) (row : List T) (n : ℕ) → list_any p row ≡ false → IfSome (slice_get row n) (λ x. p x ≡ false)
none_in p [] n none = tt
none_in p (x ∷ row) zero none = (neither (p x) (list_any p row) none).0
none_in p (x ∷ row) (suc n) none = none_in p row n (neither (p x) (list_any p row) none).1

none_at : {T : Type 0} → (p : T → Bool) (row : List T) (index : ℕ) → list_any p row ≡ false → IfSome (element_in index row) (λ x. p x ≡ false)
none_at p row zero none = tt
none_at p row (suc n) none = none_in p row n none

pub none_of_row : {T : Type 0} → (p : T → Bool) (rows : List (List T)) (row : List T) (place : Place) → slice_get rows place.var ≡ Some row → list_any p row ≡ false
    → IfSome (element_at rows place) (λ x. p x ≡ false)
none_of_row p rows row place here none = subst (λ o. IfSome (option_and_then (element_in place.index) o) (λ x. p x ≡ false)) (sym here) (none_at p row place.index none)
