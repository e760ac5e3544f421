-- Proofs of the laws of variables that are moved out and come back.
use Rattle.std.proofs.Common.{◌≡◌, ◌+◌, ◌||◌, eqb, cond, not, Bool, true, false, List, [], ◌∷◌, ◌++◌, length, map, Option, Some, None, IsSome, All, unwrap_or, refl, sym, ap, subst, ◌∙◌, inl, inr, arith}
use Rattle.std.proofs.lemmas.Bool.{false≢true}
use Rattle.std.proofs.lemmas.Bool.Decides.{nat_tests}
use Rattle.std.proofs.lemmas.List.Elements.{All-head, All-tail}
use Rattle.std.specs.List.{position_or_len}
use Rattle.std.specs.Option.{option_flatten}
use Rattle.fj_value.specs.declared.place.Place.{Place}
use Rattle.fj_value.specs.declared.value.Cell.{Cell}
use Rattle.fj_value.specs.declared.value.Value.{Value}
use Rattle.fj_value.specs.declared.value.Value.TheVariants.{Undefined}
use Rattle.fj_moved.specs.declared.moved.Moved.{Moved}
use Rattle.fj_store.specs.Kinds.{kind_at, of_kind}
use Rattle.fj_store.specs.Laws.{AreOfKinds}
use Rattle.fj_moved.specs.Moved.{AreDistinct}
use Rattle.fj_moved.proofs.MovedLemmas.{same_back, parts_false, distinct_more}
use Rattle.fj_store.specs.Places.{same_place, is_among}
use Rattle.fj_store.specs.Tables.{element_at, with_element, with_cells}
use Rattle.fj_store.specs.Variables.{is_at, with_item, moved_from}
use Rattle.fj_store.specs.Storage.{Storage, value_at, cell_at, emptied, returned}
use Rattle.fj_store.proofs.TableLemmas.{places_tell, at_same, at_other, with_itself, with_missing, with_twice, with_swap}
use Rattle.fj_store.proofs.StoreLemmas.{cells_more}

-- ---- which places are out

gone : (rows : List (List (Option Value))) (p : Place) → option_flatten (element_at (with_element rows p None) p) ≡ None
gone rows p =
    let go : (o : Option (Option Value)) → element_at rows p ≡ o → option_flatten (element_at (with_element rows p None) p) ≡ None =
    λ o. elim o as (λ z. element_at rows p ≡ z → option_flatten (element_at (with_element rows p None) p) ≡ None) [
      | None ↦ λ e. ap option_flatten (ap (λ r. element_at r p) (with_missing rows p None e) ∙ e)
      | Some x ↦ λ e. ap option_flatten (at_same rows p None x e)
    ] in
    go (element_at rows p) refl

no_choice : (b : Bool) → cond b None None ≡ (let none : Option Value = None in none)
no_choice true = refl
no_choice false = refl

pub out_at : (places : List Place) (rows : List (List (Option Value))) (q : Place) → option_flatten (element_at (emptied places rows) q) ≡ cond (is_among places q) None (option_flatten (element_at rows q))
out_at [] rows q = refl
out_at (p ∷ places) rows q =
    out_at places (with_element rows p None) q
    ∙ elim (places_tell p q) [
      | inl same ↦
          let P : Place → Type 0 = λ z. option_flatten (element_at (with_element rows p None) z) ≡ None in
          let none : option_flatten (element_at (with_element rows p None) q) ≡ None = subst P same.1 (gone rows p) in
          ap (λ (o : Option Value). cond (is_among places q) None o) none ∙ no_choice (is_among places q)
          ∙ sym (ap (λ b. cond (b || is_among places q) None (option_flatten (element_at rows q))) (same_back q p ∙ same.0))
      | inr other ↦
          ap (λ o. cond (is_among places q) None (option_flatten o)) (at_other rows p q None other.0)
          ∙ sym (ap (λ b. cond (b || is_among places q) None (option_flatten (element_at rows q))) (same_back q p ∙ other.0))
    ]

-- ---- distinct places

position_found : (cells : List Cell) (p : Place) → eqb (position_or_len (is_at p) cells) (length cells) ≡ true → is_among (map (λ (c : Cell). c.place) cells) p ≡ false
position_found [] p e = refl
position_found (c ∷ cells) p e =
    let go : (b : Bool) → eqb (cond (not b) (1 + position_or_len (is_at p) cells) 0) (length (c ∷ cells)) ≡ true → (b || is_among (map (λ (x : Cell). x.place) cells) p) ≡ false =
    λ b. elim b as (λ z. eqb (cond (not z) (1 + position_or_len (is_at p) cells) 0) (length (c ∷ cells)) ≡ true → (z || is_among (map (λ (x : Cell). x.place) cells) p) ≡ false) [
      | true ↦ λ h. absurd (grind (arith, nat_tests))
      | false ↦ λ h. let shorter : eqb (position_or_len (is_at p) cells) (length cells) ≡ true = grind (arith, nat_tests) in position_found cells p shorter
    ] in
    go (same_place p c.place) e

item_distinct : (moved : Moved) (cell : Cell) → AreDistinct moved.cells → AreDistinct (with_item moved cell).cells
item_distinct moved cell once =
    let go : (b : Bool) → eqb (position_or_len (is_at cell.place) moved.cells) (length moved.cells) ≡ b → AreDistinct (cond b (moved.cells ++ cell ∷ []) moved.cells) =
    λ b. elim b as (λ z. eqb (position_or_len (is_at cell.place) moved.cells) (length moved.cells) ≡ z → AreDistinct (cond z (moved.cells ++ cell ∷ []) moved.cells)) [
      | true ↦ λ e. distinct_more moved.cells cell once (position_found moved.cells cell.place e)
      | false ↦ λ e. once
    ] in
    go (eqb (position_or_len (is_at cell.place) moved.cells) (length moved.cells)) refl

pub all_distinct : (items : List Cell) (moved : Moved) → AreDistinct moved.cells → AreDistinct (moved_from moved items).cells
all_distinct [] moved once = once
all_distinct (cell ∷ items) moved once = all_distinct items (with_item moved cell) (item_distinct moved cell once)

-- ---- cells put over a place that was changed

pub absorbed : {T : Type 0} → (made : Cell → T) (cells : List Cell) (rows : List (List T)) (p : Place) (x y : T) → with_element (with_cells made cells (with_element rows p x)) p y ≡ with_element (with_cells made cells rows) p y
absorbed made [] rows p x y = with_twice rows p x y
absorbed made (c ∷ cells) rows p x y =
    elim (places_tell p c.place) [
      | inl same ↦
          let P : Place → Type 0 = λ z. with_element (with_cells made cells (with_element (with_element rows p x) z (made c))) p y ≡ with_element (with_cells made cells (with_element rows z (made c))) p y in
          subst P same.1 (ap (λ r. with_element (with_cells made cells r) p y) (with_twice rows p x (made c)))
      | inr other ↦
          ap (λ r. with_element (with_cells made cells r) p y) (with_swap rows p c.place x (made c) other.1)
          ∙ absorbed made cells (with_element rows c.place (made c)) p x y
    ]

overwritten : {T : Type 0} → (made : Cell → T) (cells : List Cell) (rows : List (List T)) (p : Place) (x : T) → is_among (map (λ (c : Cell). c.place) cells) p ≡ true → with_cells made cells (with_element rows p x) ≡ with_cells made cells rows
overwritten made [] rows p x e = absurd (false≢true e)
overwritten made (c ∷ cells) rows p x e =
    elim (places_tell p c.place) [
      | inl same ↦
          let P : Place → Type 0 = λ z. with_cells made cells (with_element (with_element rows p x) z (made c)) ≡ with_cells made cells (with_element rows z (made c)) in
          subst P same.1 (ap (with_cells made cells) (with_twice rows p x (made c)))
      | inr other ↦
          let rest : is_among (map (λ (z : Cell). z.place) cells) p ≡ true = sym (ap (λ b. b || is_among (map (λ (z : Cell). z.place) cells) p) other.0) ∙ e in
          ap (with_cells made cells) (with_swap rows p c.place x (made c) other.1)
          ∙ overwritten made cells (with_element rows c.place (made c)) p x rest
    ]

position_missed : (cells : List Cell) (p : Place) → eqb (position_or_len (is_at p) cells) (length cells) ≡ false → is_among (map (λ (c : Cell). c.place) cells) p ≡ true
position_missed [] p e = absurd (false≢true (sym e))
position_missed (c ∷ cells) p e =
    let go : (b : Bool) → eqb (cond (not b) (1 + position_or_len (is_at p) cells) 0) (length (c ∷ cells)) ≡ false → (b || is_among (map (λ (x : Cell). x.place) cells) p) ≡ true =
    λ b. elim b as (λ z. eqb (cond (not z) (1 + position_or_len (is_at p) cells) 0) (length (c ∷ cells)) ≡ false → (z || is_among (map (λ (x : Cell). x.place) cells) p) ≡ true) [
      | true ↦ λ h. refl
      | false ↦ λ h. let shorter : eqb (position_or_len (is_at p) cells) (length cells) ≡ false = grind (arith, nat_tests) in position_missed cells p shorter
    ] in
    go (same_place p c.place) e

-- ---- all comes back

-- one item: the cells put back over the places that are out give what was there
item_back : (made : Cell → Option Value) (start rows : List (List (Option Value))) (moved : Moved) (cell : Cell) → with_cells made moved.cells rows ≡ start → element_at start cell.place ≡ Some (made cell)
    → with_cells made (with_item moved cell).cells (with_element rows cell.place None) ≡ start
item_back made start rows moved cell so_far was =
    let go : (b : Bool) → eqb (position_or_len (is_at cell.place) moved.cells) (length moved.cells) ≡ b → with_cells made (cond b (moved.cells ++ cell ∷ []) moved.cells) (with_element rows cell.place None) ≡ start =
    λ b. elim b as (λ z. eqb (position_or_len (is_at cell.place) moved.cells) (length moved.cells) ≡ z → with_cells made (cond z (moved.cells ++ cell ∷ []) moved.cells) (with_element rows cell.place None) ≡ start) [
      | true ↦ λ e.
          cells_more made moved.cells cell (with_element rows cell.place None)
          ∙ absorbed made moved.cells rows cell.place None (made cell)
          ∙ ap (λ r. with_element r cell.place (made cell)) so_far
          ∙ with_itself start cell.place (made cell) was
      | false ↦ λ e. overwritten made moved.cells rows cell.place None (position_missed moved.cells cell.place e) ∙ so_far
    ] in
    go (eqb (position_or_len (is_at cell.place) moved.cells) (length moved.cells)) refl

some_is : {X : Type 0} → (o : Option X) → IsSome o → (x : X) × (o ≡ Some x)
some_is None h = cc
some_is (Some x) h = (x, refl)

is_some : {X : Type 0} → (x : X) → IsSome (Some x)
is_some x = cc

some_value : (o : Option (Option Value)) → IsSome (option_flatten o) → (v : Value) × (o ≡ Some (Some v))
some_value None h = cc
some_value (Some None) h = cc
some_value (Some (Some v)) h = (v, refl)

-- the cell of a place that has a value puts this back
cell_back : (s : Storage) (p : Place) → AreOfKinds s → IsSome (value_at s p) → element_at s.values p ≡ Some (returned s.kinds (cell_at s p))
cell_back s p kinds home =
    let found = some_value (element_at s.values p) home in
    let here : value_at s p ≡ Some found.0 = ap option_flatten found.1 in
    found.1 ∙ ap (λ v. Some (Some v)) (sym (ap (λ o. of_kind (kind_at s.kinds p.var) (unwrap_or o Undefined)) here ∙ kinds p found.0 here))

pub all_back : (s : Storage) (places : List Place) (rows : List (List (Option Value))) (moved : Moved) → AreOfKinds s → All (λ p. IsSome (value_at s p)) places → with_cells (returned s.kinds) moved.cells rows ≡ s.values
    → with_cells (returned s.kinds) (moved_from moved (map (cell_at s) places)).cells (emptied places rows) ≡ s.values
all_back s [] rows moved kinds homes so_far = so_far
all_back s (p ∷ places) rows moved kinds homes so_far =
    all_back s places (with_element rows p None) (with_item moved (cell_at s p)) kinds (All-tail (λ q. IsSome (value_at s q)) p places homes)
    (item_back (returned s.kinds) s.values rows moved (cell_at s p) so_far (cell_back s p kinds (All-head (λ q. IsSome (value_at s q)) p places homes)))

-- ---- what each place has once cells are put back

pub stays_at : {T : Type 0} → (made : Cell → T) (cells : List Cell) (rows : List (List T)) (q : Place) → is_among (map (λ (c : Cell). c.place) cells) q ≡ false → element_at (with_cells made cells rows) q ≡ element_at rows q
stays_at made [] rows q e = refl
stays_at made (c ∷ cells) rows q e =
    let parts = parts_false (same_place q c.place) (is_among (map (λ (z : Cell). z.place) cells) q) e in
    stays_at made cells (with_element rows c.place (made c)) q parts.1 ∙ at_other rows c.place q (made c) (same_back c.place q ∙ parts.0)

-- a place that is there is there after a write
still_there : {T : Type 0} → (rows : List (List T)) (p q : Place) (x : T) → IsSome (element_at rows q) → IsSome (element_at (with_element rows p x) q)
still_there {T} rows p q x there =
    elim (places_tell p q) [
      | inl same ↦
          let P : Place → Type 0 = λ z. IsSome (element_at rows z) → IsSome (element_at (with_element rows p x) z) in
          subst P same.1 (λ h. let found = some_is (element_at rows p) h in subst IsSome (sym (at_same rows p x found.0 found.1)) (is_some x)) there
      | inr other ↦ subst IsSome (sym (at_other rows p q x other.0)) there
    ]

pub comes_at : {T : Type 0} → (made : Cell → T) (before behind : List Cell) (cell : Cell) (rows : List (List T)) → IsSome (element_at rows cell.place) → is_among (map (λ (c : Cell). c.place) behind) cell.place ≡ false
    → element_at (with_cells made (before ++ cell ∷ behind) rows) cell.place ≡ Some (made cell)
comes_at made [] behind cell rows there last =
    let found = some_is (element_at rows cell.place) there in
    stays_at made behind (with_element rows cell.place (made cell)) cell.place last ∙ at_same rows cell.place (made cell) found.0 found.1
comes_at made (c ∷ before) behind cell rows there last = comes_at made before behind cell (with_element rows c.place (made c)) (still_there rows c.place cell.place (made c) there) last
