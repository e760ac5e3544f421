-- Marks and values apart, read and written at a place.
use Rattle.std.proofs.Common.{◌≡◌, ℕ, zero, suc, List, [], ◌∷◌, map, replicate, Option, Some, None, slice_get, set, unwrap_or, refl, sym, ap, subst, ◌∙◌, inl, inr}
use Rattle.std.specs.Option.{option_map, option_map_or, option_and_then}
use Rattle.fj_value.specs.declared.kind.Kind.{Kind}
use Rattle.fj_value.specs.declared.place.Place.{Place}
use Rattle.fj_value.specs.declared.value.Value.{Value}
use Rattle.fj_value.specs.declared.value.Value.TheVariants.{Undefined}
use Rattle.fj_store.specs.declared.slot.Mark.{Mark}
use Rattle.fj_store.specs.declared.slot.Mark.TheVariants as marked
use Rattle.fj_store.specs.declared.slot.Slot.{Slot}
use Rattle.fj_store.specs.declared.slot.Slot.TheVariants.{Home, Out}
use Rattle.fj_store.specs.Slots.{AreMarked, all_read, mark_in, slot_of, slots_of, zipped}
use Rattle.fj_store.specs.Tables.{element_in, element_at, row_with, with_element}
use Rattle.fj_store.specs.Taking.{value_read}
use Rattle.fj_store.proofs.StoreLemmas.{mapped_rows}
use Rattle.fj_store.proofs.TableLemmas.{mapped_at, mapped_with, row_tells, with_missing}

-- ---- lists by twos

zipped_set : {A B C : Type 0} → (f : A → B → C) (xs : List A) (ys : List B) (n : ℕ) (x : A) (y : B) → zipped f (set xs n x) (set ys n y) ≡ set (zipped f xs ys) n (f x y)
zipped_set f [] ys zero x y = refl
zipped_set f [] ys (suc n) x y = refl
zipped_set f (a ∷ xs) [] zero x y = refl
zipped_set f (a ∷ xs) [] (suc n) x y = refl
zipped_set f (a ∷ xs) (b ∷ ys) zero x y = refl
zipped_set f (a ∷ xs) (b ∷ ys) (suc n) x y = ap (λ zs. f a b ∷ zs) (zipped_set f xs ys n x y)

zipped_row : {A B C : Type 0} → (f : A → B → C) (xs : List A) (ys : List B) (n : ℕ) (x : A) (y : B) → zipped f (row_with n x xs) (row_with n y ys) ≡ row_with n (f x y) (zipped f xs ys)
zipped_row f xs ys zero x y = refl
zipped_row f xs ys (suc n) x y = zipped_set f xs ys n x y

zipped_get : {A B C : Type 0} → (f : A → B → C) (xs : List A) (ys : List B) (n : ℕ) (x : A) (y : B) → slice_get xs n ≡ Some x → slice_get ys n ≡ Some y → slice_get (zipped f xs ys) n ≡ Some (f x y)
zipped_get f [] ys n x y e d = cc
zipped_get f (a ∷ xs) [] n x y e d = cc
zipped_get f (a ∷ xs) (b ∷ ys) zero x y e d = cc
zipped_get f (a ∷ xs) (b ∷ ys) (suc n) x y e d = zipped_get f xs ys n x y e d

zipped_replicate : {A B C : Type 0} → (f : A → B → C) (n : ℕ) (x : A) (y : B) → zipped f (replicate n x) (replicate n y) ≡ replicate n (f x y)
zipped_replicate f zero x y = refl
zipped_replicate f (suc n) x y = ap (λ zs. f x y ∷ zs) (zipped_replicate f n x y)

-- ---- what stands at a place

pub mark_at : (marks : List (List Mark)) (values : List (List Value)) (p : Place) → AreMarked marks values → element_at marks p ≡ option_map mark_in (element_at (slots_of marks values) p)
mark_at marks values p h = ap (λ rows. element_at rows p) (sym h.marked) ∙ mapped_at mark_in (slots_of marks values) p

pub read_at : (marks : List (List Mark)) (values : List (List Value)) (p : Place) → AreMarked marks values → element_at values p ≡ option_map value_read (element_at (slots_of marks values) p)
read_at marks values p h = ap (λ rows. element_at rows p) (sym h.read) ∙ mapped_at value_read (slots_of marks values) p

pub slot_back : (x : Slot) → slot_of (mark_in x) (value_read x) ≡ x
slot_back (Home n v) = refl
slot_back (Out n) = refl

-- ---- another one at a place

-- a place that there is has its row
row_there : {T : Type 0} → (rows : List (List T)) (p : Place) (x : T) → element_at rows p ≡ Some x → (row : List T) × (slice_get rows p.var ≡ Some row)
row_there rows p x e = elim (row_tells (slice_get rows p.var)) [
  | inl lost ↦ absurd (none_some (sym (ap (option_and_then (element_in p.index)) lost) ∙ e))
  | inr here ↦ here
]
  where
    none_some : {T : Type 0} {x : T} → None ≡ Some x → ⊥
    none_some e = cc

with_zipped : {A B C : Type 0} → (f : A → B → C) (xs : List (List A)) (ys : List (List B)) (p : Place) (x : A) (y : B) (r : List A) (s : List B) → slice_get xs p.var ≡ Some r → slice_get ys p.var ≡ Some s
    → zipped (zipped f) (with_element xs p x) (with_element ys p y) ≡ with_element (zipped (zipped f) xs ys) p (f x y)
with_zipped f xs ys p x y r s in_xs in_ys =
    rw (in_xs, in_ys, zipped_get (zipped f) xs ys p.var r s in_xs in_ys)
    (zipped_set (zipped f) xs ys p.var (row_with p.index x r) (row_with p.index y s) ∙ ap (set (zipped (zipped f) xs ys) p.var) (zipped_row f r s p.index x y))

with_slot : (marks : List (List Mark)) (values : List (List Value)) (p : Place) (x y : Slot) → AreMarked marks values → element_at (slots_of marks values) p ≡ Some y
    → slots_of (with_element marks p (mark_in x)) (with_element values p (value_read x)) ≡ with_element (slots_of marks values) p x
with_slot marks values p x y h there =
    let first = row_there marks p (mark_in y) (mark_at marks values p h ∙ ap (option_map mark_in) there) in
    let second = row_there values p (value_read y) (read_at marks values p h ∙ ap (option_map value_read) there) in
    with_zipped slot_of marks values p (mark_in x) (value_read x) first.0 second.0 first.1 second.1 ∙ ap (with_element (slots_of marks values) p) (slot_back x)

-- what stands at a place then
pub record IsPut (before : List (List Slot)) (marks : List (List Mark)) (values : List (List Value)) (p : Place) (x : Slot) : Type 0 where
  pub marked : AreMarked marks values
  pub new : slots_of marks values ≡ with_element before p x

pub put_in : (marks marks' : List (List Mark)) (values values' : List (List Value)) (before : List (List Slot)) (p : Place) (x : Slot) (mark : Mark) (value : Value) → AreMarked marks values → slots_of marks values ≡ before
    → mark ≡ mark_in x → value ≡ value_read x → values' ≡ with_element values p value → marks' ≡ with_element marks p mark → IsPut before marks' values' p x
put_in marks marks' values values' before p x mark value h view mark_is value_is put_value put_mark =
    let slots : List (List Slot) = slots_of marks values in
    elim (row_tells (element_at slots p)) [
      | inl lost ↦
          let same_marks : marks' ≡ marks = put_mark ∙ with_missing marks p mark (mark_at marks values p h ∙ ap (option_map mark_in) lost) in
          let same_values : values' ≡ values = put_value ∙ with_missing values p value (read_at marks values p h ∙ ap (option_map value_read) lost) in
          record {
            marked = subst (λ ms. AreMarked ms values') (sym same_marks) (subst (AreMarked marks) (sym same_values) h);
            new = ap (λ ms. slots_of ms values') same_marks ∙ ap (slots_of marks) same_values ∙ view ∙ sym (with_missing before p x (ap (λ rows. element_at rows p) (sym view) ∙ lost));
          }
      | inr there ↦
          let first : marks' ≡ with_element marks p (mark_in x) = put_mark ∙ ap (with_element marks p) mark_is in
          let second : values' ≡ with_element values p (value_read x) = put_value ∙ ap (with_element values p) value_is in
          let is : slots_of marks' values' ≡ with_element slots p x =
          ap (λ ms. slots_of ms values') first ∙ ap (slots_of (with_element marks p (mark_in x))) second ∙ with_slot marks values p x there.0 h there.1 in
          record {
            marked = record {
              marked = ap (map (map mark_in)) is ∙ mapped_with mark_in slots p x ∙ ap (λ rows. with_element rows p (mark_in x)) h.marked ∙ sym first;
              read = ap all_read is ∙ mapped_with value_read slots p x ∙ ap (λ rows. with_element rows p (value_read x)) h.read ∙ sym second;
            };
            new = is ∙ ap (λ rows. with_element rows p x) view;
          }
    ]

there_is : (o : Option Slot) (m : Mark) (v : Value) → Some m ≡ option_map mark_in o → Some v ≡ option_map value_read o → o ≡ Some (slot_of m v)
there_is None m v e d = cc
there_is (Some y) m v e d =
    let mark : m ≡ mark_in y = ap (λ o. unwrap_or o m) e in
    let value : v ≡ value_read y = ap (λ o. unwrap_or o v) d in
    ap (λ z. Some z) (sym (ap (λ k. slot_of k v) mark ∙ ap (slot_of (mark_in y)) value ∙ slot_back y))

-- what stood there before
pub stood : (marks : List (List Mark)) (values : List (List Value)) (before : List (List Slot)) (p : Place) (m : Mark) (v : Value) → AreMarked marks values → slots_of marks values ≡ before
    → Some v ≡ element_at values p → Some m ≡ element_at marks p → Some (slot_of m v) ≡ element_at before p
stood marks values before p m v h view in_values in_marks =
    sym (there_is (element_at (slots_of marks values) p) m v (in_marks ∙ mark_at marks values p h) (in_values ∙ read_at marks values p h)) ∙ ap (λ rows. element_at rows p) view

-- its value
pub value_stood : (marks : List (List Mark)) (values : List (List Value)) (before : List (List Slot)) (p : Place) (v : Value) → AreMarked marks values → slots_of marks values ≡ before
    → Some v ≡ element_at values p → v ≡ option_map_or value_read (element_at before p) Undefined
value_stood marks values before p v h view in_values =
    let go : (o : Option Slot) → Some v ≡ option_map value_read o → v ≡ option_map_or value_read o Undefined =
    λ o. elim o as (λ z. Some v ≡ option_map value_read z → v ≡ option_map_or value_read z Undefined) [ None ↦ λ e. cc | Some y ↦ λ e. cc ] in
    go (element_at before p) (in_values ∙ read_at marks values p h ∙ ap (λ rows. option_map value_read (element_at rows p)) view)

-- ---- a place that there is not

pub lost_at : (marks : List (List Mark)) (values : List (List Value)) (before : List (List Slot)) (p : Place) → AreMarked marks values → slots_of marks values ≡ before → None ≡ element_at values p → element_at before p ≡ None
lost_at marks values before p h view none =
    let go : (o : Option Slot) → None ≡ option_map value_read o → o ≡ None = λ o. elim o as (λ z. None ≡ option_map value_read z → z ≡ None) [ None ↦ λ e. refl | Some y ↦ λ e. cc ] in
    ap (λ rows. element_at rows p) (sym view) ∙ go (element_at (slots_of marks values) p) (none ∙ read_at marks values p h)

pub none_put : (marks : List (List Mark)) (values values' : List (List Value)) (before : List (List Slot)) (p : Place) (x : Slot) (value : Value) → AreMarked marks values → slots_of marks values ≡ before
    → None ≡ element_at values p → values' ≡ with_element values p value → IsPut before marks values' p x
none_put marks values values' before p x value h view none put =
    let same : values' ≡ values = put ∙ with_missing values p value (sym none) in
    record {
      marked = subst (AreMarked marks) (sym same) h;
      new = ap (slots_of marks) same ∙ view ∙ sym (with_missing before p x (lost_at marks values before p h view none));
    }

pub never_none : (marks : List (List Mark)) (values : List (List Value)) (p : Place) (v : Value) → AreMarked marks values → Some v ≡ element_at values p → None ≡ element_at marks p → ⊥
never_none marks values p v h some none = by (element_at (slots_of marks values) p) (some ∙ read_at marks values p h) (none ∙ mark_at marks values p h)
  where
    by : (o : Option Slot) → Some v ≡ option_map value_read o → None ≡ option_map mark_in o → ⊥
    by None e d = cc
    by (Some y) e d = cc

-- ---- new places

pub fresh : (variables : List (Kind × ℕ)) → slots_of (map (λ v. replicate v.1 (marked.Home 0)) variables) (map (λ v. replicate v.1 Undefined) variables) ≡ map (λ v. replicate v.1 (Home 0 Undefined)) variables
fresh [] = refl
fresh (v ∷ variables) =
    let marks : List (List Mark) = map (λ (w : Kind × ℕ). replicate w.1 (marked.Home 0)) variables in
    let values : List (List Value) = map (λ (w : Kind × ℕ). replicate w.1 Undefined) variables in
    ap (λ row. row ∷ slots_of marks values) (zipped_replicate slot_of v.1 (marked.Home 0) Undefined) ∙ ap (λ rows. replicate v.1 (Home 0 Undefined) ∷ rows) (fresh variables)

pub fresh_marked : (variables : List (Kind × ℕ)) → AreMarked (map (λ v. replicate v.1 (marked.Home 0)) variables) (map (λ v. replicate v.1 Undefined) variables)
fresh_marked variables = record {
  marked = ap (map (map mark_in)) (fresh variables) ∙ mapped_rows mark_in (Home 0 Undefined) variables;
  read = ap all_read (fresh variables) ∙ mapped_rows value_read (Home 0 Undefined) variables;
}
