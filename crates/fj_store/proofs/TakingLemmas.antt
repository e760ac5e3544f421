-- Taking places out moves each of them once, in the order of the items.
use Rattle.std.proofs.Common.{◌≡◌, ◌⊎◌, ℕ, zero, suc, ◌+◌, ◌-◌, ◌<◌, ◌≤◌, eqb, cond, Bool, true, false, not, List, [], ◌∷◌, ◌++◌, length, map, drop, get_or, Option, Some, None, unwrap_or, refl, sym, ap, subst, ◌∙◌, inl, inr, arith}
use Rattle.std.proofs.lemmas.Bool.{cases_lt, false≢true}
use Rattle.std.proofs.lemmas.Bool.Decides.{eqb_tells, nat_tests}
use Rattle.std.proofs.lemmas.List.Folds.{position_or_len_push}
use Rattle.std.proofs.lemmas.List.Sums.{prefix_len-le-length, fails_before_first, passes_at_first}
use Rattle.std.proofs.Common.{length-append}
use Rattle.std.proofs.Math.Seq.{drop-cons}
use Rattle.fj_store.proofs.PlaceLemmas.{length-counted_from}
use Rattle.std.specs.List.{position_or_len}
use Rattle.std.specs.Option.{option_map, option_map_or, option_flatten}
use Rattle.fj_value.specs.declared.kind.Kind.{Kind}
use Rattle.fj_value.specs.declared.place.Place.{Place}
use Rattle.fj_value.specs.declared.value.Cell.{Cell}
use Rattle.fj_value.specs.declared.value.Value.{Value}
use Rattle.fj_value.specs.declared.value.Value.TheVariants.{Undefined}
use Rattle.fj_moved.specs.declared.moved.Moved.{Moved}
use Rattle.fj_store.specs.declared.run.Run.{Run}
use Rattle.fj_store.specs.declared.slot.Slot.{Slot}
use Rattle.fj_store.specs.declared.slot.Slot.TheVariants.{Out}
use Rattle.fj_store.specs.Kinds.{kind_at}
use Rattle.fj_store.specs.Pieces.{no_variable}
use Rattle.fj_store.specs.Places.{same_place, counted_from, places_of, places_in}
use Rattle.fj_store.specs.Tables.{element_at, with_element}
use Rattle.fj_store.specs.Variables.{is_at, with_item, moved_from, moved_of}
use Rattle.fj_store.specs.Storage.{Storage, storage, value_in, cell_at, emptied, without}
use Rattle.fj_store.specs.declared.taken.Taken.{Taken}
use Rattle.fj_store.specs.Taking.{Taking, HasRoom, IsMarked, IsMarkedAt, MarkTells, mark_of, cell_read, value_read, values_in, items_in, taking, take_one, take_all, take_runs}
use Rattle.fj_moved.proofs.MovedLemmas.{same_back}
use Rattle.fj_store.proofs.TableLemmas.{same_fields, at_same, at_other, places_tell, with_missing, mapped_at, mapped_with}

-- ---- one list of places in place of runs

-- taking places out, each with the kind of its variable
abbrev pub take_each : List Kind → Taking → List Place → Taking
take_each kinds t [] = t
take_each kinds t (place ∷ places) = take_each kinds (take_one (kind_at kinds place.var) t place) places

each_in_run : (kinds : List Kind) (t : Taking) (var first n : ℕ) → take_all (kind_at kinds var) t (counted_from var first n) ≡ take_each kinds t (counted_from var first n)
each_in_run kinds t var first zero = refl
each_in_run kinds t var first (suc n) = each_in_run kinds (take_one (kind_at kinds var) t (record { var = var; index = first })) var (first + 1) n

each_append : (kinds : List Kind) (t : Taking) (ps qs : List Place) → take_each kinds t (ps ++ qs) ≡ take_each kinds (take_each kinds t ps) qs
each_append kinds t [] qs = refl
each_append kinds t (p ∷ ps) qs = each_append kinds (take_one (kind_at kinds p.var) t p) ps qs

pub each_in_runs : (kinds : List Kind) (t : Taking) (runs : List Run) → take_runs kinds t runs ≡ take_each kinds t (places_in runs)
each_in_runs kinds t [] = refl
each_in_runs kinds t (run ∷ runs) =
    each_in_runs kinds (take_all (kind_at kinds run.var) t (places_of run)) runs
    ∙ ap (λ s. take_each kinds s (places_in runs)) (each_in_run kinds t run.var run.first run.count)
    ∙ sym (each_append kinds t (places_of run) (places_in runs))

-- ---- the cell of a place

pub position_low : {X : Type 0} → (f : X → Bool) (xs : List X) → position_or_len f xs ≤ length xs
position_low f xs = prefix_len-le-length (λ x. not (f x)) xs

position_before : {X : Type 0} → (f : X → Bool) (xs : List X) (k : ℕ) (d : X) → f (get_or xs k d) ≡ true → position_or_len f xs ≤ k
position_before f xs k d here = elim (cases_lt k (position_or_len f xs)) [
  | inl later ↦ absurd (false≢true (sym (fails_before_first f xs k d later) ∙ here))
  | inr low ↦ low
]

same_self : (p : Place) → same_place p p ≡ true
same_self p = grind (arith, nat_tests)

-- the mark of a place is right, or the place has no cell
marked_here : (slots : List (List Slot)) (cells : List Cell) (p : Place) (mark : ℕ) → IsMarked slots cells → (p.var ≡ no_variable → ⊥) → Some mark ≡ option_map mark_of (element_at slots p) → position_or_len (is_at p) cells < length cells
    → mark ≡ position_or_len (is_at p) cells
marked_here slots cells p mark m var is found =
    let go : (o : Option Slot) → element_at slots p ≡ o → Some mark ≡ option_map mark_of o → mark ≡ position_or_len (is_at p) cells =
    λ o. elim o as (λ z. element_at slots p ≡ z → Some mark ≡ option_map mark_of z → mark ≡ position_or_len (is_at p) cells) [
      | None ↦ λ there e. cc
      | Some x ↦ λ there e. let same : mark ≡ mark_of x = ap (λ o. unwrap_or o mark) e in same ∙ m.marked p x var there found
    ] in
    go (element_at slots p) refl is

pub marked_tells : (slots : List (List Slot)) (cells : List Cell) (p : Place) (mark : Option ℕ) → IsMarked slots cells → mark ≡ option_map mark_of (element_at slots p) → MarkTells mark cells p
marked_tells slots cells p mark m is = λ k some var found. marked_here slots cells p k m var (sym some ∙ is) found

pub marked_found : (cells : List Cell) (p : Place) (mark : Option ℕ) (k : ℕ) (cell : Cell) → MarkTells mark cells p → (p.var ≡ no_variable → ⊥) → mark ≡ Some k → k < length cells
    → same_place p (get_or cells k cell).place ≡ true → k ≡ position_or_len (is_at p) cells
marked_found cells p mark k cell tells var there low same =
    let first : position_or_len (is_at p) cells ≤ k = position_before (is_at p) cells k cell same in
    tells k there var (omega (arith, first, low))

pub marked_other : (cells : List Cell) (p : Place) (mark : Option ℕ) (k : ℕ) (cell : Cell) → MarkTells mark cells p → (p.var ≡ no_variable → ⊥) → mark ≡ Some k → k < length cells
    → same_place p (get_or cells k cell).place ≡ false → length cells ≡ position_or_len (is_at p) cells
marked_other cells p mark k cell tells var there low differ = elim (cases_lt (position_or_len (is_at p) cells) (length cells)) [
  | inl found ↦
      let is : k ≡ position_or_len (is_at p) cells = tells k there var found in
      let passes : is_at p (get_or cells k cell) ≡ true = ap (λ i. is_at p (get_or cells i cell)) is ∙ passes_at_first (is_at p) cells cell found in
      absurd (false≢true (sym differ ∙ passes))
  | inr past ↦ let low : position_or_len (is_at p) cells ≤ length cells = position_low (is_at p) cells in omega (arith, past, low)
]

pub marked_past : (cells : List Cell) (p : Place) (mark : Option ℕ) (k : ℕ) → MarkTells mark cells p → (p.var ≡ no_variable → ⊥) → mark ≡ Some k → length cells ≤ k
    → length cells ≡ position_or_len (is_at p) cells
marked_past cells p mark k tells var there past = elim (cases_lt (position_or_len (is_at p) cells) (length cells)) [
  | inl found ↦ let is : k ≡ position_or_len (is_at p) cells = tells k there var found in absurd (omega (arith, is, found, past))
  | inr high ↦ let low : position_or_len (is_at p) cells ≤ length cells = position_low (is_at p) cells in omega (arith, high, low)
]

-- ---- one item more

-- its place has no cell yet, and gets one; or it has one
pub item_tells : (moved : Moved) (cell : Cell)
    → ((position_or_len (is_at cell.place) moved.cells ≡ length moved.cells) × (with_item moved cell ≡ record { cells = moved.cells ++ cell ∷ []; order = moved.order ++ length moved.cells ∷ [] }))
    ⊎ ((position_or_len (is_at cell.place) moved.cells < length moved.cells) × (with_item moved cell ≡ record { cells = moved.cells; order = moved.order ++ position_or_len (is_at cell.place) moved.cells ∷ [] }))
item_tells moved cell =
    let at : ℕ = position_or_len (is_at cell.place) moved.cells in
    let made : Bool → ℕ → Moved = λ b n. record { cells = cond b (moved.cells ++ cell ∷ []) moved.cells; order = moved.order ++ n ∷ [] } in
    elim (eqb_tells at (length moved.cells)) [
      | inl new ↦ inl (new.1, ap (λ b. made b at) new.0 ∙ ap (made true) new.1)
      | inr found ↦ let low : at ≤ length moved.cells = position_low (is_at cell.place) moved.cells in let ne : at ≡ length moved.cells → ⊥ = found.1 in inr (omega (arith, low, ne), ap (λ b. made b at) found.0)
    ]

-- the first cell of the place is that of the item
pub item_found : (moved : Moved) (cell : Cell) → (position_or_len (is_at cell.place) (with_item moved cell).cells ≡ position_or_len (is_at cell.place) moved.cells)
    × (position_or_len (is_at cell.place) moved.cells < length (with_item moved cell).cells)
item_found moved cell =
    let at : ℕ = position_or_len (is_at cell.place) moved.cells in
    let P : Moved → Type 0 = λ m. (position_or_len (is_at cell.place) m.cells ≡ at) × (at < length m.cells) in
    elim (item_tells moved cell) [
      | inl new ↦
          let pushed : position_or_len (is_at cell.place) (moved.cells ++ cell ∷ []) ≡ at =
          position_or_len_push (is_at cell.place) moved.cells cell
          ∙ ap (λ b. cond (eqb at (length moved.cells)) (length moved.cells + cond b 0 1) at) (same_self cell.place)
          ∙ (let is : at ≡ length moved.cells = new.0 in grind (arith, nat_tests, is)) in
          subst P (sym new.1) (pushed, (let is : at ≡ length moved.cells = new.0 in omega (arith, is, length-append moved.cells (cell ∷ []))))
      | inr found ↦ subst P (sym found.1) (refl, found.0)
    ]

-- the cells of other places stay as they are
pub item_other : (moved : Moved) (cell : Cell) (q : Place) → same_place q cell.place ≡ false
    → ((position_or_len (is_at q) moved.cells < length moved.cells) × (position_or_len (is_at q) (with_item moved cell).cells ≡ position_or_len (is_at q) moved.cells))
    ⊎ ((position_or_len (is_at q) moved.cells ≡ length moved.cells) × (position_or_len (is_at q) (with_item moved cell).cells ≡ length (with_item moved cell).cells))
item_other moved cell q differ =
    let at : ℕ = position_or_len (is_at q) moved.cells in
    let n : ℕ = length moved.cells in
    let P : Moved → Type 0 = λ m. ((at < n) × (position_or_len (is_at q) m.cells ≡ at)) ⊎ ((at ≡ n) × (position_or_len (is_at q) m.cells ≡ length m.cells)) in
    let low : at ≤ n = position_low (is_at q) moved.cells in
    elim (item_tells moved cell) [
      | inl new ↦
          let pushed : position_or_len (is_at q) (moved.cells ++ cell ∷ []) ≡ cond (eqb at n) (n + 1) at =
          position_or_len_push (is_at q) moved.cells cell ∙ ap (λ b. cond (eqb at n) (n + cond b 0 1) at) differ in
          let long : length (moved.cells ++ cell ∷ []) ≡ n + 1 = length-append moved.cells (cell ∷ []) in
          subst P (sym new.1) (elim (eqb_tells at n) [
            | inl past ↦ inr (past.1, pushed ∙ ap (λ b. cond b (n + 1) at) past.0 ∙ sym long)
            | inr found ↦ let ne : at ≡ n → ⊥ = found.1 in inl (omega (arith, low, ne), pushed ∙ ap (λ b. cond b (n + 1) at) found.0)
          ])
      | inr found ↦ subst P (sym found.1) (elim (cases_lt at n) [ inl here ↦ inl (here, refl) | inr past ↦ inr (omega (arith, low, past), omega (arith, low, past)) ])
    ]

-- ---- marks

marks_of_item : (old new : List (List Slot)) (moved : Moved) (cell : Cell) → IsMarked old moved.cells → IsMarkedAt old new cell.place (position_or_len (is_at cell.place) moved.cells) → IsMarked new (with_item moved cell).cells
marks_of_item old new moved cell m a = record {
  marked = λ p x var there low. elim (places_tell cell.place p) [
    | inl same ↦
        let P : Place → Type 0 = λ z. element_at new z ≡ Some x → mark_of x ≡ position_or_len (is_at z) (with_item moved cell).cells in
        subst P same.1 (λ e. a.here x e ∙ sym (item_found moved cell).0) there
    | inr other ↦ elim (item_other moved cell p (same_back p cell.place ∙ other.0)) [
      | inl found ↦ m.marked p x var (sym (a.others p other.0) ∙ there) found.0 ∙ sym found.1
      | inr lost ↦ absurd (let e = lost.1 in omega (arith, e, low))
    ]
  ];
}

pub marks_kept : (old new : List (List Slot)) (moved moved' : Moved) (cell : Cell) (at : ℕ) → IsMarked old moved.cells → at ≡ position_or_len (is_at cell.place) moved.cells → IsMarkedAt old new cell.place at → moved' ≡ with_item moved cell
    → IsMarked new moved'.cells
marks_kept old new moved moved' cell at m is a step =
    let P : ℕ → Type 0 = λ n. IsMarkedAt old new cell.place n in
    subst (λ (z : Moved). IsMarked new z.cells) (sym step) (marks_of_item old new moved cell m (subst P is a))

-- an item that has no place of a variable
pub marks_of_own : (slots : List (List Slot)) (moved moved' : Moved) (cell : Cell) → IsMarked slots moved.cells → cell.place.var ≡ no_variable → moved' ≡ with_item moved cell → IsMarked slots moved'.cells
marks_of_own slots moved moved' cell m none step =
    let go : IsMarked slots (with_item moved cell).cells = record {
      marked = λ p x var there low. elim (places_tell cell.place p) [
        | inl same ↦ absurd (var (ap (λ (z : Place). z.var) (sym same.1) ∙ none))
        | inr other ↦ elim (item_other moved cell p (same_back p cell.place ∙ other.0)) [
          | inl found ↦ m.marked p x var there found.0 ∙ sym found.1
          | inr lost ↦ absurd (let e = lost.1 in omega (arith, e, low))
        ]
      ];
    } in
    subst (λ (z : Moved). IsMarked slots z.cells) (sym step) go

pub marked_by : (slots : List (List Slot)) (place : Place) (x : Slot) (at : ℕ) → mark_of x ≡ at → IsMarkedAt slots (with_element slots place x) place at
marked_by slots place x at mark = record {
  here = λ y there.
      let go : (o : Option Slot) → element_at slots place ≡ o → mark_of y ≡ at =
      λ o. elim o as (λ z. element_at slots place ≡ z → mark_of y ≡ at) [
        | None ↦ λ none. let never : element_at slots place ≡ Some y = ap (λ rows. element_at rows place) (sym (with_missing slots place x none)) ∙ there in cc
        | Some z ↦ λ some. let is : Some x ≡ Some y = sym (at_same slots place x z some) ∙ there in ap (λ o. mark_of (unwrap_or o x)) (sym is) ∙ mark
      ] in
      go (element_at slots place) refl;
  others = λ q differ. at_other slots place q x differ;
}

pub none_marked : (slots : List (List Slot)) (cells : List Cell) → cells ≡ [] → IsMarked slots cells
none_marked slots cells none = record { marked = λ p x var there low. absurd (let long : length cells ≡ 0 = ap length none in omega (arith, long, low)) }

-- ---- one place

-- the value of what stood at a place
pub value_there : (slots : List (List Slot)) (p : Place) (v : Value) → v ≡ option_map_or value_read (element_at slots p) Undefined
    → v ≡ unwrap_or (option_flatten (element_at (values_in slots) p)) Undefined
value_there slots p v made =
    let go : (x : Option Slot) → option_map_or value_read x Undefined ≡ unwrap_or (option_flatten (option_map value_in x)) Undefined =
    λ x. elim x as (λ z. option_map_or value_read z Undefined ≡ unwrap_or (option_flatten (option_map value_in z)) Undefined) [ None ↦ refl | Some s ↦ refl ] in
    made ∙ go (element_at slots p) ∙ ap (λ x. unwrap_or (option_flatten x) Undefined) (sym (mapped_at value_in slots p))

pub one_taken : (slots new : List (List Slot)) (taken taken' : Taken) (kind : Kind) (place : Place) (v : Value) (at : ℕ) → new ≡ with_element slots place (Out at) → v ≡ option_map_or value_read (element_at slots place) Undefined
    → items_in taken' ≡ with_item (items_in taken) (record { place = place; kind = kind; value = v }) → taking new taken' ≡ take_one kind (taking slots taken) place
one_taken slots new taken taken' kind place v at put made item =
    let by : List (List (Option Value)) → Moved → Taking = λ values moved. record { values = values; moved = moved } in
    let cell : Value → Cell = λ x. record { place = place; kind = kind; value = x } in
    ap (λ values. by values (items_in taken')) (ap values_in put ∙ mapped_with value_in slots place (Out at))
    ∙ ap (by (with_element (values_in slots) place None)) (item ∙ ap (λ x. with_item (items_in taken) (cell x)) (value_there slots place v made))

pub one_marked : (slots new : List (List Slot)) (taken taken' : Taken) (cell : Cell) (at : ℕ) → IsMarked slots taken.cells.items → at ≡ position_or_len (is_at cell.place) taken.cells.items → new ≡ with_element slots cell.place (Out at)
    → items_in taken' ≡ with_item (items_in taken) cell → IsMarked new taken'.cells.items
one_marked slots new taken taken' cell at m is put item =
    marks_kept slots new (items_in taken) (items_in taken') cell at m is (subst (λ rows. IsMarkedAt slots rows cell.place at) (sym put) (marked_by slots cell.place (Out at) at refl)) item

-- ---- what taking places out comes to

abbrev read : List (List (Option Value)) → Place → Value
read values p = unwrap_or (option_flatten (element_at values p)) Undefined

-- places that have no cell yet have the values that they began with
record Stand (start : List (List (Option Value))) (t : Taking) : Type 0 where
  stands : (p : Place) → position_or_len (is_at p) t.moved.cells ≡ length t.moved.cells → read t.values p ≡ read start p

stand_on : (start : List (List (Option Value))) (t : Taking) (kind : Kind) (p : Place) → Stand start t → Stand start (take_one kind t p)
stand_on start t kind p h =
    let cell : Cell = cell_read kind t.values p in
    record {
      stands = λ q past. elim (places_tell p q) [
        | inl same ↦
            let P : Place → Type 0 = λ z. position_or_len (is_at z) (with_item t.moved cell).cells ≡ length (with_item t.moved cell).cells → read (with_element t.values p None) z ≡ read start z in
            let found = item_found t.moved cell in
            let first : position_or_len (is_at p) (with_item t.moved cell).cells ≡ position_or_len (is_at p) t.moved.cells = found.0 in
            let low : position_or_len (is_at p) t.moved.cells < length (with_item t.moved cell).cells = found.1 in
            subst P same.1 (λ e. absurd (omega (arith, first, low, e))) past
        | inr other ↦
            ap (λ o. unwrap_or (option_flatten o) Undefined) (at_other t.values p q None other.0)
            ∙ h.stands q (elim (item_other t.moved cell q (same_back q p ∙ other.0)) [
              | inl found ↦ absurd (
                  let low : position_or_len (is_at q) t.moved.cells < length t.moved.cells = found.0 in
                  let e : position_or_len (is_at q) (with_item t.moved cell).cells ≡ position_or_len (is_at q) t.moved.cells = found.1 in
                  let grows : length t.moved.cells ≤ length (with_item t.moved cell).cells = not_fewer t.moved cell in
                  omega (arith, low, e, grows, past))
              | inr lost ↦ lost.0
            ])
      ];
    }
  where
    not_fewer : (moved : Moved) (cell : Cell) → length moved.cells ≤ length (with_item moved cell).cells
    not_fewer moved cell =
        let P : Moved → Type 0 = λ m. length moved.cells ≤ length m.cells in
        elim (item_tells moved cell) [
          | inl new ↦ subst P (sym new.1) (omega (arith, length-append moved.cells (cell ∷ [])))
          | inr found ↦ subst P (sym found.1) (omega arith)
        ]

-- the item of a place does not depend on the value where the place has a cell
same_item : (moved : Moved) (p : Place) (kind : Kind) (v w : Value) → (position_or_len (is_at p) moved.cells ≡ length moved.cells → v ≡ w)
    → with_item moved (record { place = p; kind = kind; value = v }) ≡ with_item moved (record { place = p; kind = kind; value = w })
same_item moved p kind v w same =
    let at : ℕ = position_or_len (is_at p) moved.cells in
    let cell : Value → Cell = λ x. record { place = p; kind = kind; value = x } in
    let made : Bool → Value → Moved = λ b x. record { cells = cond b (moved.cells ++ cell x ∷ []) moved.cells; order = moved.order ++ at ∷ [] } in
    elim (eqb_tells at (length moved.cells)) [
      | inl new ↦ ap (made (eqb at (length moved.cells))) (same new.1)
      | inr found ↦ ap (λ b. made b v) found.0 ∙ sym (ap (λ b. made b w) found.0)
    ]

taken_items : (kinds : List Kind) (start : List (List (Option Value))) (ps : List Place) (t : Taking) → Stand start t
    → (take_each kinds t ps).moved ≡ moved_from t.moved (map (cell_at (record { kinds = kinds; values = start })) ps)
taken_items kinds start [] t h = refl
taken_items kinds start (p ∷ ps) t h =
    taken_items kinds start ps (take_one (kind_at kinds p.var) t p) (stand_on start t (kind_at kinds p.var) p h)
    ∙ ap (λ moved. moved_from moved (map (cell_at (record { kinds = kinds; values = start })) ps)) (same_item t.moved p (kind_at kinds p.var) (read t.values p) (read start p) (h.stands p))

taken_values : (kinds : List Kind) (ps : List Place) (t : Taking) → (take_each kinds t ps).values ≡ emptied ps t.values
taken_values kinds [] t = refl
taken_values kinds (p ∷ ps) t = taken_values kinds ps (take_one (kind_at kinds p.var) t p)

-- taking the places of runs out of a store
pub out_is : (kinds ks : List Kind) (start slots : List (List Slot)) (runs : List Run) (s : Storage) (cells cells' : List Cell) (order order' : List ℕ) → storage kinds start ≡ s → ks ≡ kinds → cells ≡ [] → order ≡ []
    → (let t : Taking = record { values = values_in slots; moved = record { cells = cells'; order = order' } } in t) ≡ take_runs ks (record { values = values_in start; moved = record { cells = cells; order = order } }) runs
    → (record { cells = cells'; order = order' } ≡ moved_of (map (cell_at s) (places_in runs))) × (storage kinds slots ≡ without (places_in runs) s)
out_is kinds ks start slots runs s cells cells' order order' view same none empty is =
    let t : Taking = record { values = values_in slots; moved = record { cells = cells'; order = order' } } in
    let at : List Cell → List ℕ → Taking = λ c o. record { values = values_in start; moved = record { cells = c; order = o } } in
    let places : List Place = places_in runs in
    let all : t ≡ take_each kinds (at [] []) places =
    is ∙ ap (λ k. take_runs k (at cells order) runs) same
    ∙ each_in_runs kinds (at cells order) runs
    ∙ ap (λ c. take_each kinds (at c order) places) none
    ∙ ap (λ o. take_each kinds (at [] o) places) empty in (
      ap (λ (x : Taking). x.moved) all ∙ taken_items kinds (values_in start) places (at [] []) (record { stands = λ p e. refl }) ∙ ap (λ z. moved_of (map (cell_at z) places)) view,
      ap (λ (x : Taking). let z : Storage = record { kinds = kinds; values = x.values } in z) all
          ∙ ap (λ values. let z : Storage = record { kinds = kinds; values = values } in z) (taken_values kinds places (at [] []))
          ∙ ap (without places) view,
    )

-- ---- the steps of the loops

pub room_less : (t : Taken) (n m : ℕ) → n ≤ m → HasRoom t m → HasRoom t n
room_less t n m low h = record {
  cells = omega (arith, h.cells);
  order = omega (arith, h.order);
  few = omega (arith, h.few);
}

pub run_step : (kind : Kind) (t t' want : Taking) (var first count at : ℕ) (p : Place) → at < count → p.var ≡ var → p.index ≡ first + at → t' ≡ take_one kind t p
    → take_all kind t (counted_from var (first + at) (count - at)) ≡ want → take_all kind t' (counted_from var (first + (at + 1)) (count - (at + 1))) ≡ want
run_step kind t t' want var first count at p low var_is index_is step so_far =
    let here : Place = record { var = var; index = first + at } in
    let left : count - at ≡ suc (count - (at + 1)) = omega arith in
    let next : first + (at + 1) ≡ (first + at) + 1 = omega arith in
    ap (λ n. take_all kind t' (counted_from var n (count - (at + 1)))) next
    ∙ ap (λ s. take_all kind s (counted_from var ((first + at) + 1) (count - (at + 1)))) (step ∙ ap (take_one kind t) (same_fields p here var_is index_is))
    ∙ sym (ap (λ n. take_all kind t (counted_from var (first + at) n)) left)
    ∙ so_far

pub run_at : (runs : List Run) (i : ℕ) (run : Run) → i < length runs → run ≡ get_or runs i run → drop i runs ≡ run ∷ drop (i + 1) runs
run_at runs i run low is = drop-cons runs i run low ∙ ap (λ r. r ∷ drop (suc i) runs) (sym is) ∙ ap (λ n. run ∷ drop n runs) (let e : suc i ≡ i + 1 = omega arith in e)

pub places_left : (runs : List Run) (i : ℕ) (run : Run) → i < length runs → run ≡ get_or runs i run → length (places_in (drop i runs)) ≡ run.count + length (places_in (drop (i + 1) runs))
places_left runs i run low is =
    ap (λ rs. length (places_in rs)) (run_at runs i run low is)
    ∙ length-append (places_of run) (places_in (drop (i + 1) runs))
    ∙ ap (λ n. n + length (places_in (drop (i + 1) runs))) (length-counted_from run.var run.first run.count)

pub runs_step : (kinds : List Kind) (t t' want : Taking) (runs : List Run) (i : ℕ) (run : Run) (kind : Kind) → i < length runs → run ≡ get_or runs i run → kind ≡ kind_at kinds run.var → t' ≡ take_all kind t (places_of run)
    → take_runs kinds t (drop i runs) ≡ want → take_runs kinds t' (drop (i + 1) runs) ≡ want
runs_step kinds t t' want runs i run kind low is kind_is step so_far =
    ap (λ s. take_runs kinds s (drop (i + 1) runs)) (step ∙ ap (λ k. take_all k t (places_of run)) kind_is)
    ∙ sym (ap (take_runs kinds t) (run_at runs i run low is))
    ∙ so_far
