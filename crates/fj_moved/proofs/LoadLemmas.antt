-- What a statement transfers: undefined values, and the cells of a row.
use Rattle.std.proofs.Common.{◌≡◌, ◌↔◌, All, ℕ, zero, suc, ◌+◌, ◌<◌, List, [], ◌∷◌, ◌++◌, length, replicate, slice_get, slice_set, take, get_or, Option, Some, refl, sym, ap, ◌∙◌, arith, append_assoc, length-append}
use Rattle.std.specs.List.{flat_map, range_with_len}
use Rattle.std.proofs.lemmas.List.{take_more, length-take-le}
use Rattle.std.proofs.lemmas.List.Elements.{All-nil, All-cons, All-head, All-tail}
use Rattle.fj_value.specs.declared.kind.Kind.{Kind}
use Rattle.fj_value.specs.declared.place.Place.{Place}
use Rattle.fj_value.specs.declared.value.Cell.{Cell}
use Rattle.fj_value.specs.declared.value.Value.{Value}
use Rattle.fj_value.specs.declared.value.Value.TheVariants.{Undefined}
use Rattle.fj_moved.specs.Cells.{places_of, with_value}
use Rattle.fj_moved.specs.Load.{row_cells, with_undefined}

-- ---- undefined values

-- the first ones are undefined
abbrev pub undefined_up_to : ℕ → List Cell → List Cell
undefined_up_to zero cells = cells
undefined_up_to (suc n) [] = []
undefined_up_to (suc n) (cell ∷ cells) = record cell { value = Undefined } ∷ undefined_up_to n cells

pub one_more : (n : ℕ) (cells : List Cell) → n < length cells → with_value (undefined_up_to n cells) n Undefined ≡ undefined_up_to (suc n) cells
one_more zero [] h = refl
one_more zero (cell ∷ cells) h = refl
one_more (suc n) [] h = refl
one_more (suc n) (cell ∷ cells) h = ap (λ l. record cell { value = Undefined } ∷ l) (one_more n cells (omega arith))

pub all_undefined : (cells : List Cell) → undefined_up_to (length cells) cells ≡ with_undefined cells
all_undefined [] = refl
all_undefined (cell ∷ cells) = ap (λ l. record cell { value = Undefined } ∷ l) (all_undefined cells)

pub places_undefined : (cells : List Cell) → places_of (with_undefined cells) ≡ places_of cells
places_undefined [] = refl
places_undefined (cell ∷ cells) = ap (λ l. (cell.place, cell.kind) ∷ l) (places_undefined cells)

-- ---- the cells of a row

pub row_length : (place : Place) (kind : Kind) (values : List Value) → length (row_cells place kind values) ≡ length values
row_length place kind [] = refl
row_length place kind (v ∷ vs) = ap suc (row_length (record place { index = place.index + 1 }) kind vs)

pub row_undefined : (place : Place) (kind : Kind) (values : List Value) → row_cells place kind (replicate (length values) Undefined) ≡ with_undefined (row_cells place kind values)
row_undefined place kind [] = refl
row_undefined place kind (v ∷ vs) = let cell : Cell = record { place = place; kind = kind; value = Undefined } in ap (λ l. cell ∷ l) (row_undefined (record place { index = place.index + 1 }) kind vs)

-- one value more
pub row_more : (place : Place) (kind : Kind) (values : List Value) (v : Value) (n : ℕ) → n ≡ place.index + length values
    → row_cells place kind (values ++ v ∷ []) ≡ row_cells place kind values ++ record { place = record { var = place.var; index = n }; kind = kind; value = v } ∷ []
row_more place kind [] v n e = let at : n ≡ place.index = omega (arith, e) in ap (λ k. let cell : Cell = record { place = record { var = place.var; index = k }; kind = kind; value = v } in cell ∷ []) (sym at)
row_more place kind (w ∷ ws) v n e =
    let cell : Cell = record { place = place; kind = kind; value = w } in
    let at : n ≡ (place.index + 1) + length ws = omega (arith, e) in
    ap (λ l. cell ∷ l) (row_more (record place { index = place.index + 1 }) kind ws v n at)

pub range_more : (a n k : ℕ) → k ≡ a + n → range_with_len a (suc n) ≡ range_with_len a n ++ k ∷ []
range_more a zero k e = let at : k ≡ a = omega (arith, e) in ap (λ x. x ∷ []) (sym at)
range_more a (suc n) k e = let at : k ≡ (a + 1) + n = omega (arith, e) in ap (λ l. a ∷ l) (range_more (a + 1) n k at)

-- so many values as cells, with one more
pub row_taken : (place : Place) (kind : Kind) (values : List Value) (at n : ℕ) (v w : Value) → at < length values → n ≡ place.index + at → w ≡ get_or values at w → v ≡ w
    → row_cells place kind (take at values) ++ record { place = record { var = place.var; index = n }; kind = kind; value = v } ∷ [] ≡ row_cells place kind (take (at + 1) values)
row_taken place kind values at n v w low place_is there same =
    let long : n ≡ place.index + length (take at values) = omega (arith, place_is, length-take-le at values (omega (arith, low))) in
    let one : get_or values at w ≡ v = sym there ∙ sym same in
    sym (ap (row_cells place kind) (take_more values at w low ∙ ap (λ x. take at values ++ x ∷ []) one) ∙ row_more place kind (take at values) v n long)

-- what all cells of a row are, by their values
pub row_all : (P : Cell → Type 0) (Q : Value → Type 0) (var : ℕ) (kind : Kind) → ((k : ℕ) (v : Value) → Q v ↔ P (record { place = record { var = var; index = k }; kind = kind; value = v }))
    → (index : ℕ) (values : List Value) → All Q values ↔ All P (row_cells (record { var = var; index = index }) kind values)
row_all P Q var kind same index [] = (λ h. All-nil P, λ h. All-nil Q)
row_all P Q var kind same index (v ∷ vs) =
    let cell : Cell = record { place = record { var = var; index = index }; kind = kind; value = v } in
    let more = row_cells (record { var = var; index = index + 1 }) kind vs in
    let rest = row_all P Q var kind same (index + 1) vs in (
      λ h. All-cons P cell more ((same index v).0 (All-head Q v vs h)) (rest.0 (All-tail Q v vs h)),
      λ h. All-cons Q v vs ((same index v).1 (All-head P cell more h)) (rest.1 (All-tail P cell more h)),
    )

behind : (front : List Cell) (cell : Cell) (more : List Cell) → slice_get (front ++ cell ∷ more) (length front) ≡ Some cell
behind [] cell more = refl
behind (c ∷ front) cell more = behind front cell more

-- what is made of the cells of a row by their numbers, behind others
pub by_number : {B : Type 0} → (f : Option Cell → List B) (front : List Cell) (place : Place) (kind : Kind) (values : List Value)
    → flat_map (λ at. f (slice_get (front ++ row_cells place kind values) at)) (range_with_len (length front) (length values)) ≡ flat_map (λ cell. f (Some cell)) (row_cells place kind values)
by_number f front place kind [] = refl
by_number f front place kind (v ∷ vs) =
    let next : Place = record place { index = place.index + 1 } in
    let cell : Cell = record { place = place; kind = kind; value = v } in
    let more = row_cells next kind vs in
    let later : length front + 1 ≡ length (front ++ cell ∷ []) = omega (arith, length-append front (cell ∷ [])) in
    ap (λ o. f o ++ flat_map (λ at. f (slice_get (front ++ cell ∷ more) at)) (range_with_len (length front + 1) (length vs))) (behind front cell more)
    ∙ ap (λ l. f (Some cell) ++ l)
    (ap (λ cs. flat_map (λ at. f (slice_get cs at)) (range_with_len (length front + 1) (length vs))) (sym (append_assoc front (cell ∷ []) more))
    ∙ ap (λ n. flat_map (λ at. f (slice_get ((front ++ cell ∷ []) ++ more) at)) (range_with_len n (length vs))) later
    ∙ by_number f (front ++ cell ∷ []) next kind vs)

-- ---- undefined values of a row

-- the first ones are undefined
abbrev pub none_up_to : ℕ → List Value → List Value
none_up_to zero values = values
none_up_to (suc n) [] = []
none_up_to (suc n) (v ∷ vs) = Undefined ∷ none_up_to n vs

pub none_more : (n : ℕ) (values : List Value) → n < length values → slice_set (none_up_to n values) n Undefined ≡ none_up_to (suc n) values
none_more zero [] h = refl
none_more zero (v ∷ vs) h = refl
none_more (suc n) [] h = refl
none_more (suc n) (v ∷ vs) h = ap (λ l. Undefined ∷ l) (none_more n vs (omega arith))

pub none_count : (n : ℕ) (values : List Value) → length (none_up_to n values) ≡ length values
none_count zero values = refl
none_count (suc n) [] = refl
none_count (suc n) (v ∷ vs) = ap suc (none_count n vs)

pub none_all : (values : List Value) → none_up_to (length values) values ≡ replicate (length values) Undefined
none_all [] = refl
none_all (v ∷ vs) = ap (λ l. Undefined ∷ l) (none_all vs)
