-- The marks and the values of one variable, read and written at a place, among those of all.
use Rattle.std.proofs.Common.{◌≡◌, ℕ, zero, suc, ◌+◌, ◌-◌, ◌<◌, ◌≤◌, ltb, true, false, List, [], ◌∷◌, ◌++◌, length, map, Option, Some, None, slice_get, set, unwrap_or, refl, sym, ap, subst, ◌∙◌, arith}
use Rattle.std.proofs.lemmas.Bool.Decides.{nat_tests}
use Rattle.std.proofs.lemmas.List.{length-map}
use Rattle.std.specs.List.{position_or_len}
use Rattle.std.specs.Prelude.{IfNone}
use Rattle.std.specs.Option.{option_map, option_map_or, option_and_then, option_to_list}
use Rattle.fj_value.specs.declared.kind.Kind.{Kind}
use Rattle.fj_value.specs.declared.place.Place.{Place}
use Rattle.fj_value.specs.declared.value.Cell.{Cell}
use Rattle.fj_value.specs.declared.value.Value.{Value}
use Rattle.fj_value.specs.declared.value.Value.TheVariants.{Undefined}
use Rattle.fj_moved.specs.Load.{row_cells}
use Rattle.fj_store.specs.declared.slot.Mark.{Mark}
use Rattle.fj_store.specs.declared.slot.Mark.TheVariants as marked
use Rattle.fj_store.specs.declared.slot.Slot.{Slot}
use Rattle.fj_store.specs.declared.slot.Slot.TheVariants.{Home, Out}
use Rattle.fj_store.specs.declared.taken.Taken.{Taken}
use Rattle.fj_store.specs.Kinds.{kind_at, of_kind}
use Rattle.fj_store.specs.Places.{counted_from}
use Rattle.fj_store.specs.Rows.{ArePut, AreTaken, Halves, Stand, number_of, slots_with}
use Rattle.fj_store.specs.Slots.{AreMarked, mark_in, slot_of, slots_of, zipped}
use Rattle.fj_store.specs.Tables.{element_in, element_at, row_with, with_element, with_cells}
use Rattle.fj_store.specs.Taking.{IsMarked, MarkTells, Taking, home, items_in, mark_of, take_all, taking, value_read}
use Rattle.fj_store.specs.Variables.{is_at, with_item}
use Rattle.fj_store.proofs.CopyLemmas.{row_put}
use Rattle.fj_store.proofs.ListLemmas.{set_itself, set_twice}
use Rattle.fj_store.proofs.SlotLemmas.{put_in, mark_at, read_at}
use Rattle.fj_store.proofs.TableLemmas.{with_found, with_lost}
use Rattle.fj_store.proofs.TakingLemmas.{marked_tells, one_taken, one_marked, run_step}

-- ---- a row that was put into a table

row_there : {T : Type 0} → (rows : List (List T)) (var : ℕ) (row : List T) → var < length rows → slice_get (set rows var row) var ≡ Some row
row_there [] var row low = absurd (let never : ⊥ = omega (arith, low) in never)
row_there (r ∷ rows) zero row low = refl
row_there (r ∷ rows) (suc var) row low = row_there rows var row (omega arith)

place_there : {T : Type 0} → (rows : List (List T)) (var : ℕ) (row : List T) (p : Place) → var < length rows → p.var ≡ var → slice_get (set rows var row) p.var ≡ Some row
place_there rows var row p low is = ap (slice_get (set rows var row)) is ∙ row_there rows var row low

read_row : {T : Type 0} → (rows : List (List T)) (var : ℕ) (row : List T) (p : Place) → var < length rows → p.var ≡ var → element_at (set rows var row) p ≡ element_in p.index row
read_row rows var row p low is = ap (option_and_then (element_in p.index)) (place_there rows var row p low is)

put_row : {T : Type 0} → (rows : List (List T)) (var : ℕ) (row : List T) (p : Place) (x : T) → var < length rows → p.var ≡ var → set rows var (row_with p.index x row) ≡ with_element (set rows var row) p x
put_row rows var row p x low is =
    sym (with_found (set rows var row) p x row (place_there rows var row p low is)
    ∙ ap (λ v. set (set rows var row) v (row_with p.index x row)) is
    ∙ set_twice rows var row (row_with p.index x row))

-- ---- one place of a variable

record IsPutWith (all : Halves) (var : ℕ) (marks : List Mark) (values : List Value) (marks' : List Mark) (values' : List Value) (p : Place) (x : Slot) : Type 0 where
  stand : Stand all var marks' values'
  new : slots_with all var marks' values' ≡ with_element (slots_with all var marks values) p x

put_with : (all : Halves) (var : ℕ) (marks marks' : List Mark) (values values' : List Value) (p : Place) (x : Slot) (mark : Mark) (value : Value) → Stand all var marks values → p.var ≡ var → mark ≡ mark_in x → value ≡ value_read x
    → marks' ≡ row_with p.index mark marks → values' ≡ row_with p.index value values → IsPutWith all var marks values marks' values' p x
put_with all var marks marks' values values' p x mark value s is mark_is value_is put_mark put_value =
    let first : set all.marks var marks' ≡ with_element (set all.marks var marks) p mark = ap (set all.marks var) put_mark ∙ put_row all.marks var marks p mark s.in_marks is in
    let second : set all.values var values' ≡ with_element (set all.values var values) p value = ap (set all.values var) put_value ∙ put_row all.values var values p value s.in_values is in
    let put = put_in (set all.marks var marks) (set all.marks var marks') (set all.values var values) (set all.values var values') (slots_with all var marks values) p x mark value s.marked refl mark_is value_is second first in
    record { stand = record { in_marks = s.in_marks; in_values = s.in_values; marked = put.marked }; new = put.new }

mark_tells : (all : Halves) (var : ℕ) (marks : List Mark) (values : List Value) (cells : List Cell) (p : Place) (mark : Option ℕ) → Stand all var marks values → p.var ≡ var → IsMarked (slots_with all var marks values) cells
    → mark ≡ option_map number_of (element_in p.index marks) → MarkTells mark cells p
mark_tells all var marks values cells p mark s is m made =
    let slots = slots_with all var marks values in
    let there : element_in p.index marks ≡ option_map mark_in (element_at slots p) = sym (read_row all.marks var marks p s.in_marks is) ∙ mark_at (set all.marks var marks) (set all.values var values) p s.marked in
    marked_tells slots cells p mark m (made ∙ ap (option_map number_of) there ∙ numbers (element_at slots p))
  where
    numbers : (o : Option Slot) → option_map number_of (option_map mark_in o) ≡ option_map mark_of o
    numbers None = refl
    numbers (Some (Home n v)) = refl
    numbers (Some (Out n)) = refl

value_there : (all : Halves) (var : ℕ) (marks : List Mark) (values : List Value) (p : Place) (v : Value) → Stand all var marks values → p.var ≡ var → v ≡ unwrap_or (element_in p.index values) Undefined
    → v ≡ option_map_or value_read (element_at (slots_with all var marks values) p) Undefined
value_there all var marks values p v s is made =
    let there : element_in p.index values ≡ option_map value_read (element_at (slots_with all var marks values) p) =
    sym (read_row all.values var values p s.in_values is) ∙ read_at (set all.marks var marks) (set all.values var values) p s.marked in
    made ∙ ap (λ o. unwrap_or o Undefined) there ∙ reads (element_at (slots_with all var marks values) p)
  where
    reads : (o : Option Slot) → unwrap_or (option_map value_read o) Undefined ≡ option_map_or value_read o Undefined
    reads None = refl
    reads (Some x) = refl

-- ---- places that are taken out

pub place_taken : (kind : Kind) (p : Place) (marks marks' : List Mark) (values values' : List Value) (before after : Taken) (mark : Option ℕ) (cells : List Cell) (at : ℕ) (v : Value)
    → mark ≡ option_map number_of (element_in p.index marks) → cells ≡ before.cells.items → (MarkTells mark cells p → at ≡ position_or_len (is_at p) cells)
    → v ≡ unwrap_or (element_in p.index values) Undefined → values' ≡ row_with p.index Undefined values → marks' ≡ row_with p.index (marked.Out at) marks
    → (at ≡ position_or_len (is_at p) before.cells.items → items_in after ≡ with_item (items_in before) (record { place = p; kind = kind; value = v }))
    → AreTaken kind p.var (p ∷ []) marks values before [] marks' values' after
place_taken kind p marks marks' values values' before after mark cells at v mark_is same found made put_value put_mark item =
    let P : List Cell → Type 0 = λ cs. MarkTells mark cs p → at ≡ position_or_len (is_at p) cs in
    let cell : Cell = record { place = p; kind = kind; value = v } in
    let number : (all : Halves) → Stand all p.var marks values → IsMarked (slots_with all p.var marks values) before.cells.items → at ≡ position_or_len (is_at p) before.cells.items =
    λ all s m. subst P same found (mark_tells all p.var marks values before.cells.items p mark s refl m mark_is) in
    let put : (all : Halves) → Stand all p.var marks values → IsPutWith all p.var marks values marks' values' p (Out at) =
    λ all s. put_with all p.var marks marks' values values' p (Out at) (marked.Out at) Undefined s refl refl refl put_mark put_value in
    record {
      stand = λ all s. (put all s).stand;
      taken = λ all s m.
          one_taken (slots_with all p.var marks values) (slots_with all p.var marks' values') before after kind p v at (put all s).new (value_there all p.var marks values p v s refl made) (item (number all s m));
      marked = λ all s m. one_marked (slots_with all p.var marks values) (slots_with all p.var marks' values') before after cell at m (number all s m) (put all s).new (item (number all s m));
    }

pub run_taken : (kind : Kind) (var first count at : ℕ) (p : Place) (places : List Place) (marks marks' marks'' : List Mark) (values values' values'' : List Value) (before between after : Taken) → at < count → p.var ≡ var → p.index ≡ first + at
    → AreTaken kind p.var (p ∷ []) marks' values' between [] marks'' values'' after
    → AreTaken kind var places marks values before (counted_from var (first + at) (count - at)) marks' values' between
    → AreTaken kind var places marks values before (counted_from var (first + (at + 1)) (count - (at + 1))) marks'' values'' after
run_taken kind var first count at p places marks marks' marks'' values values' values'' before between after low var_is index_is step so_far =
    let P : ℕ → Type 0 = λ v. AreTaken kind v (p ∷ []) marks' values' between [] marks'' values'' after in
    let one : P var = subst P var_is step in
    record {
      stand = λ all s. one.stand all (so_far.stand all s);
      taken = λ all s m.
          run_step kind (taking (slots_with all var marks' values') between) (taking (slots_with all var marks'' values'') after) (take_all kind (taking (slots_with all var marks values) before) places)
          var first count at p low var_is index_is (one.taken all (so_far.stand all s) (so_far.marked all s m)) (so_far.taken all s m);
      marked = λ all s m. one.marked all (so_far.stand all s) (so_far.marked all s m);
    }

-- ---- values that are put back

pub cell_put : (kind : Kind) (var : ℕ) (cells : List Cell) (marks marks' marks'' : List Mark) (values values' values'' : List Value) (cell : Cell) (rest left : List Cell) (v' : Value) → cell.place.var ≡ var → v' ≡ of_kind kind cell.value
    → marks'' ≡ row_with cell.place.index (marked.Home 0) marks' → values'' ≡ row_with cell.place.index v' values'
    → rest ≡ left → ArePut kind var cells marks values (cell ∷ rest) marks' values' → ArePut kind var cells marks values left marks'' values''
cell_put kind var cells marks marks' marks'' values values' values'' cell rest left v' is made put_mark put_value same so_far =
    let put : (all : Halves) → Stand all var marks values → IsPutWith all var marks' values' marks'' values'' cell.place (Home 0 v') =
    λ all s. put_with all var marks' marks'' values' values'' cell.place (Home 0 v') (marked.Home 0) v' (so_far.stand all s) is refl refl put_mark put_value in
    record {
      stand = λ all s. (put all s).stand;
      put = λ all kinds k s.
          let slots = slots_with all var marks' values' in
          let kind_is : kind ≡ kind_at kinds cell.place.var = k ∙ ap (kind_at kinds) (sym is) in
          ap (λ cs. with_cells (home kinds) cs (slots_with all var marks'' values'')) (sym same)
          ∙ ap (with_cells (home kinds) rest) ((put all s).new ∙ ap (λ v. with_element slots cell.place (Home 0 v)) (made ∙ ap (λ x. of_kind x cell.value) kind_is))
          ∙ so_far.put all kinds k s;
    }

pub value_put : (kind of : Kind) (first : Place) (index : ℕ) (row : List Value) (marks marks' marks'' : List Mark) (values values' values'' : List Value) (v v' : Value) → index ≡ first.index + length row → v' ≡ of_kind kind v
    → marks'' ≡ row_with index (marked.Home 0) marks' → values'' ≡ row_with index v' values'
    → ArePut kind first.var (row_cells first of row) marks values [] marks' values' → ArePut kind first.var (row_cells first of (row ++ v ∷ [])) marks values [] marks'' values''
value_put kind of first index row marks marks' marks'' values values' values'' v v' index_is made put_mark put_value so_far =
    let var = first.var in
    let p : Place = record { var = var; index = index } in
    let put : (all : Halves) → Stand all var marks values → IsPutWith all var marks' values' marks'' values'' p (Home 0 v') =
    λ all s. put_with all var marks' marks'' values' values'' p (Home 0 v') (marked.Home 0) v' (so_far.stand all s) refl refl refl put_mark put_value in
    record {
      stand = λ all s. (put all s).stand;
      put = λ all kinds k s.
          row_put kinds (slots_with all var marks values) (slots_with all var marks' values') (slots_with all var marks'' values'') first p of row v v' kind (so_far.put all kinds k s) refl index_is k made (put all s).new;
    }

pub none_left : (next : Option Cell) (rest : List Cell) → next ≡ None → IfNone next (rest ≡ []) → option_to_list next ++ rest ≡ []
none_left None rest e last = last
none_left (Some cell) rest e last = cc

-- ---- a variable that there is not

zipped_past : {A B C : Type 0} → (f : A → B → C) (xs : List A) (ys : List B) (n : ℕ) → length xs ≤ n → slice_get (zipped f xs ys) n ≡ None
zipped_past f [] ys zero past = refl
zipped_past f [] ys (suc n) past = refl
zipped_past f (x ∷ xs) [] zero past = refl
zipped_past f (x ∷ xs) [] (suc n) past = refl
zipped_past f (x ∷ xs) (y ∷ ys) zero past = absurd (let never : ⊥ = omega (arith, past) in never)
zipped_past f (x ∷ xs) (y ∷ ys) (suc n) past = zipped_past f xs ys n (omega (arith, past))

pub no_row : (marks : List (List Mark)) (values : List (List Value)) (slots : List (List Slot)) (var : ℕ) → slots_of marks values ≡ slots → false ≡ ltb var (length marks) → slice_get slots var ≡ None
no_row marks values slots var view past = ap (λ rows. slice_get rows var) (sym view) ∙ zipped_past (zipped slot_of) marks values var (grind (arith, nat_tests))

pub missing_taken : (kind : Kind) (var first count at : ℕ) (p : Place) (slots : List (List Slot)) (want : Taking) (before after : Taken) (number : ℕ) → at < count → p.var ≡ var → p.index ≡ first + at → slice_get slots var ≡ None
    → number ≡ position_or_len (is_at p) before.cells.items → IsMarked slots before.cells.items
    → items_in after ≡ with_item (items_in before) (record { place = p; kind = kind; value = Undefined })
    → take_all kind (taking slots before) (counted_from var (first + at) (count - at)) ≡ want
    → (take_all kind (taking slots after) (counted_from var (first + (at + 1)) (count - (at + 1))) ≡ want) × IsMarked slots after.cells.items
missing_taken kind var first count at p slots want before after number low var_is index_is none found m item so_far =
    let lost : slice_get slots p.var ≡ None = ap (slice_get slots) var_is ∙ none in
    let same : slots ≡ with_element slots p (Out number) = sym (with_lost slots p (Out number) lost) in
    let there : element_at slots p ≡ None = ap (option_and_then (element_in p.index)) lost in
    let value : Undefined ≡ option_map_or value_read (element_at slots p) Undefined = ap (λ o. option_map_or value_read o Undefined) (sym there) in
    let cell : Cell = record { place = p; kind = kind; value = Undefined } in (
      run_step kind (taking slots before) (taking slots after) want var first count at p low var_is index_is (one_taken slots slots before after kind p Undefined number same value item) so_far,
      one_marked slots slots before after cell number m found same item,
    )

pub missing_put : (kinds : List Kind) (slots : List (List Slot)) (first : Place) (of : Kind) (row : List Value) → slice_get slots first.var ≡ None → slots ≡ with_cells (home kinds) (row_cells first of row) slots
missing_put kinds slots first of [] none = refl
missing_put kinds slots first of (v ∷ row) none =
    let next : Place = record { var = first.var; index = first.index + 1 } in
    let cell : Cell = record { place = first; kind = of; value = v } in
    missing_put kinds slots next of row none ∙ ap (with_cells (home kinds) (row_cells next of row)) (sym (with_lost slots first (home kinds cell) none))

-- ---- the rows of the variables, as they are

as_long : (marks : List (List Mark)) (values : List (List Value)) → AreMarked marks values → length marks ≡ length values
as_long marks values h =
    let slots : List (List Slot) = slots_of marks values in
    ap length (sym h.marked) ∙ length-map slots (map mark_in) ∙ sym (length-map slots (map value_read)) ∙ ap length h.read

pub in_values : (marks : List (List Mark)) (values : List (List Value)) (var : ℕ) → AreMarked marks values → true ≡ ltb var (length marks) → var < length values
in_values marks values var h low = let same : length marks ≡ length values = as_long marks values h in grind (arith, nat_tests)

-- the rows of a variable, and that with them all is as it is
pub record IsThere (all : Halves) (slots : List (List Slot)) (var : ℕ) (marks : List Mark) (values : List Value) : Type 0 where
  pub stand : Stand all var marks values
  pub same : slots_with all var marks values ≡ slots

pub is_there : (all : Halves) (slots : List (List Slot)) (var : ℕ) (marks : List Mark) (values : List Value) → AreMarked all.marks all.values → slots_of all.marks all.values ≡ slots → true ≡ ltb var (length all.marks)
    → slice_get all.marks var ≡ Some marks → slice_get all.values var ≡ Some values → IsThere all slots var marks values
is_there all slots var marks values h view low m v =
    let first : set all.marks var marks ≡ all.marks = set_itself all.marks var marks m in
    let second : set all.values var values ≡ all.values = set_itself all.values var values v in
    record {
      stand = record {
        in_marks = grind (arith, nat_tests);
        in_values = in_values all.marks all.values var h low;
        marked = subst (λ rows. AreMarked rows (set all.values var values)) (sym first) (subst (AreMarked all.marks) (sym second) h);
      };
      same = ap (λ rows. slots_of rows (set all.values var values)) first ∙ ap (slots_of all.marks) second ∙ view;
    }
