-- What a transfer finds is enough for it.
use Rattle.std.proofs.Common.{◌≡◌, ℕ, ◌+◌, ◌<◌, ◌≤◌, ◌^◌, Bool, true, List, [], ◌∷◌, ◌++◌, length, map, take, get_or, Option, Some, None, Result, Ok, Err, IfOk, OnOk, All, slice_get, sum_by, refl, sym, ap, subst, ◌∙◌, arith, append_assoc, length-append}
use Rattle.std.specs.Option.{option_map, option_map_or}
use Rattle.std.specs.List.{flat_map}
use Rattle.std.proofs.lemmas.List.{length-map, map-append, take_more}
use Rattle.std.proofs.lemmas.List.Elements.{All-nil, All-cons, All-head, All-tail, All-append}
use Rattle.std.proofs.lemmas.List.Sums.{sum_by_push, sum_by-take-le}
use Rattle.fj_value.specs.declared.condition.Condition.{Condition}
use Rattle.fj_value.specs.declared.value.Cell.{Cell}
use Rattle.fj_line.specs.Actions.{Action}
use Rattle.fj_moved.specs.declared.moved.Moved.{Moved}
use Rattle.fj_namelist.specs.GroupText.{IsWithin}
use Rattle.fj_transfer.specs.Moving as moving
use Rattle.fj_transfer.specs.Printing.{Printed, printed_by, open_count, IsOfItems as IsLayoutOfItems}
use Rattle.fj_transfer.specs.declared.transfer.Layout.{Layout}
use Rattle.fj_statement.specs.Sound.{IsVariable, IsTransfer, HasNoItems}
use Rattle.fj_statement.specs.declared.deck.Variable.{Variable}
use Rattle.fj_statement.specs.declared.statement.Operand.{Operand}
use Rattle.fj_statement.specs.declared.statement.Operand.TheVariants as operand
use Rattle.fj_statement.specs.declared.statement.Control.{Control}
use Rattle.fj_statement.specs.declared.statement.Control.TheVariants as control
use Rattle.fj_statement.specs.declared.statement.Transfer.{Transfer}
use Rattle.fj_store.specs.declared.piece.Piece.{Piece}
use Rattle.fj_store.specs.declared.piece.Piece.TheVariants.{Places, Own}
use Rattle.fj_store.specs.declared.run.Run.{Run}
use Rattle.fj_store.specs.Pieces.{cells_from, sizes}
use Rattle.fj_store.specs.Places.{places_of as run_places_of}
use Rattle.fj_store.specs.Storage.{Storage, cell_at}
use Rattle.fj_store.specs.Variables.{Variables, moved_of}
use Rattle.fj_store.proofs.LawLemmas.{all_distinct}
use Rattle.fj_store.proofs.PlaceLemmas.{length-counted_from}
use Rattle.fj_store.proofs.StoreLemmas.{whole}
use Rattle.fj_meaning.specs.Items as plain
use Rattle.fj_meaning.specs.Items.{places_of}
use Rattle.fj_meaning.specs.Needs.{group_places, if_given}
use Rattle.fj_meaning.specs.State.{Output, elements}
use Rattle.fj_meaning.specs.Transfers.{member_of, members_of, layout_of, moved_in, printed_to}
use Rattle.fj_run_items.specs.Gathering.{IsGathered, IsNumbered, all_items, members_in, count_of}
use Rattle.fj_run_items.specs.Shown.{IsOfItems}
use Rattle.fj_run_items.specs.declared.collection.Gathered.{Gathered}
use Rattle.fj_run_items.specs.declared.lost.Lost.{Lost}
use Rattle.fj_run_items.proofs.Cells.{IsCounted, items_counted, HasRun, runs_of}
use Rattle.fj_run_items.proofs.Fits.{items_few}
use Rattle.fj_run_items.proofs.Limits.{open_low}
use Rattle.fj_run_items.proofs.Parts.{runs_are}

-- ---- an error that is handed on

abbrev lost_in : {T : Type 0} → Lost → Result T Lost → Lost
lost_in other (Ok x) = other
lost_in other (Err lost) = lost

pub not_passed : {S T : Type 0} → (r : Result T Lost) (given passed lost : Lost) → r ≡ Err passed → passed ≡ given → ((let x : Result S Lost = Err given in x) ≡ Err lost → ⊥) → r ≡ Err lost → ⊥
not_passed {S} {T} r given passed lost is same never e =
    let y : Result T Lost = Err passed in
    let z : Result T Lost = Err lost in
    let both : y ≡ z = sym is ∙ e in
    never (ap (λ (l : Lost). let x : Result S Lost = Err l in x) (sym same ∙ ap (lost_in lost) both))

-- ---- items one after another

pub sum_step : {A : Type 0} → (f : A → ℕ) (xs : List A) (i : ℕ) (x d : A) → i < length xs → x ≡ get_or xs i d → sum_by f (take (i + 1) xs) ≡ sum_by f (take i xs) + f x
sum_step {A} f xs i x d low is = ap (sum_by f) (take_more xs i d low) ∙ sum_by_push f (take i xs) (get_or xs i d) ∙ ap (λ z. sum_by f (take i xs) + f z) (sym is)

pub sum_low : {A : Type 0} → (f : A → ℕ) (xs : List A) (i : ℕ) (x d : A) → i < length xs → x ≡ get_or xs i d → sum_by f (take i xs) + f x ≤ sum_by f xs
sum_low {A} f xs i x d low is =
    let step : sum_by f (take (i + 1) xs) ≡ sum_by f (take i xs) + f x = sum_step f xs i x d low is in
    let all : sum_by f (take (i + 1) xs) ≤ sum_by f xs = sum_by-take-le f xs (i + 1) in
    omega (arith, step, all)

pub sum_all : {A : Type 0} → (f : A → ℕ) (xs : List A) (i : ℕ) → length xs ≤ i → sum_by f (take i xs) ≡ sum_by f xs
sum_all {A} f xs i past = ap (sum_by f) (whole xs i past)

-- variables of a group one after another
pub members_step : (vs : List Variable) (before : List Operand) (vars : List ℕ) (i : ℕ) (g : Gathered) → i < length vars
    → IsGathered vs ((before ++ map operand.Whole (take i vars)) ++ operand.Whole (get_or vars i 0) ∷ []) g → IsGathered vs (before ++ map operand.Whole (take (i + 1) vars)) g
members_step vs before vars i g low h =
    let P : List Operand → Type 0 = λ xs. IsGathered vs xs g in
    let v : ℕ = get_or vars i 0 in
    let more : map operand.Whole (take (i + 1) vars) ≡ map operand.Whole (take i vars) ++ operand.Whole v ∷ [] = ap (map operand.Whole) (take_more vars i 0 low) ∙ map-append operand.Whole (take i vars) (v ∷ []) in
    subst P (append_assoc before (map operand.Whole (take i vars)) (operand.Whole v ∷ []) ∙ ap (λ xs. before ++ xs) (sym more)) h

-- ---- the items and the group

pub items_found : (vs : List Variable) (t : Transfer) (slice : List Operand) (size : ℕ) → IsTransfer vs t → slice ≡ t.items → size ≡ 0 → size + sum_by (count_of vs) slice < 2 ^ 32
items_found vs t slice size is same none =
    let all = items_few vs t is in
    let items : sum_by (count_of vs) slice ≡ sum_by (count_of vs) t.items = ap (sum_by (count_of vs)) same in
    omega (arith, none, all, items)

pub group_found : (vs : List Variable) (t : Transfer) (slice : List Operand) (vars : List ℕ) (size : ℕ) → IsTransfer vs t → slice ≡ t.items → group_places vs t.control ≡ flat_map (places_of vs) vars
    → size ≡ 0 + sum_by (count_of vs) slice → size + length (flat_map (places_of vs) vars) < 2 ^ 32
group_found vs t slice vars size is same group sized =
    let both = items_few vs t is in
    let all : sum_by (count_of vs) slice ≡ sum_by (count_of vs) t.items = ap (sum_by (count_of vs)) same in
    let long : length (group_places vs t.control) ≡ length (flat_map (places_of vs) vars) = ap length group in
    omega (arith, both, all, long, sized)

-- ---- numbers of items

pub numbered : (cells : List Cell) (moved : Moved) → moved ≡ moved_of cells → length cells < 2 ^ 32 → IsNumbered moved
numbered cells moved made few =
    let c : IsCounted (moved_of cells) (length cells) = items_counted cells in
    let items : length (moved_of cells).order < 2 ^ 32 = let e = c.items in omega (arith, e, few) in
    let low : length (moved_of cells).cells < 2 ^ 32 = let e = c.cells in omega (arith, e, few) in
    subst IsNumbered (sym made) (record { distinct = all_distinct cells (record { cells = []; order = [] }) refl; ordered = c.ordered; few = items; cells = low })

-- those of one run
pub run_numbered : (s : Storage) (run : Run) (moved : Moved) → moved ≡ moved_of (map (cell_at s) (run_places_of run)) → run.count < 2 ^ 32 → IsNumbered moved
run_numbered s run moved made few =
    let mapped : length (map (cell_at s) (run_places_of run)) ≡ length (run_places_of run) = length-map (run_places_of run) (cell_at s) in
    let count : length (run_places_of run) ≡ run.count = length-counted_from run.var run.first run.count in
    numbered (map (cell_at s) (run_places_of run)) moved made (omega (arith, mapped, count, few))

pub length-cells : (s : Storage) (n : ℕ) (pieces : List Piece) → length (cells_from s n pieces) ≡ sizes pieces
length-cells s n [] = refl
length-cells s n (Own kind v ∷ pieces) = let rest = length-cells s (n + 1) pieces in omega (arith, rest)
length-cells s n (Places run ∷ pieces) =
    let rest = length-cells s n pieces in
    let both : length (map (cell_at s) (run_places_of run) ++ cells_from s n pieces) ≡ length (map (cell_at s) (run_places_of run)) + length (cells_from s n pieces) = length-append (map (cell_at s) (run_places_of run)) (cells_from s n pieces) in
    let mapped : length (map (cell_at s) (run_places_of run)) ≡ length (run_places_of run) = length-map (run_places_of run) (cell_at s) in
    let count : length (run_places_of run) ≡ run.count = length-counted_from run.var run.first run.count in
    omega (arith, rest, both, mapped, count)

-- ---- what is moved out

group_variables : (c : Control) → All IsVariable (members_in c)
group_variables control.Unformatted = All-nil IsVariable
group_variables (control.Explicit f) = All-nil IsVariable
group_variables control.Listed = All-nil IsVariable
group_variables (control.Group name vars) = wholes vars
  where
    wholes : (xs : List ℕ) → All IsVariable (map operand.Whole xs)
    wholes [] = All-nil IsVariable
    wholes (x ∷ xs) = All-cons IsVariable (operand.Whole x) (map operand.Whole xs) tt (wholes xs)

-- the pieces of an input are runs
pub input_runs : (vs : List Variable) (t : Transfer) (g : Gathered) → IsTransfer vs t → t.input ≡ true → IsGathered vs (all_items t) g → (runs : List Run) × (g.pieces.items ≡ map Places runs)
input_runs vs t g is reads h =
    runs_are vs (all_items t) g.pieces.items h.pieces (All-append IsVariable t.items (members_in t.control) (is.allowed.read_has_places reads) (group_variables t.control))

-- ---- the variables of a group

abbrev count_in : List Variable → ℕ → ℕ
count_in vs var = option_map_or elements (slice_get vs var) 0

member_within : (vs : List Variable) (cells : List Cell) (var : ℕ) (o : Option Variable) → HasRun cells var (option_map_or elements o 0) → All (IsWithin (length cells)) (if_given (option_map (member_of cells var) o))
member_within vs cells var None h = All-nil (IsWithin (length cells))
member_within vs cells var (Some v) h = All-cons (IsWithin (length cells)) (member_of cells var v) [] h (All-nil (IsWithin (length cells)))

members_within : (vs : List Variable) (cells : List Cell) (vars : List ℕ) → All (λ v. HasRun cells v (count_in vs v)) vars → All (IsWithin (length cells)) (members_of vs cells vars)
members_within vs cells [] h = All-nil (IsWithin (length cells))
members_within vs cells (v ∷ vars) h =
    let P : ℕ → Type 0 = λ x. HasRun cells x (count_in vs x) in
    All-append (IsWithin (length cells)) (if_given (option_map (member_of cells v) (slice_get vs v))) (members_of vs cells vars)
    (member_within vs cells v (slice_get vs v) (All-head P v vars h)) (members_within vs cells vars (All-tail P v vars h))

grouped_by : (vs : List Variable) (vars : Variables) (items : List Operand) (c : Control) → HasNoItems c items
    → (let m : Moved = moved_of (plain.cells_of vs vars items ++ map (plain.cell_at vs vars) (group_places vs c)) in All (IsWithin (length m.cells)) (moving.members_of (layout_of vs m.cells c)))
grouped_by vs vars items control.Unformatted none = All-nil (IsWithin _)
grouped_by vs vars items (control.Explicit f) none = All-nil (IsWithin _)
grouped_by vs vars items control.Listed none = All-nil (IsWithin _)
grouped_by vs vars items (control.Group name vars_in) none =
    let of : List Operand → Moved = λ xs. moved_of (plain.cells_of vs vars xs ++ map (plain.cell_at vs vars) (flat_map (places_of vs) vars_in)) in
    let P : List Operand → Type 0 = λ xs. All (IsWithin (length (of xs).cells)) (members_of vs (of xs).cells vars_in) in
    subst P (sym none) (members_within vs (of []).cells vars_in (runs_of (plain.cell_at vs vars) (λ p. refl) (count_in vs) vars_in))

pub grouped : (vs : List Variable) (vars : Variables) (t : Transfer) (moved : Moved) → IsTransfer vs t → moved ≡ moved_in vs vars t → All (IsWithin (length moved.cells)) (moving.members_of (layout_of vs moved.cells t.control))
grouped vs vars t moved is made =
    let P : Moved → Type 0 = λ (m : Moved). All (IsWithin (length m.cells)) (moving.members_of (layout_of vs m.cells t.control)) in
    subst P (sym made) (grouped_by vs vars t.items t.control is.allowed.group_excludes_items)

-- the same of the layout that was made, and of the number of cells
pub layout_grouped : (vs : List Variable) (c : Control) (cells : List Cell) (layout : Layout) (n : ℕ) → n ≡ length cells → layout ≡ layout_of vs cells c
    → All (IsWithin (length cells)) (moving.members_of (layout_of vs cells c)) → All (IsWithin n) (moving.members_of layout)
layout_grouped vs c cells layout n count made h =
    let P : ℕ → Layout → Type 0 = λ k l. All (IsWithin k) (moving.members_of l) in
    subst (λ k. P k layout) (sym count) (subst (P (length cells)) (sym made) h)

-- the layout of items alone is that of no group
pub of_items : (vs : List Variable) (c : Control) (cells : List Cell) (layout : Layout) → IsOfItems c → layout ≡ layout_of vs cells c → IsLayoutOfItems layout
of_items vs control.Unformatted cells layout h is = absurd h
of_items vs (control.Explicit f) cells layout h is = subst IsLayoutOfItems (sym is) tt
of_items vs control.Listed cells layout h is = subst IsLayoutOfItems (sym is) tt
of_items vs (control.Group name vars) cells layout h is = absurd h

-- ---- the record that stays open on `*`

low_by : (e : Bool) (o : Output) (r : Result Printed Condition) → o.begun ≤ 65536 → IfOk r (λ p. open_count o.begun p ≤ 65536) → (printed_to e o r).0.begun ≤ 65536
low_by e o (Err c) low h = low
low_by e o (Ok p) low h = h

pub print_low : (r : Result Condition Lost) (e : Bool) (old new : Output) (actions : List Action) → old.begun ≤ 65536
    → IfOk r (λ c. (let d : Output × Condition = (new, c) in d) ≡ printed_to e old (printed_by 65536 old.begun actions)) → OnOk r (new.begun ≤ 65536)
print_low (Err l) e old new actions low h = tt
print_low (Ok c) e old new actions low h =
    let P : Output × Condition → Type 0 = λ d. d.0.begun ≤ 65536 in
    subst P (sym h) (low_by e old (printed_by 65536 old.begun actions) low (open_low 65536 old.begun actions low))
