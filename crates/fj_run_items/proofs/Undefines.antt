-- Places that become undefined one behind another.
use Rattle.std.proofs.Common.{◌≡◌, ℕ, zero, suc, ◌+◌, ◌-◌, ◌<◌, ◌≤◌, cond, true, List, [], ◌∷◌, ◌++◌, length, map, drop, get_or, drop-cons, Option, Some, None, refl, sym, ap, ◌∙◌, arith, append_assoc, append-nil}
use Rattle.std.specs.List.{flat_map}
use Rattle.fj_value.specs.declared.place.Place.{Place}
use Rattle.fj_value.specs.declared.value.Cell.{Cell}
use Rattle.fj_value.specs.declared.value.Value.TheVariants.{Undefined}
use Rattle.fj_statement.specs.declared.deck.Variable.{Variable}
use Rattle.fj_statement.specs.declared.statement.Operand.{Operand}
use Rattle.fj_statement.specs.declared.statement.Operand.TheVariants as operand
use Rattle.fj_statement.specs.declared.statement.Transfer.{Transfer}
use Rattle.fj_store.specs.Kinds.{kind_at}
use Rattle.fj_store.specs.Places.{counted_from}
use Rattle.fj_store.specs.Storage.{Storage, with_value, values_of}
use Rattle.fj_store.specs.Tables.{with_element}
use Rattle.fj_store.specs.Variables as plain
use Rattle.fj_store.specs.Variables.{Variables, undefined_at}
use Rattle.fj_store.proofs.TableLemmas.{mapped_with}
use Rattle.fj_meaning.specs.Items.{cell_at, cells_from, cells_of, places_of}
use Rattle.fj_meaning.specs.Needs.{group_places}
use Rattle.fj_meaning.specs.Telling.{with_size}
use Rattle.fj_meaning.specs.Transfers.{moved_in, without_values}
use Rattle.fj_run_items.proofs.Takes.{once_undefined}
use Rattle.fj_meaning.proofs.Stored.{shown}
use Rattle.fj_run_items.proofs.Values.{stays_undefined, places_left, no_places_left}

pub place_undefined : (s new : Storage) (p : Place) → new ≡ with_value s p Undefined → values_of new ≡ plain.with_value (values_of s) p Undefined
place_undefined s new p put =
    ap values_of put
    ∙ mapped_with shown s.values p _
    ∙ ap (λ x. with_element (values_of s) p x) (stays_undefined (kind_at s.kinds p.var))

-- of a variable, the places from one on
pub variable_step : (variables : List Variable) (values s next start : Variables) (more : List Cell) (var i n : ℕ) → i < n → next ≡ plain.with_value s (record { var = var; index = i + 1 }) Undefined
    → undefined_at (map (cell_at variables values) (counted_from var (i + 1) (n - i)) ++ more) s ≡ undefined_at (map (cell_at variables values) (places_of variables var) ++ more) start
    → undefined_at (map (cell_at variables values) (counted_from var ((i + 1) + 1) (n - (i + 1))) ++ more) next ≡ undefined_at (map (cell_at variables values) (places_of variables var) ++ more) start
variable_step variables values s next start more var i n low put so_far =
    ap (undefined_at (map (cell_at variables values) (counted_from var ((i + 1) + 1) (n - (i + 1))) ++ more)) put
    ∙ sym (ap (λ ps. undefined_at (map (cell_at variables values) ps ++ more) s) (places_left var i n low))
    ∙ so_far

pub variable_end : (variables : List Variable) (values s start : Variables) (more : List Cell) (var i n : ℕ) → n ≤ i
    → undefined_at (map (cell_at variables values) (counted_from var (i + 1) (n - i)) ++ more) s ≡ undefined_at (map (cell_at variables values) (places_of variables var) ++ more) start
    → undefined_at more s ≡ undefined_at (map (cell_at variables values) (places_of variables var) ++ more) start
variable_end variables values s start more var i n past so_far =
    sym (ap (λ ps. undefined_at (map (cell_at variables values) ps ++ more) s) (no_places_left var i n past)) ∙ so_far

-- one item
pub one_undefined : (variables : List Variable) (values s next : Variables) (n : ℕ) (rest : List Operand) (more : List Cell) (item : Operand) (p : Place) → item ≡ operand.One p → next ≡ plain.with_value s p Undefined
    → undefined_at (cells_from variables values n rest ++ more) next ≡ undefined_at (cells_from variables values n (item ∷ rest) ++ more) s
one_undefined variables values s next n rest more item p e put =
    ap (undefined_at (cells_from variables values n rest ++ more)) put ∙ sym (ap (λ x. undefined_at (cells_from variables values n (x ∷ rest) ++ more) s) e)

pub whole_undefined : (variables : List Variable) (values s next : Variables) (n : ℕ) (rest : List Operand) (more : List Cell) (item : Operand) (var : ℕ) → item ≡ operand.Whole var
    → ((more : List Cell) → undefined_at more next ≡ undefined_at (map (cell_at variables values) (places_of variables var) ++ more) s)
    → undefined_at (cells_from variables values n rest ++ more) next ≡ undefined_at (cells_from variables values n (item ∷ rest) ++ more) s
whole_undefined variables values s next n rest more item var e each =
    each (cells_from variables values n rest ++ more)
    ∙ ap (λ cs. undefined_at cs s) (sym (append_assoc (map (cell_at variables values) (places_of variables var)) (cells_from variables values n rest) more))
    ∙ sym (ap (λ x. undefined_at (cells_from variables values n (x ∷ rest) ++ more) s) e)

-- an item behind others
pub item_step : (variables : List Variable) (values s next : Variables) (more : List Cell) (items : List Operand) (i : ℕ) (item : Operand) (want : Variables) → i < length items → item ≡ get_or items i item
    → undefined_at (cells_from variables values 1 (drop (i + 1) items) ++ more) next ≡ undefined_at (cells_from variables values 1 (item ∷ drop (i + 1) items) ++ more) s
    → undefined_at (cells_from variables values 1 (drop i items) ++ more) s ≡ want → undefined_at (cells_from variables values 1 (drop (i + 1) items) ++ more) next ≡ want
item_step variables values s next more items i item want low is step so_far =
    let next_one : suc i ≡ i + 1 = omega arith in
    step
    ∙ sym (ap (λ xs. undefined_at (cells_from variables values 1 xs ++ more) s) (drop-cons items i item low ∙ ap (λ x. x ∷ drop (suc i) items) (sym is) ∙ ap (λ k. item ∷ drop k items) next_one))
    ∙ so_far

map-append : {A B : Type 0} → (f : A → B) (xs ys : List A) → map f (xs ++ ys) ≡ map f xs ++ map f ys
map-append f [] ys = refl
map-append f (x ∷ xs) ys = ap (λ zs. f x ∷ zs) (map-append f xs ys)

pub member_step : (variables : List Variable) (values s next : Variables) (more : List Cell) (vars : List ℕ) (i d : ℕ) (want : Variables) → i < length vars
    → ((more : List Cell) → undefined_at more next ≡ undefined_at (map (cell_at variables values) (places_of variables (get_or vars i d)) ++ more) s)
    → undefined_at (map (cell_at variables values) (flat_map (places_of variables) (drop i vars)) ++ more) s ≡ want
    → undefined_at (map (cell_at variables values) (flat_map (places_of variables) (drop (i + 1) vars)) ++ more) next ≡ want
member_step variables values s next more vars i d want low each so_far =
    let f : List Place → List Cell = map (cell_at variables values) in
    let next_one : suc i ≡ i + 1 = omega arith in
    let rest : List Place = flat_map (places_of variables) (drop (i + 1) vars) in
    let here : List Place = places_of variables (get_or vars i d) in
    each (f rest ++ more)
    ∙ ap (λ cs. undefined_at cs s) (sym (append_assoc (f here) (f rest) more) ∙ ap (λ cs. cs ++ more) (sym (map-append (cell_at variables values) here rest)))
    ∙ sym (ap (λ xs. undefined_at (f (flat_map (places_of variables) xs) ++ more) s) (drop-cons vars i d low ∙ ap (λ k. get_or vars i d ∷ drop k vars) next_one))
    ∙ so_far

-- ---- the statement

pub size_undefined : (variables : List Variable) (s new : Variables) (size : Option Place) (p : Place) → size ≡ Some p → new ≡ plain.with_value s p Undefined → new ≡ with_size variables size None s
size_undefined variables s new size p e put = put ∙ sym (ap (λ o. with_size variables o None s) e)

pub read_undefined : (variables : List Variable) (s0 s1 s2 s3 : Variables) (t : Transfer) (slice : List Operand) → t.input ≡ true → slice ≡ t.items
    → ((more : List Cell) → undefined_at more s1 ≡ undefined_at (cells_of variables s0 slice ++ more) s0)
    → ((more : List Cell) → undefined_at more s2 ≡ undefined_at (map (cell_at variables s0) (group_places variables t.control) ++ more) s1)
    → s3 ≡ with_size variables t.size None s2 → s3 ≡ without_values variables t (moved_in variables s0 t) s0
read_undefined variables s0 s1 s2 s3 t slice input same items group size =
    let all : List Cell = cells_of variables s0 t.items ++ map (cell_at variables s0) (group_places variables t.control) in
    let members : List Cell = map (cell_at variables s0) (group_places variables t.control) in
    size
    ∙ ap (with_size variables t.size None)
    (group [] ∙ ap (λ cs. undefined_at cs s1) (append-nil members) ∙ items members ∙ ap (λ xs. undefined_at (cells_of variables s0 xs ++ members) s0) same ∙ sym (once_undefined all s0))
    ∙ sym (ap (λ b. cond b (with_size variables t.size None (undefined_at (moved_in variables s0 t).cells s0)) s0) input)

pub past_end : {A : Type 0} → (xs : List A) (i : ℕ) → length xs ≤ i → drop i xs ≡ []
past_end [] zero low = refl
past_end [] (suc i) low = refl
past_end (x ∷ xs) zero low = absurd (omega arith)
past_end (x ∷ xs) (suc i) low = past_end xs i (omega arith)
