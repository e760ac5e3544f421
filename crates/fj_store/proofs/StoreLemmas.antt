-- The store's slots, seen as values.
use Rattle.std.proofs.Common.{◌≡◌, ℕ, zero, suc, ◌≤◌, Bool, true, List, [], ◌∷◌, ◌++◌, length, map, take, replicate, Option, Some, None, is_none, unwrap_or, refl, sym, ap, ◌∙◌, arith}
use Rattle.std.specs.List.{list_any}
use Rattle.std.specs.Option.{option_map, option_map_or, option_flatten}
use Rattle.fj_value.specs.declared.kind.Kind.{Kind}
use Rattle.fj_value.specs.declared.place.Place.{Place}
use Rattle.fj_value.specs.declared.value.Cell.{Cell}
use Rattle.fj_value.specs.declared.value.Value.{Value}
use Rattle.fj_value.specs.declared.value.Value.TheVariants.{Undefined}
use Rattle.fj_store.specs.declared.run.Run.{Run}
use Rattle.fj_store.specs.declared.slot.Slot.{Slot}
use Rattle.fj_store.specs.declared.slot.Slot.TheVariants.{Home}
use Rattle.fj_store.specs.Kinds.{kind_at, of_kind}
use Rattle.fj_store.specs.Places.{places_of}
use Rattle.fj_store.specs.Tables.{element_at, with_element, with_cells}
use Rattle.fj_store.specs.Slots.{all_read}
use Rattle.fj_store.specs.Storage.{Storage, storage, value_in, all_undefined, value_at, values_of, with_value, returned, given_back}
use Rattle.fj_store.specs.Taking.{home, value_read}
use Rattle.fj_store.specs.Variables.{is_undefined, value_at as plain_value}
use Rattle.fj_store.proofs.RunLemmas.{any_at_run, any_lost}
use Rattle.fj_store.proofs.TableLemmas.{mapped_at, mapped_with}

abbrev with_values : List Kind → List (List (Option Value)) → Storage
with_values kinds values = record { kinds = kinds; values = values }

-- a place gets a value
pub set_is : (kinds ks : List Kind) (slots new : List (List Slot)) (s : Storage) (p : Place) (v v' : Value) (k : Kind) → storage kinds slots ≡ s → ks ≡ kinds → k ≡ kind_at ks p.var → v' ≡ of_kind k v
    → new ≡ with_element slots p (Home 0 v') → storage kinds new ≡ with_value s p v
set_is kinds ks slots new s p v v' k view same kind made put =
    let value : v' ≡ of_kind (kind_at kinds p.var) v = made ∙ ap (λ x. of_kind x v) (kind ∙ ap (λ xs. kind_at xs p.var) same) in
    ap (storage kinds) (put ∙ ap (λ x. with_element slots p (Home 0 x)) value)
    ∙ ap (with_values kinds) (mapped_with value_in slots p (Home 0 (of_kind (kind_at kinds p.var) v)))
    ∙ ap (λ z. with_value z p v) view

-- ---- cells put back

pub cells_more : {T : Type 0} → (made : Cell → T) (cells : List Cell) (cell : Cell) (rows : List (List T)) → with_cells made (cells ++ cell ∷ []) rows ≡ with_element (with_cells made cells rows) cell.place (made cell)
cells_more made [] cell rows = refl
cells_more made (c ∷ cells) cell rows = cells_more made cells cell (with_element rows c.place (made c))

pub put_is : (kinds : List Kind) (start slots new : List (List Slot)) (cells : List Cell) (cell : Cell) (v' : Value) (k : Kind) → slots ≡ with_cells (home kinds) cells start → k ≡ kind_at kinds cell.place.var → v' ≡ of_kind k cell.value
    → new ≡ with_element slots cell.place (Home 0 v') → new ≡ with_cells (home kinds) (cells ++ cell ∷ []) start
put_is kinds start slots new cells cell v' k so_far kind made put =
    put ∙ ap (λ x. with_element slots cell.place (Home 0 x)) (made ∙ ap (λ x. of_kind x cell.value) kind)
    ∙ ap (λ rows. with_element rows cell.place (home kinds cell)) so_far
    ∙ sym (cells_more (home kinds) cells cell start)

mapped_cells : (kinds : List Kind) (cells : List Cell) (slots : List (List Slot)) → map (map value_in) (with_cells (home kinds) cells slots) ≡ with_cells (returned kinds) cells (map (map value_in) slots)
mapped_cells kinds [] slots = refl
mapped_cells kinds (cell ∷ cells) slots =
    mapped_cells kinds cells (with_element slots cell.place (home kinds cell))
    ∙ ap (with_cells (returned kinds) cells) (mapped_with value_in slots cell.place (home kinds cell))

pub back_is : (kinds ks : List Kind) (slots new : List (List Slot)) (s : Storage) (cells cs : List Cell) → storage kinds slots ≡ s → ks ≡ kinds → cs ≡ cells → new ≡ with_cells (home ks) cs slots
    → storage kinds new ≡ given_back cells s
back_is kinds ks slots new s cells cs view same same_cells put =
    ap (storage kinds) (put ∙ ap (λ x. with_cells (home x) cs slots) same ∙ ap (λ x. with_cells (home kinds) x slots) same_cells)
    ∙ ap (with_values kinds) (mapped_cells kinds cells slots)
    ∙ ap (given_back cells) view

-- ---- a new store

pub map_replicate : {A B : Type 0} → (f : A → B) (n : ℕ) (x : A) → map f (replicate n x) ≡ replicate n (f x)
map_replicate f zero x = refl
map_replicate f (suc n) x = ap (λ ys. f x ∷ ys) (map_replicate f n x)

-- so many of one thing for each variable, mapped
pub mapped_rows : {T U : Type 0} → (f : T → U) (x : T) (variables : List (Kind × ℕ)) → map (map f) (map (λ v. replicate v.1 x) variables) ≡ map (λ v. replicate v.1 (f x)) variables
mapped_rows f x [] = refl
mapped_rows f x (v ∷ variables) = ap (λ row. row ∷ map (map f) (map (λ (w : Kind × ℕ). replicate w.1 x) variables)) (map_replicate f v.1 x) ∙ ap (λ rows. replicate v.1 (f x) ∷ rows) (mapped_rows f x variables)

-- a list taken as far as it goes
pub whole : {A : Type 0} → (xs : List A) (n : ℕ) → length xs ≤ n → take n xs ≡ xs
whole [] zero h = refl
whole [] (suc n) h = refl
whole (x ∷ xs) zero h = absurd (omega arith)
whole (x ∷ xs) (suc n) h = ap (λ ys. x ∷ ys) (whole xs n (omega arith))

pub new_is : (variables : List (Kind × ℕ)) (kinds : List Kind) (slots : List (List Slot)) (i : ℕ) → length variables ≤ i → kinds ≡ map (λ v. v.0) (take i variables) → slots ≡ map (λ v. replicate v.1 (Home 0 Undefined)) variables
    → storage kinds slots ≡ all_undefined variables
new_is variables kinds slots i past kinds_are slots_are =
    ap (λ ks. storage ks slots) (kinds_are ∙ ap (map (λ v. v.0)) (whole variables i past))
    ∙ ap (storage (map (λ v. v.0) variables)) slots_are
    ∙ ap (with_values (map (λ v. v.0) variables)) (mapped_rows value_in (Home 0 Undefined) variables)

-- ---- tests of the places of a run

-- what is read of a slot, as a plain variable
abbrev read_by : Option Slot → Value
read_by o = option_map_or value_read o Undefined

plain_read : (kinds : List Kind) (slots : List (List Slot)) (s : Storage) (p : Place) → storage kinds slots ≡ s → plain_value (values_of s) p ≡ read_by (element_at slots p)
plain_read kinds slots s p view =
    let go : (o : Option Slot) → unwrap_or (option_map (λ v. unwrap_or v Undefined) (option_map value_in o)) Undefined ≡ read_by o =
    λ o. elim o as (λ z. unwrap_or (option_map (λ v. unwrap_or v Undefined) (option_map value_in z)) Undefined ≡ read_by z) [ None ↦ refl | Some x ↦ refl ] in
    ap (λ z. plain_value (values_of z) p) (sym view)
    ∙ ap (λ o. unwrap_or o Undefined) (mapped_at (λ v. unwrap_or v Undefined) (map (map value_in) slots) p ∙ ap (option_map (λ v. unwrap_or v Undefined)) (mapped_at value_in slots p))
    ∙ go (element_at slots p)

pub stored_read : (kinds : List Kind) (slots : List (List Slot)) (s : Storage) (p : Place) → storage kinds slots ≡ s → value_at s p ≡ option_flatten (option_map value_in (element_at slots p))
stored_read kinds slots s p view = ap (λ z. value_at z p) (sym view) ∙ ap option_flatten (mapped_at value_in slots p)

-- the same of the values by themselves
plain_at : (kinds : List Kind) (slots : List (List Slot)) (s : Storage) (p : Place) → storage kinds slots ≡ s → plain_value (values_of s) p ≡ unwrap_or (element_at (all_read slots) p) Undefined
plain_at kinds slots s p view =
    let go : (o : Option Slot) → read_by o ≡ unwrap_or (option_map value_read o) Undefined =
    λ o. elim o as (λ z. read_by z ≡ unwrap_or (option_map value_read z) Undefined) [ None ↦ refl | Some x ↦ refl ] in
    plain_read kinds slots s p view ∙ go (element_at slots p) ∙ ap (λ o. unwrap_or o Undefined) (sym (mapped_at value_read slots p))

pub undefined_at_run : (kinds : List Kind) (slots : List (List Slot)) (s : Storage) (row : List Value) (run : Run) (b : Bool) → storage kinds slots ≡ s → map Some row ≡ map (element_at (all_read slots)) (places_of run)
    → b ≡ list_any is_undefined row → b ≡ list_any (λ place. is_undefined (plain_value (values_of s) place)) (places_of run)
undefined_at_run kinds slots s row run b view read made =
    made ∙ any_at_run (all_read slots) row (places_of run) is_undefined (λ o. is_undefined (unwrap_or o Undefined)) (λ place. is_undefined (plain_value (values_of s) place)) read (λ x. refl)
    (λ p. ap is_undefined (plain_at kinds slots s p view))

pub undefined_lost : (kinds : List Kind) (slots : List (List Slot)) (s : Storage) (run : Run) → storage kinds slots ≡ s → list_any (λ place. is_none (element_at (all_read slots) place)) (places_of run) ≡ true
    → true ≡ list_any (λ place. is_undefined (plain_value (values_of s) place)) (places_of run)
undefined_lost kinds slots s run view lost =
    any_lost (all_read slots) (places_of run) (λ o. is_undefined (unwrap_or o Undefined)) (λ place. is_undefined (plain_value (values_of s) place)) lost refl (λ p. ap is_undefined (plain_at kinds slots s p view))

-- the values are as they were
pub same_is : (kinds : List Kind) (slots new : List (List Slot)) (s : Storage) → storage kinds slots ≡ s → map (map value_in) new ≡ map (map value_in) slots → storage kinds new ≡ s
same_is kinds slots new s view same = ap (with_values kinds) same ∙ view
