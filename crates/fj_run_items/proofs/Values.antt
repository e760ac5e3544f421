-- The variables of a store as plain ones.
use Rattle.std.proofs.Common.{◌≡◌, ℕ, zero, suc, ◌+◌, ◌-◌, ◌<◌, ◌≤◌, cond, Bool, true, false, List, [], ◌∷◌, ◌++◌, length, take, replicate, Option, Some, None, unwrap_or, refl, sym, ap, ◌∙◌, arith}
use Rattle.std.specs.Option.{option_map, option_map_or, option_flatten}
use Rattle.fj_value.specs.declared.kind.Kind.{Kind}
use Rattle.fj_value.specs.declared.place.Place.{Place}
use Rattle.fj_value.specs.declared.value.Cell.{Cell}
use Rattle.fj_value.specs.declared.value.Value.{Value}
use Rattle.fj_value.specs.declared.value.Value.TheVariants.{Undefined}
use Rattle.fj_value.specs.Reading.{assigned_text}
use Rattle.fj_moved.specs.declared.moved.Moved.{Moved}
use Rattle.fj_statement.specs.declared.deck.Variable.{Variable}
use Rattle.fj_store.specs.Kinds.{is_of_kind, of_kind}
use Rattle.fj_store.specs.Tables.{element_at}
use Rattle.fj_store.specs.Places.{counted_from}
use Rattle.fj_store.specs.Storage.{Storage, value_at, with_value, given_back, values_of}
use Rattle.fj_store.specs.Variables as plain
use Rattle.fj_store.proofs.TableLemmas.{mapped_at}
use Rattle.fj_meaning.specs.Items as items
use Rattle.fj_meaning.proofs.Stored.{shown, back_is}
use Rattle.fj_run_items.specs.Kinds.{kinds_of}

same_both : (b : Bool) (v : Value) → cond b v v ≡ v
same_both true v = refl
same_both false v = refl

-- every variable may be undefined
pub stays_undefined : (kind : Kind) → of_kind kind Undefined ≡ Undefined
stays_undefined kind = same_both (is_of_kind kind Undefined) Undefined

-- ---- a place gets a value

flat_shown : (o : Option (Option Value)) → unwrap_or (option_map shown o) Undefined ≡ shown (option_flatten o)
flat_shown None = refl
flat_shown (Some None) = refl
flat_shown (Some (Some v)) = refl

-- what is read at a place
pub read_is : (s : Storage) (p : Place) → plain.value_at (values_of s) p ≡ shown (value_at s p)
read_is s p = ap (λ o. unwrap_or o Undefined) (mapped_at shown s.values p) ∙ flat_shown (element_at s.values p)

pub kinds_stay : (s new : Storage) (p : Place) (v : Value) → new ≡ with_value s p v → new.kinds ≡ s.kinds
kinds_stay s new p v put = ap (λ z. z.kinds) put

-- ---- cells come back

-- what a transfer moved, where it came back
abbrev pub cells_in : Option Moved → List Cell
cells_in moved = option_map_or (λ (m : Moved). m.cells) moved []

pub load_back : (variables : List Variable) (s new : Storage) (o : Option Moved) (moved : Moved) → o ≡ Some moved → s.kinds ≡ kinds_of variables → new ≡ given_back moved.cells s
    → values_of new ≡ items.given_back variables (cells_in o) (values_of s)
load_back variables s new o moved e kinds back = back_is variables s new moved.cells kinds back ∙ sym (ap (λ x. items.given_back variables (cells_in x) (values_of s)) e)

pub back_kinds : (s new : Storage) (cells : List Cell) → new ≡ given_back cells s → new.kinds ≡ s.kinds
back_kinds s new cells back = ap (λ z. z.kinds) back

-- ---- places one behind another

-- of so many places from the first on, those from one on are this one and those behind it
pub places_left : (var i n : ℕ) → i < n → counted_from var (i + 1) (n - i) ≡ record { var = var; index = i + 1 } ∷ counted_from var ((i + 1) + 1) (n - (i + 1))
places_left var i n low =
    let left : n - i ≡ suc (n - (i + 1)) = omega arith in
    ap (counted_from var (i + 1)) left

pub no_places_left : (var i n : ℕ) → n ≤ i → counted_from var (i + 1) (n - i) ≡ []
no_places_left var i n past =
    let none : n - i ≡ 0 = omega arith in
    ap (counted_from var (i + 1)) none

-- ---- characters

none_taken : (n : ℕ) → take n (let none : List ℕ = [] in none) ≡ []
none_taken zero = refl
none_taken (suc n) = refl

cut_from : (n m : ℕ) (cs : List ℕ) → n ≤ m → take n (cs ++ replicate m 32) ≡ take n cs ++ replicate (n - length cs) 32
cut_from zero m cs low = let none : zero - length cs ≡ 0 = omega arith in sym (ap (λ k. replicate k 32) none)
cut_from (suc n) zero [] low = absurd (omega arith)
cut_from (suc n) (suc m) [] low =
    let less : suc n - 0 ≡ suc (n - 0) = omega arith in
    ap (λ xs. 32 ∷ xs) (cut_from n m [] (omega arith) ∙ ap (λ xs. xs ++ replicate (n - 0) 32) (none_taken n)) ∙ sym (ap (λ k. replicate k 32) less)
cut_from (suc n) m (c ∷ cs) low =
    let less : suc n - suc (length cs) ≡ n - length cs = omega arith in
    ap (λ xs. c ∷ xs) (cut_from n m cs (omega arith)) ∙ sym (ap (λ k. (c ∷ take n cs) ++ replicate k 32) less)

pub cut_is : (n : ℕ) (cs : List ℕ) → take n (cs ++ replicate n 32) ≡ assigned_text n cs
cut_is n cs = cut_from n n cs (omega arith)
