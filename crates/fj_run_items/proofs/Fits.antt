-- What is given fits.
use Rattle.std.proofs.Common.{◌≡◌, ℕ, ◌+◌, ◌<◌, ◌≤◌, ◌^◌, eqb, cond, false, List, [], ◌∷◌, length, Option, Some, None, slice_get, sum_by, refl, sym, ap, subst, ◌∙◌, inl, inr, arith, length-append}
use Rattle.std.specs.Option.{option_map_or}
use Rattle.std.specs.List.{flat_map}
use Rattle.std.proofs.lemmas.Bool.Decides.{eqb_tells, nat_tests}
use Rattle.std.proofs.lemmas.List.Sums.{sum_by-cons}
use Rattle.fj_value.specs.declared.kind.Kind.{Kind}
use Rattle.fj_statement.specs.Sound.{IsArray, IsOperand, AreItems, AreMembers, IsList, HasNoItems, IsTransfer, members_of, places_at, places_of as places_in}
use Rattle.fj_statement.specs.declared.deck.Variable.{Variable}
use Rattle.fj_statement.specs.declared.statement.Operand.{Operand}
use Rattle.fj_statement.specs.declared.statement.Operand.TheVariants as operand
use Rattle.fj_statement.specs.declared.statement.Control.{Control}
use Rattle.fj_statement.specs.declared.statement.Control.TheVariants as control
use Rattle.fj_statement.specs.declared.statement.Transfer.{Transfer}
use Rattle.fj_store.proofs.PlaceLemmas.{length-counted_from}
use Rattle.fj_meaning.specs.State.{elements}
use Rattle.fj_meaning.specs.Items.{places_of}
use Rattle.fj_meaning.specs.Needs.{group_places}
use Rattle.fj_run_items.specs.Gathering.{count_of}

-- ---- how many items there are

array_count : (vs : List Variable) (var : ℕ) (kind : Kind) (count : ℕ) → IsArray vs var kind count → length (places_of vs var) ≡ count
array_count vs var kind count h =
    let n : ℕ = h.variable.count in
    let some : 1 ≤ n = subst (λ k. 1 ≤ k) (sym h.count_is) h.some in
    let test : eqb n 0 ≡ false = grind (arith, nat_tests, some) in
    length-counted_from var 1 (option_map_or elements (slice_get vs var) 0)
    ∙ ap (λ o. option_map_or elements o 0) h.is
    ∙ ap (λ b. cond b 1 n) test
    ∙ h.count_is

operand_count : (vs : List Variable) (o : Operand) (kind : Kind) (count : ℕ) → IsOperand vs o kind count → count_of vs o ≡ count
operand_count vs (operand.Literal k v) kind count h = sym h.2
operand_count vs (operand.One p) kind count h = sym h.1
operand_count vs (operand.Whole var) kind count h = array_count vs var kind count h

items_count : (vs : List Variable) (items : List Operand) (shapes : List (Kind × ℕ)) → AreItems vs items shapes → sum_by (count_of vs) items ≡ sum_by (λ s. s.1) shapes
items_count vs [] [] h = refl
items_count vs [] (s ∷ shapes) h = absurd h
items_count vs (o ∷ items) [] h = absurd h
items_count vs (o ∷ items) (s ∷ shapes) h =
    sum_by-cons (count_of vs) o items
    ∙ ap (λ n. n + sum_by (count_of vs) items) (operand_count vs o s.0 s.1 h.0)
    ∙ ap (λ n. s.1 + n) (items_count vs items shapes h.1)
    ∙ sym (sum_by-cons (λ (x : Kind × ℕ). x.1) s shapes)

few_items : (vs : List Variable) (items : List Operand) → IsList vs items → sum_by (count_of vs) items ≤ 1000000
few_items vs items h = subst (λ n. n ≤ 1000000) (sym (items_count vs items h.shapes h.are)) h.elements

-- a variable has no more places than are declared
places_low : (vs : List Variable) (var : ℕ) → length (places_of vs var) ≤ places_at vs var
places_low vs var =
    let same : length (places_of vs var) ≡ option_map_or elements (slice_get vs var) 0 = length-counted_from var 1 (option_map_or elements (slice_get vs var) 0) in
    let low = by (slice_get vs var) in
    omega (arith, same, low)
  where
    by : (o : Option Variable) → option_map_or elements o 0 ≤ option_map_or places_in o 0
    by None = omega arith
    by (Some v) = elim (eqb_tells v.count 0) [ inl none ↦ rw none.0 (omega arith) | inr some ↦ rw some.0 (omega arith) ]

group_low : (vs : List Variable) (vars : List ℕ) → length (flat_map (places_of vs) vars) ≤ sum_by (places_at vs) vars
group_low vs [] = omega arith
group_low vs (var ∷ vars) = omega (arith, length-append (places_of vs var) (flat_map (places_of vs) vars), sum_by-cons (places_at vs) var vars, places_low vs var, group_low vs vars)

few_by : (vs : List Variable) (items : List Operand) (c : Control) → HasNoItems c items → IsList vs items → AreMembers vs (members_of c) → sum_by (count_of vs) items + length (group_places vs c) < 2 ^ 32
few_by vs items control.Unformatted none h are = let low = few_items vs items h in omega (arith, low)
few_by vs items (control.Explicit f) none h are = let low = few_items vs items h in omega (arith, low)
few_by vs items control.Listed none h are = let low = few_items vs items h in omega (arith, low)
few_by vs items (control.Group name vars) none h are =
    let zero : sum_by (count_of vs) items ≡ 0 = ap (sum_by (count_of vs)) none in omega (arith, zero, group_low vs vars, are.few)

pub items_few : (vs : List Variable) (t : Transfer) → IsTransfer vs t → sum_by (count_of vs) t.items + length (group_places vs t.control) < 2 ^ 32
items_few vs t h = few_by vs t.items t.control h.allowed.group_excludes_items h.items h.members
