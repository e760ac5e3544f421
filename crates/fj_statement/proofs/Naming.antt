-- What a sound statement names is there, and no more than is allowed.
use Rattle.std.proofs.Common.{◌≡◌, ℕ, ◌*◌, ◌<◌, ◌≤◌, zero, suc, List, [], ◌∷◌, ◌++◌, length, map, max, Option, Some, None, refl, sym, ap, ◌∙◌, subst, arith}
use Rattle.std.specs.Prelude.{All, IfSome, slice_get}
use Rattle.std.specs.List.{flat_map, sum_by}
use Rattle.std.specs.Option.{option_map_or}
use Rattle.std.proofs.lemmas.List.Elements.{All-nil, All-cons, All-append, All-map, All-weaker}
use Rattle.std.proofs.lemmas.List.Sums.{sum_by-cons}
use Rattle.std.proofs.lemmas.Option.{slice_get_within}
use Rattle.fj_value.specs.declared.kind.Kind.{Kind}
use Rattle.fj_value.specs.declared.place.Place.{Place}
use Rattle.fj_modes.specs.declared.asked.Wanted.{Wanted}
use Rattle.fj_statement.specs.declared.deck.Variable.{Variable}
use Rattle.fj_statement.specs.declared.statement.Operand.{Operand}
use Rattle.fj_statement.specs.declared.statement.Operand.TheVariants as operand
use Rattle.fj_statement.specs.declared.statement.Statement.TheVariants as statement
use Rattle.fj_statement.specs.declared.unit.UnitRef.{UnitRef}
use Rattle.fj_statement.specs.declared.unit.Subject.{Subject}
use Rattle.fj_statement.specs.declared.unit.Subject.TheVariants as subject
use Rattle.fj_statement.specs.Units.{place_held, place_new}
use Rattle.fj_statement.specs.Sound.{Variables, AreItems, AreWithin, IsAsked, IsIntegerOperand, IsIntegerPlace, IsOperand, IsSubject, IsUnit, members_of, places_at, places_of}
use Rattle.fj_statement.specs.Naming.{ElementsAreFew, IsSomePlace, MembersAreFew, PlacesAreFew, PlacesAreThere, VariablesAreThere, array_of, elements_of, if_given, place_given, place_of, subject_places, unit_places}

-- ---- places

operand_place : (vs : Variables) (o : Operand) (kind : Kind) (count : ℕ) → IsOperand vs o kind count → All (IsSomePlace vs) (place_of o)
operand_place vs (operand.Literal k value) kind count is = All-nil (IsSomePlace vs)
operand_place vs (operand.One place) kind count is = All-cons (IsSomePlace vs) place [] (kind, is.0) (All-nil (IsSomePlace vs))
operand_place vs (operand.Whole var) kind count is = All-nil (IsSomePlace vs)

integer_operand_place : (vs : Variables) (o : Operand) → IsIntegerOperand vs o → All (IsSomePlace vs) (place_of o)
integer_operand_place vs (operand.Literal k value) is = All-nil (IsSomePlace vs)
integer_operand_place vs (operand.One place) is = All-cons (IsSomePlace vs) place [] (is.0, is.1) (All-nil (IsSomePlace vs))
integer_operand_place vs (operand.Whole var) is = absurd is

given_operand : (vs : Variables) (o : Option Operand) → IfSome o (IsIntegerOperand vs) → All (IsSomePlace vs) (place_given o)
given_operand vs None is = All-nil (IsSomePlace vs)
given_operand vs (Some o) is = integer_operand_place vs o is

given_place : (vs : Variables) (o : Option Place) → IfSome o (IsIntegerPlace vs) → All (IsSomePlace vs) (if_given o)
given_place vs None is = All-nil (IsSomePlace vs)
given_place vs (Some place) is = All-cons (IsSomePlace vs) place [] (is.0, is.1) (All-nil (IsSomePlace vs))

item_places : (vs : Variables) (items : List Operand) (shapes : List (Kind × ℕ)) → AreItems vs items shapes → All (IsSomePlace vs) (flat_map place_of items)
item_places vs [] shapes are = All-nil (IsSomePlace vs)
item_places vs (o ∷ os) [] are = absurd are
item_places vs (o ∷ os) (s ∷ shapes) are = All-append (IsSomePlace vs) (place_of o) (flat_map place_of os) (operand_place vs o s.0 s.1 are.0) (item_places vs os shapes are.1)

unit_there : (vs : Variables) (u : UnitRef) → IsUnit vs u → All (IsSomePlace vs) (unit_places u)
unit_there vs u is = All-append (IsSomePlace vs) (if_given (place_held u)) (if_given (place_new u)) (given_place vs (place_held u) is.0) (given_place vs (place_new u) is.1)

subject_there : (vs : Variables) (about : Subject) → IsSubject vs about → All (IsSomePlace vs) (subject_places about)
subject_there vs (subject.Unit u) is = unit_there vs u is
subject_there vs (subject.File name) is = All-nil (IsSomePlace vs)

pub places_there : PlacesAreThere
places_there vs (statement.Assign to from) is =
    All-append (IsSomePlace vs) (place_of to) (place_of from) (operand_place vs to is.to_kind is.to_count is.to_is) (operand_place vs from is.from_kind is.from_count is.from_is)
places_there vs (statement.OpenUnit u spec iostat) is = All-append (IsSomePlace vs) (unit_places u) (if_given iostat) (unit_there vs u is.0) (given_place vs iostat is.1)
places_there vs (statement.CloseUnit u keep iostat) is = All-append (IsSomePlace vs) (unit_places u) (if_given iostat) (unit_there vs u is.0) (given_place vs iostat is.1)
places_there vs (statement.WaitFor u id iostat) is = All-append (IsSomePlace vs) (unit_places u ++ place_given id) (if_given iostat) (All-append (IsSomePlace vs) (unit_places u) (place_given id) (unit_there vs u is.0) (given_operand vs id is.1)) (given_place vs iostat is.2)
places_there vs (statement.Move how u iostat) is = All-append (IsSomePlace vs) (unit_places u) (if_given iostat) (unit_there vs u is.0) (given_place vs iostat is.1)
places_there vs (statement.Inquire about asked id iostat _) is =
    let answers = map (λ (w : Wanted). w.place) asked in
    All-append (IsSomePlace vs) (subject_places about ++ answers ++ place_given id) (if_given iostat)
    (All-append (IsSomePlace vs) (subject_places about ++ answers) (place_given id)
    (All-append (IsSomePlace vs) (subject_places about) answers (subject_there vs about is.subject_is)
    (All-map (IsSomePlace vs) (λ (w : Wanted). w.place) asked (All-weaker (IsAsked vs) (λ w. IsSomePlace vs w.place) (λ w asks. (w.kind, asks.place)) asked is.questions)))
    (given_operand vs id is.id_is))
    (given_place vs iostat is.iostat_is)
places_there vs (statement.Transfer t) is =
    let items = flat_map place_of t.items in
    let record_place = items ++ place_given t.rec in
    let position = record_place ++ place_given t.pos in
    let identifier = position ++ if_given t.id in
    All-append (IsSomePlace vs) (unit_places t.unit) (identifier ++ if_given t.size ++ if_given t.iostat) (unit_there vs t.unit is.unit_is)
    (All-append (IsSomePlace vs) (identifier ++ if_given t.size) (if_given t.iostat)
    (All-append (IsSomePlace vs) identifier (if_given t.size)
    (All-append (IsSomePlace vs) position (if_given t.id)
    (All-append (IsSomePlace vs) record_place (place_given t.pos)
    (All-append (IsSomePlace vs) items (place_given t.rec) (item_places vs t.items is.items.shapes is.items.are) (given_operand vs t.rec is.rec))
    (given_operand vs t.pos is.pos))
    (given_place vs t.id is.id))
    (given_place vs t.size is.size))
    (given_place vs t.iostat is.iostat))
places_there vs statement.End is = All-nil (IsSomePlace vs)

-- ---- variables

module _ (vs : Variables) where
  abbrev IsThere : ℕ → Type 0
  IsThere var = var < length vs

  operand_array : (o : Operand) (kind : Kind) (count : ℕ) → IsOperand vs o kind count → All IsThere (array_of o)
  operand_array (operand.Literal k value) kind count is = All-nil IsThere
  operand_array (operand.One place) kind count is = All-nil IsThere
  operand_array (operand.Whole var) kind count is = All-cons IsThere var [] (slice_get_within vs var is.variable is.is) (All-nil IsThere)

  item_arrays : (items : List Operand) (shapes : List (Kind × ℕ)) → AreItems vs items shapes → All IsThere (flat_map array_of items)
  item_arrays [] shapes are = All-nil IsThere
  item_arrays (o ∷ os) [] are = absurd are
  item_arrays (o ∷ os) (s ∷ shapes) are = All-append IsThere (array_of o) (flat_map array_of os) (operand_array o s.0 s.1 are.0) (item_arrays os shapes are.1)

pub variables_there : VariablesAreThere
variables_there vs (statement.Assign to from) is =
    All-append (IsThere vs) (array_of to) (array_of from) (operand_array vs to is.to_kind is.to_count is.to_is) (operand_array vs from is.from_kind is.from_count is.from_is)
variables_there vs (statement.Transfer t) is =
    All-append (IsThere vs) (flat_map array_of t.items) (members_of t.control) (item_arrays vs t.items is.items.shapes is.items.are) is.members.there
variables_there vs s is = All-nil (IsThere vs)

-- ---- elements

one_more : (count : ℕ) → 1 ≤ count → max 1 count ≡ count
one_more count some = omega arith

elements_are : (vs : Variables) (o : Operand) (kind : Kind) (count : ℕ) → IsOperand vs o kind count → elements_of vs o ≡ count
elements_are vs (operand.Literal k value) kind count is = sym is.2
elements_are vs (operand.One place) kind count is = sym is.1
elements_are vs (operand.Whole var) kind count is = ap (λ v. option_map_or places_of v 0) is.is ∙ ap (λ n. max 1 n) is.count_is ∙ one_more count is.some

same_elements : (vs : Variables) (items : List Operand) (shapes : List (Kind × ℕ)) → AreItems vs items shapes → sum_by (elements_of vs) items ≡ sum_by (λ s. s.1) shapes
same_elements vs [] [] are = refl
same_elements vs [] (s ∷ shapes) are = absurd are
same_elements vs (o ∷ os) [] are = absurd are
same_elements vs (o ∷ os) (s ∷ shapes) are =
    let first = elements_are vs o s.0 s.1 are.0 in
    let more = same_elements vs os shapes are.1 in
    omega (arith, sum_by-cons (elements_of vs) o os, sum_by-cons (λ (s : Kind × ℕ). s.1) s shapes)

pub elements_few : ElementsAreFew
elements_few vs t is = subst (λ n. n ≤ 1000000) (sym (same_elements vs t.items is.items.shapes is.items.are)) is.items.elements

places_within : (vs : Variables) (var : ℕ) (v : Variable) → slice_get vs var ≡ Some v → places_of v ≤ sum_by places_of vs
places_within [] var v h = cc
places_within (x ∷ vs) zero v h =
    let same : x ≡ v = cc in
    let e = ap places_of same in
    omega (arith, sum_by-cons places_of x vs)
places_within (x ∷ vs) (suc var) v h = let more = places_within vs var v h in omega (arith, sum_by-cons places_of x vs)

pub places_few : PlacesAreFew
places_few vs var v within h = let most = within.places in omega (arith, places_within vs var v h)

-- ---- groups

count_few : (vs : Variables) (var : ℕ) → AreWithin vs → places_at vs var ≤ 1000000
count_few vs var within = by (slice_get vs var) refl where
  by : (o : Option Variable) → slice_get vs var ≡ o → option_map_or places_of o 0 ≤ 1000000
  by None e = omega arith
  by (Some v) e = places_few vs var v within e

counts_few : (vs : Variables) (vars : List ℕ) → AreWithin vs → sum_by (places_at vs) vars ≤ length vars * 1000000
counts_few vs [] within = omega arith
counts_few vs (var ∷ vars) within = omega (arith, sum_by-cons (places_at vs) var vars, count_few vs var within, counts_few vs vars within)

pub members_few : MembersAreFew
members_few vs vars within there few = record { there = there; few = omega (arith, counts_few vs vars within) }
