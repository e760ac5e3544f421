-- The places of operands, of internal files and of the items of a transfer, as lists and in words.
use Rattle.std.proofs.Common.{◌≡◌, ℕ, zero, suc, ◌+◌, ◌<◌, ◌≤◌, max, Bool, true, false, List, [], ◌∷◌, ◌++◌, slice_get, Option, Some, None, refl, sym, ap, ◌∙◌, subst, ◌⊎◌, inl, inr, arith}
use Rattle.std.specs.Prelude.{◌==◌, if◌then◌else◌}
use Rattle.std.specs.Option.{option_map_or}
use Rattle.std.specs.List.{Contains, flat_map}
use Rattle.std.proofs.lemmas.Bool.{ne_eqb, cases_eq}
use Rattle.std.proofs.lemmas.List.Elements.{Contains-append_left, Contains-append_right, Contains-append_cases}
use Rattle.fj_value.specs.declared.place.Place.{Place}
use Rattle.fj_store.specs.Places.{counted_from}
use Rattle.fj_statement.specs.declared.deck.Variable.{Variable}
use Rattle.fj_statement.specs.declared.unit.InternalFile.{InternalFile}
use Rattle.fj_statement.specs.declared.unit.InternalFile.TheVariants as file
use Rattle.fj_statement.specs.declared.unit.UnitRef.{UnitRef}
use Rattle.fj_statement.specs.declared.unit.UnitRef.TheVariants as unit
use Rattle.fj_statement.specs.declared.statement.Operand.{Operand}
use Rattle.fj_statement.specs.declared.statement.Operand.TheVariants as operand
use Rattle.fj_statement.specs.declared.statement.Control.{Control}
use Rattle.fj_statement.specs.declared.statement.Control.TheVariants as control
use Rattle.fj_statement.specs.declared.statement.Transfer.{Transfer}
use Rattle.fj_statement.specs.Sound as sound
use Rattle.fj_meaning.specs.State.{elements}
use Rattle.fj_meaning.specs.Items.{places_of, operand_places, file_places}
use Rattle.fj_meaning.specs.Needs.{if_given, given_places, group_places, transfer_places, internal_places}
use Rattle.fj_meaning_laws.specs.Naming.{IsElement, IsOf, the_place, an_element, IsRecord, the_record, a_record, IsItem, of_item, of_member, IsInside, of_file}
use Rattle.fj_meaning_laws.proofs.Membership.{nowhere, some_is, heads, tails, at_cons, only, flat_to, flat_from}

pub given_to : {X : Type 0} (o : Option X) (x : X) → Contains (if_given o) x → o ≡ Some x
given_to None x at = nowhere x at
given_to (Some y) x at = ap (λ z. Some z) (only y x at)

pub given_from : {X : Type 0} (o : Option X) (x : X) → o ≡ Some x → Contains (if_given o) x
given_from o x e = subst (λ q. Contains (if_given q) x) (sym e) (heads x [] x refl)

-- ---- elements of a variable

place_is : (var first : ℕ) (p : Place) → p.var ≡ var → first ≡ p.index → record { var = var; index = first } ≡ p
place_is var first p e f = ap (λ v. record { var = v; index = first }) (sym e) ∙ ap (λ i. record { var = p.var; index = i }) f

counted_to : (var first n : ℕ) (p : Place) → Contains (counted_from var first n) p → (p.var ≡ var) × (first ≤ p.index) × (p.index < first + n)
counted_to var first zero p at = nowhere p at
counted_to var first (suc n) p at = by (at_cons (record { var = var; index = first }) (counted_from var (first + 1) n) p at) (counted_to var (first + 1) n p)
  where
    by : (record { var = var; index = first } ≡ p) ⊎ Contains (counted_from var (first + 1) n) p
        → (Contains (counted_from var (first + 1) n) p → (p.var ≡ var) × (first + 1 ≤ p.index) × (p.index < first + 1 + n))
        → (p.var ≡ var) × (first ≤ p.index) × (p.index < first + suc n)
    by (inl e) rest = let same : first ≡ p.index = ap (λ (q : Place). q.index) e in (sym (ap (λ (q : Place). q.var) e), omega arith, omega arith)
    by (inr h) rest = let found = rest h in let low = found.1 in let high = found.2 in (found.0, omega arith, omega arith)

counted_at : (var first n : ℕ) (p : Place) → p.var ≡ var → first ≤ p.index → p.index < first + n → Contains (counted_from var first n) p
counted_at var first zero p e low high = absurd (omega arith)
counted_at var first (suc n) p e low high = by (cases_eq first p.index) (counted_at var (first + 1) n p e)
  where
    by : (first ≡ p.index) ⊎ (first ≡ p.index → ⊥) → (first + 1 ≤ p.index → p.index < first + 1 + n → Contains (counted_from var (first + 1) n) p)
        → Contains (counted_from var first (suc n)) p
    by (inl same) rest = heads (record { var = var; index = first }) (counted_from var (first + 1) n) p (place_is var first p e same)
    by (inr other) rest = tails (record { var = var; index = first }) (counted_from var (first + 1) n) p (rest (omega arith) (omega arith))

count_is : (n : ℕ) → (if n == 0 then 1 else n) ≡ max 1 n
count_is zero = refl
count_is (suc n) = rw (ne_eqb (suc n) 0 (λ e. absurd (omega arith))) (omega arith)

module _ (variables : List Variable) where
  pub element_to : (var : ℕ) (p : Place) → Contains (places_of variables var) p → IsElement variables var p
  element_to var p at = by (slice_get variables var) refl at
    where
      by : (o : Option Variable) → slice_get variables var ≡ o → Contains (counted_from var 1 (option_map_or elements o 0)) p → IsElement variables var p
      by None e h = let found = counted_to var 1 0 p h in let low = found.1 in let high = found.2 in absurd (omega arith)
      by (Some v) e h =
          let found = counted_to var 1 (elements v) p h in
          let low = found.1 in
          let high = found.2 in
          let count = count_is v.count in
          (found.0, (v.kind, record { variable = v; is = ap (slice_get variables) found.0 ∙ e; kind_is = refl; from = low; to = omega arith }))

  pub element_from : (var : ℕ) (p : Place) → IsElement variables var p → Contains (places_of variables var) p
  element_from var p h =
      let there = h.1.1 in
      let v = there.variable in
      let e : slice_get variables var ≡ Some v = ap (slice_get variables) (sym h.0) ∙ there.is in
      let low = there.from in
      let high = there.to in
      let count = count_is v.count in
      subst (λ o. Contains (counted_from var 1 (option_map_or elements o 0)) p) (sym e) (counted_at var 1 (elements v) p h.0 low (omega arith))

  pub of_to : (o : Operand) (p : Place) → Contains (operand_places variables o) p → IsOf variables o p
  of_to (operand.Literal kind value) p at = nowhere p at
  of_to (operand.One place) p at = subst (λ q. IsOf variables (operand.One place) q) (only place p at) the_place
  of_to (operand.Whole var) p at = an_element (element_to var p at)

  pub of_from : (o : Operand) (p : Place) → IsOf variables o p → Contains (operand_places variables o) p
  of_from _ _ (the_place {p = p}) = heads p [] p refl
  of_from _ _ (an_element {var = var} {p = p} h) = element_from var p h

  pub file_to : (f : InternalFile) (p : Place) → Contains (file_places variables f) p → IsRecord variables f p
  file_to (file.One place) p at = subst (λ q. IsRecord variables (file.One place) q) (only place p at) the_record
  file_to (file.Whole var) p at = a_record (element_to var p at)

  pub file_from : (f : InternalFile) (p : Place) → IsRecord variables f p → Contains (file_places variables f) p
  file_from _ _ (the_record {p = p}) = heads p [] p refl
  file_from _ _ (a_record {var = var} {p = p} h) = element_from var p h

  -- of a specifier that has an operand
  pub operand_to : (o : Option Operand) (p : Place) → Contains (given_places variables o) p → (x : Operand) × (o ≡ Some x) × IsOf variables x p
  operand_to None p at = nowhere p at
  operand_to (Some x) p at = (x, refl, of_to x p at)

  pub operand_from : (o : Option Operand) (x : Operand) (p : Place) → o ≡ Some x → IsOf variables x p → Contains (given_places variables o) p
  operand_from o x p e h = subst (λ q. Contains (given_places variables q) p) (sym e) (of_from x p h)

  group_to : (c : Control) (p : Place) → Contains (group_places variables c) p → (name : List ℕ) × (vars : List ℕ) × (var : ℕ) × (c ≡ control.Group name vars) × Contains vars var × IsElement variables var p
  group_to control.Unformatted p at = nowhere p at
  group_to (control.Explicit f) p at = nowhere p at
  group_to control.Listed p at = nowhere p at
  group_to (control.Group name vars) p at = let found = flat_to (places_of variables) p vars at in (name, vars, found.0, refl, found.1, element_to found.0 p found.2)

  pub item_to : (t : Transfer) (p : Place) → Contains (transfer_places variables t) p → IsItem variables t p
  item_to t p at = by (Contains-append_cases (flat_map (operand_places variables) t.items) (group_places variables t.control) p at)
    where
      by : Contains (flat_map (operand_places variables) t.items) p ⊎ Contains (group_places variables t.control) p → IsItem variables t p
      by (inl h) = let found = flat_to (operand_places variables) p t.items h in of_item found.1 (of_to found.0 p found.2)
      by (inr h) = let found = group_to t.control p h in of_member found.3 found.4 found.5

  pub item_from : (t : Transfer) (p : Place) → IsItem variables t p → Contains (transfer_places variables t) p
  item_from t p (of_item {o = o} at h) =
      Contains-append_left (flat_map (operand_places variables) t.items) (group_places variables t.control) p (flat_from (operand_places variables) p t.items o at (of_from o p h))
  item_from t p (of_member {name = name} {vars = vars} {var = var} e at h) =
      Contains-append_right (flat_map (operand_places variables) t.items) (group_places variables t.control) p
      (subst (λ c. Contains (group_places variables c) p) (sym e) (flat_from (places_of variables) p vars var at (element_from var p h)))

  pub inside_to : (t : Transfer) (u : UnitRef) (p : Place) → t.unit ≡ u → Contains (internal_places variables u) p → IsInside variables t p
  inside_to t unit.Star p e at = nowhere p at
  inside_to t (unit.Number n) p e at = nowhere p at
  inside_to t (unit.Held q n) p e at = nowhere p at
  inside_to t (unit.New q n) p e at = nowhere p at
  inside_to t (unit.Internal f) p e at = of_file e (file_to f p at)

  pub inside_from : (t : Transfer) (p : Place) → IsInside variables t p → Contains (internal_places variables t.unit) p
  inside_from t p (of_file {f = f} e h) = subst (λ u. Contains (internal_places variables u) p) (sym e) (file_from f p h)
