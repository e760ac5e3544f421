-- What a statement means is sound, part by part.
use Rattle.std.proofs.Common.{◌≡◌, ℕ, ◌≤◌, Bool, true, false, not, ◌&&◌, cond, List, max, Option, Some, None, refl, sym, ap, subst, inl, inr, ◌⊎◌, arith, eqb, leb, is_some, ℤ}
use Rattle.std.proofs.lemmas.Bool.Decides.{nat_tests}
use Rattle.std.specs.Prelude.{IsSome, IfSome, slice_get}
use Rattle.std.proofs.lemmas.Bool.{and_parts, leb-true}
use Rattle.fj_value.proofs.DigitLaws.{fits_bits-fits}
use Rattle.fj_value.specs.declared.kind.Kind.{Kind}
use Rattle.fj_value.specs.declared.kind.Kind.TheVariants.{Int4, Int8, Logical, Chars}
use Rattle.fj_value.specs.declared.place.Place.{Place}
use Rattle.fj_value.specs.Kind.{fits_bits, integer_bits, IsOfKind}
use Rattle.fj_statement.specs.declared.deck.Variable.{Variable}
use Rattle.fj_statement.specs.declared.statement.Operand.{Operand}
use Rattle.fj_statement.specs.declared.statement.Operand.TheVariants as operand
use Rattle.fj_statement.specs.Sound.{IsPlace, IsOperand, IsInteger, IsIntegerPlace, IsIntegerOperand, IsFile, IsUnit, IsSubject}
use Rattle.fj_statement.specs.Units.{internal_of}
use Rattle.fj_syntax.specs.declared.operand.Designator.{Designator}
use Rattle.fj_syntax.specs.declared.operand.Operand as written
use Rattle.fj_syntax.specs.declared.operand.Operand.TheVariants as written_as
use Rattle.fj_syntax.specs.declared.written.Subject as asked
use Rattle.fj_syntax.specs.declared.written.Subject.TheVariants as asked_as
use Rattle.fj_syntax.specs.declared.written.Unit as unit
use Rattle.fj_syntax.specs.declared.written.Unit.TheVariants as unit_as
use Rattle.fj_statement.specs.declared.unit.Subject.{Subject}
use Rattle.fj_statement.specs.declared.unit.UnitRef.{UnitRef}
use Rattle.fj_statement.specs.declared.unit.UnitRef.TheVariants as named_as
use Rattle.fj_names.specs.declared.designator.Placed.{Placed}
use Rattle.fj_names.specs.declared.operand.Meant.{Meant}
use Rattle.fj_names.specs.declared.scope.Found.{Found}
use Rattle.fj_names.specs.declared.scope.Named.{Named}
use Rattle.fj_names.specs.declared.scope.Named.TheVariants as stands_for
use Rattle.fj_names.specs.declared.scope.Scope.{Scope}
use Rattle.fj_names.specs.Giving.{optional}
use Rattle.fj_names.specs.Units.{held, internal, subject_meant, unit_in, unit_meant, unit_named}
use Rattle.fj_names.specs.Operands.{index_in, placed, is_integer, integer_place, signed, number_kind, number, element, whole, part, variable_meant, meant, is_whole, integer_operand}
use Rattle.fj_syntax.proofs.Holding.{bound, passed, some_is}
use Rattle.fj_names.specs.Scope.{found, variable_at, named}

-- ---- steps

pub chosen : {X : Type 0} (b : Bool) (x y z : X) → cond b x y ≡ z → ((b ≡ true) × (x ≡ z)) ⊎ ((b ≡ false) × (y ≡ z))
chosen true x y z h = inl (refl, h)
chosen false x y z h = inr (refl, h)

pub no_is : (b : Bool) → not b ≡ true → b ≡ false
no_is true h = cc
no_is false h = refl

pub is_there : {A : Type 0} (o : Option A) → is_some o ≡ true → IsSome o
is_there o h = h

-- ---- places

pub record FoundIs (s : Scope) (f : Found) : Type 0 where
  pub variable : Variable
  pub is : slice_get s.variables f.var ≡ Some variable
  pub kind_is : variable.kind ≡ f.kind
  pub count_is : variable.count ≡ f.count

variable_found : (s : Scope) (n : Named) (f : Found) → variable_at s n ≡ Some f → FoundIs s f
variable_found s (stands_for.Variable k) f h =
    let b = bound (slice_get s.variables k) (λ v. Some (record { var = k; kind = v.kind; count = v.count })) f h in
    subst (FoundIs s) (some_is (record { var = k; kind = b.0.kind; count = b.0.count }) f b.2) (record { variable = b.0; is = b.1; kind_is = refl; count_is = refl })
variable_found s (stands_for.Group k) f h = cc

pub found_is : (s : Scope) (name : List ℕ) (f : Found) → found s name ≡ Some f → FoundIs s f
unfolding found
found_is s name f h = let b = bound (named s name) (variable_at s) f h in variable_found s b.0 f b.2

record IsIndex (count i : ℕ) : Type 0 where
  from : 1 ≤ i
  to : i ≤ max 1 count

index_is : (count : ℕ) (number : Option ℕ) (i : ℕ) → index_in count number ≡ Some i → IsIndex count i
index_is count None i h =
    let p = passed (eqb count 0) (Some 1) i h in
    subst (IsIndex count) (some_is 1 i p.1) (record { from = omega arith; to = omega arith })
index_is count (Some n) i h =
    let p = passed (leb 1 n && leb n count) (Some n) i h in
    let b = and_parts (leb 1 n) (leb n count) p.0 in
    let low : 1 ≤ n = leb-true 1 n b.0 in
    let high : n ≤ count = leb-true n count b.1 in
    subst (IsIndex count) (some_is n i p.1) (record { from = low; to = omega arith })

place_is : (s : Scope) (f : Found) (i : ℕ) → FoundIs s f → IsIndex f.count i → IsPlace s.variables (record { var = f.var; index = i }) f.kind
place_is s f i found index = record {
  variable = found.variable;
  is = found.is;
  kind_is = found.kind_is;
  from = index.from;
  to = subst (λ n. i ≤ max 1 n) (sym found.count_is) index.to;
}

abbrev PlacedIs : Scope → Placed → Type 0
PlacedIs s p = IsPlace s.variables p.place p.kind

pub placed_is : (s : Scope) (d : Designator) (p : Placed) → placed s d ≡ Some p → PlacedIs s p
unfolding placed
placed_is s d p h =
    let f = bound (found s d.name) _ p h in
    let i = bound (index_in f.0.count d.number) _ p f.2 in
    subst (PlacedIs s) (some_is _ p i.2) (place_is s f.0 i.0 (found_is s d.name f.0 f.1) (index_is f.0.count d.number i.0 i.1))

pub integer_place_is : (s : Scope) (d : Designator) (place : Place) → integer_place s d ≡ Some place → IsIntegerPlace s.variables place
unfolding integer_place
integer_place_is s d place h =
    let b = bound (placed s d) _ place h in
    let p = passed (is_integer b.0.kind) (Some b.0.place) place b.2 in
    subst (IsIntegerPlace s.variables) (some_is b.0.place place p.1) (b.0.kind, placed_is s d b.0 b.1, is_there (integer_bits b.0.kind) p.0)

-- ---- units

pub unit_is : (s : Scope) (u : unit.Unit) (named : UnitRef) → unit_meant s u ≡ Some named → IsUnit s.variables named
unfolding unit_meant
unit_is s unit_as.Star named h = subst (IsUnit s.variables) (some_is _ named h) (tt, tt)
unit_is s (unit_as.Number n) named h = subst (IsUnit s.variables) (some_is _ named h) (tt, tt)
unit_is s (unit_as.Place d) named h =
    let p = bound (integer_place s d) _ named h in
    subst (IsUnit s.variables) (some_is _ named p.2) (integer_place_is s d p.0 p.1, tt)
unit_is s (unit_as.New d) named h =
    let p = bound (integer_place s d) _ named h in
    subst (IsUnit s.variables) (some_is _ named p.2) (tt, integer_place_is s d p.0 p.1)

pub subject_is : (s : Scope) (a : asked.Subject) (about : Subject) → subject_meant s a ≡ Some about → IsSubject s.variables about
unfolding subject_meant
subject_is s (asked_as.Unit u) about h =
    let named = bound (unit_meant s u) _ about h in
    subst (IsSubject s.variables) (some_is _ about named.2) (unit_is s u named.0 named.1)
subject_is s (asked_as.File name) about h = subst (IsSubject s.variables) (some_is _ about h) tt

-- ---- operands

abbrev MeantIs : Scope → Meant → Type 0
MeantIs s m = IsOperand s.variables m.operand m.kind m.count

number_is : (s : Scope) (n : ℤ) (m : Meant) → number n ≡ Some m → MeantIs s m
unfolding number
number_is s n m h =
    let k = bound (number_kind n) _ m h in
    let of_kind : IsOfKind k.0 (Rattle.fj_value.specs.declared.value.Value.TheVariants.Int n) = elim (chosen (fits_bits 32 n) (Some Int4) (cond (fits_bits 64 n) (Some Int8) None) (Some k.0) k.1) [
      | inl four ↦ subst (λ kind. IsOfKind kind (Rattle.fj_value.specs.declared.value.Value.TheVariants.Int n)) (some_is Int4 k.0 four.1) (fits_bits-fits 32 n four.0)
      | inr other ↦
          let eight = passed (fits_bits 64 n) (Some Int8) k.0 other.1 in
          subst (λ kind. IsOfKind kind (Rattle.fj_value.specs.declared.value.Value.TheVariants.Int n)) (some_is Int8 k.0 eight.1) (fits_bits-fits 64 n eight.0)
    ] in
    subst (MeantIs s) (some_is _ m k.2) (refl, of_kind, refl)

-- an array has elements
some_count : (n : ℕ) → eqb n 0 ≡ false → 1 ≤ n
some_count n h = grind (arith, nat_tests)

part_is : (s : Scope) (f : Found) (number : Option ℕ) (m : Meant) → FoundIs s f → part f number ≡ Some m → MeantIs s m
part_is s f None m found h = elim (chosen (eqb f.count 0) (element f 1) (whole f) m (some_is _ m h)) [
  | inl scalar ↦ subst (MeantIs s) scalar.1 (place_is s f 1 found (record { from = omega arith; to = omega arith }), refl)
  | inr array ↦ subst (MeantIs s) array.1 (record { variable = found.variable; is = found.is; kind_is = found.kind_is; count_is = found.count_is; some = some_count f.count array.0 })
]
part_is s f (Some n) m found h =
    let i = bound (index_in f.count (Some n)) _ m h in
    subst (MeantIs s) (some_is _ m i.2) (place_is s f i.0 found (index_is f.count (Some n) i.0 i.1), refl)

pub variable_is : (s : Scope) (d : Designator) (m : Meant) → variable_meant s d ≡ Some m → MeantIs s m
unfolding variable_meant
variable_is s d m h =
    let f = bound (found s d.name) _ m h in
    part_is s f.0 d.number m (found_is s d.name f.0 f.1) f.2

-- ---- units of READ and WRITE

-- what a variable names as a unit
abbrev pub IsNamed : Scope → UnitRef → Type 0
IsNamed s (named_as.Held place n) = IsIntegerPlace s.variables place
IsNamed s (named_as.Internal file) = IsFile s.variables file
IsNamed s u = ⊥

held_is : (s : Scope) (kind : Kind) (count : ℕ) (o : Operand) (u : UnitRef) → IsOperand s.variables o kind count → IsInteger kind → held o ≡ Some u → IsNamed s u
held_is s kind count (operand.One place) u is integer h = subst (IsNamed s) (some_is _ u h) (kind, is.0, integer)
held_is s kind count (operand.Literal k value) u is integer h = cc
held_is s kind count (operand.Whole var) u is integer h = cc

internal_is : (s : Scope) (size count : ℕ) (o : Operand) (u : UnitRef) → IsOperand s.variables o (Chars size) count → internal o ≡ Some u → IsNamed s u
internal_is s size count (operand.One place) u is h = subst (IsNamed s) (some_is _ u h) (size, is.0)
internal_is s size count (operand.Whole var) u is h = subst (IsNamed s) (some_is _ u h) (size, count, is)
internal_is s size count (operand.Literal k value) u is h = cc

unit_in_is : (s : Scope) (kind : Kind) (count : ℕ) (o : Operand) (u : UnitRef) → IsOperand s.variables o kind count → unit_in kind o ≡ Some u → IsNamed s u
unit_in_is s Int4 count o u is h = held_is s Int4 count o u is refl h
unit_in_is s Int8 count o u is h = held_is s Int8 count o u is refl h
unit_in_is s Logical count o u is h = cc
unit_in_is s (Chars size) count o u is h = internal_is s size count o u is h

pub variable_names : (s : Scope) (d : Designator) (u : UnitRef) → unit_named s (unit_as.Place d) ≡ Some u → IsNamed s u
unfolding unit_named
variable_names s d u h =
    let m = bound (variable_meant s d) (λ m. unit_in m.kind m.operand) u h in
    unit_in_is s m.0.kind m.0.count m.0.operand u (variable_is s d m.0 m.1) m.2

-- the unit of a transfer, and its file if it is internal
pub record UnitIs (s : Scope) (u : UnitRef) : Type 0 where
  pub unit : IsUnit s.variables u
  pub file : IfSome (internal_of u) (IsFile s.variables)

named_unit : (s : Scope) (u : UnitRef) → IsNamed s u → UnitIs s u
named_unit s (named_as.Held place n) is = record { unit = (is, tt); file = tt }
named_unit s (named_as.Internal file) is = record { unit = (tt, tt); file = is }
named_unit s named_as.Star is = absurd is
named_unit s (named_as.Number n) is = absurd is
named_unit s (named_as.New place n) is = absurd is

-- one that is named in every statement
meant_unit : (s : Scope) (w : unit.Unit) (u : UnitRef) → unit_meant s w ≡ Some u → internal_of u ≡ None
unfolding unit_meant
meant_unit s unit_as.Star u h = ap internal_of (sym (some_is _ u h))
meant_unit s (unit_as.Number n) u h = ap internal_of (sym (some_is _ u h))
meant_unit s (unit_as.Place d) u h = let p = bound (integer_place s d) _ u h in ap internal_of (sym (some_is _ u p.2))
meant_unit s (unit_as.New d) u h = let p = bound (integer_place s d) _ u h in ap internal_of (sym (some_is _ u p.2))

other_unit : (s : Scope) (w : unit.Unit) (u : UnitRef) → unit_meant s w ≡ Some u → UnitIs s u
other_unit s w u h = record { unit = unit_is s w u h; file = subst (λ f. IfSome f (IsFile s.variables)) (sym (meant_unit s w u h)) tt }

pub named_is : (s : Scope) (w : unit.Unit) (u : UnitRef) → unit_named s w ≡ Some u → UnitIs s u
unfolding unit_named
named_is s (unit_as.Place d) u h = named_unit s u (variable_names s d u h)
named_is s unit_as.Star u h = other_unit s unit_as.Star u h
named_is s (unit_as.Number n) u h = other_unit s (unit_as.Number n) u h
named_is s (unit_as.New d) u h = other_unit s (unit_as.New d) u h

-- ---- operands of any form

pub meant_is : (s : Scope) (o : written.Operand) (m : Meant) → meant s o ≡ Some m → MeantIs s m
unfolding meant
meant_is s (written_as.Number sign amount) m h = number_is s (signed sign amount) m h
meant_is s (written_as.Truth truth) m h = subst (MeantIs s) (some_is _ m h) (refl, tt, refl)
meant_is s (written_as.Literal text) m h = subst (MeantIs s) (some_is _ m h) (refl, refl, refl)
meant_is s (written_as.Place d) m h = variable_is s d m h

integer_of : (s : Scope) (o : Operand) (kind : Kind) (count : ℕ) → IsOperand s.variables o kind count → is_integer kind ≡ true → is_whole o ≡ false → IsIntegerOperand s.variables o
integer_of s (operand.Literal k value) kind count is integer single = (is.1, subst IsInteger (sym is.0) (is_there (integer_bits kind) integer))
integer_of s (operand.One place) kind count is integer single = (kind, is.0, is_there (integer_bits kind) integer)
integer_of s (operand.Whole var) kind count is integer single = cc

pub integer_operand_is : (s : Scope) (o : written.Operand) (m : Operand) → integer_operand s o ≡ Some m → IsIntegerOperand s.variables m
unfolding integer_operand
integer_operand_is s o m h =
    let b = bound (meant s o) _ m h in
    let p = passed (is_integer b.0.kind && not (is_whole b.0.operand)) (Some b.0.operand) m b.2 in
    let t = and_parts (is_integer b.0.kind) (not (is_whole b.0.operand)) p.0 in
    subst (IsIntegerOperand s.variables) (some_is b.0.operand m p.1) (integer_of s b.0.operand b.0.kind b.0.count (meant_is s o b.0 b.1) t.0 (no_is (is_whole b.0.operand) t.1))

-- of what may be given
pub given_is : {A B : Type 0} (f : A → Option B) (P : B → Type 0) → ((a : A) (b : B) → f a ≡ Some b → P b) → (o : Option A) (r : Option B) → optional f o ≡ Some r → IfSome r P
given_is f P all None r h = subst (λ o. IfSome o P) (some_is None r h) tt
given_is f P all (Some a) r h = let b = bound (f a) (λ y. Some (Some y)) r h in subst (λ o. IfSome o P) (some_is (Some b.0) r b.2) (all a b.0 b.1)

pub given_same : {A B : Type 0} (f : A → Option B) (o : Option A) (r : Option B) → optional f o ≡ Some r → is_some r ≡ is_some o
given_same f None r h = ap is_some (sym (some_is None r h))
given_same f (Some a) r h = let b = bound (f a) (λ y. Some (Some y)) r h in ap is_some (sym (some_is (Some b.0) r b.2))
