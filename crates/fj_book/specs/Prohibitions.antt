-- What a program may not do beside pending transfers (ISO/IEC 1539-1:2004, 9.5.1.4, 9.6, clause 16): the lowest rule that a
-- statement breaks.
use Rattle.std.specs.Prelude.{ℕ, ℤ, pos, ◌==◌, ◌&&◌, ◌||◌, not, Bool, true, false, List, Option, Some, None, if◌then◌else◌}
use Rattle.std.specs.List.{list_any}
use Rattle.std.specs.Ordering.{int_eq}
use Rattle.fj_value.specs.declared.place.Place.{Place}
use Rattle.fj_value.specs.declared.condition.Rule.{Rule}
use Rattle.fj_value.specs.declared.condition.Rule.TheVariants.{P1, P2, P3, P4, P5}
use Rattle.fj_store.specs.Places.{is_among, has_twice}
use Rattle.fj_store.specs.Variables.{Variables, value_at, is_undefined}

-- what a statement needs: its unit, the places that it references and defines, those that its specifiers define, its items or its
-- group, the elements of its internal file, and the identifier that it names
pub record Need : Type 0 where
  pub unit : Option ℕ
  pub references : List Place
  pub defines : List Place
  pub specifiers : List Place
  pub items : List Place
  pub internal : List Place
  pub id : Option ℤ

-- a pending transfer as prohibitions see it
pub record Holder : Type 0 where
  pub id : ℕ
  pub unit : ℕ
  pub input : Bool
  pub places : List Place

-- a place of a pending input
abbrev pub is_read : List Holder → Place → Bool
is_read book place = list_any (λ (h : Holder). h.input && is_among h.places place) book

-- a place of any pending transfer
abbrev pub is_held : List Holder → Place → Bool
is_held book place = list_any (λ (h : Holder). is_among h.places place) book

abbrev pub has_id : Option ℕ → ℤ → Holder → Bool
has_id None id h = false
has_id (Some unit) id h = (h.unit == unit) && int_eq (pos h.id) id

-- ID= names a transfer that is pending on the unit
abbrev pub names_pending : List Holder → Option ℕ → Option ℤ → Bool
names_pending book unit None = true
names_pending book unit (Some id) = list_any (has_id unit id) book

-- a place that a specifier defines is defined by another one, or is an item or an element of the internal file; or an item is such
-- an element
abbrev pub defines_twice : Need → Bool
defines_twice n =
    has_twice n.specifiers || (list_any (is_among n.items) n.specifiers || (list_any (is_among n.internal) n.specifiers || list_any (is_among n.internal) n.items))

abbrev pub prohibited : Variables → List Holder → Need → Option Rule
prohibited vars book n =
    if list_any (is_read book) n.references then Some P1
    else (if list_any (is_held book) n.defines then Some P2
    else (if list_any (λ place. is_undefined (value_at vars place)) n.references then Some P3
    else (if not (names_pending book n.unit n.id) then Some P4
    else (if defines_twice n then Some P5 else None))))
