-- Proofs of the laws of prohibitions and of the book.
use Rattle.std.proofs.Common.{◌≡◌, ℕ, ◌<◌, ◌&&◌, ◌||◌, cond, not, Bool, true, false, List, [], ◌∷◌, ◌++◌, filter, Option, Some, None, refl, sym, ap, ◌∙◌, arith}
use Rattle.std.proofs.lemmas.Bool.{false≢true}
use Rattle.std.specs.List.{list_any}
use Rattle.fj_value.specs.Order.{number_of}
use Rattle.fj_value.specs.declared.place.Place.{Place}
use Rattle.fj_value.specs.declared.condition.Rule.{Rule}
use Rattle.fj_value.specs.declared.condition.Rule.TheVariants.{P1, P2, P3, P4, P5}
use Rattle.fj_store.specs.Places.{is_among}
use Rattle.fj_book.specs.declared.pending.Pending.{Pending}
use Rattle.fj_book.specs.Entries.{holders, has_tag}
use Rattle.fj_book.specs.Prohibitions.{is_read, is_held}

-- ---- the first of five tests

abbrev pub test_of : Bool → Bool → Bool → Bool → Bool → Rule → Bool
test_of one two three four five P1 = one
test_of one two three four five P2 = two
test_of one two three four five P3 = three
test_of one two three four five P4 = four
test_of one two three four five P5 = five

abbrev pub lowest : Bool → Bool → Bool → Bool → Bool → Option Rule
lowest one two three four five = cond one (Some P1) (cond two (Some P2) (cond three (Some P3) (cond four (Some P4) (cond five (Some P5) None))))

pub lowest_told : (one two three four five : Bool) (told : Rule) → lowest one two three four five ≡ Some told
    → (test_of one two three four five told ≡ true) × ((r : Rule) → number_of r < number_of told → test_of one two three four five r ≡ false)
lowest_told true two three four five P1 e = (refl, λ r. elim r as (λ z. number_of z < 1 → test_of true two three four five z ≡ false) [ P1 ↦ λ h. absurd (omega arith) | P2 ↦ λ h. absurd (omega arith) | P3 ↦ λ h. absurd (omega arith) | P4 ↦ λ h. absurd (omega arith) | P5 ↦ λ h. absurd (omega arith) ])
lowest_told true two three four five P2 e = cc
lowest_told true two three four five P3 e = cc
lowest_told true two three four five P4 e = cc
lowest_told true two three four five P5 e = cc
lowest_told false true three four five P1 e = cc
lowest_told false true three four five P2 e = (refl, λ r. elim r as (λ z. number_of z < 2 → test_of false true three four five z ≡ false) [ P1 ↦ λ h. refl | P2 ↦ λ h. absurd (omega arith) | P3 ↦ λ h. absurd (omega arith) | P4 ↦ λ h. absurd (omega arith) | P5 ↦ λ h. absurd (omega arith) ])
lowest_told false true three four five P3 e = cc
lowest_told false true three four five P4 e = cc
lowest_told false true three four five P5 e = cc
lowest_told false false true four five P1 e = cc
lowest_told false false true four five P2 e = cc
lowest_told false false true four five P3 e = (refl, λ r. elim r as (λ z. number_of z < 3 → test_of false false true four five z ≡ false) [ P1 ↦ λ h. refl | P2 ↦ λ h. refl | P3 ↦ λ h. absurd (omega arith) | P4 ↦ λ h. absurd (omega arith) | P5 ↦ λ h. absurd (omega arith) ])
lowest_told false false true four five P4 e = cc
lowest_told false false true four five P5 e = cc
lowest_told false false false true five P1 e = cc
lowest_told false false false true five P2 e = cc
lowest_told false false false true five P3 e = cc
lowest_told false false false true five P4 e = (refl, λ r. elim r as (λ z. number_of z < 4 → test_of false false false true five z ≡ false) [ P1 ↦ λ h. refl | P2 ↦ λ h. refl | P3 ↦ λ h. refl | P4 ↦ λ h. absurd (omega arith) | P5 ↦ λ h. absurd (omega arith) ])
lowest_told false false false true five P5 e = cc
lowest_told false false false false true P1 e = cc
lowest_told false false false false true P2 e = cc
lowest_told false false false false true P3 e = cc
lowest_told false false false false true P4 e = cc
lowest_told false false false false true P5 e = (refl, λ r. elim r as (λ z. number_of z < 5 → test_of false false false false true z ≡ false) [ P1 ↦ λ h. refl | P2 ↦ λ h. refl | P3 ↦ λ h. refl | P4 ↦ λ h. refl | P5 ↦ λ h. absurd (omega arith) ])
lowest_told false false false false false told e = cc

pub none_told : (one two three four five : Bool) → lowest one two three four five ≡ None → (r : Rule) → test_of one two three four five r ≡ false
none_told true two three four five e r = cc
none_told false true three four five e r = cc
none_told false false true four five e r = cc
none_told false false false true five e r = cc
none_told false false false false true e r = cc
none_told false false false false false e r = elim r as (λ z. test_of false false false false false z ≡ false) [ P1 ↦ refl | P2 ↦ refl | P3 ↦ refl | P4 ↦ refl | P5 ↦ refl ]

-- ---- what is held

or_assoc : (x y z : Bool) → ((x || y) || z) ≡ (x || (y || z))
or_assoc true y z = refl
or_assoc false y z = refl

or_nothing : (x : Bool) → (x || false) ≡ x
or_nothing true = refl
or_nothing false = refl

pub held_entered : (book : List Pending) (e : Pending) (place : Place) → is_held (holders (book ++ e ∷ [])) place ≡ (is_held (holders book) place || is_among e.places place)
held_entered [] e place = or_nothing (is_among e.places place)
held_entered (x ∷ book) e place = ap (λ z. is_among x.places place || z) (held_entered book e place) ∙ sym (or_assoc (is_among x.places place) (is_held (holders book) place) (is_among e.places place))

pub read_entered : (book : List Pending) (e : Pending) (place : Place) → is_read (holders (book ++ e ∷ [])) place ≡ (is_read (holders book) place || (e.input && is_among e.places place))
read_entered [] e place = or_nothing (e.input && is_among e.places place)
read_entered (x ∷ book) e place = ap (λ z. (x.input && is_among x.places place) || z) (read_entered book e place) ∙ sym (or_assoc (x.input && is_among x.places place) (is_read (holders book) place) (e.input && is_among e.places place))

pub held_told : (book : List Pending) (tag : ℕ) (place : Place) → is_held (holders (filter (λ e. not (has_tag tag e)) book)) place ≡ list_any (λ (e : Pending). not (has_tag tag e) && is_among e.places place) book
held_told [] tag place = refl
held_told (x ∷ book) tag place =
    let go : (t : Bool) → is_held (holders (cond (not t) (x ∷ filter (λ e. not (has_tag tag e)) book) (filter (λ e. not (has_tag tag e)) book))) place ≡ ((not t && is_among x.places place) || list_any (λ (e : Pending). not (has_tag tag e) && is_among e.places place) book) =
    λ t. elim t as (λ z. is_held (holders (cond (not z) (x ∷ filter (λ e. not (has_tag tag e)) book) (filter (λ e. not (has_tag tag e)) book))) place ≡ ((not z && is_among x.places place) || list_any (λ (e : Pending). not (has_tag tag e) && is_among e.places place) book)) [
      | true ↦ held_told book tag place
      | false ↦ ap (λ z. is_among x.places place || z) (held_told book tag place)
    ] in
    go (has_tag tag x)

both_ways : (i h r s : Bool) → (r ≡ true → s ≡ true) → ((i && h) || r) ≡ true → (h || s) ≡ true
both_ways true true r s rest e = refl
both_ways true false r s rest e = rest e
both_ways false true r s rest e = refl
both_ways false false r s rest e = rest e

pub held_read : (book : List Pending) (place : Place) → is_read (holders book) place ≡ true → is_held (holders book) place ≡ true
held_read [] place e = absurd (false≢true e)
held_read (x ∷ book) place e = both_ways x.input (is_among x.places place) (is_read (holders book) place) (is_held (holders book) place) (held_read book place) e
