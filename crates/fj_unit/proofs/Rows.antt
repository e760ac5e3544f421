-- What a transfer says of the cells of a row.
use Rattle.std.proofs.Common.{◌≡◌, ℕ, zero, suc, ◌+◌, ◌<◌, ◌≤◌, ◌^◌, List, [], ◌∷◌, length, map, false, ◌||◌, All, refl, sym, ap, ◌∙◌, subst, arith}
use Rattle.std.specs.List.{range_with_len}
use Rattle.fj_value.specs.declared.kind.Kind.{Kind}
use Rattle.fj_value.specs.declared.place.Place.{Place}
use Rattle.fj_value.specs.declared.value.Value.{Value}
use Rattle.fj_value.specs.declared.value.Cell.{Cell}
use Rattle.fj_moved.specs.Load.{row_cells}
use Rattle.fj_moved.specs.Moved.{same_place, is_among, has_twice, AreDistinct, IsOrdered}
use Rattle.fj_moved.specs.declared.moved.Moved.{Moved}
use Rattle.std.proofs.lemmas.List.FromFn.{length-range_with_len}
use Rattle.fj_moved.proofs.LoadLemmas.{row_length}
use Rattle.fj_namelist.specs.GroupText.{IsWithin}
use Rattle.fj_transfer.specs.Moving.{members_of}
use Rattle.fj_transfer.specs.declared.transfer.Layout.{Layout}
use Rattle.std.proofs.lemmas.Bool.Decides.{nat_tests}
use Rattle.std.proofs.lemmas.List.Elements.{All-nil, All-cons}

-- a place before all of a row is none of theirs
not_among : (var k index : ℕ) (kind : Kind) (values : List Value) → k < index
    → is_among (map (λ (c : Cell). c.place) (row_cells (record { var = var; index = index }) kind values)) (record { var = var; index = k }) ≡ false
not_among var k index kind [] p = refl
not_among var k index kind (v ∷ vs) p =
    let rest = not_among var k (index + 1) kind vs (omega (arith, p)) in
    let here : same_place (record { var = var; index = k }) (record { var = var; index = index }) ≡ false = grind (arith, nat_tests) in
    ap (λ b. b || is_among (map (λ (c : Cell). c.place) (row_cells (record { var = var; index = index + 1 }) kind vs)) (record { var = var; index = k })) here ∙ rest

distinct_from : (var index : ℕ) (kind : Kind) (values : List Value) → AreDistinct (row_cells (record { var = var; index = index }) kind values)
distinct_from var index kind [] = refl
distinct_from var index kind (v ∷ vs) =
    ap (λ b. b || has_twice (map (λ (c : Cell). c.place) (row_cells (record { var = var; index = index + 1 }) kind vs))) (not_among var index (index + 1) kind vs (omega arith))
    ∙ distinct_from var (index + 1) kind vs

pub row_distinct : (place : Place) (kind : Kind) (values : List Value) → AreDistinct (row_cells place kind values)
row_distinct place kind values = distinct_from place.var place.index kind values

below : (a n most : ℕ) → a + n ≤ most → All (λ at. at < most) (range_with_len a n)
below a zero most p = All-nil (λ at. at < most)
below a (suc n) most p = All-cons (λ at. at < most) a (range_with_len (a + 1) n) (omega (arith, p)) (below (a + 1) n most (omega (arith, p)))

pub row_ordered : (place : Place) (kind : Kind) (values : List Value) → IsOrdered (record { cells = row_cells place kind values; order = range_with_len 0 (length values) })
row_ordered place kind values = below 0 (length values) (length (row_cells place kind values)) (omega (arith, row_length place kind values))

pub none_within : (layout : Layout) (n : ℕ) → members_of layout ≡ [] → All (IsWithin n) (members_of layout)
none_within layout n e = subst (All (IsWithin n)) (sym e) (All-nil (IsWithin n))

abbrev pub row_of : Place → Kind → List Value → Moved
row_of place kind values = record { cells = row_cells place kind values; order = range_with_len 0 (length values) }

pub row_facts : (layout : Layout) (place : Place) (kind : Kind) (values : List Value) (moved : Moved) → moved ≡ row_of place kind values → length values < 2 ^ 32 → members_of layout ≡ []
    → AreDistinct moved.cells × IsOrdered moved × (length moved.order < 2 ^ 32) × All (IsWithin (length moved.cells)) (members_of layout)
row_facts layout place kind values moved is few alone = (
  subst (λ (m : Moved). AreDistinct m.cells) (sym is) (row_distinct place kind values),
  subst IsOrdered (sym is) (row_ordered place kind values),
  subst (λ (m : Moved). length m.order < 2 ^ 32) (sym is) (omega (arith, length-range_with_len 0 (length values), few)),
  none_within layout (length moved.cells) alone,
)

pub row_values : (place : Place) (kind : Kind) (values : List Value) → map (λ (c : Cell). c.value) (row_cells place kind values) ≡ values
row_values place kind [] = refl
row_values place kind (v ∷ vs) = ap (λ l. v ∷ l) (row_values (record place { index = place.index + 1 }) kind vs)
