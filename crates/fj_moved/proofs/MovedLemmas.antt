-- Cells with distinct places: one more that has another place, and values that change.
use Rattle.std.proofs.Common.{◌≡◌, ◌<◌, ◌||◌, Bool, true, false, List, [], ◌∷◌, ◌++◌, length, map, All, refl, sym, ap, ◌∙◌, arith}
use Rattle.std.proofs.lemmas.Bool.{false≢true}
use Rattle.std.proofs.lemmas.Bool.Decides.{nat_tests}
use Rattle.std.proofs.lemmas.List.{length-map}
use Rattle.std.proofs.lemmas.List.Elements.{All-head, All-tail}
use Rattle.fj_value.specs.declared.kind.Kind.{Kind}
use Rattle.fj_value.specs.declared.place.Place.{Place}
use Rattle.fj_value.specs.declared.value.Cell.{Cell}
use Rattle.fj_moved.specs.Cells.{places_of}
use Rattle.fj_moved.specs.Moved.{same_place, is_among, has_twice, AreDistinct}

-- ---- values that change

firsts : (cells : List Cell) → map (λ (p : Place × Kind). p.0) (places_of cells) ≡ map (λ (cell : Cell). cell.place) cells
firsts [] = refl
firsts (cell ∷ cells) = ap (λ l. cell.place ∷ l) (firsts cells)

pub distinct_kept : (old new : List Cell) → places_of new ≡ places_of old → AreDistinct old → AreDistinct new
distinct_kept old new same once = ap has_twice (sym (firsts new) ∙ ap (map (λ (p : Place × Kind). p.0)) same ∙ firsts old) ∙ once

pub count_kept : (old new : List Cell) → places_of new ≡ places_of old → length new ≡ length old
count_kept old new same = sym (length-map new (λ (cell : Cell). (cell.place, cell.kind))) ∙ ap length same ∙ length-map old (λ (cell : Cell). (cell.place, cell.kind))

-- ---- one more cell

pub same_back : (p q : Place) → same_place p q ≡ same_place q p
same_back p q = grind (arith, nat_tests)

or_false : (a b : Bool) → a ≡ false → b ≡ false → (a || b) ≡ false
or_false a b ea eb = ap (λ x. x || b) ea ∙ eb

pub parts_false : (a b : Bool) → (a || b) ≡ false → (a ≡ false) × (b ≡ false)
parts_false true b e = absurd (false≢true (sym e))
parts_false false b e = (refl, e)

among_more : (places : List Place) (p q : Place) → is_among places q ≡ false → same_place q p ≡ false → is_among (places ++ p ∷ []) q ≡ false
among_more [] p q e differ = or_false (same_place q p) false differ refl
among_more (r ∷ places) p q e differ =
    let parts = parts_false (same_place q r) (is_among places q) e in
    or_false (same_place q r) (is_among (places ++ p ∷ []) q) parts.0 (among_more places p q parts.1 differ)

twice_more : (places : List Place) (p : Place) → has_twice places ≡ false → is_among places p ≡ false → has_twice (places ++ p ∷ []) ≡ false
twice_more [] p once other = refl
twice_more (q ∷ places) p once other =
    let parts = parts_false (is_among places q) (has_twice places) once in
    let apart = parts_false (same_place p q) (is_among places p) other in
    or_false (is_among (places ++ p ∷ []) q) (has_twice (places ++ p ∷ [])) (among_more places p q parts.0 (same_back q p ∙ apart.0)) (twice_more places p parts.1 apart.1)

places_more : (cells : List Cell) (cell : Cell) → map (λ (c : Cell). c.place) (cells ++ cell ∷ []) ≡ map (λ (c : Cell). c.place) cells ++ cell.place ∷ []
places_more [] cell = refl
places_more (c ∷ cells) cell = ap (λ ps. c.place ∷ ps) (places_more cells cell)

pub distinct_more : (cells : List Cell) (cell : Cell) → AreDistinct cells → is_among (map (λ (c : Cell). c.place) cells) cell.place ≡ false → AreDistinct (cells ++ cell ∷ [])
distinct_more cells cell once other = ap has_twice (places_more cells cell) ∙ twice_more (map (λ (c : Cell). c.place) cells) cell.place once other

-- a place with a greater index than all cells have is none of theirs
pub none_above : (cells : List Cell) (p : Place) → All (λ (c : Cell). c.place.index < p.index) cells → is_among (map (λ (c : Cell). c.place) cells) p ≡ false
none_above [] p h = refl
none_above (c ∷ cells) p h =
    let low : c.place.index < p.index = All-head (λ (c : Cell). c.place.index < p.index) c cells h in
    let differ : same_place p c.place ≡ false = grind (arith, nat_tests) in
    or_false (same_place p c.place) (is_among (map (λ (x : Cell). x.place) cells) p) differ (none_above cells p (All-tail (λ (c : Cell). c.place.index < p.index) c cells h))
