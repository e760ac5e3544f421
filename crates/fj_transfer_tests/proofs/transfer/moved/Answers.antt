use Rattle.std.proofs.Common.{rules, ◌≡◌, ℕ, ◌+◌, ◌<◌, All, List, [], ◌∷◌, ◌++◌, length, sym, ap, subst, ◌∙◌, arith, length-append}
use Rattle.std.proofs.lemmas.List.Elements.{All-push}
use Rattle.fj_value.specs.declared.place.Place.{Place}
use Rattle.fj_value.specs.declared.value.Cell.{Cell}
use Rattle.fj_moved.specs.Moved.{AreDistinct}
use Rattle.fj_moved.proofs.MovedLemmas.{distinct_more, none_above}
use Rattle.fj_transfer_tests.proofs.transfer.moved.Goals as goal

pub loop-at-preserved : goal.loop-at-preserved
loop-at-preserved c =
    let cells : List Cell = c.loop-at.cells in
    let cell : Cell = c.in_ok-cell_of.field-0 in
    let is : c.push.new.self ≡ cells ++ cell ∷ [] = c.in_ok-push.ensures.ok in
    let index : cell.place.index ≡ c.loop-at.at + 1 = ap (λ (p : Place). p.index) c.in_ok-cell_of.ensures in
    let below : ℕ → List Cell → Type 0 = λ n. All (λ (x : Cell). x.place.index < n) in
    let above : below cell.place.index cells = subst (λ n. below n cells) (sym index) c.loop-at.invariant.low in
    let low : below (c.loop-at.at + 1 + 1) cells = λ k d h. let old = c.loop-at.invariant.low k d h in omega (arith, old) in
    record {
      count = ap length is ∙ length-append cells (cell ∷ []) ∙ ap (λ n. n + 1) c.loop-at.invariant.count;
      distinct = subst AreDistinct (sym is) (distinct_more cells cell c.loop-at.invariant.distinct (none_above cells cell.place above));
      low = subst (below (c.loop-at.at + 1 + 1)) (sym is) (All-push (λ (x : Cell). x.place.index < c.loop-at.at + 1 + 1) cells cell low (omega (arith, index)));
      ordered = search rules;
    }
