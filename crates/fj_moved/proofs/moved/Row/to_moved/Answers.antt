use Rattle.std.proofs.Common.{◌+◌, ◌<◌, [], ◌∷◌, ◌++◌, length, take, refl, ap, sym, ◌∙◌, arith, add-one}
use Rattle.std.specs.List.{range_with_len}
use Rattle.fj_value.specs.declared.value.Cell.{Cell}
use Rattle.fj_moved.specs.Load.{row_cells}
use Rattle.fj_moved.proofs.LoadLemmas.{row_taken, range_more}
use Rattle.fj_moved.proofs.moved.Row.to_moved.Goals as goal

pub loop-at-preserved : goal.loop-at-preserved
loop-at-preserved c =
    let row = c.args.self.now in
    let at = c.loop-at.at in
    let items = c.as_slice-value-items.result.now in
    let cell : Cell = record { place = record { var = row.first.var; index = row.first.index + at }; kind = row.kind; value = c.in_ok-value.value } in
    let low : at < length items = omega (arith, c.loop-at-test.true) in
    record {
      cells = c.in_ok-push.ensures.ok
          ∙ ap (λ cs. cs ++ cell ∷ []) (c.loop-at.invariant.cells ∙ ap (λ vs. row_cells row.first row.kind (take at vs)) (sym c.as_slice-value-items.ensures))
          ∙ row_taken row.first row.kind items at (row.first.index + at) c.in_ok-value.value c.value-item.result low refl c.value-item.is c.in_ok-value.ensures
          ∙ ap (λ vs. row_cells row.first row.kind (take (at + 1) vs)) c.as_slice-value-items.ensures;
      order = c.in_ok-push-2.ensures.ok ∙ ap (λ l. l ++ at ∷ []) c.loop-at.invariant.order ∙ sym (range_more 0 at at (omega arith)) ∙ ap (range_with_len 0) (sym (add-one at));
    }
