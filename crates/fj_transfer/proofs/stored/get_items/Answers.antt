use Rattle.std.proofs.Common.{◌+◌, List, get_or, drop, take, ap, sym, ◌∙◌, arith}
use Rattle.fj_value.specs.declared.value.Cell.{Cell}
use Rattle.fj_unfrec.specs.Stored.{value_of}
use Rattle.fj_moved.specs.Cells.{kind_at, with_value}
use Rattle.fj_transfer.specs.Transfer.{widths, values_from}
use Rattle.fj_transfer.proofs.StoredLemmas.{values_next, widths_next, widths_kept, rest_is}
use Rattle.fj_transfer.proofs.stored.get_items.Goals as goal

pub loop-at-preserved : goal.loop-at-preserved
loop-at-preserved c =
    let order = c.args.order.now in
    let bytes = c.args.bytes.now in
    let i = c.loop-at.at-index in
    let at = get_or order i 0 in
    let before = c.loop-at.cells in
    let after = c.get_item.new.cells in
    let kept = c.loop-at.invariant in
    let given = c.in_ok-from.ensures.value in
    let width = c.in_ok-from.field-0 in
    let is = given.1 ∙ ap (λ l. with_value before at (value_of (kind_at before at) (take width l))) (rest_is bytes c.loop-at.from) in
    let rest = ap (λ (l : List Cell). widths l (drop (i + 1) order)) is ∙ widths_kept before at (value_of (kind_at before at) (take width (drop c.loop-at.from bytes))) (drop (i + 1) order) in
    record {
      values = kept.values ∙ values_next before order i c.loop-at.from width bytes c.loop-at-test.true given.0
          ∙ ap (λ (l : List Cell). values_from l (drop (i + 1) order) (drop (c.loop-at.from + width) bytes)) (sym is);
      places = c.get_item.ensures.places ∙ kept.places;
      count = c.get_item.ensures.count ∙ kept.count;
      enough = omega (arith, rest, given.0, widths_next before order i c.loop-at-test.true, kept.enough);
    }
