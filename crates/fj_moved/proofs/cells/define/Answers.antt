use Rattle.std.proofs.Common.{◌≡◌, ◌<◌, List, length, Some, slice_get, refl, sym, ap, ◌∙◌, arith}
use Rattle.std.proofs.lemmas.Option.{slice_get_read}
use Rattle.fj_value.specs.declared.value.Cell.{Cell}
use Rattle.fj_moved.specs.Cells.{places_of}
use Rattle.fj_moved.proofs.CellLemmas.{set_value, places_kept, count_kept}
use Rattle.fj_moved.proofs.cells.define.Goals as goal

pub returns-clause-value : goal.returns-clause-value
returns-clause-value c =
    let cells = c.as_slice.result.now in
    let cell = c.index-as_slice-at.result in
    let long = ap (λ (l : List Cell). length l) c.as_slice.ensures in
    let inside : c.args.at < length cells = omega arith in
    let is : slice_get cells c.args.at ≡ Some cell = slice_get_read cells (length cells) c.args.at cell refl inside c.index-as_slice-at.is in
    c.replace.ensures.rest ∙ set_value c.args.cells.now c.args.at cell c.args.value (sym (ap (λ (l : List Cell). slice_get l c.args.at) c.as_slice.ensures) ∙ is)

pub returns-clause-places : goal.returns-clause-places
returns-clause-places c = ap places_of (returns-clause-value c) ∙ places_kept c.args.cells.now c.args.at c.args.value

pub returns-clause-count : goal.returns-clause-count
returns-clause-count c = ap (λ (l : List Cell). length l) (returns-clause-value c) ∙ count_kept c.args.cells.now c.args.at c.args.value
