use Rattle.std.proofs.Common.{◌≡◌, ◌<◌, List, length, ap, sym, ◌∙◌, arith, add-one}
use Rattle.fj_value.specs.declared.value.Cell.{Cell}
use Rattle.fj_value.specs.declared.value.Value.TheVariants.{Undefined}
use Rattle.fj_moved.specs.Cells.{with_value}
use Rattle.fj_moved.proofs.LoadLemmas.{undefined_up_to, one_more, all_undefined}
use Rattle.fj_moved.proofs.load.undefine.Goals as goal

pub loop-at-preserved : goal.loop-at-preserved
loop-at-preserved c =
    let cells = c.args.cells.now in
    let at = c.loop-at.at in
    let kept = c.loop-at.invariant in
    let inside : at < length cells = omega (arith, c.len-at-end.ensures) in
    record {
      values = c.define.ensures.value ∙ ap (λ (l : List Cell). with_value l at Undefined) kept.values ∙ one_more at cells inside ∙ ap (λ n. undefined_up_to n cells) (sym (add-one at));
      places = c.define.ensures.places ∙ kept.places;
      count = c.define.ensures.count ∙ kept.count;
    }

pub returns-clause-values : goal.returns-clause-values
returns-clause-values c =
    let cells = c.args.cells.now in
    let whole : c.loop-at.at ≡ length cells = omega (arith, c.len-at-end.ensures) in
    c.loop-at.invariant.values ∙ ap (λ n. undefined_up_to n cells) whole ∙ all_undefined cells
