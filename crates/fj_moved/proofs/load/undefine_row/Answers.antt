use Rattle.std.proofs.Common.{◌≡◌, ◌<◌, length, slice_set, ap, sym, ◌∙◌, arith, add-one}
use Rattle.fj_value.specs.declared.value.Value.TheVariants.{Undefined}
use Rattle.fj_moved.proofs.LoadLemmas.{none_up_to, none_more, none_count, none_all}
use Rattle.fj_moved.proofs.load.undefine_row.Goals as goal

pub replace-requires : goal.replace-requires
replace-requires c = omega (arith, ap length c.loop-at.invariant, none_count c.loop-at.at c.args.values.now, c.len-at-end.ensures, c.loop-at-test.true)

pub loop-at-preserved : goal.loop-at-preserved
loop-at-preserved c =
    let values = c.args.values.now in
    let at = c.loop-at.at in
    let inside : at < length values = omega (arith, c.len-at-end.ensures, c.loop-at-test.true) in
    c.replace.ensures.rest ∙ ap (λ l. slice_set l at Undefined) c.loop-at.invariant ∙ none_more at values inside ∙ ap (λ n. none_up_to n values) (sym (add-one at))

pub returns : goal.returns
returns c =
    let values = c.args.values.now in
    let whole : c.loop-at.at ≡ length values = omega (arith, c.len-at-end.ensures, c.loop-at-test.false) in
    c.loop-at.invariant ∙ ap (λ n. none_up_to n values) whole ∙ none_all values
