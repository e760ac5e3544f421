use Rattle.std.proofs.Common.{◌≡◌, ◌+◌, ◌<◌, ◌≤◌, ◌++◌, length, take, arith}
use Rattle.std.specs.List.{sum_by}
use Rattle.std.proofs.lemmas.Result.{err_from_is_err_and}
use Rattle.fj_run_items.specs.Gathering.{count_of}
use Rattle.fj_run_items.specs.declared.lost.Lost.TheVariants.{Unfit}
use Rattle.fj_run_items.proofs.Finds.{not_passed, sum_step, sum_low, sum_all}
use Rattle.fj_run_items.proofs.Gathers.{items_step}
use Rattle.fj_run_items.proofs.collection.add_items.Goals as goal

pub loop-item-preserved : goal.loop-item-preserved
loop-item-preserved c =
    let low : c.loop-item.item-index < length c.args.items.now = omega arith in
    let step : sum_by (count_of c.args.variables.now) (take (c.loop-item.item-index + 1) c.args.items.now) ≡ sum_by (count_of c.args.variables.now) (take c.loop-item.item-index c.args.items.now) + count_of c.args.variables.now c.item-item.result =
    sum_step (count_of c.args.variables.now) c.args.items.now c.loop-item.item-index c.item-item.result c.item-item.result low c.item-item.is in
    record {
      more = λ before h. items_step c.args.variables.now before c.args.items.now c.loop-item.item-index c.item-item.result c.add_item.new.gathered low c.item-item.is
          (c.in_ok-add_item.ensures.more (before ++ take c.loop-item.item-index c.args.items.now) (c.loop-item.invariant.more before h));
      size = let one = c.in_ok-add_item.ensures.size in let so_far = c.loop-item.invariant.size in omega (arith, step, one, so_far);
    }

pub returns-in_err-add_item-clause-fits : goal.returns-in_err-add_item-clause-fits
returns-in_err-add_item-clause-fits c = λ few.
    let low : c.loop-item.item-index < length c.args.items.now = omega arith in
    let p = err_from_is_err_and c.from_residual.result c.from_residual.ensures.1 in
    let all : sum_by (count_of c.args.variables.now) (take c.loop-item.item-index c.args.items.now) + count_of c.args.variables.now c.item-item.result ≤ sum_by (count_of c.args.variables.now) c.args.items.now =
    sum_low (count_of c.args.variables.now) c.args.items.now c.loop-item.item-index c.item-item.result c.item-item.result low c.item-item.is in
    let so_far = c.loop-item.invariant.size in
    not_passed c.from_residual.result c.in_err-add_item.field-0.0 p.0 Unfit p.1 p.2 (c.in_err-add_item.ensures.fits (omega (arith, all, so_far, few)))

pub returns-clause-size : goal.returns-clause-size
returns-clause-size c =
    let past : length c.args.items.now ≤ c.loop-item.item-index = omega arith in
    let all = sum_all (count_of c.args.variables.now) c.args.items.now c.loop-item.item-index past in
    let so_far = c.loop-item.invariant.size in
    omega (arith, all, so_far)
