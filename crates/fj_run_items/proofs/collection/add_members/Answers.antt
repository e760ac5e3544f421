use Rattle.std.proofs.Common.{◌<◌, ◌++◌, ℕ, length, map, take, get_or, refl, arith}
use Rattle.std.proofs.lemmas.List.Concat.{length-flat_map}
use Rattle.std.proofs.lemmas.Result.{err_from_is_err_and}
use Rattle.fj_meaning.specs.Items.{places_of}
use Rattle.fj_statement.specs.declared.statement.Operand.TheVariants.{Whole}
use Rattle.fj_run_items.specs.declared.lost.Lost.TheVariants.{Unfit}
use Rattle.fj_run_items.proofs.Finds.{not_passed, members_step, sum_step, sum_low}
use Rattle.fj_run_items.proofs.collection.add_members.Goals as goal

pub loop-var-preserved : goal.loop-var-preserved
loop-var-preserved c =
    let count : ℕ → ℕ = λ var. length (places_of c.args.variables.now var) in
    let low : c.loop-var.var-index < length c.args.vars.now = omega arith in
    let step = sum_step count c.args.vars.now c.loop-var.var-index (get_or c.args.vars.now c.loop-var.var-index 0) 0 low refl in
    record {
      more = λ before h. members_step c.args.variables.now before c.args.vars.now c.loop-var.var-index c.add_item.new.gathered low
          (c.in_ok-add_item.ensures.more (before ++ map Whole (take c.loop-var.var-index c.args.vars.now)) (c.loop-var.invariant.more before h));
      size = let one = c.in_ok-add_item.ensures.size in let so_far = c.loop-var.invariant.size in omega (arith, step, one, so_far);
    }

pub returns-in_err-add_item-clause-fits : goal.returns-in_err-add_item-clause-fits
returns-in_err-add_item-clause-fits c = λ few.
    let count : ℕ → ℕ = λ var. length (places_of c.args.variables.now var) in
    let var : ℕ = get_or c.args.vars.now c.loop-var.var-index 0 in
    let low : c.loop-var.var-index < length c.args.vars.now = omega arith in
    let p = err_from_is_err_and c.from_residual.result c.from_residual.ensures.1 in
    let all = sum_low count c.args.vars.now c.loop-var.var-index var 0 low refl in
    let long = length-flat_map (places_of c.args.variables.now) c.args.vars.now in
    let so_far = c.loop-var.invariant.size in
    not_passed c.from_residual.result c.in_err-add_item.field-0.0 p.0 Unfit p.1 p.2 (c.in_err-add_item.ensures.fits (omega (arith, all, long, so_far, few)))
