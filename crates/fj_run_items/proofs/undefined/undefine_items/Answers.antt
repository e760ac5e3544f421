use Rattle.std.proofs.Common.{◌<◌, ◌≤◌, ◌+◌, ◌++◌, ◌∙◌, length, drop, sym, ap, arith}
use Rattle.fj_store.specs.Storage.{values_of}
use Rattle.fj_store.specs.Variables.{undefined_at}
use Rattle.fj_meaning.specs.Items.{cells_from, cells_of}
use Rattle.fj_run_items.proofs.Undefines.{item_step, past_end}
use Rattle.fj_run_items.proofs.undefined.undefine_items.Goals as goal

pub loop-item-preserved : goal.loop-item-preserved
loop-item-preserved c =
    let low : c.loop-item.item-index < length c.args.items.now = omega arith in
    record {
      blank = λ values more. item_step c.args.variables.now values (values_of c.loop-item.store) (values_of c.undefine_item.new.store) more c.args.items.now c.loop-item.item-index c.item-item.result
          (undefined_at (cells_of c.args.variables.now values c.args.items.now ++ more) (values_of c.args.store.now)) low c.item-item.is
          (c.in_ok-undefine_item.ensures.vars values 1 (drop (c.loop-item.item-index + 1) c.args.items.now) more) (c.loop-item.invariant.blank values more);
      kinds = c.in_ok-undefine_item.ensures.kinds ∙ c.loop-item.invariant.kinds;
    }

pub returns-clause-vars : goal.returns-clause-vars
returns-clause-vars c = λ values more.
    let past : length c.args.items.now ≤ c.loop-item.item-index = omega arith in
    sym (ap (λ xs. undefined_at (cells_from c.args.variables.now values 1 xs ++ more) (values_of c.loop-item.store)) (past_end c.args.items.now c.loop-item.item-index past)) ∙ c.loop-item.invariant.blank values more
