use Rattle.std.proofs.Common.{◌<◌, ◌≤◌, ◌++◌, ◌∙◌, length, map, sym, ap, arith}
use Rattle.std.specs.List.{flat_map}
use Rattle.fj_store.specs.Storage.{values_of}
use Rattle.fj_store.specs.Variables.{undefined_at}
use Rattle.fj_meaning.specs.Items.{cell_at, places_of}
use Rattle.fj_run_items.proofs.Undefines.{member_step, past_end}
use Rattle.fj_run_items.proofs.undefined.undefine_members.Goals as goal

pub loop-var-preserved : goal.loop-var-preserved
loop-var-preserved c =
    let low : c.loop-var.var-index < length c.args.vars.now = omega arith in
    record {
      blank = λ values more. member_step c.args.variables.now values (values_of c.loop-var.store) (values_of c.undefine_variable.new.store) more c.args.vars.now c.loop-var.var-index 0
          (undefined_at (map (cell_at c.args.variables.now values) (flat_map (places_of c.args.variables.now) c.args.vars.now) ++ more) (values_of c.args.store.now)) low
          (c.undefine_variable.ensures.vars values) (c.loop-var.invariant.blank values more);
      kinds = c.undefine_variable.ensures.kinds ∙ c.loop-var.invariant.kinds;
    }

pub returns-clause-vars : goal.returns-clause-vars
returns-clause-vars c = λ values more.
    let past : length c.args.vars.now ≤ c.loop-var.var-index = omega arith in
    sym (ap (λ xs. undefined_at (map (cell_at c.args.variables.now values) (flat_map (places_of c.args.variables.now) xs) ++ more) (values_of c.loop-var.store)) (past_end c.args.vars.now c.loop-var.var-index past))
    ∙ c.loop-var.invariant.blank values more
