use Rattle.std.proofs.Common.{◌≡◌, map, ap, ◌∙◌}
use Rattle.fj_store.specs.Storage.{all_undefined, Storage}
use Rattle.fj_run_script.specs.Making.{shape_of}
use Rattle.fj_run_script.proofs.Made.{core_made, shape_kinds}
use Rattle.fj_run_script.proofs.start.first_core.Goals as goal

pub returns-clause-core : goal.returns-clause-core
returns-clause-core c = λ files.
    let e : c.in_ok-new.field-0 ≡ all_undefined (map shape_of c.args.variables.now) = c.in_ok-new.ensures ∙ ap all_undefined (c.deref.ensures.value ∙ c.in_ok-shapes.ensures) in
    core_made files c.args.variables.now c.in_ok-new.field-0 c.in_ok-new-2.field-0 c.new-3.result c.new-4.result c.new-5.result e c.in_ok-new-2.ensures c.new-3.ensures c.new-4.ensures c.new-5.ensures

pub returns-clause-kinds : goal.returns-clause-kinds
returns-clause-kinds c =
    let e : c.in_ok-new.field-0 ≡ all_undefined (map shape_of c.args.variables.now) = c.in_ok-new.ensures ∙ ap all_undefined (c.deref.ensures.value ∙ c.in_ok-shapes.ensures) in
    ap (λ (s : Storage). s.kinds) e ∙ shape_kinds c.args.variables.now
