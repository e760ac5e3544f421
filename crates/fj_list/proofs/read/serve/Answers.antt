use Rattle.std.proofs.Common.{◌≡◌, None, ap, sym, subst, ◌∙◌}
use Rattle.fj_list.specs.declared.constant.Read.{Read}
use Rattle.fj_list.specs.declared.constant.Read.TheVariants as read
use Rattle.fj_list.specs.Constant.{read_as}
use Rattle.fj_moved.specs.Cells.{kind_at}
use Rattle.fj_list.specs.Scan.{constant_of, Serves}
use Rattle.fj_list.proofs.read.serve.Goals as goal

pub returns-in-Defined-clause-served : goal.returns-in-Defined-clause-served
returns-in-Defined-clause-served c =
    let s = c.args.scan.now in
    let cells = c.args.cells.now in
    let P : Read → Type 0 = λ r. Serves None r cells c.args.at c.define.new.cells in
    let is : read_as (kind_at cells c.args.at) s.form (constant_of s.form s) ≡ read.Defined c.in-Defined.value =
    ap (λ k. read_as k s.form (constant_of s.form s)) (sym c.kind_at.ensures) ∙ ap (λ cs. read_as c.kind_at.result s.form cs) (sym c.constant.ensures) ∙ sym c.in_ok-read_as.ensures ∙ c.in-Defined.is in
    subst P (sym is) c.define.ensures.value
