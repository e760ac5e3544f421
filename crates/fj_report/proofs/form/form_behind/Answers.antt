use Rattle.std.proofs.Common.{sym, ◌∙◌}
use Rattle.std.proofs.lemmas.Result.{IfOk-weaker}
use Rattle.fj_report.proofs.GivenLemmas.{named_run, named_alone, named_check, named_gen, named_nothing}
use Rattle.fj_report.proofs.form.form_behind.Goals as goal

pub returns-then-eq : goal.returns-then-eq
returns-then-eq c =
    IfOk-weaker c.run_form.result _ _ (λ form h. h ∙ named_run c.args.name.now _ (sym c.eq.ensures ∙ c.if-eq.true)) c.run_form.ensures

pub returns-then-eq-2 : goal.returns-then-eq-2
returns-then-eq-2 c =
    IfOk-weaker c.alone_form.result _ _
    (λ form h. h ∙ named_alone c.args.name.now _ (sym c.eq.ensures ∙ c.if-eq.false) (sym c.eq-else-eq.ensures ∙ c.if-eq-2.true)) c.alone_form.ensures

pub returns-then-eq-3 : goal.returns-then-eq-3
returns-then-eq-3 c =
    IfOk-weaker c.check_form.result _ _
    (λ form h. h ∙ named_check c.args.name.now _ (sym c.eq.ensures ∙ c.if-eq.false) (sym c.eq-else-eq.ensures ∙ c.if-eq-2.false)
    (sym c.eq-else-eq-2.ensures ∙ c.if-eq-3.true)) c.check_form.ensures

pub returns-then-eq-4 : goal.returns-then-eq-4
returns-then-eq-4 c =
    IfOk-weaker c.gen_form.result _ _
    (λ form h. h ∙ named_gen c.args.name.now _ (sym c.eq.ensures ∙ c.if-eq.false) (sym c.eq-else-eq.ensures ∙ c.if-eq-2.false)
    (sym c.eq-else-eq-2.ensures ∙ c.if-eq-3.false) (sym c.eq-else-eq-3.ensures ∙ c.if-eq-4.true)) c.gen_form.ensures

pub returns-else-eq-4 : goal.returns-else-eq-4
returns-else-eq-4 c =
    named_nothing c.args.name.now _ (sym c.eq.ensures ∙ c.if-eq.false) (sym c.eq-else-eq.ensures ∙ c.if-eq-2.false)
    (sym c.eq-else-eq-2.ensures ∙ c.if-eq-3.false) (sym c.eq-else-eq-3.ensures ∙ c.if-eq-4.false)
