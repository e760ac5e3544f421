use Rattle.std.proofs.lemmas.Result.{IfOk-weaker}
use Rattle.std.proofs.Common.{◌≡◌, not, true, ap, sym, ◌∙◌}
use Rattle.std.specs.Prelude.{◌&&◌, unwrap_or}
use Rattle.fj_meaning_jobs.specs.Acting.{keeps}
use Rattle.fj_meaning.specs.Needs.{number_of}
use Rattle.fj_run_units.specs.Units.{connected_of}
use Rattle.fj_run_statements.specs.State.{core_of}
use Rattle.fj_run_statements.proofs.ClosingLemmas.{close_anyway_is}
use Rattle.fj_run_statements.proofs.HavingLemmas.{closing_has, found_at}
use Rattle.fj_run_statements.proofs.closing.close_anyway.Goals as goal
use Rattle.fj_run_statements.proofs.closing.close_anyway.Goals.{then-not-unit, else-not-unit}

pub returns-after-not-unit-clause-doing : goal.returns-after-not-unit-clause-doing
returns-after-not-unit-clause-doing g c = λ variables st files.
    let kept : c.if-not-unit.closing ≡ (keeps (connected_of c.in-Some.unit.now) && unwrap_or c.args.keep true) = elim c.if-not-unit.branch [
      | then-not-unit w ↦ w.closing-is ∙ w.unwrap_or.ensures ∙ sym (ap (λ s. not s && unwrap_or c.args.keep true) w.if-not-unit.true)
      | else-not-unit w ↦ w.closing-is ∙ ap not w.if-not-unit.false ∙ sym (ap (λ s. not s && unwrap_or c.args.keep true) w.if-not-unit.false)
    ] in
    IfOk-weaker c.closing.result _ _ (λ next is. close_anyway_is g.F.FileStore.told g.F.FileStore.bytes variables st (core_of files c.args.core.now) c.args.keep (number_of c.args.unit) (connected_of c.in-Some.unit.now) c.if-not-unit.closing c.args.condition next
    c.in-Some.ensures kept is) c.closing.ensures.next

pub returns-after-not-unit-clause-files : goal.returns-after-not-unit-clause-files
returns-after-not-unit-clause-files g c = λ what have.
    let us = c.args.core.now.units in
    let u = connected_of c.in-Some.unit.now in
    IfOk-weaker c.closing.result _ _ (λ next is. closing_has next u.slot u _ _ c.args.core.now.names us what is (found_at us (number_of c.args.unit) u (sym c.in-Some.ensures)) tt have) c.closing.ensures.next
