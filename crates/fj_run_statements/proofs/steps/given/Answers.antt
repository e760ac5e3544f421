use Rattle.std.proofs.Common.{◌≡◌, refl, sym, ap, subst}
use Rattle.fj_meaning.specs.Statement.{Stated, control_by}
use Rattle.fj_meaning_jobs.specs.Core.{Core}
use Rattle.fj_run_statements.specs.Doing.{entered}
use Rattle.fj_run_statements.specs.State.{KeepsAnswers, core_of}
use Rattle.fj_run_statements.specs.declared.state.Core.{Core as Held}
use Rattle.fj_run_statements.proofs.StateLemmas.{keeps_answers}
use Rattle.fj_run_statements.proofs.StepLemmas.{pends_is, pends_nothing}
use Rattle.fj_run_statements.proofs.steps.given.Goals as goal
use Rattle.fj_run_statements.proofs.steps.given.Goals.{in-Transfer+in_ok-enter-in-Pends, in_default}

pub returns-in-Finishes-clause-pending : goal.returns-in-Finishes-clause-pending
returns-in-Finishes-clause-pending g c = keeps_answers c.args.core.now c.args.core.now refl

pub returns-after-lined-clause-doing : goal.returns-after-lined-clause-doing
returns-after-lined-clause-doing g c = λ files.
    let core : Core = core_of files c.args.core.now in
    let st : Stated = (c.args.lined.now, control_by c.args.lined.now.what) in
    elim c.match-lined.branch [
      | in-Transfer+in_ok-enter-in-Pends w ↦
          pends_is c.args.variables.now st core (core_of files c.match-lined.core) c.args.next c.in-Pends.unit c.in-Pends.slot c.args.number w.in-Transfer.t c.in-Pends.is w.in-Transfer.is
          (subst (λ (x : Held). core_of files x ≡ entered c.args.variables.now core w.in-Transfer.t c.in-Pends.unit c.in-Pends.slot c.args.number) (sym w.core-is) (w.in_ok-enter-in-Pends.ensures.entered files))
      | in_default w ↦
          pends_nothing c.args.variables.now st core (core_of files c.match-lined.core) c.args.next c.in-Pends.unit c.in-Pends.slot c.args.number c.in-Pends.is w.in_default.not-Transfer
          (ap (λ (x : Held). core_of files x) w.core-is)
    ]

pub returns-after-lined-clause-pending : goal.returns-after-lined-clause-pending
returns-after-lined-clause-pending g c =
    elim c.match-lined.branch [
      | in-Transfer+in_ok-enter-in-Pends w ↦ subst (λ (x : Held). KeepsAnswers c.args.core.now x) (sym w.core-is) w.enter.ensures.pending
      | in_default w ↦ subst (λ (x : Held). KeepsAnswers c.args.core.now x) (sym w.core-is) (keeps_answers c.args.core.now c.args.core.now refl)
    ]
