use Rattle.std.proofs.Common.{refl, sym, ap, ◌∙◌}
use Rattle.fj_statement.specs.declared.statement.Statement.{Statement}
use Rattle.fj_statement.specs.declared.statement.Statement.TheVariants as statement
use Rattle.fj_store.specs.Variables.{Variables}
use Rattle.fj_meaning.specs.Statement.{Stated, control_by}
use Rattle.fj_meaning_jobs.specs.Core.{Core}
use Rattle.fj_meaning_jobs.specs.Doing.{finishes}
use Rattle.fj_run_statements.specs.State.{core_of}
use Rattle.fj_run_statements.specs.declared.state.Core.{Core as Kept}
use Rattle.fj_run_statements.proofs.BeginningLemmas.{instead_is, instead_nothing}
use Rattle.fj_run_statements.proofs.OpeningLemmas.{meant}
use Rattle.fj_run_statements.proofs.StateLemmas.{keeps_answers}
use Rattle.fj_run_statements.proofs.beginning.instead.Goals as goal

pub returns-in-CloseUnit-clause-doing : goal.returns-in-CloseUnit-clause-doing
returns-in-CloseUnit-clause-doing g c = λ files.
    let core : Core = core_of files c.args.core.now in
    let what : Statement = c.args.lined.now.what in
    let st : Stated = (c.args.lined.now, control_by what) in
    meant g.F.FileStore.told g.F.FileStore.bytes c.args.variables.now st _ c.close_anyway.result _ _
    (instead_is c.args.variables.now core what (statement.CloseUnit c.in-CloseUnit.unit c.in-CloseUnit.keep c.in-CloseUnit.iostat) c.args.condition c.in-CloseUnit.is)
    (c.close_anyway.ensures.doing c.args.variables.now st files)

pub returns-in-CloseUnit-clause-pending : goal.returns-in-CloseUnit-clause-pending
returns-in-CloseUnit-clause-pending g c = keeps_answers c.args.core.now c.args.core.now refl

pub returns-in-Inquire-clause-doing : goal.returns-in-Inquire-clause-doing
returns-in-Inquire-clause-doing g c = λ files.
    let core : Core = core_of files c.args.core.now in
    sym (instead_is c.args.variables.now core c.args.lined.now.what (statement.Inquire c.in-Inquire.about c.in-Inquire.asked c.in-Inquire.id c.in-Inquire.iostat c.in-Inquire.done) c.args.condition c.in-Inquire.is)
    ∙ ap (λ (vars : Variables). finishes (record core { vars = vars }) c.args.condition) (sym c.answer_none_pending.ensures.vars)

pub returns-in-Inquire-clause-pending : goal.returns-in-Inquire-clause-pending
returns-in-Inquire-clause-pending g c = let new : Kept = record c.args.core.now { store = c.answer_none_pending.new.store } in keeps_answers c.args.core.now new refl

pub returns-in-Transfer-clause-doing : goal.returns-in-Transfer-clause-doing
returns-in-Transfer-clause-doing g c = λ files.
    let core : Core = core_of files c.args.core.now in
    let what : Statement = c.args.lined.now.what in
    let st : Stated = (c.args.lined.now, control_by what) in
    meant g.F.FileStore.told g.F.FileStore.bytes c.args.variables.now st _ c.refuse.result _ _
    (instead_is c.args.variables.now core what (statement.Transfer c.in-Transfer.t) c.args.condition c.in-Transfer.is)
    (c.refuse.ensures.doing st files)

pub returns-in-End-clause-doing : goal.returns-in-End-clause-doing
returns-in-End-clause-doing g c = λ files.
    let core : Core = core_of files c.args.core.now in
    let what : Statement = c.args.lined.now.what in
    let st : Stated = (c.args.lined.now, control_by what) in
    meant g.F.FileStore.told g.F.FileStore.bytes c.args.variables.now st _ c.close_all.result _ _
    (instead_is c.args.variables.now core what statement.End c.args.condition c.in-End.is)
    (c.close_all.ensures.doing c.args.variables.now st files)

pub returns-in-End-clause-pending : goal.returns-in-End-clause-pending
returns-in-End-clause-pending g c = keeps_answers c.args.core.now c.args.core.now refl

pub returns-in_default-clause-doing : goal.returns-in_default-clause-doing
returns-in_default-clause-doing g c = λ files.
    instead_nothing c.args.variables.now (core_of files c.args.core.now) c.args.lined.now.what c.args.condition
    c.in_default.not-CloseUnit c.in_default.not-Inquire c.in_default.not-Transfer c.in_default.not-End

pub returns-in_default-clause-pending : goal.returns-in_default-clause-pending
returns-in_default-clause-pending g c = keeps_answers c.args.core.now c.args.core.now refl
