use Rattle.std.proofs.Common.{refl, sym, ap, subst, ◌∙◌}
use Rattle.fj_statement.specs.declared.statement.Statement.{Statement}
use Rattle.fj_store.specs.Storage.{values_of}
use Rattle.fj_meaning.specs.Statement.{Stated, control_by}
use Rattle.fj_meaning.specs.Transfers.{with_cells}
use Rattle.fj_meaning_jobs.specs.Core.{Core}
use Rattle.fj_meaning_jobs.specs.Desks.{Brought}
use Rattle.fj_meaning_jobs.specs.Doing.{Doing as PlainDoing}
use Rattle.fj_run_statements.specs.Doing.{IsDoing, carries, ends_behind}
use Rattle.fj_run_statements.specs.State.{core_of}
use Rattle.fj_run_statements.proofs.StateLemmas.{keeps_answers}
use Rattle.fj_run_statements.proofs.StepLemmas.{carries_nothing}
use Rattle.fj_run_statements.proofs.steps.carried.Goals as goal

pub returns-in-Transfer-clause-doing : goal.returns-in-Transfer-clause-doing
returns-in-Transfer-clause-doing g c = λ files o is.
    let core : Core = core_of files c.args.core.now in
    let what : Statement = c.args.lined.now.what in
    let st : Stated = (c.args.lined.now, control_by what) in
    let with_brought : Brought → Core = λ b. record core { vars = with_cells c.args.variables.now c.in-Transfer.t b.cells b.count (values_of c.args.core.now.store) } in
    subst (λ (d : PlainDoing). IsDoing g.F.FileStore.told g.F.FileStore.bytes c.args.variables.now st (core_of files c.carry.new.core) c.carry.result d)
    (ap (λ (b : Brought). ends_behind c.args.slot (with_brought b) b.condition) is ∙ ap (λ (w : Statement). carries c.args.variables.now core w c.args.slot o) (sym c.in-Transfer.is))
    (c.carry.ensures.doing st files)

pub returns-in_default-clause-doing : goal.returns-in_default-clause-doing
returns-in_default-clause-doing g c = λ files o is. carries_nothing c.args.variables.now (core_of files c.args.core.now) c.args.lined.now.what c.args.slot o c.in_default.not-Transfer

pub returns-in_default-clause-pending : goal.returns-in_default-clause-pending
returns-in_default-clause-pending g c = keeps_answers c.args.core.now c.args.core.now refl

pub returns-in-Transfer-clause-files : goal.returns-in-Transfer-clause-files
returns-in-Transfer-clause-files g c = λ have. c.carry.ensures.files c.args.lined.now.what have
