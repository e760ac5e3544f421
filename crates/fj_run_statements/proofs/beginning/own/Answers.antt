use Rattle.std.proofs.Common.{Option, refl, ap, subst, ◌∙◌}
use Rattle.fj_statement.specs.declared.statement.Operand.{Operand}
use Rattle.fj_statement.specs.declared.statement.Statement.{Statement}
use Rattle.fj_statement.specs.declared.statement.Statement.TheVariants as statement
use Rattle.fj_meaning.specs.State.{Files}
use Rattle.fj_meaning.specs.Statement.{Stated, control_by}
use Rattle.fj_meaning_jobs.specs.Acting.{own}
use Rattle.fj_meaning_jobs.specs.Core.{Core}
use Rattle.fj_meaning_jobs.specs.Doing.{Doing as PlainDoing}
use Rattle.fj_run_units.specs.Files.{files_of}
use Rattle.fj_run_statements.specs.Doing.{IsDoing}
use Rattle.fj_run_statements.specs.State.{core_of}
use Rattle.fj_run_statements.proofs.BeginningLemmas.{asks_about, own_is, assign_front, close_front, end_front, open_front, inquire_front, takes_as, part_as}
use Rattle.fj_run_statements.proofs.FailingLemmas.{fails_as, still_as, on_err}
use Rattle.fj_run_statements.proofs.HavingLemmas.{opens_as}
use Rattle.fj_run_statements.proofs.OpeningLemmas.{meant}
use Rattle.fj_run_statements.proofs.StateLemmas.{keeps_answers}
use Rattle.fj_run_statements.proofs.StepLemmas.{asks_to_open}
use Rattle.fj_run_statements.proofs.beginning.own.Goals as goal

pub returns-in_err-assign-in-Assign-clause-front : goal.returns-in_err-assign-in-Assign-clause-front
returns-in_err-assign-in-Assign-clause-front g c = λ tells.
    assign_front c.from_residual.result (g.W.Sink.taken c.args.out.now) c.args.variables.now c.args.lined.now.line (core_of (files_of (g.D.Disk.held c.args.disk.now)) c.args.core.now) c.args.lined.now.what
    c.in-Assign.to c.in-Assign.from c.in-Assign.is

pub returns-in_err-assign-in-Assign-clause-pending : goal.returns-in_err-assign-in-Assign-clause-pending
returns-in_err-assign-in-Assign-clause-pending g c = keeps_answers c.args.core.now (record c.args.core.now { store = c.assign.new.store }) refl

pub returns-in_ok-assign-in-Assign-clause-pending : goal.returns-in_ok-assign-in-Assign-clause-pending
returns-in_ok-assign-in-Assign-clause-pending g c = keeps_answers c.args.core.now (record c.args.core.now { store = c.assign.new.store }) refl

pub returns-in-OpenUnit-clause-doing : goal.returns-in-OpenUnit-clause-doing
returns-in-OpenUnit-clause-doing g c = λ tells.
    let core : Core = core_of (files_of (g.D.Disk.held c.args.disk.now)) c.args.core.now in
    let what : Statement = c.args.lined.now.what in
    let st : Stated = (c.args.lined.now, control_by what) in
    meant g.D.File.FileStore.told g.D.File.FileStore.bytes c.args.variables.now st _ c.open.result _ _
    (own_is c.args.variables.now c.args.lined.now.line core what (statement.OpenUnit c.in-OpenUnit.unit c.in-OpenUnit.spec c.in-OpenUnit.iostat) c.in-OpenUnit.is)
    (c.open.ensures.doing tells c.args.variables.now st (asks_to_open what c.in-OpenUnit.unit c.in-OpenUnit.spec c.in-OpenUnit.iostat c.in-OpenUnit.is))

pub returns-in-OpenUnit-clause-files : goal.returns-in-OpenUnit-clause-files
returns-in-OpenUnit-clause-files g c = λ have.
    let what : Statement = c.args.lined.now.what in
    c.open.ensures.files what (opens_as what c.in-OpenUnit.unit c.in-OpenUnit.spec c.in-OpenUnit.iostat c.in-OpenUnit.is) have

pub returns-in-OpenUnit-clause-fault : goal.returns-in-OpenUnit-clause-fault
returns-in-OpenUnit-clause-fault g c = λ tells lost.
    fails_as _ _ c.open.new.core (g.D.Disk.held c.open.new.disk) (g.D.Disk.refusals c.args.disk.now) (g.D.Disk.refusals c.open.new.disk)
    (own_is c.args.variables.now c.args.lined.now.line (core_of (files_of (g.D.Disk.held c.args.disk.now)) c.args.core.now) c.args.lined.now.what
    (statement.OpenUnit c.in-OpenUnit.unit c.in-OpenUnit.spec c.in-OpenUnit.iostat) c.in-OpenUnit.is)
    (c.open.ensures.fault tells lost)

pub returns-in-OpenUnit-clause-front : goal.returns-in-OpenUnit-clause-front
returns-in-OpenUnit-clause-front g c = λ tells.
    open_front c.open.result (g.W.Sink.taken c.args.out.now) c.args.variables.now c.args.lined.now.line (core_of (files_of (g.D.Disk.held c.args.disk.now)) c.args.core.now) c.args.lined.now.what
    c.in-OpenUnit.unit c.in-OpenUnit.spec c.in-OpenUnit.iostat c.in-OpenUnit.is

pub returns-in-OpenUnit-clause-pending : goal.returns-in-OpenUnit-clause-pending
returns-in-OpenUnit-clause-pending g c = keeps_answers c.args.core.now c.open.new.core c.open.ensures.pending

pub returns-in-CloseUnit-clause-doing : goal.returns-in-CloseUnit-clause-doing
returns-in-CloseUnit-clause-doing g c = λ tells.
    let files : Files = files_of (g.D.Disk.held c.args.disk.now) in
    let core : Core = core_of files c.args.core.now in
    let what : Statement = c.args.lined.now.what in
    let st : Stated = (c.args.lined.now, control_by what) in
    meant g.D.File.FileStore.told g.D.File.FileStore.bytes c.args.variables.now st _ c.close.result _ _
    (own_is c.args.variables.now c.args.lined.now.line core what (statement.CloseUnit c.in-CloseUnit.unit c.in-CloseUnit.keep c.in-CloseUnit.iostat) c.in-CloseUnit.is)
    (c.close.ensures.doing c.args.variables.now st files)

pub returns-in-CloseUnit-clause-pending : goal.returns-in-CloseUnit-clause-pending
returns-in-CloseUnit-clause-pending g c = keeps_answers c.args.core.now c.args.core.now refl

pub returns-in-CloseUnit-clause-front : goal.returns-in-CloseUnit-clause-front
returns-in-CloseUnit-clause-front g c = λ tells.
    close_front c.close.result (g.W.Sink.taken c.args.out.now) c.args.variables.now c.args.lined.now.line (core_of (files_of (g.D.Disk.held c.args.disk.now)) c.args.core.now) c.args.lined.now.what
    c.in-CloseUnit.unit c.in-CloseUnit.keep c.in-CloseUnit.iostat c.in-CloseUnit.is

pub returns-in-CloseUnit-clause-stays : goal.returns-in-CloseUnit-clause-stays
returns-in-CloseUnit-clause-stays g c = λ tells. on_err c.close.result _ (λ name other. refl)

pub returns-in-WaitFor-clause-pending : goal.returns-in-WaitFor-clause-pending
returns-in-WaitFor-clause-pending g c = keeps_answers c.args.core.now c.args.core.now refl

pub returns-in-Move-clause-doing : goal.returns-in-Move-clause-doing
returns-in-Move-clause-doing g c = λ tells.
    let files : Files = files_of (g.D.Disk.held c.args.disk.now) in
    let core : Core = core_of files c.args.core.now in
    let what : Statement = c.args.lined.now.what in
    let st : Stated = (c.args.lined.now, control_by what) in
    subst (λ (d : PlainDoing). IsDoing g.D.File.FileStore.told g.D.File.FileStore.bytes c.args.variables.now st core c.motion.result d)
    (own_is c.args.variables.now c.args.lined.now.line core what (statement.Move c.in-Move.how c.in-Move.unit c.in-Move.iostat) c.in-Move.is)
    (c.motion.ensures.doing c.args.variables.now st files)

pub returns-in-Move-clause-pending : goal.returns-in-Move-clause-pending
returns-in-Move-clause-pending g c = keeps_answers c.args.core.now c.args.core.now refl

pub returns-in-Inquire-clause-doing : goal.returns-in-Inquire-clause-doing
returns-in-Inquire-clause-doing g c = λ tells.
    let core : Core = core_of (files_of (g.D.Disk.held c.args.disk.now)) c.args.core.now in
    let what : Statement = c.args.lined.now.what in
    let st : Stated = (c.args.lined.now, control_by what) in
    meant g.D.File.FileStore.told g.D.File.FileStore.bytes c.args.variables.now st _ c.inquire.result _ _
    (ap (λ (id : Option Operand). own (control_by what) c.args.variables.now c.args.lined.now.line core (statement.Inquire c.in-Inquire.about c.in-Inquire.asked id c.in-Inquire.iostat c.in-Inquire.done)) c.as_ref.ensures.value
    ∙ own_is c.args.variables.now c.args.lined.now.line core what (statement.Inquire c.in-Inquire.about c.in-Inquire.asked c.in-Inquire.id c.in-Inquire.iostat c.in-Inquire.done) c.in-Inquire.is)
    (c.inquire.ensures.doing tells st (asks_about what c.in-Inquire.about c.in-Inquire.asked c.in-Inquire.id _ c.in-Inquire.iostat c.in-Inquire.done c.in-Inquire.is c.as_ref.ensures.value))

pub returns-in-Inquire-clause-fault : goal.returns-in-Inquire-clause-fault
returns-in-Inquire-clause-fault g c = λ tells lost.
    let core : Core = core_of (files_of (g.D.Disk.held c.args.disk.now)) c.args.core.now in
    let what : Statement = c.args.lined.now.what in
    fails_as _ _ c.inquire.new.core (g.D.Disk.held c.inquire.new.disk) (g.D.Disk.refusals c.args.disk.now) (g.D.Disk.refusals c.inquire.new.disk)
    (ap (λ (id : Option Operand). own (control_by what) c.args.variables.now c.args.lined.now.line core (statement.Inquire c.in-Inquire.about c.in-Inquire.asked id c.in-Inquire.iostat c.in-Inquire.done)) c.as_ref.ensures.value
    ∙ own_is c.args.variables.now c.args.lined.now.line core what (statement.Inquire c.in-Inquire.about c.in-Inquire.asked c.in-Inquire.id c.in-Inquire.iostat c.in-Inquire.done) c.in-Inquire.is)
    (c.inquire.ensures.fault tells lost)

pub returns-in-Inquire-clause-front : goal.returns-in-Inquire-clause-front
returns-in-Inquire-clause-front g c = λ tells.
    inquire_front c.inquire.result (g.W.Sink.taken c.args.out.now) c.args.variables.now c.args.lined.now.line (core_of (files_of (g.D.Disk.held c.args.disk.now)) c.args.core.now) c.args.lined.now.what
    c.in-Inquire.about c.in-Inquire.asked c.in-Inquire.id c.in-Inquire.iostat c.in-Inquire.done c.in-Inquire.is

pub returns-in-Transfer-clause-doing : goal.returns-in-Transfer-clause-doing
returns-in-Transfer-clause-doing g c = λ tells.
    let files : Files = files_of (g.D.Disk.held c.args.disk.now) in
    let core : Core = core_of files c.args.core.now in
    let what : Statement = c.args.lined.now.what in
    let st : Stated = (c.args.lined.now, control_by what) in
    meant g.D.File.FileStore.told g.D.File.FileStore.bytes c.args.variables.now st _ c.read_or_write.result _ _
    (own_is c.args.variables.now c.args.lined.now.line core what (statement.Transfer c.in-Transfer.t) c.in-Transfer.is)
    (c.read_or_write.ensures.doing st files c.in-Transfer.is)

pub returns-in-Transfer-clause-front : goal.returns-in-Transfer-clause-front
returns-in-Transfer-clause-front g c = λ tells.
    let files : Files = files_of (g.D.Disk.held c.args.disk.now) in
    takes_as c.read_or_write.result (g.W.Sink.taken c.args.out.now) (g.W.Sink.taken c.read_or_write.new.out) c.args.core.now.output _ _
    (own_is c.args.variables.now c.args.lined.now.line (core_of files c.args.core.now) c.args.lined.now.what (statement.Transfer c.in-Transfer.t) c.in-Transfer.is)
    (c.read_or_write.ensures.front tells files)

pub returns-in-Transfer-clause-part : goal.returns-in-Transfer-clause-part
returns-in-Transfer-clause-part g c = λ tells lost.
    let files : Files = files_of (g.D.Disk.held c.args.disk.now) in
    part_as (g.W.Sink.taken c.args.out.now) (g.W.Sink.taken c.read_or_write.new.out) c.args.core.now.output _ _
    (own_is c.args.variables.now c.args.lined.now.line (core_of files c.args.core.now) c.args.lined.now.what (statement.Transfer c.in-Transfer.t) c.in-Transfer.is)
    (c.read_or_write.ensures.part tells files lost)

pub returns-in-End-clause-doing : goal.returns-in-End-clause-doing
returns-in-End-clause-doing g c = λ tells.
    let files : Files = files_of (g.D.Disk.held c.args.disk.now) in
    let core : Core = core_of files c.args.core.now in
    let what : Statement = c.args.lined.now.what in
    let st : Stated = (c.args.lined.now, control_by what) in
    meant g.D.File.FileStore.told g.D.File.FileStore.bytes c.args.variables.now st _ c.close_all.result _ _
    (own_is c.args.variables.now c.args.lined.now.line core what statement.End c.in-End.is)
    (c.close_all.ensures.doing c.args.variables.now st files)

pub returns-in-End-clause-pending : goal.returns-in-End-clause-pending
returns-in-End-clause-pending g c = keeps_answers c.args.core.now c.args.core.now refl

pub returns-in-End-clause-front : goal.returns-in-End-clause-front
returns-in-End-clause-front g c = λ tells.
    end_front c.close_all.result (g.W.Sink.taken c.args.out.now) c.args.variables.now c.args.lined.now.line (core_of (files_of (g.D.Disk.held c.args.disk.now)) c.args.core.now) c.args.lined.now.what c.in-End.is

pub returns-in-End-clause-stays : goal.returns-in-End-clause-stays
returns-in-End-clause-stays g c = λ tells. on_err c.close_all.result _ (λ name other. refl)

pub returns-in-OpenUnit-clause-stays : goal.returns-in-OpenUnit-clause-stays
returns-in-OpenUnit-clause-stays g c = λ tells.
    still_as c.open.result _ _ (g.D.Disk.held c.args.disk.now) (g.D.Disk.held c.open.new.disk)
    (own_is c.args.variables.now c.args.lined.now.line (core_of (files_of (g.D.Disk.held c.args.disk.now)) c.args.core.now) c.args.lined.now.what
    (statement.OpenUnit c.in-OpenUnit.unit c.in-OpenUnit.spec c.in-OpenUnit.iostat) c.in-OpenUnit.is)
    (c.open.ensures.stays tells)

pub returns-in-Inquire-clause-stays : goal.returns-in-Inquire-clause-stays
returns-in-Inquire-clause-stays g c = λ tells. on_err c.inquire.result _ (λ name other. ap (λ h. files_of h name) (c.inquire.ensures.held tells))

pub returns-in-Transfer-clause-stays : goal.returns-in-Transfer-clause-stays
returns-in-Transfer-clause-stays g c = λ tells. on_err c.read_or_write.result _ (λ name other. refl)
