use Rattle.std.proofs.Common.{refl, sym, ap, ◌∙◌, subst, ◌≡◌, true, false}
use Rattle.fj_outside.specs.Holdings.{Holdings}
use Rattle.fj_statement.specs.declared.statement.Statement.{Statement}
use Rattle.fj_meaning.specs.Statement.{control_by}
use Rattle.fj_meaning_jobs.specs.Core.{connected_at}
use Rattle.fj_run_units.specs.Files.{files_of}
use Rattle.fj_run_units.specs.Names.{left_of, stands}
use Rattle.fj_run_units.proofs.Files.{used_name}
use Rattle.fj_run_units.proofs.Returning.{due_back, names_back}
use Rattle.fj_run_statements.specs.Doing.{goes_on}
use Rattle.fj_run_statements.specs.State.{core_of}
use Rattle.fj_run_statements.proofs.FailingLemmas.{fails_as, fails_since, fails_closing, goes_on_there, stands_as, stands_since, stands_still}
use Rattle.fj_run_statements.proofs.OpeningLemmas.{meant}
use Rattle.fj_run_statements.proofs.StepLemmas.{closed_goes_on, other_closed}
use Rattle.fj_run_statements.specs.Having.{IsFreeNext}
use Rattle.std.proofs.Common.{length}
use Rattle.fj_run_statements.proofs.HavingLemmas.{closed_has, comes_due}
use Rattle.fj_run_statements.proofs.JobLemmas.{closed_less, less_jobs}
use Rattle.fj_run_statements.proofs.steps.closed.Goals as goal

pub close_file-requires : goal.close_file-requires
close_file-requires g c = λ tells.
    used_name c.args.core.now.names (g.D.Disk.held c.args.disk.now) c.args.connection.name (ap (stands c.args.core.now.names) (sym c.name.ensures) ∙ sym c.if-not-holds.ensures) (c.requires.names tells)

pub go_on-requires : goal.go_on-requires
go_on-requires g c = record {
  names = λ tells.
      let told : g.D.Disk.tells c.args.disk.now = c.in-Ok.ensures.telling.1 tells in
      names_back c.args.core.now.names c.remove.new.self (g.D.Disk.held c.args.disk.now) (g.D.Disk.held c.close_file.new.disk) c.args.connection.name (g.D.File.FileStore.bytes c.args.connection.file) _ c.args.keep
      c.close_file.result (c.remove.ensures ∙ ap (left_of c.args.core.now.names) c.name-2.ensures) (c.close_file.ensures.back told) (c.close_file.ensures.err told) (c.requires.names told);
}

pub returns-in-Ok-clause-doing : goal.returns-in-Ok-clause-doing
returns-in-Ok-clause-doing g c = λ tells conn answer is.
    let held : Holdings = g.D.Disk.held c.args.disk.now in
    let what : Statement = c.args.lined.now.what in
    meant g.D.File.FileStore.told g.D.File.FileStore.bytes c.args.variables.now (c.args.lined.now, control_by what) _ c.go_on.result _ _
    (closed_goes_on g.D.File.FileStore.told g.D.File.FileStore.bytes (core_of (files_of held) c.args.core.now) held (g.D.Disk.held c.close_file.new.disk) c.args.number c.args.connection conn _ c.args.keep answer
    what c.args.after _ (sym c.if-not-is_due.ensures) is refl (c.in-Ok.ensures.back tells) c.remove-2.ensures.left)
    (c.go_on.ensures.doing (c.in-Ok.ensures.telling.0 tells))

pub returns-in-Err-clause-names : goal.returns-in-Err-clause-names
returns-in-Err-clause-names g c = λ tells.
    names_back c.args.core.now.names c.remove.new.self (g.D.Disk.held c.args.disk.now) (g.D.Disk.held c.close_file.new.disk) c.args.connection.name (g.D.File.FileStore.bytes c.args.connection.file) _ c.args.keep
    c.close_file.result (c.remove.ensures ∙ ap (left_of c.args.core.now.names) c.name-2.ensures) (c.close_file.ensures.back tells) (c.close_file.ensures.err tells) (c.requires.names tells)

pub returns-in-Ok-clause-fault : goal.returns-in-Ok-clause-fault
returns-in-Ok-clause-fault g c = λ tells conn answer is lost.
    let held : Holdings = g.D.Disk.held c.args.disk.now in
    let what : Statement = c.args.lined.now.what in
    fails_since _ c.go_on.new.core (g.D.Disk.held c.go_on.new.disk) (g.D.Disk.refusals c.args.disk.now) (g.D.Disk.refusals c.close_file.new.disk) (g.D.Disk.refusals c.go_on.new.disk) (c.in-Ok.ensures.own tells)
    (fails_as _ _ c.go_on.new.core (g.D.Disk.held c.go_on.new.disk) (g.D.Disk.refusals c.close_file.new.disk) (g.D.Disk.refusals c.go_on.new.disk)
    (closed_goes_on g.D.File.FileStore.told g.D.File.FileStore.bytes (core_of (files_of held) c.args.core.now) held (g.D.Disk.held c.close_file.new.disk) c.args.number c.args.connection conn _ c.args.keep answer
    what c.args.after _ (sym c.if-not-is_due.ensures) is refl (c.in-Ok.ensures.back tells) c.remove-2.ensures.left)
    (c.go_on.ensures.fault (c.in-Ok.ensures.telling.0 tells) lost))

pub returns-in-Err-clause-fault : goal.returns-in-Err-clause-fault
returns-in-Err-clause-fault g c = λ tells conn answer is lost.
    let held : Holdings = g.D.Disk.held c.args.disk.now in
    let left : Holdings = g.D.Disk.held c.close_file.new.disk in
    fails_closing g.D.File.FileStore.told g.D.File.FileStore.bytes (core_of (files_of held) c.args.core.now) held left c.args.number c.args.connection conn c.args.keep answer
    c.args.lined.now.what c.args.after _ (g.D.Disk.refusals c.args.disk.now) (g.D.Disk.refusals c.close_file.new.disk)
    (sym c.if-not-is_due.ensures) is refl c.remove-2.ensures.left (c.in-Err.ensures.own tells).1
    (due_back held left c.args.connection.name (g.D.File.FileStore.bytes c.args.connection.file) _ c.args.keep c.close_file.result (g.D.Disk.refusals c.args.disk.now) (g.D.Disk.refusals c.close_file.new.disk)
    (c.close_file.ensures.back tells) (c.close_file.ensures.err tells) c.close_file.ensures.kept (c.close_file.ensures.own tells))

pub returns-in-Err-clause-stands : goal.returns-in-Err-clause-stands
returns-in-Err-clause-stands g c = λ tells conn answer is fits.
    let held : Holdings = g.D.Disk.held c.args.disk.now in
    let left : Holdings = g.D.Disk.held c.close_file.new.disk in
    (fails_closing g.D.File.FileStore.told g.D.File.FileStore.bytes (core_of (files_of held) c.args.core.now) held left c.args.number c.args.connection conn c.args.keep answer
    c.args.lined.now.what c.args.after _ (g.D.Disk.refusals c.args.disk.now) (g.D.Disk.refusals c.close_file.new.disk)
    (sym c.if-not-is_due.ensures) is refl c.remove-2.ensures.left (c.in-Err.ensures.own tells).1
    (due_back held left c.args.connection.name (g.D.File.FileStore.bytes c.args.connection.file) _ c.args.keep c.close_file.result (g.D.Disk.refusals c.args.disk.now) (g.D.Disk.refusals c.close_file.new.disk)
    (c.close_file.ensures.back tells) (c.close_file.ensures.err tells) c.close_file.ensures.kept (c.close_file.ensures.own tells))).stands

pub returns-in-Ok-clause-stands : goal.returns-in-Ok-clause-stands
returns-in-Ok-clause-stands g c = λ tells conn answer is fits.
    let held : Holdings = g.D.Disk.held c.args.disk.now in
    let what : Statement = c.args.lined.now.what in
    let mid : Holdings = g.D.Disk.held c.close_file.new.disk in
    let core = core_of (files_of mid) (record c.args.core.now { names = c.remove.new.self; units = c.remove-2.new.self }) in
    let left : Holdings = g.D.Disk.held c.go_on.new.disk in
    stands_since c.go_on.result _ c.go_on.new.core left (g.D.Disk.refusals c.args.disk.now) (g.D.Disk.refusals c.close_file.new.disk) (g.D.Disk.refusals c.go_on.new.disk) (c.in-Ok.ensures.own tells)
    (stands_as c.go_on.result (goes_on what core c.args.after) _ c.go_on.new.core left (g.D.Disk.refusals c.close_file.new.disk) (g.D.Disk.refusals c.go_on.new.disk)
    (closed_goes_on g.D.File.FileStore.told g.D.File.FileStore.bytes (core_of (files_of held) c.args.core.now) held mid c.args.number c.args.connection conn _ c.args.keep answer
    what c.args.after _ (sym c.if-not-is_due.ensures) is refl (c.in-Ok.ensures.back tells) c.remove-2.ensures.left)
    (stands_still c.go_on.result core (goes_on what core c.args.after) c.go_on.new.core mid left (g.D.Disk.refusals c.close_file.new.disk) (g.D.Disk.refusals c.go_on.new.disk)
    (goes_on_there what core c.args.after) refl c.go_on.ensures.units (c.go_on.ensures.stays (c.in-Ok.ensures.telling.0 tells))))

pub returns-then-not-holds-clause-stands : goal.returns-then-not-holds-clause-stands
returns-then-not-holds-clause-stands g c = λ tells conn answer is fits. absurd (fits refl)

pub returns-then-not-is_due-clause-doing : goal.returns-then-not-is_due-clause-doing
returns-then-not-is_due-clause-doing g c = λ tells conn answer is.
    other_closed g.D.File.FileStore.told g.D.File.FileStore.bytes (core_of (files_of (g.D.Disk.held c.args.disk.now)) c.args.core.now) c.args.connection conn c.args.keep _ answer
    (connected_at c.args.core.now.units c.args.number) (sym c.if-not-is_due.ensures) is

pub returns-in-Ok-clause-files : goal.returns-in-Ok-clause-files
returns-in-Ok-clause-files g c = λ have.
    let core = c.args.core.now in
    c.go_on.ensures.files (subst (IsFreeNext c.args.after c.args.lined.now.what) (sym c.remove-2.ensures.left) have.2)
    (closed_has core.units c.remove-2.new.self c.args.number core.names c.remove.new.self c.args.connection.name (sym c.if-not-is_due.ensures) (c.remove.ensures ∙ ap (left_of core.names) c.name-2.ensures) have.0 c.remove-2.ensures.files)

pub returns-in-Ok-clause-fits : goal.returns-in-Ok-clause-fits
returns-in-Ok-clause-fits g c = λ have.
    let core = c.args.core.now in
    c.go_on.ensures.fits (subst (IsFreeNext c.args.after c.args.lined.now.what) (sym c.remove-2.ensures.left) have.2)
    (closed_has core.units c.remove-2.new.self c.args.number core.names c.remove.new.self c.args.connection.name (sym c.if-not-is_due.ensures) (c.remove.ensures ∙ ap (left_of core.names) c.name-2.ensures) have.0 c.remove-2.ensures.files)

pub returns-then-not-holds-clause-fits : goal.returns-then-not-holds-clause-fits
returns-then-not-holds-clause-fits g c = λ have e.
    let core = c.args.core.now in
    let there = comes_due core.units c.args.number core.names c.args.connection.name have.0 (sym c.if-not-is_due.ensures) in
    let z : false ≡ true = c.if-not-holds.ensures ∙ ap (stands core.names) c.name.ensures ∙ there in
    absurd (let bad : ⊥ = cc in bad)

pub returns-in-Ok-clause-jobs : goal.returns-in-Ok-clause-jobs
returns-in-Ok-clause-jobs g c =
    let core = c.args.core.now in
    let less = closed_less core.units c.remove-2.new.self c.args.number c.args.connection.name (sym c.if-not-is_due.ensures) c.remove-2.ensures.left in
    less_jobs c.go_on.result c.args.after (length c.remove-2.new.self) (length core.units) c.go_on.new.core.units less c.go_on.ensures.jobs

pub returns-in-Ok-clause-vain : goal.returns-in-Ok-clause-vain
returns-in-Ok-clause-vain g c = λ have.
    let core = c.args.core.now in
    c.go_on.ensures.vain
    (closed_has core.units c.remove-2.new.self c.args.number core.names c.remove.new.self c.args.connection.name (sym c.if-not-is_due.ensures) (c.remove.ensures ∙ ap (left_of core.names) c.name-2.ensures) have.0 c.remove-2.ensures.files)

pub returns-in-Err-clause-vain : goal.returns-in-Err-clause-vain
returns-in-Err-clause-vain g c = λ have.
    let core = c.args.core.now in
    closed_has core.units c.remove-2.new.self c.args.number core.names c.remove.new.self c.args.connection.name (sym c.if-not-is_due.ensures) (c.remove.ensures ∙ ap (left_of core.names) c.name-2.ensures) have.0 c.remove-2.ensures.files
