use Rattle.std.proofs.Common.{IfOk, refl, sym, ap, subst, ◌∙◌}
use Rattle.fj_statement.specs.declared.statement.Statement.{Statement}
use Rattle.fj_meaning.specs.State.{Files}
use Rattle.fj_meaning.specs.Statement.{Stated, control_by}
use Rattle.fj_meaning_jobs.specs.Core.{Core}
use Rattle.fj_run_units.specs.Files.{files_of}
use Rattle.fj_run_statements.specs.Doing.{goes_on}
use Rattle.fj_run_statements.specs.State.{core_of}
use Rattle.fj_run_statements.specs.declared.doing.After.{After}
use Rattle.fj_run_statements.proofs.ClosingLemmas.{connects_is}
use Rattle.fj_run_statements.proofs.FailingLemmas.{fails_as, on_err, still_as}
use Rattle.fj_run_statements.proofs.OpeningLemmas.{meant}
use Rattle.fj_run_statements.proofs.StepLemmas.{asks_to_open}
use Rattle.fj_meaning.specs.Connecting.{file_due}
use Rattle.fj_run_statements.proofs.HavingLemmas.{free_of}
use Rattle.std.proofs.Common.{length, ◌≤◌, arith}
use Rattle.fj_run_statements.specs.Having.{IsFreeNext}
use Rattle.fj_run_statements.specs.Jobs.{jobs_after, jobs_of}
use Rattle.fj_run_statements.proofs.JobLemmas.{if_one}
use Rattle.fj_run_statements.proofs.steps.go_on.Goals as goal

pub returns-in-ClosesAll-clause-doing : goal.returns-in-ClosesAll-clause-doing
returns-in-ClosesAll-clause-doing g c = λ tells.
    let files : Files = files_of (g.D.Disk.held c.args.disk.now) in
    let core : Core = core_of files c.args.core.now in
    let what : Statement = c.args.lined.now.what in
    let st : Stated = (c.args.lined.now, control_by what) in
    meant g.D.File.FileStore.told g.D.File.FileStore.bytes c.args.variables.now st _ c.close_all.result _ _ (ap (goes_on what core) (sym c.in-ClosesAll.is))
    (c.close_all.ensures.doing c.args.variables.now st files)

pub returns-in-Ok-clause-doing : goal.returns-in-Ok-clause-doing
returns-in-Ok-clause-doing g c = λ tells.
    let files : Files = files_of (g.D.Disk.held c.args.disk.now) in
    let core : Core = core_of files c.args.core.now in
    let what : Statement = c.args.lined.now.what in
    let st : Stated = (c.args.lined.now, control_by what) in
    meant g.D.File.FileStore.told g.D.File.FileStore.bytes c.args.variables.now st _ c.connect.result _ _
    (sym (connects_is what c.in-Connects.number c.in-OpenUnit.spec c.in-Ok.modes core (asks_to_open what c.in-OpenUnit.unit c.in-OpenUnit.spec c.in-OpenUnit.iostat c.in-OpenUnit.is) (sym c.settle_open.ensures.settled ∙ c.in-Ok.is))
    ∙ ap (goes_on what core) (sym c.in-Connects.is))
    (c.connect.ensures.doing tells c.args.variables.now st)

pub returns-in-Ok-clause-fault : goal.returns-in-Ok-clause-fault
returns-in-Ok-clause-fault g c = λ tells lost.
    let core : Core = core_of (files_of (g.D.Disk.held c.args.disk.now)) c.args.core.now in
    let what : Statement = c.args.lined.now.what in
    fails_as _ _ c.connect.new.core (g.D.Disk.held c.connect.new.disk) (g.D.Disk.refusals c.args.disk.now) (g.D.Disk.refusals c.connect.new.disk)
    (sym (connects_is what c.in-Connects.number c.in-OpenUnit.spec c.in-Ok.modes core (asks_to_open what c.in-OpenUnit.unit c.in-OpenUnit.spec c.in-OpenUnit.iostat c.in-OpenUnit.is) (sym c.settle_open.ensures.settled ∙ c.in-Ok.is))
    ∙ ap (goes_on what core) (sym c.in-Connects.is))
    (c.connect.ensures.fault tells lost)

pub returns-in-ClosesAll-clause-stays : goal.returns-in-ClosesAll-clause-stays
returns-in-ClosesAll-clause-stays g c = λ tells. on_err c.close_all.result _ (λ name other. refl)

pub returns-in-Ok-clause-stays : goal.returns-in-Ok-clause-stays
returns-in-Ok-clause-stays g c = λ tells.
    let core : Core = core_of (files_of (g.D.Disk.held c.args.disk.now)) c.args.core.now in
    let what : Statement = c.args.lined.now.what in
    still_as c.connect.result _ _ (g.D.Disk.held c.args.disk.now) (g.D.Disk.held c.connect.new.disk)
    (sym (connects_is what c.in-Connects.number c.in-OpenUnit.spec c.in-Ok.modes core (asks_to_open what c.in-OpenUnit.unit c.in-OpenUnit.spec c.in-OpenUnit.iostat c.in-OpenUnit.is) (sym c.settle_open.ensures.settled ∙ c.in-Ok.is))
    ∙ ap (goes_on what core) (sym c.in-Connects.is))
    (c.connect.ensures.stays tells)

pub returns-in-ClosesAll-clause-files : goal.returns-in-ClosesAll-clause-files
returns-in-ClosesAll-clause-files g c = λ free have. c.close_all.ensures.files c.args.lined.now.what have

pub returns-in-Ok-clause-files : goal.returns-in-Ok-clause-files
returns-in-Ok-clause-files g c = λ free have.
    let what : Statement = c.args.lined.now.what in
    c.connect.ensures.files what (asks_to_open what c.in-OpenUnit.unit c.in-OpenUnit.spec c.in-OpenUnit.iostat c.in-OpenUnit.is) (subst (λ a. IsFreeNext a what c.args.core.now.units) c.in-Connects.is free) have

pub returns-in-Ok-clause-fits : goal.returns-in-Ok-clause-fits
returns-in-Ok-clause-fits g c = λ free have.
    let what : Statement = c.args.lined.now.what in
    let f = free_of what c.in-OpenUnit.spec c.in-Connects.number c.args.core.now.units (asks_to_open what c.in-OpenUnit.unit c.in-OpenUnit.spec c.in-OpenUnit.iostat c.in-OpenUnit.is)
    (subst (λ a. IsFreeNext a what c.args.core.now.units) c.in-Connects.is free) in
    c.connect.ensures.fits (have.0 (file_due c.in-OpenUnit.spec c.in-Connects.number) ∙ f.free)

pub returns-in-ClosesAll-clause-jobs : goal.returns-in-ClosesAll-clause-jobs
returns-in-ClosesAll-clause-jobs g c =
    let us = c.args.core.now.units in
    subst (λ (a : After). IfOk c.close_all.result (λ next. jobs_of next (length us) ≤ jobs_after a (length us))) (sym c.in-ClosesAll.is) c.close_all.ensures.jobs

pub returns-in-Ok-clause-jobs : goal.returns-in-Ok-clause-jobs
returns-in-Ok-clause-jobs g c =
    let us = c.args.core.now.units in
    if_one c.connect.result (length c.connect.new.core.units) (jobs_after c.args.after (length us)) (subst (λ (a : After). 1 ≤ jobs_after a (length us)) (sym c.in-Connects.is) (omega arith)) c.connect.ensures.jobs
