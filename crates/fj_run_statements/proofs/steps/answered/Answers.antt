use Rattle.std.proofs.Common.{◌≡◌, ℕ, refl, sym, ap, ◌∙◌, subst, length, ◌≤◌, IfOk}
use Rattle.std.specs.Option.{option_map}
use Rattle.fj_bay.specs.Jobs.{Job as Task, Answer}
use Rattle.fj_bay.specs.Plain.{looked_of, reply_of}
use Rattle.fj_statement.specs.declared.statement.Statement.{Statement}
use Rattle.fj_meaning.specs.State.{Files}
use Rattle.fj_meaning.specs.Statement.{Stated, control_by}
use Rattle.fj_meaning_jobs.specs.Core.{Core, connected_at}
use Rattle.fj_meaning_jobs.specs.Desks.{brought_by}
use Rattle.fj_run_pending.specs.Plain.{brought_of}
use Rattle.fj_run_pending.specs.declared.held.Told.{Told}
use Rattle.fj_run_units.specs.Files.{files_of}
use Rattle.fj_run_units.specs.Having.{HaveFiles}
use Rattle.fj_run_statements.specs.Doing.{IsDoing, closed, goes_on, looks, then_of}
use Rattle.fj_run_statements.specs.Having.{HaveThen}
use Rattle.fj_run_statements.specs.Jobs.{jobs_behind, jobs_of}
use Rattle.fj_run_statements.specs.State.{core_of}
use Rattle.fj_run_statements.specs.declared.doing.Then.{Then}
use Rattle.fj_run_statements.proofs.FailingLemmas.{fails_as, looks_there, on_err, stands_as, stands_here}
use Rattle.fj_run_statements.proofs.JobLemmas.{none_when_ended}
use Rattle.fj_run_statements.proofs.OpeningLemmas.{meant}
use Rattle.fj_run_statements.proofs.StateLemmas.{keeps_answers}
use Rattle.fj_run_statements.proofs.StepLemmas.{brought_is, detached_is, looked_is, none_closed, none_out}
use Rattle.fj_run_statements.proofs.steps.answered.Goals as goal

pub returns-in-Carries-clause-doing : goal.returns-in-Carries-clause-doing
returns-in-Carries-clause-doing g c = λ tells task is.
    let core : Core = core_of (files_of (g.D.Disk.held c.args.disk.now)) c.args.core.now in
    let what : Statement = c.args.lined.now.what in
    let st : Stated = (c.args.lined.now, control_by what) in
    let reply : Answer = reply_of c.args.answer in
    let brings : brought_of c.told_by-told.result ≡ brought_by (task, reply) =
    ap (λ (t : Told). brought_of t) c.told_by-told.ensures ∙ brought_is g.D.File.FileStore.told g.D.File.FileStore.bytes c.args.job task reply is in
    subst (λ (t : Then). IsDoing g.D.File.FileStore.told g.D.File.FileStore.bytes c.args.variables.now st (core_of (files_of (g.D.Disk.held c.args.disk.now)) c.carried.new.core) c.carried.result
    (then_of c.args.variables.now st core t (task, reply))) (sym c.in-Carries.is)
    (c.carried.ensures.doing (files_of (g.D.Disk.held c.args.disk.now)) (task, reply) brings)

pub returns-in-Some-clause-doing : goal.returns-in-Some-clause-doing
returns-in-Some-clause-doing g c = λ tells task is.
    let files : Files = files_of (g.D.Disk.held c.args.disk.now) in
    let core : Core = core_of files c.args.core.now in
    let what : Statement = c.args.lined.now.what in
    let st : Stated = (c.args.lined.now, control_by what) in
    let reply : Answer = reply_of c.args.answer in
    let number : ℕ = c.in-Closes.number in
    let out = detached_is g.D.File.FileStore.told g.D.File.FileStore.bytes c.args.job c.in-Some.connection task (sym c.in-Some.ensures) is in
    meant g.D.File.FileStore.told g.D.File.FileStore.bytes c.args.variables.now st _ c.closed.result _ _
    (ap (λ (t : Task). closed core (connected_at core.units number) c.in-Closes.keep (λ (new : Core). goes_on what new c.in-Closes.after) (t, reply)) out.2
    ∙ ap (λ (t : Then). then_of c.args.variables.now st core t (task, reply)) (sym c.in-Closes.is))
    (c.closed.ensures.doing tells out.0 reply out.1)

pub returns-in-Some-clause-fault : goal.returns-in-Some-clause-fault
returns-in-Some-clause-fault g c = λ tells task is lost.
    let core : Core = core_of (files_of (g.D.Disk.held c.args.disk.now)) c.args.core.now in
    let what : Statement = c.args.lined.now.what in
    let st : Stated = (c.args.lined.now, control_by what) in
    let reply : Answer = reply_of c.args.answer in
    let number : ℕ = c.in-Closes.number in
    let out = detached_is g.D.File.FileStore.told g.D.File.FileStore.bytes c.args.job c.in-Some.connection task (sym c.in-Some.ensures) is in
    fails_as _ _ c.closed.new.core (g.D.Disk.held c.closed.new.disk) (g.D.Disk.refusals c.args.disk.now) (g.D.Disk.refusals c.closed.new.disk)
    (ap (λ (t : Task). closed core (connected_at core.units number) c.in-Closes.keep (λ (new : Core). goes_on what new c.in-Closes.after) (t, reply)) out.2
    ∙ ap (λ (t : Then). then_of c.args.variables.now st core t (task, reply)) (sym c.in-Closes.is))
    (c.closed.ensures.fault tells out.0 reply out.1 lost)

pub returns-in-Some-clause-pending : goal.returns-in-Some-clause-pending
returns-in-Some-clause-pending g c = keeps_answers c.args.core.now c.closed.new.core c.closed.ensures.pending

pub returns-in-Attaches-clause-pending : goal.returns-in-Attaches-clause-pending
returns-in-Attaches-clause-pending g c = keeps_answers c.args.core.now (record c.args.core.now { units = c.in-Attaches.units }) refl

pub returns-in_ok-looked-in-Looks-clause-doing : goal.returns-in_ok-looked-in-Looks-clause-doing
returns-in_ok-looked-in-Looks-clause-doing g c = λ tells task is.
    let files : Files = files_of (g.D.Disk.held c.args.disk.now) in
    let core : Core = core_of files c.args.core.now in
    let what : Statement = c.args.lined.now.what in
    let st : Stated = (c.args.lined.now, control_by what) in
    let reply : Answer = reply_of c.args.answer in
    let variables = c.args.variables.now in
    subst (λ (t : Then). IsDoing g.D.File.FileStore.told g.D.File.FileStore.bytes variables st (core_of files c.looked.new.core) c.in_ok-looked-in-Looks.field-0 (then_of variables st core t (task, reply))) (sym c.in-Looks.is)
    (c.in_ok-looked-in-Looks.ensures.doing files (task, reply) (ap (option_map looked_of) c.look_in.ensures ∙ looked_is g.D.File.FileStore.told g.D.File.FileStore.bytes c.args.job task is))

pub returns-in-Changes-clause-pending : goal.returns-in-Changes-clause-pending
returns-in-Changes-clause-pending g c = keeps_answers c.args.core.now (record c.args.core.now { units = c.set_modes.new.self }) refl

pub returns-in-Finishes-clause-pending : goal.returns-in-Finishes-clause-pending
returns-in-Finishes-clause-pending g c = keeps_answers c.args.core.now c.args.core.now refl

pub returns-in_default-clause-doing : goal.returns-in_default-clause-doing
returns-in_default-clause-doing g c = λ tells task is.
    let core : Core = core_of (files_of (g.D.Disk.held c.args.disk.now)) c.args.core.now in
    let what : Statement = c.args.lined.now.what in
    let st : Stated = (c.args.lined.now, control_by what) in
    let reply : Answer = reply_of c.args.answer in
    ap (λ (t : Then). then_of c.args.variables.now st core t (task, reply)) c.in-Closes.is
    ∙ none_closed core c.in-Closes.keep _ (task, reply) (connected_at core.units c.in-Closes.number)
    (none_out g.D.File.FileStore.told g.D.File.FileStore.bytes c.args.job task is (sym c.in_default.ensures))

pub returns-in_default-clause-pending : goal.returns-in_default-clause-pending
returns-in_default-clause-pending g c = keeps_answers c.args.core.now c.args.core.now refl

pub returns-in_default-clause-files : goal.returns-in_default-clause-files
returns-in_default-clause-files g c = λ have.
    let core = c.args.core.now in
    let it = subst (λ (t : Then). HaveThen t core.names core.units c.args.lined.now.what) c.in-Closes.is have in
    it.0

pub returns-in_err-looked-in-Looks-clause-stands : goal.returns-in_err-looked-in-Looks-clause-stands
returns-in_err-looked-in-Looks-clause-stands g c = λ tells task is fits.
    let held = g.D.Disk.held c.args.disk.now in
    let own = g.D.Disk.refusals c.args.disk.now in
    let core : Core = core_of (files_of held) c.args.core.now in
    let variables = c.args.variables.now in
    let what : Statement = c.args.lined.now.what in
    let st : Stated = (c.args.lined.now, control_by what) in
    let reply : Answer = reply_of c.args.answer in
    stands_as c.from_residual.result (looks variables core what (task, reply)) _ c.looked.new.core held own own (ap (λ (t : Then). then_of variables st core t (task, reply)) (sym c.in-Looks.is))
    (stands_here c.from_residual.result core (looks variables core what (task, reply)) c.looked.new.core held own own (looks_there variables core what (task, reply)) refl c.looked.ensures.units)

pub returns-in-Some-clause-stands : goal.returns-in-Some-clause-stands
returns-in-Some-clause-stands g c = λ tells task is fits.
    let core : Core = core_of (files_of (g.D.Disk.held c.args.disk.now)) c.args.core.now in
    let what : Statement = c.args.lined.now.what in
    let st : Stated = (c.args.lined.now, control_by what) in
    let reply : Answer = reply_of c.args.answer in
    let number : ℕ = c.in-Closes.number in
    let out = detached_is g.D.File.FileStore.told g.D.File.FileStore.bytes c.args.job c.in-Some.connection task (sym c.in-Some.ensures) is in
    stands_as c.closed.result _ _ c.closed.new.core (g.D.Disk.held c.closed.new.disk) (g.D.Disk.refusals c.args.disk.now) (g.D.Disk.refusals c.closed.new.disk)
    (ap (λ (t : Task). closed core (connected_at core.units number) c.in-Closes.keep (λ (new : Core). goes_on what new c.in-Closes.after) (t, reply)) out.2
    ∙ ap (λ (t : Then). then_of c.args.variables.now st core t (task, reply)) (sym c.in-Closes.is))
    (c.closed.ensures.stands tells out.0 reply out.1 fits)

pub returns-in-Carries-clause-files : goal.returns-in-Carries-clause-files
returns-in-Carries-clause-files g c = λ have.
    let core = c.args.core.now in
    let it = subst (λ (t : Then). HaveThen t core.names core.units c.args.lined.now.what) c.in-Carries.is have in
    c.carried.ensures.files it

pub returns-in-Some-clause-files : goal.returns-in-Some-clause-files
returns-in-Some-clause-files g c = λ have.
    let core = c.args.core.now in
    let it = subst (λ (t : Then). HaveThen t core.names core.units c.args.lined.now.what) c.in-Closes.is have in
    c.closed.ensures.files it

pub returns-in-Attaches-clause-files : goal.returns-in-Attaches-clause-files
returns-in-Attaches-clause-files g c = λ have.
    let core = c.args.core.now in
    subst (λ (t : Then). HaveThen t core.names core.units c.args.lined.now.what) c.in-Attaches.is have

pub returns-in-Some-clause-vain : goal.returns-in-Some-clause-vain
returns-in-Some-clause-vain g c = λ have.
    let core = c.args.core.now in
    c.closed.ensures.vain (subst (λ (t : Then). HaveThen t core.names core.units c.args.lined.now.what) c.in-Closes.is have)

pub returns-in_err-looked-in-Looks-clause-vain : goal.returns-in_err-looked-in-Looks-clause-vain
returns-in_err-looked-in-Looks-clause-vain g c = λ have.
    let core = c.args.core.now in
    let it = subst (λ (t : Then). HaveThen t core.names core.units c.args.lined.now.what) c.in-Looks.is have in
    let new = c.looked.new.core in
    on_err c.from_residual.result (HaveFiles new.names new.units) (subst (HaveFiles new.names) (sym c.looked.ensures.units) (subst (λ ns. HaveFiles ns core.units) (sym c.looked.ensures.names) it))

pub returns-in_ok-looked-in-Looks-clause-files : goal.returns-in_ok-looked-in-Looks-clause-files
returns-in_ok-looked-in-Looks-clause-files g c = λ have.
    let core = c.args.core.now in
    let it = subst (λ (t : Then). HaveThen t core.names core.units c.args.lined.now.what) c.in-Looks.is have in
    c.in_ok-looked-in-Looks.ensures.files it

pub returns-in-Changes-clause-files : goal.returns-in-Changes-clause-files
returns-in-Changes-clause-files g c = λ have.
    let core = c.args.core.now in
    let it = subst (λ (t : Then). HaveThen t core.names core.units c.args.lined.now.what) c.in-Changes.is have in
    c.set_modes.ensures.files core.names it

pub returns-in-Finishes-clause-files : goal.returns-in-Finishes-clause-files
returns-in-Finishes-clause-files g c = λ have.
    let core = c.args.core.now in
    let it = subst (λ (t : Then). HaveThen t core.names core.units c.args.lined.now.what) c.in-Finishes.is have in
    it

pub returns-in-Carries-clause-jobs : goal.returns-in-Carries-clause-jobs
returns-in-Carries-clause-jobs g c =
    let most = length c.args.core.now.units in
    subst (λ (t : Then). jobs_of c.carried.result (length c.carried.new.core.units) ≤ jobs_behind t most) (sym c.in-Carries.is) (c.carried.ensures.jobs (length c.carried.new.core.units))

pub returns-in-Some-clause-jobs : goal.returns-in-Some-clause-jobs
returns-in-Some-clause-jobs g c =
    let most = length c.args.core.now.units in
    subst (λ (t : Then). IfOk c.closed.result (λ does. jobs_of does (length c.closed.new.core.units) ≤ jobs_behind t most)) (sym c.in-Closes.is) c.closed.ensures.jobs

pub returns-in_ok-looked-in-Looks-clause-jobs : goal.returns-in_ok-looked-in-Looks-clause-jobs
returns-in_ok-looked-in-Looks-clause-jobs g c = none_when_ended c.in_ok-looked-in-Looks.field-0 (length c.looked.new.core.units) _ c.in_ok-looked-in-Looks.ensures.ends
