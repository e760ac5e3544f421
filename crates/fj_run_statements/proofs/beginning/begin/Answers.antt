use Rattle.fj_statement.specs.declared.statement.Statement.{Statement}
use Rattle.fj_meaning.specs.State.{Files}
use Rattle.fj_meaning.specs.Statement.{Stated, control_by}
use Rattle.fj_run_units.specs.Files.{files_of}
use Rattle.fj_run_statements.specs.State.{core_of}
use Rattle.fj_run_statements.proofs.BeginningLemmas.{doing_is, instead_front}
use Rattle.fj_run_statements.proofs.OpeningLemmas.{meant}
use Rattle.fj_run_statements.proofs.FailingLemmas.{doing_there, stands_as, stands_here, stands_still}
use Rattle.fj_meaning_jobs.specs.Acting.{own, doing}
use Rattle.fj_value.specs.declared.condition.Condition.{Condition}
use Rattle.fj_value.specs.declared.condition.Condition.TheVariants.{Fine}
use Rattle.std.proofs.Common.{refl, sym, ap}
use Rattle.fj_run_statements.proofs.beginning.begin.Goals as goal

pub returns-in_default-clause-doing : goal.returns-in_default-clause-doing
returns-in_default-clause-doing g c = λ tells.
    let files : Files = files_of (g.D.Disk.held c.args.disk.now) in
    let what : Statement = c.args.lined.now.what in
    let st : Stated = (c.args.lined.now, control_by what) in
    meant g.D.File.FileStore.told g.D.File.FileStore.bytes c.args.variables.now st _ c.instead.result _ _
    (doing_is (control_by what) c.args.variables.now c.args.lined.now.line (core_of files c.args.core.now) what c.args.condition c.in_default.not-Fine)
    (c.instead.ensures.doing files)

pub returns-in_default-clause-front : goal.returns-in_default-clause-front
returns-in_default-clause-front g c = λ tells.
    let files : Files = files_of (g.D.Disk.held c.args.disk.now) in
    let what : Statement = c.args.lined.now.what in
    instead_front c.instead.result (g.W.Sink.taken c.args.out.now) (control_by what) c.args.variables.now c.args.lined.now.line (core_of files c.args.core.now) what c.args.condition c.in_default.not-Fine

pub returns-in-Fine-clause-stands : goal.returns-in-Fine-clause-stands
returns-in-Fine-clause-stands g c = λ tells.
    let held = g.D.Disk.held c.args.disk.now in
    let left = g.D.Disk.held c.own.new.disk in
    let own_before = g.D.Disk.refusals c.args.disk.now in
    let own_now = g.D.Disk.refusals c.own.new.disk in
    let what : Statement = c.args.lined.now.what in
    let variables = c.args.variables.now in
    let line = c.args.lined.now.line in
    let core = core_of (files_of held) c.args.core.now in
    stands_as c.own.result (own (control_by what) variables line core what) (doing (control_by what) variables line core what c.args.condition) c.own.new.core left own_before own_now
    (ap (λ (k : Condition). doing (control_by what) variables line core what k) (sym c.in-Fine.is))
    (stands_still c.own.result core (own (control_by what) variables line core what) c.own.new.core held left own_before own_now (doing_there (control_by what) variables line core what Fine) refl c.own.ensures.units
    (c.own.ensures.stays tells))

pub returns-in_default-clause-stands : goal.returns-in_default-clause-stands
returns-in_default-clause-stands g c = λ tells.
    let held = g.D.Disk.held c.args.disk.now in
    let what : Statement = c.args.lined.now.what in
    let core = core_of (files_of held) c.args.core.now in
    let line = c.args.lined.now.line in
    stands_here c.instead.result core (doing (control_by what) c.args.variables.now line core what c.args.condition) c.instead.new.core held (g.D.Disk.refusals c.args.disk.now) (g.D.Disk.refusals c.args.disk.now)
    (doing_there (control_by what) c.args.variables.now line core what c.args.condition) refl c.instead.ensures.units
