use Rattle.std.proofs.Common.{ℕ, Option, refl, sym, ap, ◌∙◌}
use Rattle.std.specs.Option.{option_map}
use Rattle.fj_statement.specs.declared.statement.Operand.{Operand}
use Rattle.fj_statement.specs.declared.statement.Statement.{Statement}
use Rattle.fj_bay.specs.Jobs.{Looked}
use Rattle.fj_bay.specs.Plain.{looked_of}
use Rattle.fj_meaning.specs.Needs.{number_given, unit_about}
use Rattle.fj_meaning.specs.Statement.{Stated, control_by, file_asked}
use Rattle.fj_meaning_jobs.specs.Acting.{unit_at}
use Rattle.fj_meaning_jobs.specs.Core.{Core, unit_named}
use Rattle.fj_meaning_jobs.specs.Doing.{Doing as PlainDoing}
use Rattle.fj_run_statements.specs.Doing.{looks, looks_at}
use Rattle.fj_run_statements.specs.State.{core_of}
use Rattle.fj_run_statements.proofs.BeginningLemmas.{looks_nothing}
use Rattle.fj_run_statements.proofs.OpeningLemmas.{meant}
use Rattle.fj_run_statements.proofs.StateLemmas.{keeps_answers}
use Rattle.fj_run_statements.proofs.steps.looked.Goals as goal

pub returns-in-Inquire-clause-doing : goal.returns-in-Inquire-clause-doing
returns-in-Inquire-clause-doing g c = λ files o is.
    let core : Core = core_of files c.args.core.now in
    let variables = c.args.variables.now in
    let what : Statement = c.args.lined.now.what in
    let st : Stated = (c.args.lined.now, control_by what) in
    let number : Option ℕ = unit_about (unit_named core.units) c.in-Inquire.about in
    let seen : Option Operand → Option Looked → PlainDoing = λ id look. looks_at variables core number (file_asked c.in-Inquire.about) c.in-Inquire.asked (number_given core.vars id) (unit_at core number) look in
    meant g.F.FileStore.told g.F.FileStore.bytes variables st _ c.answer_look.result _ _
    (ap (λ (id : Option Operand). seen id (option_map looked_of c.args.look)) c.as_ref.ensures.value ∙ ap (seen c.in-Inquire.id) is ∙ ap (λ (w : Statement). looks variables core w o) (sym c.in-Inquire.is))
    (c.answer_look.ensures.doing st files)

pub returns-in_default-clause-doing : goal.returns-in_default-clause-doing
returns-in_default-clause-doing g c = λ files o is. looks_nothing c.args.variables.now (core_of files c.args.core.now) c.args.lined.now.what o c.in_default.not-Inquire

pub returns-in_default-clause-pending : goal.returns-in_default-clause-pending
returns-in_default-clause-pending g c = keeps_answers c.args.core.now c.args.core.now refl
