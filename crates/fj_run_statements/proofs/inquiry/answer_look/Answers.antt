use Rattle.std.proofs.Common.{◌≡◌, ℕ, List, Option, Some, refl, sym, ap, ◌∙◌}
use Rattle.std.specs.Prelude.{ℤ}
use Rattle.std.specs.Option.{option_map, option_copied}
use Rattle.fj_store.specs.Storage.{values_of}
use Rattle.fj_bay.specs.Jobs.{Looked}
use Rattle.fj_bay.specs.Plain.{looked_of}
use Rattle.fj_statement.specs.Units.{number_from_code}
use Rattle.fj_meaning.specs.Inquiring.{About}
use Rattle.fj_meaning.specs.Needs.{unit_about, number_given}
use Rattle.fj_meaning.specs.Statement.{file_asked, has_pending}
use Rattle.fj_meaning_jobs.specs.Core.{Connected as PlainConnected, unit_named}
use Rattle.fj_meaning_jobs.specs.Acting.{about_unit}
use Rattle.fj_inquire.specs.Inquiring as told
use Rattle.fj_inquire.specs.declared.connected.Connected.{Connected}
use Rattle.fj_run_pending.specs.Plain.{holders}
use Rattle.fj_run_units.specs.Units.{connected_of}
use Rattle.fj_run_statements.specs.Answers.{AnswersAlike}
use Rattle.fj_run_statements.specs.State.{core_of}
use Rattle.fj_run_statements.proofs.ClosingLemmas.{found_number}
use Rattle.fj_run_statements.proofs.InquiryLemmas.{answers_is, look_known, unit_answers_alike}
use Rattle.fj_run_statements.proofs.inquiry.answer_look.Goals as goal

pub returns-clause-doing : goal.returns-clause-doing
returns-clause-doing g c = λ st files.
    let old = c.args.core.now in
    let asked = c.args.asked.now in
    let o : Option ℕ = unit_about (unit_named old.units) c.args.subject.now in
    let file : Option (List ℕ) = file_asked c.args.subject.now in
    let id : Option ℤ = number_given (values_of old.store) (option_copied c.args.id) in
    let seen : Option Looked = option_map looked_of c.args.look in
    let n = c.in-Some.number in
    let u : PlainConnected = connected_of c.in-Some-find.unit.now in
    let connected : Connected = record { modes = u.modes; name = u.name } in
    let pending = c.has_pending-pending.result in
    let about : told.About = told.connection (number_from_code n) connected c.args.look pending in
    let plain : About = about_unit (core_of files old) o file id u seen in
    let cells : c.in_ok-cells.cells ≡ told.inquired about asked = c.in_ok-cells.ensures in
    let alike : AnswersAlike about plain =
    unit_answers_alike files old o n u file id c.args.look connected pending c.in-Some.ensures (found_number old.units n u (sym c.in-Some-find.ensures)) refl refl
    (c.has_pending-pending.ensures ∙ ap (has_pending (holders old.pending) (Some n)) c.number_given-id.ensures) in
    look_known c.args.variables.now (core_of files old) o n u file asked id seen c.in-Some.ensures c.in-Some-find.ensures
    ∙ answers_is c.args.variables.now files old c.give_back.new.store c.in_ok-cells.cells asked about plain cells alike c.give_back.ensures.vars
