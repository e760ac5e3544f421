use Rattle.std.proofs.Common.{ℕ, List, Option, sym, subst}
use Rattle.std.specs.Prelude.{ℤ}
use Rattle.std.specs.Option.{option_copied}
use Rattle.fj_store.specs.Storage.{values_of}
use Rattle.fj_meaning.specs.Needs.{unit_about, number_given}
use Rattle.fj_meaning.specs.State.{Files}
use Rattle.fj_meaning.specs.Statement.{about_other, file_asked}
use Rattle.fj_meaning_jobs.specs.Core.{Connected as PlainConnected, unit_named}
use Rattle.fj_meaning_jobs.specs.Acting.{answers, inquires, unit_at}
use Rattle.fj_run_units.specs.Files.{files_of}
use Rattle.fj_run_units.specs.Units.{connected_of}
use Rattle.fj_meaning_jobs.specs.Doing.{Doing}
use Rattle.fj_run_statements.specs.Doing.{IsDoing}
use Rattle.fj_run_statements.specs.State.{core_of}
use Rattle.fj_run_statements.proofs.FailingLemmas.{fails_as}
use Rattle.fj_run_statements.proofs.FittingLemmas.{nobody_home, unknown_home}
use Rattle.fj_run_statements.proofs.TransferLemmas.{ok_same}
use Rattle.fj_run_statements.proofs.InquiryLemmas.{inquires_none, inquires_unknown, inquires_later, inquires_at_once}
use Rattle.fj_run_statements.proofs.inquiry.inquire.Goals as goal

pub returns-in_default-clause-doing : goal.returns-in_default-clause-doing
returns-in_default-clause-doing g c = λ tells st asks.
    let old = c.args.core.now in
    let asked = c.args.asked.now in
    let files : Files = files_of (g.D.Disk.held c.args.disk.now) in
    let o : Option ℕ = unit_about (unit_named old.units) c.args.subject.now in
    let file : Option (List ℕ) = file_asked c.args.subject.now in
    let id : Option ℤ = number_given (values_of old.store) (option_copied c.args.id) in
    ok_same g.D.File.FileStore.told g.D.File.FileStore.bytes c.args.variables.now st (core_of (files_of (g.D.Disk.held c.answer_other.new.disk)) c.answer_other.new.core) c.answer_other.result
    (answers c.args.variables.now (core_of files old) (about_other files file) asked) (inquires c.args.variables.now (core_of files old) o file asked id (unit_at (core_of files old) o))
    (inquires_none c.args.variables.now (core_of files old) o file asked id c.in_default.ensures) (c.answer_other.ensures.doing tells st)

pub returns-in_default-find-clause-doing : goal.returns-in_default-find-clause-doing
returns-in_default-find-clause-doing g c = λ tells st asks.
    let old = c.args.core.now in
    let asked = c.args.asked.now in
    let files : Files = files_of (g.D.Disk.held c.args.disk.now) in
    let o : Option ℕ = unit_about (unit_named old.units) c.args.subject.now in
    let file : Option (List ℕ) = file_asked c.args.subject.now in
    let id : Option ℤ = number_given (values_of old.store) (option_copied c.args.id) in
    ok_same g.D.File.FileStore.told g.D.File.FileStore.bytes c.args.variables.now st (core_of (files_of (g.D.Disk.held c.answer_other-in_default-find.new.disk)) c.answer_other-in_default-find.new.core)
    c.answer_other-in_default-find.result (answers c.args.variables.now (core_of files old) (about_other files file) asked) (inquires c.args.variables.now (core_of files old) o file asked id (unit_at (core_of files old) o))
    (inquires_unknown c.args.variables.now (core_of files old) o c.in-Some.number file asked id c.in-Some.ensures c.in_default-find.ensures) (c.answer_other-in_default-find.ensures.doing tells st)

pub returns-in_default-clause-fault : goal.returns-in_default-clause-fault
returns-in_default-clause-fault g c = λ tells lost.
    fails_as _ _ c.answer_other.new.core (g.D.Disk.held c.answer_other.new.disk) (g.D.Disk.refusals c.args.disk.now) (g.D.Disk.refusals c.answer_other.new.disk)
    (sym (inquires_none c.args.variables.now (core_of (files_of (g.D.Disk.held c.args.disk.now)) c.args.core.now) (unit_about (unit_named c.args.core.now.units) c.args.subject.now) (file_asked c.args.subject.now) c.args.asked.now
    (number_given (values_of c.args.core.now.store) (option_copied c.args.id)) c.in_default.ensures))
    (c.answer_other.ensures.fault tells lost)

pub returns-in_default-find-clause-fault : goal.returns-in_default-find-clause-fault
returns-in_default-find-clause-fault g c = λ tells lost.
    fails_as _ _ c.answer_other-in_default-find.new.core (g.D.Disk.held c.answer_other-in_default-find.new.disk) (g.D.Disk.refusals c.args.disk.now) (g.D.Disk.refusals c.answer_other-in_default-find.new.disk)
    (sym (inquires_unknown c.args.variables.now (core_of (files_of (g.D.Disk.held c.args.disk.now)) c.args.core.now) (unit_about (unit_named c.args.core.now.units) c.args.subject.now) c.in-Some.number (file_asked c.args.subject.now) c.args.asked.now
    (number_given (values_of c.args.core.now.store) (option_copied c.args.id)) c.in-Some.ensures c.in_default-find.ensures))
    (c.answer_other-in_default-find.ensures.fault tells lost)

pub returns-then-needs_look-clause-doing : goal.returns-then-needs_look-clause-doing
returns-then-needs_look-clause-doing g c = λ tells st asks.
    let files : Files = files_of (g.D.Disk.held c.args.disk.now) in
    let u : PlainConnected = connected_of c.in-Some-find.unit.now in
    inquires_later g.D.File.FileStore.told g.D.File.FileStore.bytes c.args.variables.now st (core_of files c.args.core.now) c.in-Some.number u c.args.subject.now c.args.asked.now (option_copied c.args.id) c.in_ok-place.place
    c.in-Some.ensures c.in-Some-find.ensures c.if-needs_look.ensures asks c.in_ok-place.ensures

pub returns-clause-doing : goal.returns-clause-doing
returns-clause-doing g c = λ tells st asks.
    let old = c.args.core.now in
    let asked = c.args.asked.now in
    let files : Files = files_of (g.D.Disk.held c.args.disk.now) in
    let o : Option ℕ = unit_about (unit_named old.units) c.args.subject.now in
    let file : Option (List ℕ) = file_asked c.args.subject.now in
    let id : Option ℤ = number_given (values_of old.store) (option_copied c.args.id) in
    let u : PlainConnected = connected_of c.in-Some-find.unit.now in
    subst (λ (d : Doing). IsDoing g.D.File.FileStore.told g.D.File.FileStore.bytes c.args.variables.now st (core_of files c.answer_look.new.core) c.in_ok-answer_look.field-0 d)
    (sym (inquires_at_once c.args.variables.now (core_of files old) o c.in-Some.number u file asked id c.in-Some.ensures c.in-Some-find.ensures c.if-needs_look.ensures)) (c.in_ok-answer_look.ensures.doing st files)

pub returns-in_default-find-clause-fits : goal.returns-in_default-find-clause-fits
returns-in_default-find-clause-fits g c = λ have.
    c.answer_other-in_default-find.ensures.fits (unknown_home c.args.core.now.names c.args.core.now.units c.args.subject.now c.in-Some.number (sym c.in-Some.ensures) (sym c.in_default-find.ensures))

pub returns-in_default-clause-fits : goal.returns-in_default-clause-fits
returns-in_default-clause-fits g c = λ have.
    c.answer_other.ensures.fits (nobody_home c.args.core.now.names c.args.core.now.units c.args.subject.now have (sym c.in_default.ensures))
