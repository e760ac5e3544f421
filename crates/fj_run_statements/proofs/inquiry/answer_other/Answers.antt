use Rattle.std.proofs.Common.{◌≡◌, None, Some, sym, ap, ◌∙◌}
use Rattle.fj_statement.specs.declared.unit.Subject.{Subject}
use Rattle.fj_outside.specs.Holdings.{Holdings}
use Rattle.fj_meaning.specs.Inquiring.{About}
use Rattle.fj_meaning.specs.State.{Files}
use Rattle.fj_meaning.specs.Statement.{about_other, file_asked}
use Rattle.fj_meaning_jobs.specs.Acting.{answers}
use Rattle.fj_meaning_jobs.specs.Doing.{finishes}
use Rattle.fj_value.specs.declared.condition.Condition.TheVariants.{Fine}
use Rattle.fj_inquire.specs.Inquiring as told
use Rattle.fj_run_units.specs.Files.{files_of}
use Rattle.fj_run_statements.specs.State.{core_of}
use Rattle.fj_run_statements.proofs.InquiryLemmas.{alone, answers_is, file_alike, unit_alike}
use Rattle.fj_run_statements.proofs.inquiry.answer_other.Goals as goal

pub returns-in_ok-inquire_unit-in-Unit-clause-doing : goal.returns-in_ok-inquire_unit-in-Unit-clause-doing
returns-in_ok-inquire_unit-in-Unit-clause-doing g c = λ tells st.
    let old = c.args.core.now in
    let asked = c.args.asked.now in
    let variables = c.args.variables.now in
    let files : Files = files_of (g.D.Disk.held c.args.disk.now) in
    let cells : c.inquire_unit.new.out ≡ told.inquired told.unit asked = alone c.inquire_unit.new.out c.new-cells.result (told.inquired told.unit asked) c.in_ok-inquire_unit-in-Unit.ensures c.new-cells.ensures in
    ap (λ (s : Subject). answers variables (core_of files old) (about_other files (file_asked s)) asked) c.in-Unit.is
    ∙ answers_is variables files old c.give_back.new.store c.inquire_unit.new.out asked told.unit (about_other files None) cells (unit_alike files) c.give_back.ensures.vars

pub returns-in_ok-inquire_file-in-File-clause-doing : goal.returns-in_ok-inquire_file-in-File-clause-doing
returns-in_ok-inquire_file-in-File-clause-doing g c = λ tells st.
    let old = c.args.core.now in
    let asked = c.args.asked.now in
    let variables = c.args.variables.now in
    let before : Holdings = g.D.Disk.held c.args.disk.now in
    let after : Holdings = g.D.Disk.held c.is_there.new.disk in
    let same : after ≡ before = c.in_ok-there-in-File.ensures.held tells in
    let name = c.in-File.name in
    let about : told.About = told.file name c.in_ok-there-in-File.there in
    let plain : About = about_other (files_of before) (Some name) in
    let cells : c.inquire_file.new.out ≡ told.inquired about asked = alone c.inquire_file.new.out c.new-cells.result (told.inquired about asked) c.in_ok-inquire_file-in-File.ensures c.new-cells.ensures in
    ap (λ (s : Subject). answers variables (core_of (files_of before) old) (about_other (files_of before) (file_asked s)) asked) c.in-File.is
    ∙ answers_is variables (files_of before) old c.give_back-in-File.new.store c.inquire_file.new.out asked about plain cells
    (file_alike (files_of before) name c.in_ok-there-in-File.there (c.in_ok-there-in-File.ensures.there tells)) c.give_back-in-File.ensures.vars
    ∙ ap (λ (h : Holdings). finishes (core_of (files_of h) (record old { store = c.give_back-in-File.new.store })) Fine) (sym same)
