use Rattle.std.proofs.Common.{List, Some, filter, map, sym, ap, ◌∙◌}
use Rattle.fj_store.specs.Storage.{values_of}
use Rattle.fj_meaning_jobs.specs.Core.{Core as PlainCore, Pending, unit_named}
use Rattle.fj_meaning.specs.Needs.{number_given, unit_about}
use Rattle.fj_meaning_looks.specs.Inquiring.{asked_transfers, is_asked, question_of}
use Rattle.fj_run_pending.specs.Plain.{pending_of}
use Rattle.fj_run_statements.specs.State.{core_of}
use Rattle.fj_run_script.proofs.AskedAbout.{filter_none}
use Rattle.fj_run_script.proofs.Runs.{pendings_are}
use Rattle.fj_run_script.proofs.looking.transfers_of.Goals as goal

pub returns-in-Some : goal.returns-in-Some
returns-in-Some c = λ files.
    let core = c.args.core.now in
    let plain : PlainCore = core_of files core in
    let about = c.in-Inquire.about in
    let unit = c.in-Some.unit in
    let id = c.number_given-id.result in
    c.asked_among.ensures
    ∙ ap (λ hs. question_of (filter (is_asked (Some unit) id) (map pending_of hs))) c.entries.ensures.entries
    ∙ ap (λ (es : List Pending). question_of (filter (is_asked (Some unit) id) es)) (sym (pendings_are core.pending))
    ∙ ap (λ u. question_of (filter (is_asked u id) plain.book)) (sym c.in-Some.is ∙ c.unit_about.ensures)
    ∙ ap (λ n. question_of (filter (is_asked (unit_about (unit_named plain.units) about) n) plain.book)) (c.number_given-id.ensures ∙ ap (number_given (values_of core.store)) c.as_ref.ensures.value)
    ∙ ap (λ st. question_of (asked_transfers plain st)) (sym c.in-Inquire.is)

pub returns-in-None : goal.returns-in-None
returns-in-None c = λ files.
    let core = c.args.core.now in
    let plain : PlainCore = core_of files core in
    let n = number_given plain.vars c.in-Inquire.id in
    sym (ap (λ st. question_of (asked_transfers plain st)) c.in-Inquire.is ∙ ap (λ u. question_of (filter (is_asked u n) plain.book)) (sym c.unit_about.ensures ∙ c.in-None.is) ∙ ap question_of (filter_none plain.book))
