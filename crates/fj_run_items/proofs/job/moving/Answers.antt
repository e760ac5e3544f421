use Rattle.std.proofs.Common.{◌≡◌, ◌∙◌, true, ap}
use Rattle.std.specs.Prelude.{unwrap_or}
use Rattle.fj_bay.specs.Plain.{moving_of as job_of}
use Rattle.fj_bay.specs.Jobs.{Moving}
use Rattle.fj_meaning_jobs.specs.Acting.{moving_of}
use Rattle.fj_meaning.specs.Needs.{number_given}
use Rattle.fj_meaning.specs.Statement.{control_by}
use Rattle.fj_meaning.specs.Transfers.{layout_of, moved_in}
use Rattle.fj_statement.specs.declared.statement.Transfer.{Transfer as Stated}
use Rattle.fj_statement.specs.declared.statement.Statement.TheVariants.{Transfer}
use Rattle.fj_store.specs.Storage.{Storage, values_of}
use Rattle.fj_transfer.specs.declared.transfer.Transfer.{Transfer as Job}
use Rattle.fj_run_items.proofs.Finds.{grouped}
use Rattle.fj_run_items.proofs.Takes.{if_more, job_parts, moving_is, one_cell}
use Rattle.fj_run_items.proofs.job.moving.Goals as goal

pub job_with-requires-clause-single : goal.job_with-requires-clause-single
job_with-requires-clause-single c = one_cell c.args.variables.now (values_of c.args.store.now) c.args.t.now.size c.in_ok-size.size c.in_ok-size.ensures.moved

pub job_with-requires-2-clause-single : goal.job_with-requires-2-clause-single
job_with-requires-2-clause-single c = one_cell c.args.variables.now (values_of c.args.store.now) c.args.t.now.size c.in_ok-size.size c.in_ok-size.ensures.moved

pub returns-then-t-clause-job : goal.returns-then-t-clause-job
returns-then-t-clause-job c =
    let t : Stated = c.args.t.now in
    let s : Storage = c.args.store.now in
    let parts : Moving = job_parts c.args.variables.now c.args.line c.args.tag.0 t c.of_cells.result c.in_ok-size.size c.number_given-rec.result c.number_given-pos.result
    (layout_of c.args.variables.now c.of_cells.result.cells t.control) (record { blank_zero = t.blank_zero; comma = t.comma; delim = t.delim; pad = t.pad; plus = t.plus }) (unwrap_or t.advance true) (control_by (Transfer t)) in
    let due : Moving = moving_of (control_by (Transfer t)) c.args.variables.now c.args.line c.args.tag.0 (values_of s) t (moved_in c.args.variables.now (values_of s) t) in
    let same : parts ≡ due =
    moving_is c.args.variables.now (values_of s) c.args.line c.args.tag.0 t c.of_cells.result c.in_ok-size.size c.number_given-rec.result c.number_given-pos.result (c.of_cells.ensures ∙ c.in_ok-moved.ensures.moved ∙ ap (λ (x : Storage). moved_in c.args.variables.now (values_of x) c.args.t.now) c.in_ok-size.ensures.same)
    c.in_ok-size.ensures.moved
    (c.number_given-rec.ensures ∙ ap (number_given (values_of s)) c.as_ref.ensures.value) (c.number_given-pos.ensures ∙ ap (number_given (values_of s)) c.as_ref-2.ensures.value) in
    if_more c.job_with.result (λ (job : Job). job_of job ≡ parts) (λ (job : Job). job_of job ≡ due) (λ job e. e ∙ same) c.job_with.ensures.job

pub returns-then-t-clause-fits : goal.returns-then-t-clause-fits
returns-then-t-clause-fits c = λ is.
    c.job_with.ensures.fits (grouped c.args.variables.now (values_of c.args.store.now) c.args.t.now c.of_cells.result is (c.of_cells.ensures ∙ c.in_ok-moved.ensures.moved ∙ ap (λ (x : Storage). moved_in c.args.variables.now (values_of x) c.args.t.now) c.in_ok-size.ensures.same))

pub returns-clause-fits : goal.returns-clause-fits
returns-clause-fits c = λ is.
    c.job_with-2.ensures.fits (grouped c.args.variables.now (values_of c.args.store.now) c.args.t.now c.in_ok-copy.copy is (c.in_ok-copy.ensures.moved ∙ ap (λ (x : Storage). moved_in c.args.variables.now (values_of x) c.args.t.now) c.in_ok-size.ensures.same))
