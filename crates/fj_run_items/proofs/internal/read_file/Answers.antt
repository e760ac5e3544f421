use Rattle.std.proofs.Common.{◌≡◌, ap, ◌∙◌}
use Rattle.fj_bay.specs.Plain.{moving_of as job_of}
use Rattle.fj_bay.specs.Jobs.{Moving}
use Rattle.fj_meaning_jobs.specs.Acting.{moving_of}
use Rattle.fj_meaning.specs.Statement.{control_by}
use Rattle.fj_meaning.specs.Transfers.{moved_in, without_values}
use Rattle.fj_statement.specs.declared.statement.Statement.TheVariants.{Transfer}
use Rattle.fj_store.specs.Storage.{Storage, values_of}
use Rattle.fj_transfer.specs.declared.transfer.Transfer.{Transfer as Job}
use Rattle.fj_run_items.proofs.Inside.{read_is}
use Rattle.fj_run_items.proofs.internal.read_file.Goals as goal

pub returns-clause-done : goal.returns-clause-done
returns-clause-done c =
    let variables = c.args.variables.now in
    let t = c.args.t.now in
    let s : Storage = c.args.store.now in
    let job : Job = c.into_inner-job.result in
    let due : Storage → Moving = λ x. moving_of (control_by (Transfer t)) variables 0 0 (values_of x) t (moved_in variables (values_of x) t) in
    let made : job_of job ≡ due s = ap job_of c.into_inner-job.ensures ∙ c.in_ok-moving.ensures.job ∙ ap due c.in_ok-elements.ensures.same in
    let out : values_of c.moving.new.store ≡ without_values variables t (moved_in variables (values_of s) t) (values_of s) =
    c.in_ok-moving.ensures.vars ∙ ap (λ (x : Storage). without_values variables t (moved_in variables (values_of x) t) (values_of x)) c.in_ok-elements.ensures.same in
    c.in_ok-condition.ensures.done
    ∙ read_is variables (values_of s) (values_of c.moving.new.store) t c.args.file c.in_ok-elements.elements job c.requires.input c.in_ok-elements.ensures.cells (ap (λ (m : Moving). m.spec) made) (ap (λ (m : Moving). m.moved) made) out
