use Rattle.std.proofs.Common.{◌≡◌, ap, subst, ◌∙◌}
use Rattle.std.specs.Prelude.{IfOk, OnErr}
use Rattle.fj_value.specs.declared.condition.Condition.{Condition}
use Rattle.fj_span.specs.Change.{KeepsUpToChange}
use Rattle.fj_connect.specs.Linked.{connection_of}
use Rattle.fj_transfer.specs.Printing.{control_of}
use Rattle.fj_transfer.specs.Transfer.{Done, from_place}
use Rattle.fj_transfer.specs.Performing.{comes_to}
use Rattle.fj_perform.proofs.Carried.{read_begins}
use Rattle.fj_perform.proofs.whole.perform_fit.Goals as goal

pub returns-in-Err-clause-done : goal.returns-in-Err-clause-done
returns-in-Err-clause-done g c = λ t.
    let job = c.args.job.now in
    let old = connection_of g.F.FileStore.bytes c.args.connection.now in
    ap (λ (k : Condition). comes_to (connection_of g.F.FileStore.bytes c.args.connection.now) c.refuse.new.job k) c.refuse.ensures.same
    ∙ c.refuse.ensures.done old
    ∙ ap (from_place (control_of job.spec.layout) old job.spec job.moved) (c.in-Err.ensures.start t)

pub returns-then-job-clause-done : goal.returns-then-job-clause-done
returns-then-job-clause-done g c = λ t.
    let job = c.args.job.now in
    let old = connection_of g.F.FileStore.bytes c.args.connection.now in
    let D : Done → Type 0 = λ d. IfOk c.read_job.result (λ condition. comes_to (connection_of g.F.FileStore.bytes c.read_job.new.connection) c.read_job.new.job condition ≡ d) in
    subst D (read_begins (control_of job.spec.layout) old job.spec job.moved c.in-Ok.start c.if-job.true (c.in-Ok.ensures.start t)) (c.read_job.ensures.done t)

pub returns-then-job-clause-stopped : goal.returns-then-job-clause-stopped
returns-then-job-clause-stopped g c = λ t.
    let job = c.args.job.now in
    let old = connection_of g.F.FileStore.bytes c.args.connection.now in
    let D : Done → Type 0 = λ d. OnErr c.read_job.result (KeepsUpToChange (g.F.FileStore.bytes c.args.connection.now.file) d.connection.bytes (g.F.FileStore.bytes c.read_job.new.connection.file)) in
    subst D (read_begins (control_of job.spec.layout) old job.spec job.moved c.in-Ok.start c.if-job.true (c.in-Ok.ensures.start t)) (c.read_job.ensures.stopped t)
