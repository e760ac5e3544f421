use Rattle.std.proofs.Common.{◌≡◌, rules, refl, sym, ap, subst, ◌∙◌}
use Rattle.std.specs.Prelude.{IfOk, OnErr}
use Rattle.fj_value.specs.declared.condition.Condition.{Condition}
use Rattle.fj_value.specs.declared.condition.Condition.TheVariants.{Fine}
use Rattle.fj_span.specs.Change.{KeepsUpToChange}
use Rattle.fj_modes.specs.declared.modes.Modes.{Modes}
use Rattle.fj_connect.specs.Linked.{connection_of}
use Rattle.fj_transfer.specs.Printing.{control_of}
use Rattle.fj_transfer.specs.Transfer.{Done, unfit}
use Rattle.fj_transfer.specs.Performing.{comes_to}
use Rattle.fj_perform.proofs.Carried.{transfer_fit, transfer_unfit}
use Rattle.fj_perform.proofs.whole.perform.Goals as goal

pub returns-in-Fine-clause-done : goal.returns-in-Fine-clause-done
returns-in-Fine-clause-done g c = λ t.
    let job = c.args.job.now in
    let old = connection_of g.F.FileStore.bytes c.args.connection.now in
    let same : c.unfit-condition.result ≡ unfit c.args.connection.now.modes job.spec = c.unfit-condition.ensures ∙ ap (λ (m : Modes). unfit m c.args.job.now.spec) c.modes.ensures.value in
    let fit : unfit c.args.connection.now.modes job.spec ≡ Fine = sym same ∙ c.in-Fine.is in
    let D : Done → Type 0 = λ d. IfOk c.perform_fit.result (λ condition. comes_to (connection_of g.F.FileStore.bytes c.perform_fit.new.connection) c.perform_fit.new.job condition ≡ d) in
    subst D (transfer_fit (control_of job.spec.layout) old job.spec job.moved fit) (c.perform_fit.ensures.done t)

pub returns-in-Fine-clause-stopped : goal.returns-in-Fine-clause-stopped
returns-in-Fine-clause-stopped g c = λ t.
    let job = c.args.job.now in
    let old = connection_of g.F.FileStore.bytes c.args.connection.now in
    let same : c.unfit-condition.result ≡ unfit c.args.connection.now.modes job.spec = c.unfit-condition.ensures ∙ ap (λ (m : Modes). unfit m c.args.job.now.spec) c.modes.ensures.value in
    let fit : unfit c.args.connection.now.modes job.spec ≡ Fine = sym same ∙ c.in-Fine.is in
    let D : Done → Type 0 = λ d. OnErr c.perform_fit.result (KeepsUpToChange (g.F.FileStore.bytes c.args.connection.now.file) d.connection.bytes (g.F.FileStore.bytes c.perform_fit.new.connection.file)) in
    subst D (transfer_fit (control_of job.spec.layout) old job.spec job.moved fit) (c.perform_fit.ensures.stopped t)

pub returns-in_default : goal.returns-in_default
returns-in_default g c =
    let job = c.args.job.now in
    let old = connection_of g.F.FileStore.bytes c.args.connection.now in
    let same : c.unfit-condition.result ≡ unfit c.args.connection.now.modes job.spec = c.unfit-condition.ensures ∙ ap (λ (m : Modes). unfit m c.args.job.now.spec) c.modes.ensures.value in
    record {
      telling = (λ t. t, λ t. t);
      done = λ t. ap (λ (k : Condition). comes_to (connection_of g.F.FileStore.bytes c.args.connection.now) c.refuse.new.job k) c.refuse.ensures.same
          ∙ c.refuse.ensures.done old
          ∙ transfer_unfit (control_of job.spec.layout) old job.spec job.moved c.unfit-condition.result c.in_default.not-Fine (sym same);
      stopped = λ t. tt;
      statement = c.refuse.ensures.statement;
      modes = refl;
      name = refl;
      later = search rules;
      failed = search rules;
    }
