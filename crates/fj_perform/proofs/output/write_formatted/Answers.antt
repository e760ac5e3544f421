use Rattle.std.proofs.Common.{◌≡◌, false, sym, subst}
use Rattle.std.specs.Prelude.{IfOk, OnErr, is_some}
use Rattle.fj_span.specs.Change.{KeepsUpToChange}
use Rattle.fj_modes.specs.declared.specifiers.Access.TheVariants.{Direct}
use Rattle.fj_modes.specs.Words.{same_access}
use Rattle.fj_connect.specs.Linked.{connection_of}
use Rattle.fj_transfer.specs.Printing.{control_of}
use Rattle.fj_transfer.specs.Transfer.{Done, told_with, written_by}
use Rattle.fj_perform.specs.Front.{started, IsStart, IsNamed}
use Rattle.fj_perform.specs.declared.start.Start.{Start}
use Rattle.fj_perform.proofs.Cases.{written_here}
use Rattle.fj_perform.proofs.output.write_formatted.Goals as goal

pub returns-in-Here-clause-written : goal.returns-in-Here-clause-written
returns-in-Here-clause-written g c = λ t.
    let now = c.args.connection.now in
    let old = connection_of g.F.FileStore.bytes c.args.connection.now in
    let job = c.args.job.now in
    let T : Start → Type 0 = λ s. IsStart now.modes.access (g.F.FileStore.size now.file) s in
    let N : Start → Type 0 = λ s. IsNamed s (is_some job.spec.pos) in
    let access : same_access now.modes.access Direct ≡ false = subst T c.in-Here.is c.requires.start in
    let named : is_some job.spec.pos ≡ false = subst N c.in-Here.is c.requires.named in
    let D : Done → Type 0 = λ d. IfOk c.write_lines.result (λ condition. told_with (connection_of g.F.FileStore.bytes c.write_lines.new.connection) job.moved.cells condition ≡ d) in
    let S : Start → Type 0 = λ s. D (written_by job.spec.layout (control_of job.spec.layout) old (started s old) job.spec c.args.modes job.moved) in
    subst S (sym c.in-Here.is) (subst D (written_here job.spec.layout (control_of job.spec.layout) old job.spec c.args.modes job.moved c.requires.records access named) (c.write_lines.ensures.written t))

pub returns-in-Here-clause-stopped : goal.returns-in-Here-clause-stopped
returns-in-Here-clause-stopped g c = λ t.
    let now = c.args.connection.now in
    let old = connection_of g.F.FileStore.bytes c.args.connection.now in
    let job = c.args.job.now in
    let T : Start → Type 0 = λ s. IsStart now.modes.access (g.F.FileStore.size now.file) s in
    let N : Start → Type 0 = λ s. IsNamed s (is_some job.spec.pos) in
    let access : same_access now.modes.access Direct ≡ false = subst T c.in-Here.is c.requires.start in
    let named : is_some job.spec.pos ≡ false = subst N c.in-Here.is c.requires.named in
    let D : Done → Type 0 = λ d. OnErr c.write_lines.result (KeepsUpToChange (g.F.FileStore.bytes now.file) d.connection.bytes (g.F.FileStore.bytes c.write_lines.new.connection.file)) in
    let S : Start → Type 0 = λ s. D (written_by job.spec.layout (control_of job.spec.layout) old (started s old) job.spec c.args.modes job.moved) in
    subst S (sym c.in-Here.is) (subst D (written_here job.spec.layout (control_of job.spec.layout) old job.spec c.args.modes job.moved c.requires.records access named) (c.write_lines.ensures.stopped t))
