use Rattle.std.proofs.Common.{◌≡◌, Bool, true, sym, subst, ◌∙◌}
use Rattle.std.specs.Prelude.{IfOk}
use Rattle.fj_modes.specs.declared.specifiers.Access.TheVariants.{Direct}
use Rattle.fj_control.specs.Steps.{steps}
use Rattle.fj_connect.specs.Connection.{Connection}
use Rattle.fj_connect.specs.Linked.{connection_of}
use Rattle.fj_connect.specs.Positions.{ended}
use Rattle.fj_connect.specs.Spot.{size_ended}
use Rattle.fj_transfer.specs.AtHand.{first_record}
use Rattle.fj_transfer.specs.Places.{before_number}
use Rattle.fj_transfer.specs.Reader.{done_with}
use Rattle.fj_transfer.specs.Transfer.{Done, explicit_read}
use Rattle.fj_perform.specs.Front.{started, IsStart}
use Rattle.fj_perform.specs.declared.start.Start.{Start}
use Rattle.fj_perform.proofs.Fitting.{not_open}
use Rattle.fj_perform.proofs.input.read_explicit.Goals as goal

pub returns-in-Here-clause-done : goal.returns-in-Here-clause-done
returns-in-Here-clause-done g c = λ t.
    let bytes = g.F.FileStore.bytes in
    let old = connection_of g.F.FileStore.bytes c.args.connection.now in
    let D : Done → Type 0 = λ d. IfOk c.read_lines.result (λ performed. done_with (connection_of g.F.FileStore.bytes c.read_lines.new.connection) c.read_lines.new.moved.cells performed ≡ d) in
    let S : Start → Type 0 = λ s. D (explicit_read old (started s (ended old)) c.args.advance c.args.modes (steps c.args.format.now) c.args.moved.now (first_record (started s (ended old)))) in
    subst S (sym c.in-Here.is) (c.read_lines.ensures.done t)

pub returns-in-Byte-clause-done : goal.returns-in-Byte-clause-done
returns-in-Byte-clause-done g c = λ t.
    let old = connection_of g.F.FileStore.bytes c.args.connection.now in
    let D : Done → Type 0 = λ d. IfOk c.read_lines-in-Byte.result (λ performed. done_with (connection_of g.F.FileStore.bytes c.read_lines-in-Byte.new.connection) c.read_lines-in-Byte.new.moved.cells performed ≡ d) in
    let S : Start → Type 0 = λ s. D (explicit_read old (started s (ended old)) c.args.advance c.args.modes (steps c.args.format.now) c.args.moved.now (first_record (started s (ended old)))) in
    subst S (sym c.in-Byte.is) (c.read_lines-in-Byte.ensures.done t)

pub returns-in-Record-clause-done : goal.returns-in-Record-clause-done
returns-in-Record-clause-done g c = λ t.
    let now = c.args.connection.now in
    let old = connection_of g.F.FileStore.bytes c.args.connection.now in
    let T : Start → Type 0 = λ s. IsStart now.modes.access (size_ended now.spot (g.F.FileStore.size now.file)) s in
    let direct : now.modes.access ≡ Direct = (subst T c.in-Record.is c.requires.start).0 in
    let closed : ended old ≡ old = not_open old (sym c.is_open-open.ensures.value ∙ c.is_open-open.ensures.sequence direct) in
    let D : Done → Type 0 = λ d. IfOk c.read_numbered.result (λ performed. done_with (connection_of g.F.FileStore.bytes c.read_numbered.new.connection) c.read_numbered.new.moved.cells performed ≡ d) in
    let E : Connection → Type 0 = λ e. D (explicit_read old (before_number e c.in-Record.number) true c.args.modes (steps c.args.format.now) c.args.moved.now (first_record (before_number e c.in-Record.number))) in
    let A : Bool → Type 0 = λ a. D (explicit_read old (before_number (ended old) c.in-Record.number) a c.args.modes (steps c.args.format.now) c.args.moved.now (first_record (before_number (ended old) c.in-Record.number))) in
    let S : Start → Type 0 = λ s. D (explicit_read old (started s (ended old)) c.args.advance c.args.modes (steps c.args.format.now) c.args.moved.now (first_record (started s (ended old)))) in
    subst S (sym c.in-Record.is) (subst A (sym (c.requires.advance direct)) (subst E (sym closed) (c.read_numbered.ensures.done t)))
