use Rattle.std.proofs.Common.{◌≡◌, ap, subst, true}
use Rattle.std.specs.Prelude.{IfOk, OnErr}
use Rattle.fj_span.specs.Change.{KeepsUpToChange}
use Rattle.fj_modes.specs.declared.modes.Modes.{Modes}
use Rattle.fj_connect.specs.Connection.{begun}
use Rattle.fj_connect.specs.Linked.{connection_of}
use Rattle.fj_moved.specs.Items.{items_left, items_of}
use Rattle.fj_transfer.specs.Explicit.{explicit_actions}
use Rattle.fj_transfer.specs.Places.{before_number}
use Rattle.fj_transfer.specs.Printing.{printed_by}
use Rattle.fj_transfer.specs.Transfer.{Done, told_with}
use Rattle.fj_transfer.proofs.FillLemmas.{filled_as, written_filled}
use Rattle.fj_transfer.proofs.pieces.write_numbered.Goals as goal

pub returns-in-Ok-clause-written : goal.returns-in-Ok-clause-written
returns-in-Ok-clause-written g c = λ t.
    let bytes = g.F.FileStore.bytes in
    let old = connection_of bytes c.args.connection.now in
    let at = before_number old c.args.number in
    let cells = c.args.moved.now.cells in
    let recl = old.modes.recl in
    let items = items_of c.args.moved.now in
    let run = c.bytes.result.now in
    let limit : c.modes.result.now.recl ≡ recl = ap (λ (m : Modes). m.recl) c.modes.ensures.value in
    let there : items_left c.items-items.result ≡ items = c.items-items.ensures in
    let h = filled_as c.args.modes c.args.format.now c.modes.result.now.recl recl c.begun_at-begun.result (begun old) (items_left c.items-items.result) items c.in_ok-run.run' c.fill_records.new.run run limit
    c.begun_at-begun.ensures.begun there c.in_ok-run.ensures c.bytes.ensures c.in-Ok.ensures in
    let P : Done → Type 0 = λ d. IfOk c.put_pieces.result (λ condition. told_with (connection_of bytes c.put_pieces.new.connection) cells condition ≡ d) in
    subst P (written_filled recl (printed_by recl (begun old) (explicit_actions c.args.modes true c.args.format.now items)) old at cells run h) (c.put_pieces.ensures.written t cells h.p.records h.has)

pub returns-in-Ok-clause-stopped : goal.returns-in-Ok-clause-stopped
returns-in-Ok-clause-stopped g c = λ t.
    let bytes = g.F.FileStore.bytes in
    let old = connection_of bytes c.args.connection.now in
    let at = before_number old c.args.number in
    let cells = c.args.moved.now.cells in
    let recl = old.modes.recl in
    let items = items_of c.args.moved.now in
    let run = c.bytes.result.now in
    let limit : c.modes.result.now.recl ≡ recl = ap (λ (m : Modes). m.recl) c.modes.ensures.value in
    let there : items_left c.items-items.result ≡ items = c.items-items.ensures in
    let h = filled_as c.args.modes c.args.format.now c.modes.result.now.recl recl c.begun_at-begun.result (begun old) (items_left c.items-items.result) items c.in_ok-run.run' c.fill_records.new.run run limit
    c.begun_at-begun.ensures.begun there c.in_ok-run.ensures c.bytes.ensures c.in-Ok.ensures in
    let P : Done → Type 0 = λ d. OnErr c.put_pieces.result (KeepsUpToChange (bytes c.args.connection.now.file) d.connection.bytes (bytes c.put_pieces.new.connection.file)) in
    subst P (written_filled recl (printed_by recl (begun old) (explicit_actions c.args.modes true c.args.format.now items)) old at cells run h) (c.put_pieces.ensures.stopped t cells h.p.records h.has)
