use Rattle.std.proofs.Common.{◌≡◌, ◌||◌, Bool, not, ap, sym, subst, ◌∙◌, List, ℕ}
use Rattle.std.specs.Prelude.{IfOk, OnErr}
use Rattle.fj_span.specs.Change.{KeepsUpToChange}
use Rattle.fj_connect.specs.Connection.{Connection, begun}
use Rattle.fj_connect.specs.Linked.{connection_of}
use Rattle.fj_modes.specs.declared.modes.Modes.{Modes}
use Rattle.fj_transfer.specs.Places.{at_place, feed_at}
use Rattle.fj_transfer.specs.Printing.{actions_by, control_of, printed_by}
use Rattle.fj_transfer.specs.Transfer.{Done, told_with, is_explicit, text_written, lines_written}
use Rattle.fj_transfer.proofs.FormattedLemmas.{same_connection, placed_modes, lines_printed}
use Rattle.fj_transfer.proofs.formatted.write_lines.Goals as goal

pub returns-in-Ok-clause-written : goal.returns-in-Ok-clause-written
returns-in-Ok-clause-written g c = λ t.
    let bytes = g.F.FileStore.bytes in
    let now = c.args.connection.now in
    let place = c.args.place in
    let old = connection_of bytes now in
    let at = at_place place old in
    let cells = c.args.moved.now.cells in
    let ends = c.args.advance || not (is_explicit c.args.layout.now) in
    let actions = actions_by c.args.layout.now (control_of c.args.layout.now) c.args.modes c.args.advance c.args.moved.now in
    let out = c.print_onto.new.out in
    let count = c.in-Ok.count in
    let same : connection_of bytes c.feed.new.connection ≡ old = same_connection bytes now c.feed.new.connection c.feed.ensures.rest (c.feed.ensures.same t) in
    let fed : c.in_ok-out.out ≡ feed_at place old = c.in_ok-out.ensures.feed t in
    let limit : c.modes.result.now.recl ≡ at.modes.recl = ap (λ (m : Modes). m.recl) (c.modes.ensures.value ∙ sym (placed_modes place old)) in
    let shown : c.bytes.result.now ≡ out = cc c.bytes.ensures in
    let is : text_written (connection_of bytes c.feed.new.connection) (at_place place (connection_of bytes c.feed.new.connection)) c.ends_record-ends.result cells c.bytes.result.now count
    ≡ lines_written old at (feed_at place old) ends cells (printed_by at.modes.recl (begun at) actions) =
    ap (λ (m : Connection). text_written m (at_place place m) c.ends_record-ends.result cells c.bytes.result.now count) same
    ∙ ap (λ (b : Bool). text_written old at b cells c.bytes.result.now count) c.ends_record-ends.ensures
    ∙ ap (λ (l : List ℕ). text_written old at ends cells l count) shown
    ∙ lines_printed old at (feed_at place old) ends cells actions c.in_ok-out.out out count c.begun_at-begun.result c.modes.result.now.recl c.begun_at-begun.ensures.begun limit fed c.in-Ok.ensures in
    let P : Done → Type 0 = λ d. IfOk c.put_text.result (λ condition. told_with (connection_of bytes c.put_text.new.connection) cells condition ≡ d) in
    subst P is (c.put_text.ensures.written (c.feed.ensures.telling.0 t) cells)

pub returns-in-Ok-clause-stopped : goal.returns-in-Ok-clause-stopped
returns-in-Ok-clause-stopped g c = λ t.
    let bytes = g.F.FileStore.bytes in
    let now = c.args.connection.now in
    let place = c.args.place in
    let old = connection_of bytes now in
    let at = at_place place old in
    let cells = c.args.moved.now.cells in
    let ends = c.args.advance || not (is_explicit c.args.layout.now) in
    let actions = actions_by c.args.layout.now (control_of c.args.layout.now) c.args.modes c.args.advance c.args.moved.now in
    let out = c.print_onto.new.out in
    let count = c.in-Ok.count in
    let same : connection_of bytes c.feed.new.connection ≡ old = same_connection bytes now c.feed.new.connection c.feed.ensures.rest (c.feed.ensures.same t) in
    let fed : c.in_ok-out.out ≡ feed_at place old = c.in_ok-out.ensures.feed t in
    let limit : c.modes.result.now.recl ≡ at.modes.recl = ap (λ (m : Modes). m.recl) (c.modes.ensures.value ∙ sym (placed_modes place old)) in
    let shown : c.bytes.result.now ≡ out = cc c.bytes.ensures in
    let is : text_written (connection_of bytes c.feed.new.connection) (at_place place (connection_of bytes c.feed.new.connection)) c.ends_record-ends.result cells c.bytes.result.now count
    ≡ lines_written old at (feed_at place old) ends cells (printed_by at.modes.recl (begun at) actions) =
    ap (λ (m : Connection). text_written m (at_place place m) c.ends_record-ends.result cells c.bytes.result.now count) same
    ∙ ap (λ (b : Bool). text_written old at b cells c.bytes.result.now count) c.ends_record-ends.ensures
    ∙ ap (λ (l : List ℕ). text_written old at ends cells l count) shown
    ∙ lines_printed old at (feed_at place old) ends cells actions c.in_ok-out.out out count c.begun_at-begun.result c.modes.result.now.recl c.begun_at-begun.ensures.begun limit fed c.in-Ok.ensures in
    let P : Done → Type 0 = λ d. OnErr c.put_text.result (KeepsUpToChange (bytes c.feed.new.connection.file) d.connection.bytes (bytes c.put_text.new.connection.file)) in
    let Q : List ℕ → Type 0 = λ b. OnErr c.put_text.result (KeepsUpToChange b (lines_written old at (feed_at place old) ends cells (printed_by at.modes.recl (begun at) actions)).connection.bytes (bytes c.put_text.new.connection.file)) in
    subst Q (c.feed.ensures.same t) (subst P is (c.put_text.ensures.stopped (c.feed.ensures.telling.0 t) cells))
