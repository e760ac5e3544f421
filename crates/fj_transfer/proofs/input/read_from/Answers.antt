use Rattle.std.proofs.Common.{◌≡◌, ℕ, Bool, List, length, ap, sym, subst, ◌∙◌}
use Rattle.std.specs.Prelude.{IfOk}
use Rattle.fj_control.specs.Steps.{steps}
use Rattle.fj_control.specs.Walk.{Walk, due}
use Rattle.fj_control.specs.Paired.{paired}
use Rattle.fj_connect.specs.Connection.{Connection}
use Rattle.fj_connect.specs.Linked.{connection_of}
use Rattle.fj_connect.specs.Positions.{ended}
use Rattle.fj_transfer.specs.Input.{Ended, carried_out, explicit_input, stopped}
use Rattle.fj_transfer.specs.Reader.{begins, progress_of, done_with, IsHand}
use Rattle.fj_transfer.specs.Transfer.{Done, explicit_ended}
use Rattle.fj_transfer.proofs.ReaderLemmas.{same_read}
use Rattle.fj_transfer.proofs.input.read_from.Goals as goal

pub returns-clause-done : goal.returns-clause-done
returns-clause-done g c = λ t h.
    let bytes = g.F.FileStore.bytes in
    let now = c.args.connection.now in
    let old = connection_of bytes now in
    let mid = c.read_steps.new.connection in
    let same : connection_of bytes mid ≡ old = same_read bytes now mid c.read_steps.ensures.file.rest (c.read_steps.ensures.file.same t) in
    let after = c.read_steps.new.self in
    let cells = c.read_steps.new.cells in
    let condition = c.in_ok-condition.condition in
    let advance = c.args.advance in
    let modes = c.args.modes in
    let format = c.args.format.now in
    let order = c.args.moved.now.order in
    let first = begins (ended old) c.args.hand c.args.text c.args.moved.now.cells in
    let went : explicit_input advance modes (steps format (length order)) order first ≡ stopped condition (progress_of (ended old) after cells) =
    ap (λ (l : List ℕ). carried_out advance (paired modes (steps format (length l)) l) first) (sym c.as_slice.ensures)
    ∙ ap (λ (w : Walk). carried_out advance (paired modes (due w (length c.as_slice.result.now)) c.as_slice.result.now) first) (sym c.in_ok-cursor.ensures.begun)
    ∙ c.in_ok-condition.ensures.done t h in
    let is : explicit_ended (connection_of bytes mid) (ended (connection_of bytes mid)) after.advance (stopped condition (progress_of (ended (connection_of bytes mid)) after cells))
    ≡ explicit_ended old (ended old) advance (explicit_input advance modes (steps format (length order)) order first) =
    ap (λ (m : Connection). explicit_ended m (ended m) after.advance (stopped condition (progress_of (ended m) after cells))) same
    ∙ ap (λ (a : Bool). explicit_ended old (ended old) a (stopped condition (progress_of (ended old) after cells))) c.read_steps.ensures.advance
    ∙ ap (λ (e : Ended). explicit_ended old (ended old) advance e) (sym went) in
    let H : Connection → Type 0 = λ m. IsHand (ended m) after.hand in
    let P : Done → Type 0 = λ d. IfOk c.finish.result (λ performed. done_with (connection_of bytes c.finish.new.connection) c.finish.new.cells performed ≡ d) in
    subst P is (c.finish.ensures.done (c.read_steps.ensures.file.telling.0 t) (subst H (sym same) (c.read_steps.ensures.hand t h)))
