use Rattle.std.proofs.Common.{◌≡◌, length, Ok, Result, ap, sym, subst, ◌∙◌}
use Rattle.std.specs.Prelude.{IfOk}
use Rattle.fj_value.specs.declared.condition.Condition.{Condition}
use Rattle.fj_control.specs.Steps.{steps}
use Rattle.fj_connect.specs.Connection.{Connection}
use Rattle.fj_connect.specs.Linked.{connection_of}
use Rattle.fj_connect.specs.Positions.{ended}
use Rattle.fj_transfer.specs.AtHand.{AtHand, first_record}
use Rattle.fj_transfer.specs.Input.{explicit_input}
use Rattle.fj_transfer.specs.Places.{at_place}
use Rattle.fj_transfer.specs.Reader.{begins, hand_of, found_of, done_with, IsHand, IsFound}
use Rattle.fj_transfer.specs.Transfer.{Done, explicit_ended, explicit_read}
use Rattle.fj_transfer.specs.declared.hand.Found.{Found}
use Rattle.fj_transfer.proofs.ReaderLemmas.{same_read, ended_anywhere}
use Rattle.fj_transfer.proofs.input.read_lines.Goals as goal

pub returns-in-Here-clause-done : goal.returns-in-Here-clause-done
returns-in-Here-clause-done g c = λ t.
    let bytes = g.F.FileStore.bytes in
    let now = c.args.connection.now in
    let old = connection_of bytes now in
    let mid = c.first_found.new.connection in
    let same : connection_of bytes mid ≡ old = same_read bytes now mid c.first_found.ensures.rest (c.first_found.ensures.same t) in
    let place = c.args.place in
    let begun = at_place place (ended old) in
    let advance = c.args.advance in
    let modes = c.args.modes in
    let format = c.args.format.now in
    let moved = c.args.moved.now in
    let hand = c.in-Here.hand in
    let text = c.in-Here.text in
    let F : Found → Type 0 = λ f. found_of (ended old) f ≡ first_record begun in
    let G : Found → Type 0 = λ f. IsFound (ended old) f in
    let first : Ok (hand_of (ended old) hand text) ≡ first_record begun = subst F c.in-Here.is (c.in_ok-hand.ensures.found t) in
    let there : IsHand (ended old) hand = subst G c.in-Here.is (c.in_ok-hand.ensures.hand t) in
    let read = explicit_input advance modes (steps format (length moved.order)) moved.order (begins (ended old) hand text moved.cells) in
    let is : explicit_ended (connection_of bytes mid) (ended (connection_of bytes mid)) advance (explicit_input advance modes (steps format (length moved.order)) moved.order (begins (ended (connection_of bytes mid)) hand text moved.cells))
    ≡ explicit_read old begun advance modes (steps format) moved (first_record begun) =
    ap (λ (m : Connection). explicit_ended m (ended m) advance (explicit_input advance modes (steps format (length moved.order)) moved.order (begins (ended m) hand text moved.cells))) same
    ∙ ended_anywhere old (ended old) place advance read
    ∙ ap (λ (r : Result AtHand Condition). explicit_read old begun advance modes (steps format) moved r) first in
    let H : Connection → Type 0 = λ m. IsHand (ended m) hand in
    let P : Done → Type 0 = λ d. IfOk c.read_from.result (λ performed. done_with (connection_of bytes c.read_from.new.connection) c.read_from.new.moved.cells performed ≡ d) in
    subst P is (c.read_from.ensures.done (c.first_found.ensures.telling.0 t) (subst H (sym same) there))
