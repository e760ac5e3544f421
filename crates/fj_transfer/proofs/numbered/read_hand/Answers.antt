use Rattle.std.proofs.Common.{◌≡◌, ℕ, true, List, length, ap, sym, subst, ◌∙◌}
use Rattle.fj_control.specs.Steps.{steps}
use Rattle.fj_control.specs.Walk.{Walk, due}
use Rattle.fj_control.specs.Paired.{paired}
use Rattle.fj_connect.specs.Connection.{Connection}
use Rattle.fj_connect.specs.Linked.{connection_of}
use Rattle.fj_connect.specs.Positions.{ended}
use Rattle.fj_transfer.specs.AtHand.{AtHand}
use Rattle.fj_transfer.specs.Input.{Ended, carried_out, explicit_input, stopped}
use Rattle.fj_transfer.specs.Places.{before_number}
use Rattle.fj_transfer.specs.Reader.{begins, hand_of, progress_of}
use Rattle.fj_transfer.specs.Transfer.{explicit_ended}
use Rattle.fj_transfer.specs.declared.hand.Hand.TheVariants.{Numbered}
use Rattle.fj_transfer.proofs.NumberedLemmas.{not_open, numbered_hand}
use Rattle.fj_transfer.proofs.ReaderLemmas.{same_read}
use Rattle.fj_transfer.proofs.numbered.read_hand.Goals as goal

pub returns-clause-done : goal.returns-clause-done
returns-clause-done g c = λ t.
    let bytes = g.F.FileStore.bytes in
    let now = c.args.connection.now in
    let old = connection_of bytes now in
    let mid = c.read_steps.new.connection in
    let same : connection_of bytes mid ≡ old = same_read bytes now mid c.read_steps.ensures.file.rest (c.read_steps.ensures.file.same t) in
    let closed : ended old ≡ old = not_open old c.requires.outside in
    let after = c.read_steps.new.self in
    let cells = c.read_steps.new.cells in
    let condition = c.in_ok-condition.condition in
    let number = c.args.number in
    let modes = c.args.modes in
    let format = c.args.format.now in
    let order = c.args.moved.now.order in
    let first = begins old (Numbered number) c.args.text c.args.moved.now.cells in
    let read = explicit_input true modes (steps format (length order)) order first in
    let T : Connection → Type 0 = λ m. carried_out true (paired modes (due c.in_ok-cursor.cursor (length c.as_slice.result.now)) c.as_slice.result.now) (begins m (Numbered number) c.args.text c.args.moved.now.cells) ≡ stopped condition (progress_of m after cells) in
    let went : read ≡ stopped condition (progress_of old after cells) =
    ap (λ (l : List ℕ). carried_out true (paired modes (steps format (length l)) l) first) (sym c.as_slice.ensures)
    ∙ ap (λ (w : Walk). carried_out true (paired modes (due w (length c.as_slice.result.now)) c.as_slice.result.now) first) (sym c.in_ok-cursor.ensures.begun)
    ∙ subst T closed (c.in_ok-condition.ensures.done t tt) in
    let hand : hand_of old after.hand after.text ≡ hand_of (before_number old number) after.hand after.text =
    numbered_hand now.modes.access _ number old after.hand after.text c.requires.access c.read_steps.ensures.within in
    c.leave_numbered.ensures.done (c.read_steps.ensures.file.telling.0 t)
    ∙ ap (λ (m : Connection). explicit_ended m (before_number m number) true (stopped condition (progress_of (before_number m number) after cells))) same
    ∙ ap (λ (h : AtHand). explicit_ended old (before_number old number) true (stopped condition (record { hand = h; at = after.at; cells = cells; count = after.count }))) (sym hand)
    ∙ ap (λ (e : Ended). explicit_ended old (before_number old number) true e) (sym went)
