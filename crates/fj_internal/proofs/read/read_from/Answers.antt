use Rattle.std.proofs.Common.{◌≡◌, ℕ, List, length, ap, sym, ◌∙◌}
use Rattle.fj_control.specs.Steps.{steps}
use Rattle.fj_control.specs.Walk.{Walk, due}
use Rattle.fj_control.specs.Paired.{paired}
use Rattle.fj_transfer.specs.Input.{stopped}
use Rattle.fj_internal.specs.Internal.{records_of}
use Rattle.fj_internal.specs.Records.{begins_in, progress_of, taken_ended, taken_out}
use Rattle.fj_internal.proofs.read.read_from.Goals as goal

pub returns-clause-taken : goal.returns-clause-taken
returns-clause-taken c =
    let after = c.read_steps.new.self in
    let cells = c.read_steps.new.cells in
    let condition = c.in_ok-condition.condition in
    let advance = c.args.advance in
    let modes = c.args.modes in
    let format = c.args.format.now in
    let order = c.args.moved.now.order in
    let records = records_of c.args.behind.now in
    let first = begins_in c.args.text.now c.args.moved.now.cells in
    let went : taken_out advance (paired modes (steps format (length order)) order) records first ≡ stopped condition (progress_of after cells) =
    ap (λ (l : List ℕ). taken_out advance (paired modes (steps format (length l)) l) records first) (sym c.as_slice.ensures)
    ∙ ap (λ (w : Walk). taken_out advance (paired modes (due w (length c.as_slice.result.now)) c.as_slice.result.now) records first) (sym c.in_ok-cursor.ensures.begun)
    ∙ c.in_ok-condition.ensures.done in
    c.leave.ensures.taken ∙ ap taken_ended (sym went)
