use Rattle.std.proofs.Common.{Some, ap, ◌∙◌}
use Rattle.fj_connect.specs.Connection.{Connection, past_end}
use Rattle.fj_connect.specs.Linked.{connection_of}
use Rattle.fj_connect.specs.Positions.{ended}
use Rattle.fj_transfer.specs.AtHand.{behind}
use Rattle.fj_transfer.specs.Input.{left_at}
use Rattle.fj_transfer.specs.Reader.{progress_of}
use Rattle.fj_transfer.proofs.ReaderLemmas.{as_done, fine_done, record_done}
use Rattle.fj_transfer.proofs.explicit.finish.Goals as goal

pub returns-in_ok-leave-in-Fine-clause-done : goal.returns-in_ok-leave-in-Fine-clause-done
returns-in_ok-leave-in-Fine-clause-done g c = λ t h.
    let old = connection_of g.F.FileStore.bytes c.args.connection.now in
    let cells = c.args.cells.now in
    let reader = c.args.reader.now in
    let p = progress_of (ended old) reader cells in
    ap (λ (x : Connection). as_done x cells (Some reader.count) c.args.condition) (c.in_ok-leave-in-Fine.ensures.left t h cells)
    ∙ fine_done (record { old = old; end_of_file = past_end (ended old); end_of_record = behind p.hand; fine = left_at reader.advance p }) cells (Some reader.count) c.args.condition c.in-Fine.is

pub returns-in_ok-leave_behind-in-EndOfRecord-clause-done :
    goal.returns-in_ok-leave_behind-in-EndOfRecord-clause-done
returns-in_ok-leave_behind-in-EndOfRecord-clause-done g c = λ t h.
    let old = connection_of g.F.FileStore.bytes c.args.connection.now in
    let cells = c.args.cells.now in
    let reader = c.args.reader.now in
    let p = progress_of (ended old) reader cells in
    ap (λ (x : Connection). as_done x cells (Some reader.count) c.args.condition) (c.in_ok-leave_behind-in-EndOfRecord.ensures.left t h cells)
    ∙ record_done (record { old = old; end_of_file = past_end (ended old); end_of_record = behind p.hand; fine = left_at reader.advance p }) cells (Some reader.count) c.args.condition c.in-EndOfRecord.is
