use Rattle.std.proofs.Common.{◌≡◌, None, ap, subst, ◌∙◌}
use Rattle.std.specs.Prelude.{IfOk}
use Rattle.fj_list.specs.ListInput.{list_input}
use Rattle.fj_connect.specs.Connection.{Connection}
use Rattle.fj_connect.specs.Linked.{connection_of}
use Rattle.fj_connect.specs.Positions.{ended}
use Rattle.fj_transfer.specs.Ahead.{ways_from}
use Rattle.fj_transfer.specs.Places.{at_place}
use Rattle.fj_transfer.specs.Reader.{done_with}
use Rattle.fj_transfer.specs.Transfer.{Done, input_done, records_read, records_to_come, condition_to_come}
use Rattle.fj_transfer.proofs.AheadLemmas.{comes_to}
use Rattle.fj_transfer.proofs.listed.read_listed.Goals as goal

pub returns-clause-done : goal.returns-clause-done
returns-clause-done g c = λ t.
    let bytes = g.F.FileStore.bytes in
    let old = connection_of g.F.FileStore.bytes c.args.connection.now in
    let place = c.args.place in
    let begun = at_place c.args.place (ended (connection_of g.F.FileStore.bytes c.args.connection.now)) in
    let reached = c.in_ok-reached.reached in
    let before = c.args.moved.now in
    let cells = c.list_from.new.moved.cells in
    let o = list_input c.args.modes.comma (records_to_come begun) (condition_to_come begun) before.cells before.order in
    let is : input_done (ways_from (connection_of g.F.FileStore.bytes c.list_from.new.connection) reached.place) cells None reached.condition ≡ records_read old begun before.cells o =
    ap (λ (m : Connection). input_done (ways_from m reached.place) cells None reached.condition) (c.list_from.ensures.same t) ∙ comes_to old place reached cells before.cells o (c.in_ok-reached.ensures.comes t) in
    let P : Done → Type 0 = λ d. IfOk c.leave.result (λ performed. done_with (connection_of g.F.FileStore.bytes c.leave.new.connection) c.leave.new.cells performed ≡ d) in
    subst P is (c.leave.ensures.done (c.list_from.ensures.telling.0 t))
