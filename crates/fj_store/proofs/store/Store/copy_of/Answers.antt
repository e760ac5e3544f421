use Rattle.std.proofs.Common.{◌∙◌}
use Rattle.fj_store.specs.Pieces.{sizes}
use Rattle.fj_store.specs.Taking.{items_in}
use Rattle.fj_store.proofs.StoreLemmas.{same_is}
use Rattle.fj_store.proofs.TakingLemmas.{none_marked, room_less}
use Rattle.fj_store.proofs.CopyLemmas.{copy_is, none_used}
use Rattle.fj_store.proofs.store.Store.copy_of.Goals as goal

pub copy_pieces-requires-clause-room : goal.copy_pieces-requires-clause-room
copy_pieces-requires-clause-room c = room_less c.in_ok-taken.taken (sizes c.args.pieces.items) c.args.size c.requires c.in_ok-taken.ensures.room

pub copy_pieces-requires-clause-marked : goal.copy_pieces-requires-clause-marked
copy_pieces-requires-clause-marked c = none_marked c.self.inside.slots c.in_ok-taken.taken.cells.items c.in_ok-taken.ensures.none.0

pub copy_pieces-requires-clause-free : goal.copy_pieces-requires-clause-free
copy_pieces-requires-clause-free c = none_used c.in_ok-taken.taken.cells.items c.in_ok-taken.ensures.none.0

pub returns-in_err-copy_pieces-clause-same : goal.returns-in_err-copy_pieces-clause-same
returns-in_err-copy_pieces-clause-same c = same_is c.self.inside.kinds.items c.self.inside.slots c.copy_pieces.new.slots c.args.self.now c.self.view_is c.copy_pieces.ensures.same

pub returns-clause-same : goal.returns-clause-same
returns-clause-same c = same_is c.self.inside.kinds.items c.self.inside.slots c.copy_pieces.new.slots c.args.self.now c.self.view_is c.copy_pieces.ensures.same

pub returns-clause-moved : goal.returns-clause-moved
returns-clause-moved c =
    c.of_cells.ensures
    ∙ c.into_moved.ensures
    ∙ copy_is c.self.inside.kinds.items c.deref.result.now c.self.inside.slots c.args.pieces.items c.args.self.now c.in_ok-taken.taken.cells.items c.in_ok-taken.taken.order.items (items_in c.copy_pieces.new.taken)
    c.self.view_is c.deref.ensures.value c.in_ok-taken.ensures.none.0 c.in_ok-taken.ensures.none.1 c.in_ok-copy_pieces.ensures.items
