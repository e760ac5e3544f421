use Rattle.std.proofs.Common.{◌∙◌}
use Rattle.fj_store.proofs.TakingLemmas.{none_marked, out_is}
use Rattle.fj_store.proofs.store.Store.take_out.Goals as goal

pub take_places-requires-clause-marked : goal.take_places-requires-clause-marked
take_places-requires-clause-marked c = none_marked c.self.inside.slots c.in_ok-taken.taken.cells.items c.in_ok-taken.ensures.none.0

pub returns-clause-moved : goal.returns-clause-moved
returns-clause-moved c =
    c.into_moved.ensures
    ∙ (out_is c.self.inside.kinds.items c.deref.result.now c.self.inside.slots c.take_places.new.slots c.args.runs.now c.args.self.now c.in_ok-taken.taken.cells.items c.take_places.new.taken.cells.items
    c.in_ok-taken.taken.order.items c.take_places.new.taken.order.items c.self.view_is c.deref.ensures.value c.in_ok-taken.ensures.none.0 c.in_ok-taken.ensures.none.1 c.take_places.ensures).0

pub returns-clause-ok : goal.returns-clause-ok
returns-clause-ok c =
    (out_is c.self.inside.kinds.items c.deref.result.now c.self.inside.slots c.take_places.new.slots c.args.runs.now c.args.self.now c.in_ok-taken.taken.cells.items c.take_places.new.taken.cells.items
    c.in_ok-taken.taken.order.items c.take_places.new.taken.order.items c.self.view_is c.deref.ensures.value c.in_ok-taken.ensures.none.0 c.in_ok-taken.ensures.none.1 c.take_places.ensures).1
