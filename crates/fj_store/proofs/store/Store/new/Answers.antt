use Rattle.fj_store.proofs.StoreLemmas.{new_is}
use Rattle.fj_store.proofs.store.Store.new.Goals as goal

pub returns : goal.returns
returns c = new_is c.args.variables.now c.loop-kind.kinds.items c.in_ok-slots.slots c.loop-kind.kind-index c.loop-kind-test.false c.loop-kind.invariant c.in_ok-slots.ensures
