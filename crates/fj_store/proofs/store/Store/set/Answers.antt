use Rattle.fj_store.proofs.StoreLemmas.{set_is}
use Rattle.fj_store.proofs.store.Store.set.Goals as goal

pub returns : goal.returns
returns c =
    set_is c.self.inside.kinds.items c.deref.result.now c.self.inside.slots c.put.new.self c.args.self.now c.args.place c.args.value c.of_kind-value.result c.kind_in.result c.self.view_is c.deref.ensures.value c.kind_in.ensures c.of_kind-value.ensures c.put.ensures
