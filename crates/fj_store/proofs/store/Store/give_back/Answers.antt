use Rattle.fj_store.proofs.StoreLemmas.{back_is}
use Rattle.fj_store.proofs.store.Store.give_back.Goals as goal

pub returns : goal.returns
returns c =
    back_is c.self.inside.kinds.items c.deref.result.now c.self.inside.slots c.put_back.new.slots c.args.self.now c.args.cells c.into_vec.result.items c.self.view_is c.deref.ensures.value c.into_vec.ensures c.put_back.ensures
