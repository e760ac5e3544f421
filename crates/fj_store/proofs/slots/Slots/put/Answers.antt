use Rattle.fj_store.proofs.SlotLemmas.{put_in}
use Rattle.fj_store.proofs.slots.Slots.put.Goals as goal

pub invariant_of-self : goal.invariant_of-self
invariant_of-self c =
    (put_in c.self.inside.marks c.put-2.new.self c.self.inside.values c.put.new.self c.args.self.now c.args.place c.args.slot c.apart-mark.result.0 c.apart-mark.result.1 c.self.invariant c.self.view_is c.apart-mark.ensures.mark c.apart-mark.ensures.value c.put.ensures c.put-2.ensures).marked

pub returns : goal.returns
returns c =
    (put_in c.self.inside.marks c.put-2.new.self c.self.inside.values c.put.new.self c.args.self.now c.args.place c.args.slot c.apart-mark.result.0 c.apart-mark.result.1 c.self.invariant c.self.view_is c.apart-mark.ensures.mark c.apart-mark.ensures.value c.put.ensures c.put-2.ensures).new
