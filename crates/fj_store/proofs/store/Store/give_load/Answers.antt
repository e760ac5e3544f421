use Rattle.std.proofs.Common.{ap}
use Rattle.fj_moved.specs.Load.{moved_row}
use Rattle.fj_moved.specs.declared.moved.Moved.{Moved}
use Rattle.fj_store.proofs.StoreLemmas.{back_is}
use Rattle.fj_store.proofs.store.Store.give_load.Goals as goal

pub returns-in-Row : goal.returns-in-Row
returns-in-Row c =
    back_is c.self.inside.kinds.items c.deref.result.now c.self.inside.slots c.put_row.new.slots c.args.self.now c.args.load.cells (moved_row c.in-Row.row).cells c.self.view_is c.deref.ensures.value
    (ap (λ (m : Moved). m.cells) c.in-Row.ensures) c.put_row.ensures
