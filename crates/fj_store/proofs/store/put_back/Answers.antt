use Rattle.std.proofs.Common.{sym, ap, ◌∙◌}
use Rattle.fj_store.specs.Tables.{with_cells}
use Rattle.fj_store.specs.Taking.{home}
use Rattle.fj_store.proofs.RowLemmas.{none_left}
use Rattle.fj_store.proofs.store.put_back.Goals as goal

pub returns : goal.returns
returns c =
    let none = none_left c.putting.next c.putting.rest.items c.in_default.is c.putting.invariant.last in
    sym (ap (λ cs. with_cells (home c.args.kinds.now) cs c.putting.slots) none) ∙ c.putting.invariant.put
