use Rattle.fj_store.proofs.TakingLemmas.{marked_tells}
use Rattle.fj_store.proofs.taken.cell_of.Goals as goal

pub returns-clause-at : goal.returns-clause-at
returns-clause-at c = c.cell_marked.ensures.at (marked_tells c.args.slots.now c.args.cells.now c.args.place c.mark.result c.requires c.mark.ensures)
