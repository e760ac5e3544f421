use Rattle.fj_book.proofs.RowLemmas.{AreAdded}
use Rattle.fj_book.proofs.row.add_each.Given as goal

abbrev pub invariant-loop-at : goal.invariant-loop-at
invariant-loop-at l = AreAdded l.by l.from l.at l.initial.each.items l.each.items
