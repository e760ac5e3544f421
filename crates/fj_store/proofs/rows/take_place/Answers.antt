use Rattle.fj_store.proofs.RowLemmas.{place_taken}
use Rattle.fj_store.proofs.rows.take_place.Goals as goal

pub returns-clause-taken : goal.returns-clause-taken
returns-clause-taken c =
    place_taken c.args.kind c.args.place c.args.marks.now c.put_in.new.row c.args.values.now c.take_in-value.new.values c.args.taken.now c.add_item.new.taken c.number_in.result c.deref.result.now c.cell_marked-at.result c.take_in-value.result
    c.number_in.ensures c.deref.ensures.value c.cell_marked-at.ensures.at c.take_in-value.ensures.value c.take_in-value.ensures.new c.put_in.ensures c.add_item.ensures.item
