use Rattle.std.proofs.Common.{◌≡◌, ◌<◌, length, slice_get, Some, refl, sym, ap, ◌∙◌}
use Rattle.std.proofs.lemmas.Option.{slice_get_read}
use Rattle.fj_store.proofs.TableLemmas.{none_of_row}
use Rattle.fj_store.proofs.table.Table.is_filled.Goals as goal

pub returns-in-Some : goal.returns-in-Some
returns-in-Some g c filled place of =
    let row = c.in-Some.row.now in
    let rows = c.deref.result.now in
    let low : c.args.var < length rows = c.in-Some.ensures.lookup.3.0 in
    let read : slice_get rows c.args.var ≡ Some row = slice_get_read rows (length rows) c.args.var row refl low c.in-Some.ensures.lookup.1 in
    let found : slice_get c.args.self.now place.var ≡ Some row = ap (slice_get c.args.self.now) of ∙ ap (λ xs. slice_get xs c.args.var) (sym (c.deref.ensures.value ∙ c.self.view_is)) ∙ read in
    none_of_row g.T.Element.undefined c.args.self.now row place found (c.is_filled.ensures filled)
