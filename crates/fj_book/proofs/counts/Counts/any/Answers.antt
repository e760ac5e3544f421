use Rattle.std.proofs.Common.{◌≡◌, ◌<◌, ◌≤◌, ◌+◌, ◌-◌, ltb, length, map, take, drop, slice_get, Some, refl, sym, ap, ◌∙◌, arith}
use Rattle.std.proofs.lemmas.Option.{slice_get_read}
use Rattle.std.specs.List.{list_any}
use Rattle.fj_store.specs.Places.{counted_from, places_of}
use Rattle.fj_store.specs.Tables.{element_at}
use Rattle.fj_store.proofs.RunLemmas.{row_at}
use Rattle.fj_book.proofs.CountLemmas.{any_counted_at}
use Rattle.fj_book.proofs.counts.Counts.any.Goals as goal

pub returns : goal.returns
returns c holds there =
    let rows = c.self.inside.rows.items in
    let row = c.index-2.result.now in
    let k = c.in_ok-from.field-0 in
    let n = c.args.run.count in
    let low : c.args.run.var < length rows = omega (arith, c.len.ensures, c.if-var-len.false, c.self.inside.rows.ok.0) in
    let read : slice_get rows c.args.run.var ≡ Some row = slice_get_read rows (length rows) c.args.run.var row refl low c.index-2.ensures in
    let found : slice_get c.args.self.now c.args.run.var ≡ Some row = ap (λ z. slice_get z c.args.run.var) (sym c.self.view_is) ∙ read in
    let first : k + 1 ≡ c.args.run.first = let e = c.in_ok-from.ensures in omega (arith, e) in
    let count : (k + n) - k ≡ n = omega arith in
    let looked = c.index.result.now in
    let also : slice_get rows c.args.run.var ≡ Some looked = slice_get_read rows (length rows) c.args.run.var looked refl low c.index.ensures in
    let long : length row ≡ length looked = let e : Some row ≡ Some looked = sym read ∙ also in let same : row ≡ looked = cc in ap length same in
    let fits : k + n ≤ length row = omega (arith, c.len-2.ensures, c.if-to-len.false, long) in
    c.any.ensures ∙ ap (λ m. list_any (ltb 0) (take m (drop k row))) count
    ∙ any_counted_at c.args.self.now (take n (drop k row)) (places_of c.args.run) holds
    (row_at c.args.self.now row c.args.run.var k n found fits ∙ ap (λ i. map (element_at c.args.self.now) (counted_from c.args.run.var i n)) first) there
