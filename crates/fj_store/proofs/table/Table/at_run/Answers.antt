use Rattle.std.proofs.Common.{◌≡◌, ◌+◌, ◌-◌, ◌<◌, map, take, drop, length, slice_get, Some, refl, sym, ap, ◌∙◌, arith}
use Rattle.std.proofs.lemmas.Option.{slice_get_read}
use Rattle.fj_store.specs.Places.{counted_from}
use Rattle.fj_store.specs.Tables.{element_at}
use Rattle.fj_store.proofs.RunLemmas.{row_at, lost_end}
use Rattle.fj_store.proofs.table.Table.at_run.Goals as goal

pub returns-then-end-len-clause-none : goal.returns-then-end-len-clause-none
returns-then-end-len-clause-none g c some =
    let row = c.in_ok-row.row.now in
    let low : c.args.run.var < length c.deref.result.now = c.in_ok-row.ensures.lookup.3.0 in
    let read : slice_get c.deref.result.now c.args.run.var ≡ Some row = slice_get_read c.deref.result.now (length c.deref.result.now) c.args.run.var row refl low c.in_ok-row.ensures.lookup.1 in
    let found : slice_get c.args.self.now c.args.run.var ≡ Some row = ap (λ rows. slice_get rows c.args.run.var) (sym (c.deref.ensures.value ∙ c.self.view_is)) ∙ read in
    let first : c.args.run.first ≡ c.in_ok-first.field-0 + 1 = let e = c.in_ok-first.ensures in omega (arith, e) in
    lost_end c.args.self.now row c.args.run.var c.args.run.first c.in_ok-first.field-0 c.args.run.count found first some (let e = c.if-end-len.true in let f = c.len.ensures in omega (arith, e, f))

pub returns-clause-some : goal.returns-clause-some
returns-clause-some g c =
    let k = c.in_ok-first.field-0 in
    let row = c.in_ok-row.row.now in
    let low : c.args.run.var < length c.deref.result.now = c.in_ok-row.ensures.lookup.3.0 in
    let read : slice_get c.deref.result.now c.args.run.var ≡ Some row = slice_get_read c.deref.result.now (length c.deref.result.now) c.args.run.var row refl low c.in_ok-row.ensures.lookup.1 in
    let found : slice_get c.args.self.now c.args.run.var ≡ Some row = ap (λ rows. slice_get rows c.args.run.var) (sym (c.deref.ensures.value ∙ c.self.view_is)) ∙ read in
    let first : k + 1 ≡ c.args.run.first = let e = c.in_ok-first.ensures in omega (arith, e) in
    let count : (k + c.args.run.count) - k ≡ c.args.run.count = omega arith in
    ap (λ xs. map Some (take ((k + c.args.run.count) - k) (drop k xs))) c.as_slice.ensures
    ∙ ap (λ n. map Some (take n (drop k row))) count
    ∙ row_at c.args.self.now row c.args.run.var k c.args.run.count found (let e = c.if-end-len.false in let f = c.len.ensures in omega (arith, e, f))
    ∙ ap (λ n. map (element_at c.args.self.now) (counted_from c.args.run.var n c.args.run.count)) first
