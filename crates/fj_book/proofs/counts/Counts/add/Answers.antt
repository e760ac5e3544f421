use Rattle.std.proofs.Common.{◌≡◌, ◌<◌, ◌≤◌, List, ℕ, length, set, slice_get, Some, refl, sym, ap, subst, ◌∙◌, arith}
use Rattle.std.proofs.lemmas.Option.{slice_get_read, slice_get_past}
use Rattle.fj_store.specs.Places.{places_of}
use Rattle.fj_book.proofs.CountLemmas.{AreRaised, lost_raised, run_raised}
use Rattle.fj_book.proofs.counts.Counts.add.Goals as goal

pub returns-then-var-len : goal.returns-then-var-len
returns-then-var-len c =
    let rows = c.self.inside.rows.items in
    let past : length rows ≤ c.args.run.var = omega (arith, c.len.ensures, c.if-var-len.true, c.self.inside.rows.ok.0) in
    lost_raised c.args.self.now c.args.run c.args.by (ap (λ z. slice_get z c.args.run.var) (sym c.self.view_is) ∙ slice_get_past rows c.args.run.var past)

pub returns : goal.returns
returns c =
    let rows = c.self.inside.rows.items in
    let row = c.index_mut.result.now in
    let looked = c.index.result.now in
    let low : c.args.run.var < length rows = omega (arith, c.len.ensures, c.if-var-len.false, c.self.inside.rows.ok.0) in
    let read : slice_get rows c.args.run.var ≡ Some row = slice_get_read rows (length rows) c.args.run.var row refl low c.index_mut.ensures.value in
    let also : slice_get rows c.args.run.var ≡ Some looked = slice_get_read rows (length rows) c.args.run.var looked refl low c.index.ensures in
    let long : length row ≡ length looked = let e : Some row ≡ Some looked = sym read ∙ also in let same : row ≡ looked = cc in ap length same in
    let found : slice_get c.args.self.now c.args.run.var ≡ Some row = ap (λ z. slice_get z c.args.run.var) (sym c.self.view_is) ∙ read in
    let P : List (List ℕ) → Type 0 = λ z. AreRaised c.args.by (places_of c.args.run) c.args.self.now (set z c.args.run.var c.add.new.self) in
    subst P (sym c.self.view_is) (run_raised c.args.self.now row c.add.new.self c.args.run c.args.by c.within-from.result.0 c.within-from.result.1 found
    c.add.ensures (λ at l. c.within-from.ensures.places at (omega (arith, c.len-2.ensures, long, l))))
