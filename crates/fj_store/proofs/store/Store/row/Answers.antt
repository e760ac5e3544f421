use Rattle.std.proofs.Common.{◌≡◌, ap, sym, ◌∙◌, arith}
use Rattle.fj_store.specs.Kinds.{kind_at}
use Rattle.fj_store.specs.Slots.{all_read}
use Rattle.fj_store.proofs.CopyLemmas.{row_moved}
use Rattle.fj_store.proofs.RunLemmas.{run_long}
use Rattle.fj_store.proofs.StoreLemmas.{undefined_lost}
use Rattle.fj_store.proofs.store.Store.row.Goals as goal

pub invariant_of-result : goal.invariant_of-result
invariant_of-result c =
    let run = c.args.run in
    (omega (arith, run.fits, run_long (all_read c.self.inside.slots) c.in-Some.values.now run.var run.first run.count c.in-Some.ensures.some), tt)

pub returns-in-Some-clause-some : goal.returns-in-Some-clause-some
returns-in-Some-clause-some c =
    let run = c.args.run in
    let kind : c.kind_in.result ≡ kind_at c.args.self.now.kinds run.var = c.kind_in.ensures ∙ ap (λ ks. kind_at ks run.var) (c.deref.ensures.value ∙ ap (λ s. s.kinds) c.self.view_is) in
    row_moved c.self.inside.kinds.items c.self.inside.slots c.args.self.now c.in-Some.values.now c.kind_in.result run.var run.first run.count c.self.view_is kind c.in-Some.ensures.some

pub returns-in-None-clause-none : goal.returns-in-None-clause-none
returns-in-None-clause-none c = λ some. sym (undefined_lost c.self.inside.kinds.items c.self.inside.slots c.args.self.now c.args.run c.self.view_is (c.in-None.ensures.none some))
