use Rattle.std.proofs.Common.{◌≡◌, ap, ◌∙◌, arith}
use Rattle.fj_store.specs.Kinds.{kind_at}
use Rattle.fj_store.specs.Places.{places_of}
use Rattle.fj_store.specs.Slots.{all_read}
use Rattle.fj_store.proofs.CopyLemmas.{row_moved}
use Rattle.fj_store.proofs.RunLemmas.{run_long, shared_is}
use Rattle.fj_store.proofs.store.Store.shared_run.Goals as goal
use Rattle.fj_store.proofs.store.Store.shared_run.Goals.{in-Some, in-None}

pub invariant_of-of_row : goal.invariant_of-of_row
invariant_of-of_row c =
    let run = c.args.run in
    let read = shared_is (all_read c.self.inside.slots) (places_of run) c.in_ok-values.field-0 c.in-Some.values c.in-Some.is c.in_ok-values.ensures.shared in
    record { fits = omega (arith, run.fits, run_long (all_read c.self.inside.slots) c.in-Some.values run.var run.first run.count read) }

pub returns-clause-moved : goal.returns-clause-moved
returns-clause-moved c =
    let run = c.args.run in
    elim c.match-branch-2.branch [
      | in-Some w ↦
          let values = w.in-Some.values in
          let read = shared_is (all_read c.self.inside.slots) (places_of run) c.in_ok-values.field-0 values w.in-Some.is c.in_ok-values.ensures.shared in
          let kind : w.kind_in.result ≡ kind_at c.args.self.now.kinds run.var = w.kind_in.ensures ∙ ap (λ ks. kind_at ks run.var) (w.deref.ensures.value ∙ ap (λ s. s.kinds) c.self.view_is) in
          rw w.result-is (w.of_row.ensures ∙ row_moved c.self.inside.kinds.items c.self.inside.slots c.args.self.now values w.kind_in.result run.var run.first run.count c.self.view_is kind read)
      | in-None w ↦ rw w.result-is tt
    ]
