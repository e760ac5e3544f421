use Rattle.std.proofs.Common.{◌<◌, length, ap, ◌∙◌, arith}
use Rattle.fj_store.specs.Places.{has_twice}
use Rattle.fj_book.proofs.CountLemmas.{raise_step}
use Rattle.fj_book.proofs.counts.Counts.add_all.Goals as goal

pub loop-run-preserved : goal.loop-run-preserved
loop-run-preserved c =
    let runs = c.runs-run-items.result.now in
    let low : c.loop-run.run-index < length runs = omega arith in
    raise_step c.args.by c.args.self.now c.loop-run.self c.add.new.self runs c.loop-run.run-index c.run-item.result low c.run-item.is (ap has_twice c.runs-run-items.ensures.places ∙ c.runs-run-items.ensures.distinct) c.loop-run.invariant c.add.ensures
