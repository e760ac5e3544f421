use Rattle.std.proofs.Common.{◌≡◌, ◌+◌, ◌<◌, length, get_or, ap, arith}
use Rattle.std.proofs.lemmas.List.Folds.{length-flat_map-take}
use Rattle.fj_store.specs.Places.{places_of}
use Rattle.fj_store.proofs.PlaceLemmas.{places_more, length-counted_from}
use Rattle.fj_store.proofs.taken.count_of.Goals as goal

pub overflow_add-count : goal.overflow_add-count
overflow_add-count c =
    let i : c.loop-run.run-index < length c.args.runs.now = omega arith in
    let run = get_or c.args.runs.now c.loop-run.run-index c.run-item.result in
    let low = length-flat_map-take places_of c.args.runs.now c.loop-run.run-index c.run-item.result i in
    let long = length-counted_from run.var run.first run.count in
    let same : c.run-item.result.count ≡ run.count = ap (λ r. r.count) c.run-item.is in
    let total : c.loop-run.count + c.run-item.result.count < 4294967296 = omega (arith, low, long, same, c.loop-run.invariant, c.requires) in
    omega (arith, total)

pub loop-run-preserved : goal.loop-run-preserved
loop-run-preserved c =
    let i : c.loop-run.run-index < length c.args.runs.now = omega arith in
    let more = places_more c.args.runs.now c.loop-run.run-index c.run-item.result i in
    let same : c.run-item.result.count ≡ (get_or c.args.runs.now c.loop-run.run-index c.run-item.result).count = ap (λ r. r.count) c.run-item.is in
    omega (arith, more, same, c.loop-run.invariant)
