use Rattle.std.proofs.Common.{ℕ, ◌+◌, ◌≤◌, ◌<◌, length, drop, subst, arith}
use Rattle.fj_store.specs.Places.{places_in}
use Rattle.fj_store.specs.Taking.{taking, HasRoom, take_runs}
use Rattle.fj_store.proofs.TakingLemmas.{room_less, places_left, runs_step}
use Rattle.fj_store.proofs.taken.take_places.Goals as goal

pub take_run-requires-clause-room : goal.take_run-requires-clause-room
take_run-requires-clause-room c =
    let i : c.loop-run.run-index < length c.args.runs.now = omega arith in
    let left = places_left c.args.runs.now c.loop-run.run-index c.run-item.result i c.run-item.is in
    let low : c.run-item.result.count ≤ length (places_in (drop c.loop-run.run-index c.args.runs.now)) = omega (arith, left) in
    room_less c.loop-run.taken c.run-item.result.count (length (places_in (drop c.loop-run.run-index c.args.runs.now))) low c.loop-run.invariant.2

pub loop-run-preserved : goal.loop-run-preserved
loop-run-preserved c =
    let i : c.loop-run.run-index < length c.args.runs.now = omega arith in
    let left = places_left c.args.runs.now c.loop-run.run-index c.run-item.result i c.run-item.is in
    let P : ℕ → Type 0 = λ m. HasRoom c.loop-run.taken m in (
      runs_step c.args.kinds.now (taking c.loop-run.slots c.loop-run.taken) (taking c.take_run.new.self c.take_run.new.taken) (take_runs c.args.kinds.now (taking c.args.slots.now c.args.taken.now) c.args.runs.now)
          c.args.runs.now c.loop-run.run-index c.run-item.result c.kind_in.result i c.run-item.is c.kind_in.ensures c.take_run.ensures.taken c.loop-run.invariant.0,
      c.take_run.ensures.marked,
      c.take_run.ensures.room (length (places_in (drop (c.loop-run.run-index + 1) c.args.runs.now))) (subst P left c.loop-run.invariant.2),
    )
