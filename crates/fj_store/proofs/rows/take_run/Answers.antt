use Rattle.std.proofs.Common.{◌≡◌, ℕ, ◌+◌, ◌-◌, subst, arith}
use Rattle.fj_store.specs.Places.{places_of}
use Rattle.fj_store.specs.Taking.{HasRoom}
use Rattle.fj_store.proofs.RowLemmas.{run_taken}
use Rattle.fj_store.proofs.rows.take_run.Goals as goal

pub loop-at-preserved : goal.loop-at-preserved
loop-at-preserved c = (
  run_taken c.args.kind c.args.run.var c.args.run.first c.args.run.count c.loop-at.at c.place_at.result (places_of c.args.run) c.args.marks.now c.loop-at.marks c.take_place.new.marks c.args.values.now c.loop-at.values c.take_place.new.values
      c.args.taken.now c.loop-at.taken c.take_place.new.taken c.loop-at-test.true c.place_at.ensures.var c.place_at.ensures.index c.take_place.ensures.taken c.loop-at.invariant.0,
  λ n h.
      let P : ℕ → Type 0 = λ m. HasRoom c.loop-at.taken m in
      let one : (c.args.run.count - c.loop-at.at) + n ≡ ((c.args.run.count - (c.loop-at.at + 1)) + n) + 1 = omega (arith, c.loop-at-test.true) in
      c.take_place.ensures.room ((c.args.run.count - (c.loop-at.at + 1)) + n) (subst P one (c.loop-at.invariant.1 n h)),
)

pub returns-clause-room : goal.returns-clause-room
returns-clause-room c n h =
    let P : ℕ → Type 0 = λ m. HasRoom c.loop-at.taken m in
    let all : (c.args.run.count - c.loop-at.at) + n ≡ n = omega (arith, c.loop-at-test.false) in
    subst P all (c.loop-at.invariant.1 n h)
