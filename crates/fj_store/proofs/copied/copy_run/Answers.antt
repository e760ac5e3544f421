use Rattle.std.proofs.Common.{◌≡◌, ℕ, ◌+◌, ◌-◌, subst, ◌∙◌, arith}
use Rattle.fj_store.specs.Taking.{HasRoom, items_in, values_in}
use Rattle.fj_store.proofs.TakingLemmas.{room_less}
use Rattle.fj_store.proofs.CopyLemmas.{copy_step}
use Rattle.fj_store.proofs.copied.copy_run.Goals as goal

pub copy_place-requires-clause-room : goal.copy_place-requires-clause-room
copy_place-requires-clause-room c =
    let P : ℕ → Type 0 = λ m. HasRoom c.args.taken.now m in
    let none : c.args.run.count ≡ c.args.run.count + 0 = omega arith in
    room_less c.loop-at.taken 1 ((c.args.run.count - c.loop-at.at) + 0) (omega (arith, c.loop-at-test.true)) (c.loop-at.invariant.room 0 (subst P none c.requires.room))

pub loop-at-preserved : goal.loop-at-preserved
loop-at-preserved c =
    let l = c.loop-at in
    let run = c.args.run in
    let new = c.copy_place.new in
    record {
      items = copy_step c.args.kind (values_in c.args.slots.now) (values_in l.slots) (items_in l.taken) (items_in new.taken) _ run.var run.first run.count l.at c.place_at.result c.loop-at-test.true c.place_at.ensures.var
          c.place_at.ensures.index l.invariant.same c.in_ok-copy_place.ensures.item l.invariant.items;
      same = c.copy_place.ensures.same ∙ l.invariant.same;
      marked = c.in_ok-copy_place.ensures.marked;
      room = λ n h.
          let P : ℕ → Type 0 = λ m. HasRoom l.taken m in
          let one : (run.count - l.at) + n ≡ ((run.count - (l.at + 1)) + n) + 1 = omega (arith, c.loop-at-test.true) in
          c.in_ok-copy_place.ensures.room ((run.count - (l.at + 1)) + n) (subst P one (l.invariant.room n h));
    }

pub returns-clause-room : goal.returns-clause-room
returns-clause-room c n h =
    let P : ℕ → Type 0 = λ m. HasRoom c.loop-at.taken m in
    let all : (c.args.run.count - c.loop-at.at) + n ≡ n = omega (arith, c.loop-at-test.false) in
    subst P all (c.loop-at.invariant.room n h)
