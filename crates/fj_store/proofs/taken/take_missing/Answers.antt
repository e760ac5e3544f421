use Rattle.std.proofs.Common.{◌≡◌, ℕ, ◌+◌, ◌-◌, ◌≤◌, subst, ap, ◌∙◌, arith}
use Rattle.std.specs.List.{position_or_len}
use Rattle.fj_store.specs.Places.{places_of}
use Rattle.fj_store.specs.Taking.{HasRoom, take_all, taking}
use Rattle.fj_store.specs.Variables.{is_at}
use Rattle.fj_store.proofs.RowLemmas.{missing_taken}
use Rattle.fj_store.proofs.TakingLemmas.{room_less}
use Rattle.fj_store.proofs.taken.take_missing.Goals as goal

pub loop-at-preserved : goal.loop-at-preserved
loop-at-preserved c =
    let l = c.loop-at in
    let run = c.args.run in
    let number : c.position-number.result ≡ position_or_len (is_at c.place_at-place.result) l.taken.cells.items = c.position-number.ensures.at ∙ ap (position_or_len (is_at c.place_at-place.result)) c.deref.ensures.value in
    record {
      taken = λ slots none m.
          (missing_taken c.args.kind run.var run.first run.count l.at c.place_at-place.result slots (take_all c.args.kind (taking slots c.args.taken.now) (places_of run)) l.taken c.add_item.new.taken c.position-number.result c.loop-at-test.true
          c.place_at-place.ensures.var c.place_at-place.ensures.index none number (l.invariant.marked slots none m) (c.add_item.ensures.item number) (l.invariant.taken slots none m)).0;
      marked = λ slots none m.
          (missing_taken c.args.kind run.var run.first run.count l.at c.place_at-place.result slots (take_all c.args.kind (taking slots c.args.taken.now) (places_of run)) l.taken c.add_item.new.taken c.position-number.result c.loop-at-test.true
          c.place_at-place.ensures.var c.place_at-place.ensures.index none number (l.invariant.marked slots none m) (c.add_item.ensures.item number) (l.invariant.taken slots none m)).1;
      room = λ n h.
          let P : ℕ → Type 0 = λ k. HasRoom l.taken k in
          let one : (run.count - l.at) + n ≡ ((run.count - (l.at + 1)) + n) + 1 = omega (arith, c.loop-at-test.true) in
          c.add_item.ensures.room ((run.count - (l.at + 1)) + n) (subst P one (l.invariant.room n h));
    }

pub returns-clause-room : goal.returns-clause-room
returns-clause-room c n h =
    let P : ℕ → Type 0 = λ m. HasRoom c.loop-at.taken m in
    let all : (c.args.run.count - c.loop-at.at) + n ≡ n = omega (arith, c.loop-at-test.false) in
    subst P all (c.loop-at.invariant.room n h)

pub add_item-requires-clause-room : goal.add_item-requires-clause-room
add_item-requires-clause-room c =
    let all : c.args.run.count ≡ c.args.run.count + 0 = omega arith in
    let one : 1 ≤ (c.args.run.count - c.loop-at.at) + 0 = omega (arith, c.loop-at-test.true) in
    room_less c.loop-at.taken 1 ((c.args.run.count - c.loop-at.at) + 0) one (c.loop-at.invariant.room 0 (subst (HasRoom c.args.taken.now) all c.requires))
