use Rattle.std.proofs.Common.{◌≡◌, ◌<◌, true, length, Some, slice_get, refl, sym, ap, ◌∙◌, subst, arith}
use Rattle.std.proofs.lemmas.List.{length-set}
use Rattle.fj_slot.specs.Ledger.{can_begin}
use Rattle.fj_world.specs.Alone.{left_at}
use Rattle.fj_world.proofs.Front.{at_first, stands, one_more, may_go_on, settles, left_falls}
use Rattle.fj_world.proofs.Places.{slice_get_in, same_some, set_same}
use Rattle.fj_world.proofs.alone.settle.Goals as goal

pub loop-slots-init : goal.loop-slots-init
loop-slots-init g c = record {
  within = c.requires.within;
  spare = refl;
  so_far = λ old e. at_first g.S.Gear.Engine.meaning c.args.slots.now c.args.at old e (c.requires.home old e);
}

pub serve_front-requires-clause-begins : goal.serve_front-requires-clause-begins
serve_front-requires-clause-begins g c = λ l e.
    let found = slice_get_in c.args.slots.now.slots c.args.at c.requires.within in
    let so = c.loop-slots.invariant.so_far found.0 found.1 in
    let there = stands g.S.Gear.Engine.meaning c.args.slots.now c.args.at found.0 found.1 c.loop-slots.slots so in
    let is : so.ledger ≡ l = same_some (sym there ∙ e) in
    let not = sym (c.ready.ensures so.ledger there) ∙ c.loop-slots-test.true in
    subst (λ z. can_begin z ≡ true) is (may_go_on g.S.Gear.Engine.meaning c.args.slots.now c.args.at found.0 found.1 c.loop-slots.slots so (c.requires.waits found.0 found.1) not)

pub loop-slots-smaller : goal.loop-slots-smaller
loop-slots-smaller g c =
    let found = slice_get_in c.args.slots.now.slots c.args.at c.requires.within in
    let so = c.loop-slots.invariant.so_far found.0 found.1 in
    let there = stands g.S.Gear.Engine.meaning c.args.slots.now c.args.at found.0 found.1 c.loop-slots.slots so in
    let not = sym (c.ready.ensures so.ledger there) ∙ c.loop-slots-test.true in
    let can = may_go_on g.S.Gear.Engine.meaning c.args.slots.now c.args.at found.0 found.1 c.loop-slots.slots so (c.requires.waits found.0 found.1) not in
    let front = c.serve_front.ensures.serves so.ledger there in
    let then : slice_get c.serve_front.new.slots.slots c.args.at ≡ Some front.ledger =
    ap (λ xs. slice_get xs c.args.at) front.after ∙ set_same c.loop-slots.slots.slots c.args.at front.ledger c.loop-slots.invariant.within in
    let falls = left_falls g.S.Gear.Engine.meaning so.ledger front.ledger can front.serves front.further in
    subst (λ o. left_at (slice_get c.serve_front.new.slots.slots c.args.at) < left_at o) (sym there) (subst (λ o. left_at o < left_at (Some so.ledger)) (sym then) falls)

pub loop-slots-preserved : goal.loop-slots-preserved
loop-slots-preserved g c = record {
  spare = c.serve_front.ensures.spare ∙ c.loop-slots.invariant.spare;
  within =
      let found = slice_get_in c.args.slots.now.slots c.args.at c.requires.within in
      let so = c.loop-slots.invariant.so_far found.0 found.1 in
      let there = stands g.S.Gear.Engine.meaning c.args.slots.now c.args.at found.0 found.1 c.loop-slots.slots so in
      let front = c.serve_front.ensures.serves so.ledger there in
      omega (arith, c.loop-slots.invariant.within, ap length front.after, length-set c.loop-slots.slots.slots c.args.at front.ledger);
  so_far = λ old e.
      let so = c.loop-slots.invariant.so_far old e in
      let there = stands g.S.Gear.Engine.meaning c.args.slots.now c.args.at old e c.loop-slots.slots so in
      one_more g.S.Gear.Engine.meaning c.args.slots.now c.args.at old e c.loop-slots.slots c.serve_front.new.slots so (c.serve_front.ensures.serves so.ledger there);
}

pub returns-clause-settles : goal.returns-clause-settles
returns-clause-settles g c = λ l e.
    let so = c.loop-slots.invariant.so_far l e in
    let there = stands g.S.Gear.Engine.meaning c.args.slots.now c.args.at l e c.loop-slots.slots so in
    let can = sym (c.ready.ensures so.ledger there) ∙ c.loop-slots-test.false in
    settles g.S.Gear.Engine.meaning c.args.slots.now c.args.at l e c.loop-slots.slots c.tell.new.self c.tell.result so can
    (c.tell.ensures.told so.ledger there) (c.tell.ensures.after so.ledger there)
