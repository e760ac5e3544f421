use Rattle.std.proofs.Common.{◌≡◌, ◌-◌, [], ◌∷◌, ◌++◌, length, option_to_list, slice_get, sym, ap, ◌∙◌, subst, arith, rules}
use Rattle.std.proofs.lemmas.List.{length-append}
use borrow.Author.Rules.{rules, lives}
use Rattle.fj_queue.specs.Cell.{IsFor}
use Rattle.fj_queue.specs.Tokens.{Begins}
use Rattle.fj_queue.specs.Knows.{knows}
use Rattle.fj_crew.specs.Seats.{Paired}
use Rattle.fj_crew.specs.Plan.{Opened, NoHands}
use Rattle.fj_crew.proofs.Opening.{paired_none, hands_none, get_last, in_front, paired_more, hands_more, opens_none, opens_more, taken_is}
use Rattle.fj_crew.proofs.queues.open.Goals as goal

pub loop-slot-init : goal.loop-slot-init
loop-slot-init g c =
    let r = c.requires.1.1.1.1.1.1.1 in
    let fresh = r.0 in let room = r.1.0 in
    record {
      opened = subst (λ z. Opened g.plans c.args.slots.now.slots c.args.slots.now.slots z) (sym fresh.1) (opens_none g.plans c.args.slots.now.slots);
      paired = subst (λ z. Paired z c.args.seats.now.items) (sym fresh.0) (subst (λ z. Paired [] z) (sym fresh.1) paired_none);
      hands = subst NoHands (sym fresh.1) hands_none;
      at_is = c.len-at.ensures;
      spare = omega (arith, ap length fresh.1);
      home = r.1.1.0;
      room = omega (arith, room.1, ap length fresh.1);
      room_too = omega (arith, room.0, ap length fresh.0);
    }

pub resume_at-requires : goal.resume_at-requires
resume_at-requires g c κs within =
    let inv = c.loop-slot.invariant in
    let l = c.in-Some.slot in
    let is : c.loop-slot.slots.slots ≡ c.pop.new.self.slots ++ l ∷ [] = c.pop.ensures.slots ∙ ap (λ o. c.pop.new.self.slots ++ option_to_list o) c.in-Some.is in
    let here = taken_is g.plans c.args.slots.now.slots c.loop-slot.slots.slots c.pop.new.self.slots c.loop-slot.seats.items l inv.opened is in
    let at : c.loop-slot.at - 1 ≡ length c.pop.new.self.slots = omega (arith, inv.at_is, ap length is, length-append c.pop.new.self.slots (l ∷ [])) in
    let sound = subst (λ n. IsFor g.S.Gear.Engine.meaning (g.plans n) l) (sym at) (c.requires.1.1.1.1.1.1.1.1.1.1 (length c.pop.new.self.slots) l here) in
    let home = inv.home (length c.pop.new.self.slots) l (ap (λ z. slice_get z (length c.pop.new.self.slots)) is ∙ get_last c.pop.new.self.slots l) in
    search (rules, lives, within.0, within.1, sound, home) depth 40 fits 40000

pub loop-slot-preserved : goal.loop-slot-preserved
loop-slot-preserved g c =
    let inv = c.loop-slot.invariant in
    let l = c.in-Some.slot in
    let rest = c.pop.new.self.slots in
    let is : c.loop-slot.slots.slots ≡ rest ++ l ∷ [] = c.pop.ensures.slots ∙ ap (λ o. rest ++ option_to_list o) c.in-Some.is in
    let long = ap length is in
    let more = length-append rest (l ∷ []) in
    let at : c.loop-slot.at - 1 ≡ length rest = omega (arith, inv.at_is, long, more) in
    let made = c.in-Ok.ensures.ok in
    let begins : Begins (g.plans (length rest)) l (knows c.in-Ok.seat) = subst (λ n. Begins (g.plans n) l (knows c.in-Ok.seat)) at made.1 in
    let ss = c.push_front_reserved-in-Ok.ensures.items in
    let qs = c.push_front_reserved.ensures.items in
    record {
      opened = subst (λ z. Opened g.plans c.args.slots.now.slots rest z) (sym ss) (opens_more g.plans c.args.slots.now.slots c.loop-slot.slots.slots rest c.loop-slot.seats.items l c.in-Ok.seat inv.opened is begins);
      paired = subst (λ z. Paired z c.push_front_reserved-in-Ok.new.self.items) (sym qs) (subst (λ z. Paired (c.in-Ok.queue ∷ c.loop-slot.queues.items) z) (sym ss) (paired_more c.loop-slot.queues.items c.loop-slot.seats.items c.in-Ok.queue c.in-Ok.seat inv.paired made.0));
      hands = subst NoHands (sym ss) (hands_more c.loop-slot.seats.items c.in-Ok.seat inv.hands begins.hands_is);
      at_is = at;
      spare = omega (arith, inv.spare, c.in-Some.ensures.spare, ap length ss);
      home = λ k x e. inv.home k x (ap (λ z. slice_get z k) is ∙ in_front rest (l ∷ []) k x e);
      room = omega (arith, inv.room, long, more, ap length ss, c.push_front_reserved-in-Ok.ensures.capacity);
      room_too = omega (arith, inv.room_too, long, more, ap length qs, c.push_front_reserved.ensures.capacity);
    }
