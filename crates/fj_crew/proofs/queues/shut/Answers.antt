use Rattle.std.proofs.Common.{suc, List, ◌≡◌, ◌≤◌, [], ◌∷◌, ◌++◌, length, option_to_list, slice_get, refl, sym, ap, ◌∙◌, subst, arith, rules}
use Rattle.std.proofs.lemmas.Grind.{common_steps}
use Rattle.std.proofs.lemmas.List.{append-nil}
use Rattle.fj_crew.specs.Seats.{Paired}
use Rattle.fj_crew.specs.Plan.{Shut}
use Rattle.fj_crew.proofs.Opening.{paired_less, shut_none, shut_more}
use Rattle.fj_crew.proofs.queues.shut.Goals as goal

pub loop-queue-init : goal.loop-queue-init
loop-queue-init g c = record {
  so_far = shut_none g.E.Engine.meaning c.args.slots.now.slots c.args.seats.items;
  paired = c.requires.paired;
  hands = c.requires.hands;
  room = c.requires.room;
  spare = refl;
}

pub close-slot-requires-clause-own : goal.close-slot-requires-clause-own
close-slot-requires-clause-own g c =
    let q = c.in-Some.queue in let s = c.in-Some-pop_front.seat in let qs = c.pop_front.new.self.items in let ss = c.pop_front-in-Some.new.self.items in
    let eq : c.loop-queue.queues.items ≡ q ∷ qs = c.pop_front.ensures.items ∙ ap (λ o. option_to_list o ++ qs) c.in-Some.is in
    let es : c.loop-queue.seats.items ≡ s ∷ ss = c.pop_front-in-Some.ensures.items ∙ ap (λ o. option_to_list o ++ ss) c.in-Some-pop_front.is in
    (paired_less qs ss q s (subst (λ z. Paired z (s ∷ ss)) eq (subst (λ z. Paired c.loop-queue.queues.items z) es c.loop-queue.invariant.paired))).0

pub close-slot-requires-clause-hands : goal.close-slot-requires-clause-hands
close-slot-requires-clause-hands g c =
    let s = c.in-Some-pop_front.seat in let ss = c.pop_front-in-Some.new.self.items in
    let es : c.loop-queue.seats.items ≡ s ∷ ss = c.pop_front-in-Some.ensures.items ∙ ap (λ o. option_to_list o ++ ss) c.in-Some-pop_front.is in
    c.loop-queue.invariant.hands 0 s (ap (λ z. slice_get z 0) es)

pub loop-queue-preserved : goal.loop-queue-preserved
loop-queue-preserved g c =
    let m = g.E.Engine.meaning in
    let inv = c.loop-queue.invariant in
    let q = c.in-Some.queue in let s = c.in-Some-pop_front.seat in let qs = c.pop_front.new.self.items in let ss = c.pop_front-in-Some.new.self.items in
    let eq : c.loop-queue.queues.items ≡ q ∷ qs = c.pop_front.ensures.items ∙ ap (λ o. option_to_list o ++ qs) c.in-Some.is in
    let es : c.loop-queue.seats.items ≡ s ∷ ss = c.pop_front-in-Some.ensures.items ∙ ap (λ o. option_to_list o ++ ss) c.in-Some-pop_front.is in
    let room : length (s ∷ ss) ≤ c.loop-queue.slots.spare = subst (λ z. length z ≤ c.loop-queue.slots.spare) es inv.room in
    let put : c.push-put.new.self.slots ≡ c.loop-queue.slots.slots ++ c.close-slot.result ∷ [] = search rules in
    record {
      so_far = shut_more m c.args.slots.now.slots c.loop-queue.slots.slots c.push-put.new.self.slots c.args.seats.items c.loop-queue.seats.items ss s c.close-slot.result inv.so_far es put c.close-slot.ensures;
      paired = (paired_less qs ss q s (subst (λ z. Paired z (s ∷ ss)) eq (subst (λ z. Paired c.loop-queue.queues.items z) es inv.paired))).1;
      hands = λ k x e. inv.hands (suc k) x (ap (λ z. slice_get z (suc k)) es ∙ e);
      room = omega (arith, room, c.push-put.ensures.spare (omega (arith, room)));
      spare = omega (arith, room, inv.spare, ap length es, c.push-put.ensures.spare (omega (arith, room)));
    }

pub returns-clause-shut : goal.returns-clause-shut
returns-clause-shut g c =
    let inv = c.loop-queue.invariant in
    let none : length c.loop-queue.seats.items ≡ 0 = grind (arith, common_steps) in
    let all : c.args.seats.items ≡ inv.so_far.done = inv.so_far.is ∙ ap (λ z. inv.so_far.done ++ z) (empty c.loop-queue.seats.items none) ∙ append-nil inv.so_far.done in
    subst (λ z. Shut g.E.Engine.meaning c.args.slots.now.slots z c.loop-queue.slots.slots) (sym all) inv.so_far.shut
  where
    empty : {X : Type 0} → (xs : List X) → length xs ≡ 0 → xs ≡ []
    empty [] e = refl
    empty (x ∷ xs) e = absurd (omega (arith, e))
