-- Where a script that was served over queues stood before the call by which it was over.
use Rattle.std.proofs.Common.{◌≡◌, ℕ, suc, ◌+◌, ◌<◌, Bool, true, false, List, [], ◌∷◌, ◌++◌, length, Some, slice_get, set, Result, Ok, Err, refl, sym, ap, ◌∙◌, subst, inl, inr, arith}
use Rattle.std.proofs.lemmas.List.{length-set, length-append}
use Rattle.std.proofs.lemmas.Option.{slice_get_within}
use Rattle.fj_slot.specs.declared.told.Refused.{Refused}
use Rattle.fj_slot.specs.declared.told.Told.{Told}
use Rattle.fj_slot.specs.declared.told.Told.TheVariants.{Done, Stopped}
use Rattle.fj_slot.specs.Serving.{Meaning}
use Rattle.fj_slot.specs.Sound.{outcome}
use Rattle.fj_world.specs.declared.ask.Ask.{Ask}
use Rattle.fj_world.specs.declared.ask.Ask.TheVariants.{Submit, Settle}
use Rattle.fj_world.specs.Conduct.{Conduct, Submitting, Settling, Asks, Takes, Tells, IsAsk, IsDueAsk, Idle}
use Rattle.fj_world.specs.Leading.{LeadsTo}
use Rattle.fj_world.specs.Plain.{Plain, PlainSlot, asked_next, after}
use Rattle.fj_world.proofs.Places.{slice_get_set, slice_get_in}
use Rattle.fj_world.proofs.Fitting.{ask_submit, ask_settle}
use Rattle.fj_world.proofs.Losing.{before_slots, answered_submit, answered_settle, by_answer, by_ask, by_first_ask}
use Rattle.fj_queue.specs.declared.seats.SubmitterOf.{SubmitterOf}
use Rattle.fj_queue.specs.Knows.{knows}
use Rattle.fj_queue.specs.Answers as answers
use Rattle.fj_crew.specs.Seats.{Submits, Settles}
use Rattle.fj_crew.specs.Fits.{HasReached, SeatsHold, SeatsSame, AllAnswered, Planned, Begun, CrewFits, CrewGoes, CrewGaveUp}
use Rattle.fj_crew.proofs.Growing.{grows_later, outcome_before}
use Rattle.fj_crew.proofs.Serving.{still_reached, told_reached, stop_reached, one_less, reached_set, reached_here, begins_reached}

module _ {C G P T : Type 0} where
  -- one submitter was changed, and the plain slot with it
  hold_set : {level : Type 0} (qs : List (PlainSlot P T)) (old new : List (SubmitterOf C G T)) (at : ℕ) (q : PlainSlot P T) (w : SubmitterOf C G T) → SeatsHold level qs old → new ≡ set old at w
      → (knows w).sent ≡ length q.jobs → (level → HasReached q (knows w)) → SeatsHold level (set qs at q) new
  hold_set qs old new at q w h after sent reached = record {
    same = length-set qs at q ∙ h.same ∙ sym (length-set old at w) ∙ sym (ap length after);
    sent = λ k x y ex ey. elim (slice_get_set qs at k q x ex) [
      | inl a ↦ elim (slice_get_set old at k w y (subst (λ z. slice_get z k ≡ Some y) after ey)) [
        | inl b ↦ ap (λ z. (knows z).sent) b.1 ∙ sent ∙ ap (λ z. length z.jobs) (sym a.1)
        | inr b ↦ absurd (b.0 a.0)
      ]
      | inr a ↦ elim (slice_get_set old at k w y (subst (λ z. slice_get z k ≡ Some y) after ey)) [
        | inl b ↦ absurd (a.0 b.0)
        | inr b ↦ h.sent k x y a.1 b.1
      ]
    ];
    reached = λ l. reached_set qs old new at q w after (h.reached l) (reached l);
  }

  -- one submitter was changed, which submitted nothing
  hold_here : {level : Type 0} (qs : List (PlainSlot P T)) (old new : List (SubmitterOf C G T)) (at : ℕ) (s w : SubmitterOf C G T) → SeatsHold level qs old → slice_get old at ≡ Some s → new ≡ set old at w
      → (knows w).sent ≡ (knows s).sent → (level → (x : PlainSlot P T) → slice_get qs at ≡ Some x → HasReached x (knows w)) → SeatsHold level qs new
  hold_here qs old new at s w h found after sent reached = record {
    same = h.same ∙ sym (length-set old at w) ∙ sym (ap length after);
    sent = λ k x y ex ey. elim (slice_get_set old at k w y (subst (λ z. slice_get z k ≡ Some y) after ey)) [
      | inl b ↦ ap (λ z. (knows z).sent) b.1 ∙ sent ∙ h.sent k x s ex (ap (slice_get old) b.0 ∙ found)
      | inr b ↦ h.sent k x y ex b.1
    ];
    reached = λ l. reached_here qs old new at w after (h.reached l) (reached l);
  }

module _ {S C G J A P T R : Type 0} (m : Meaning G J A P T R) (c : Conduct S T R) where
  fits_hold : {ever : Bool} {level : Type 0} (p : Plain P c) (script : S) (hand : Ask J) (seats : List (SubmitterOf C G T)) → CrewFits m c ever level p script hand seats → SeatsHold level p.slots seats
  fits_hold p script hand seats fits = record { same = fits.same; sent = λ k q s eq es. (fits.slots k q s eq es).sent; reached = fits.reached }

  -- by its first ask
  pub first_gave_up : {level : Type 0} (script new : S) (hand : Ask J) (seats : List (SubmitterOf C G T)) (b : Begun m c script seats) → (level → AllAnswered seats) → c.due script ≡ Idle → c.over script ≡ false → Asks m c script hand new → c.over new ≡ true
      → CrewGaveUp m c level (c.left script) b.state b.slots script new seats
  first_gave_up script new hand seats b levels idle going asks over = record {
    asks = 0;
    few = omega arith;
    call = by_first_ask m c b.state b.slots script new hand b.told idle going asks over;
    slots = record { same = b.planned.same; sent = λ k q s eq es. (b.fits k q s eq es).sent; reached = λ l. begins_reached m c script seats b (levels l) };
  }

  -- by a submit or the ask behind it
  pub submit_gave_up : {ever : Bool} {level : Type 0} (s : c.State) (qs : List (PlainSlot P T)) (most : ℕ) (first script mid new : S) (hand hand' : Ask J) (seats seats' : List (SubmitterOf C G T)) (at : ℕ) (job : J) (number : Result ℕ (Refused J)) (x : SubmitterOf C G T)
      → LeadsTo c.leads first script → CrewGoes m c ever level (asked_next m c s qs) most script hand seats → c.over script ≡ false → hand ≡ Submit at job → c.due script ≡ Submitting at → slice_get seats at ≡ Some x
      → Submits seats at number seats' → Takes c script number mid → Asks m c mid hand' new → c.over new ≡ true → CrewGaveUp m c level most s qs first new seats'
  submit_gave_up {ever} {level} s qs most first script mid new hand hand' seats seats' at job (Ok k) x path goes going is due found did takes asks over =
      let n = goes.entries in
      let now = after m c n (asked_next m c s qs) in
      let fits = goes.fits in
      let told = fits.script_is going in
      let plain = ask_submit m now.hand at job (subst (IsAsk m now.hand) is told.1) in
      let t = plain.0 in
      let here = slice_get_in now.slots at (omega (arith, slice_get_within seats at x found, fits.same)) in
      let q = here.0 in
      let fit = fits.slots at q x here.1 found in
      let sends = did.sends x found in
      let q' : PlainSlot P T = record { start = q.start; jobs = q.jobs ++ t ∷ []; told = q.told } in
      let then = answered_submit m c now at t q plain.1 here.1 in
      let going' : c.over mid ≡ false = takes.goes ∙ going in
      let taken : c.state mid ≡ Some (c.took now.script k) = takes.took now.script told.0 going' in
      record {
        asks = suc n;
        few = omega (arith, goes.few, takes.left);
        call = by_ask m c s qs n first script mid new hand' path takes.leads going' (λ z. absurd (let no = sym plain.1 ∙ z in cc)) (taken ∙ ap (λ z. Some (c.took now.script z)) (sends.0 ∙ fit.sent) ∙ ap (λ z. Some z.0) (sym then)) takes.due asks over;
        slots = subst (λ z. SeatsHold level z.1 seats') (sym then) (hold_set now.slots seats seats' at q' did.seat (fits_hold now script hand seats fits) did.after
            (sends.1.numbers.sent_is ∙ ap (λ z. z + 1) fit.sent ∙ sym (length-append q.jobs (t ∷ [])))
            (λ l. still_reached q q' (knows x) (knows did.seat) refl sends.1.answered sends.1.numbers.heard_is sends.1.stopped sends.1.stopped_at (fits.reached l at q x here.1 found)));
      }
  submit_gave_up {ever} {level} s qs most first script mid new hand hand' seats seats' at job (Err e) x path goes going is due found did takes asks over =
      let n = goes.entries in
      let now = after m c n (asked_next m c s qs) in
      let told = goes.fits.script_is going in
      let plain = ask_submit m now.hand at job (subst (IsAsk m now.hand) is told.1) in
      let sends = did.sends x found in
      record {
        asks = n;
        few = omega (arith, goes.few);
        call = by_answer m c s qs n first script mid new hand' path going told.0 (λ z. absurd (let no = sym plain.1 ∙ z in cc)) (subst (λ h. IsDueAsk (c.due script) h) (sym plain.1) due) takes.leads takes.refused asks;
        slots = subst (λ z. SeatsHold level z seats') (before_slots m c n s qs)
            (hold_here now.slots seats seats' at x did.seat (fits_hold now script hand seats goes.fits) found did.after sends.numbers.sent_is
            (λ l q e. still_reached q q (knows x) (knows did.seat) refl sends.answered sends.numbers.heard_is sends.stopped sends.stopped_at (goes.fits.reached l at q x e found)));
      }

  -- by a settle or the ask behind it
  pub settle_gave_up : {ever : Bool} {level : Type 0} (s : c.State) (qs : List (PlainSlot P T)) (most : ℕ) (old : List (SubmitterOf C G T)) (first script mid new : S) (hand hand' : Ask J) (seats seats' : List (SubmitterOf C G T)) (at : ℕ) (it : Told G J A P T R) (x : SubmitterOf C G T)
      → Planned m c (asked_next m c s qs) most old → SeatsSame old seats → LeadsTo c.leads first script → CrewGoes m c ever level (asked_next m c s qs) most script hand seats → c.over script ≡ false → 0 < c.left script → hand ≡ Settle at → c.due script ≡ Settling at → slice_get seats at ≡ Some x
      → (knows x).heard < (knows x).sent → (level → (knows x).answered ≡ true) → Settles m seats at it seats' → Tells m c script it mid → Asks m c mid hand' new → c.over new ≡ true → CrewGaveUp m c level most s qs first new seats'
  settle_gave_up {ever} {level} s qs most old first script mid new hand hand' seats seats' at it x planned kept path goes going left is due found waits knew did tells asks over = go it refl
    where
      now : Plain P c
      now = after m c goes.entries (asked_next m c s qs)

      told : (c.state script ≡ Some now.script) × IsAsk m now.hand hand
      told = goes.fits.script_is going

      plain : now.hand ≡ Settle at
      plain = ask_settle m now.hand at (subst (IsAsk m now.hand) is told.1)

      by_it : (level → (q : PlainSlot P T) → slice_get now.slots at ≡ Some q → HasReached q (knows did.seat)) → c.over mid ≡ true → CrewGaveUp m c level most s qs first new seats'
      by_it reached e = record {
        asks = goes.entries;
        few = omega (arith, goes.few);
        call = by_answer m c s qs goes.entries first script mid new hand' path going told.0 (λ z. absurd (let no = sym plain ∙ z in cc)) (subst (λ h. IsDueAsk (c.due script) h) (sym plain) due) tells.leads e asks;
        slots = subst (λ z. SeatsHold level z seats') (before_slots m c goes.entries s qs)
            (hold_here now.slots seats seats' at x did.seat (fits_hold now script hand seats goes.fits) found did.after (did.numbers x found).sent_is reached);
      }

      on : (job : J) (answer : A) → it ≡ Done job answer → (b : Bool) → c.over mid ≡ b → CrewGaveUp m c level most s qs first new seats'
      on job answer e true done =
          by_it (λ l q eq.
          let kept : answers.KnowsStop m (knows x) (knows did.seat) (Done job answer) = subst (λ z. answers.KnowsStop m (knows x) (knows did.seat) z) e (did.told x found).stop in
          let same = (goes.fits.slots at q x eq found).heard going in
          one_less q (knows did.seat) (told_reached q (record { start = q.start; jobs = q.jobs; told = q.told + 1 }) (knows x) (knows did.seat) refl same (did.numbers x found).heard_is (kept.2 ∙ knew l))) done
      on job answer e false goes' =
          let here = slice_get_in now.slots at (omega (arith, slice_get_within seats at x found, goes.fits.same)) in
          let q = here.0 in
          let fit = goes.fits.slots at q x here.1 found in
          let numbers = did.numbers x found in
          let later = (grows_later m c goes.entries most (asked_next m c s qs) (omega (arith, goes.few))).each at q here.1 in
          let was = kept.each at x found in
          let plan = planned.plans at was.0 later.0 was.1 later.1 in
          let heard_so : answers.Settles m (knows x) (knows did.seat) (Done job answer) = subst (λ z. answers.Settles m (knows x) (knows did.seat) z) e (did.told x found) in
          let out = heard_so.outcome plan.0 q.start later.0.jobs (was.2 ∙ plan.1) plan.2 (plan.3 ∙ ap (λ z. Some z) later.2.start) in
          let reply : T × R = (out.0, m.reply answer) in
          let jobs : later.0.jobs ≡ q.jobs ++ later.2.more = later.2.jobs in
          let heard : (knows x).heard ≡ q.told = fit.heard going in
          let is_outcome : outcome m q.start q.jobs q.told ≡ Some reply =
          sym (outcome_before m c q.start q.jobs later.2.more q.told (omega (arith, waits, fit.sent, heard))) ∙ ap (λ js. outcome m q.start js q.told) (sym jobs) ∙ ap (outcome m q.start later.0.jobs) (sym heard) ∙ out.2 in
          let q' : PlainSlot P T = record { start = q.start; jobs = q.jobs; told = q.told + 1 } in
          let then = answered_settle m c now at q reply plain here.1 is_outcome in
          let tells' : Tells m c script (Done job answer) mid = subst (λ z. Tells m c script z mid) e tells in
          let heard_it : c.state mid ≡ Some (c.told now.script reply) = tells'.told now.script reply told.0 goes' (out.1, refl) in
          record {
            asks = suc goes.entries;
            few = omega (arith, goes.few, tells.left);
            call = by_ask m c s qs goes.entries first script mid new hand' path tells.leads goes' (λ z. absurd (let no = sym plain ∙ z in cc)) (heard_it ∙ ap (λ z. Some z.0) (sym then)) tells.due asks over;
            slots = subst (λ z. SeatsHold level z.1 seats') (sym then) (hold_set now.slots seats seats' at q' did.seat (fits_hold now script hand seats goes.fits) did.after (numbers.sent_is ∙ fit.sent)
                (λ l. let known : answers.KnowsStop m (knows x) (knows did.seat) (Done job answer) = subst (λ z. answers.KnowsStop m (knows x) (knows did.seat) z) e (did.told x found).stop in
                told_reached q q' (knows x) (knows did.seat) refl heard numbers.heard_is (known.2 ∙ knew l)));
          }

      go : (y : Told G J A P T R) → it ≡ y → CrewGaveUp m c level most s qs first new seats'
      go (Done job answer) e = on job answer e (c.over mid) refl
      go (Stopped job stop before after') e =
          by_it (λ l q eq.
          let is : answers.KnowsStop m (knows x) (knows did.seat) (Stopped job stop before after') = subst (λ z. answers.KnowsStop m (knows x) (knows did.seat) z) e (did.told x found).stop in
          stop_reached m q (knows x) (knows did.seat) job stop before after' is ((goes.fits.slots at q x eq found).heard going) (knew l)) ((subst (λ z. Tells m c script z mid) e tells).stopped refl)
