-- Where a script that was served alone stood before the call by which it was over.
use Rattle.std.proofs.Common.{◌≡◌, ◌≢◌, ℕ, zero, suc, ◌+◌, ◌≤◌, Bool, true, false, List, [], ◌∷◌, ◌++◌, length, Option, Some, None, slice_get, set, Result, Ok, Err, IfOk, OnErr, refl, sym, ap, ◌∙◌, subst, inl, inr, arith}
use Rattle.std.proofs.lemmas.List.{length-set}
use Rattle.std.proofs.lemmas.Option.{slice_get_within}
use Rattle.fj_slot.specs.declared.told.Refused.{Refused}
use Rattle.fj_slot.specs.declared.told.Told.{Told}
use Rattle.fj_slot.specs.declared.told.Told.TheVariants.{Done, Stopped}
use Rattle.fj_slot.specs.Ledger.{Ledger, with_job, with_tell}
use Rattle.fj_slot.specs.Serving.{Meaning}
use Rattle.fj_slot.specs.Sound.{IsSound, outcome}
use Rattle.fj_slot.specs.Telling as telling
use Rattle.fj_slot.proofs.Sound.{tell_keeps, told_is_outcome, length_mapped}
use Rattle.fj_world.specs.declared.ask.Ask.{Ask}
use Rattle.fj_world.specs.declared.ask.Ask.TheVariants.{Submit, Settle, Finished}
use Rattle.fj_world.specs.Conduct.{Conduct, Idle, Submitting, Settling, Asks, Takes, Tells, IsAsk, IsDueAsk}
use Rattle.fj_world.specs.Rack.{Rack}
use Rattle.fj_world.specs.Leading.{LeadsTo}
use Rattle.fj_world.specs.Plain.{Plain, PlainSlot, asked_next, submitted_to, settled_from, told_from, served, next, after}
use Rattle.fj_world.specs.Fits.{Fits, SlotsFit}
use Rattle.fj_world.specs.Alone.{Settles}
use Rattle.fj_world.specs.Losing.{SlotsHold, given_number, given_reply, given_outcome, answered, before_ask, GaveUp, WasLost}
use Rattle.fj_world.proofs.Places.{slice_get_set, slice_get_in}
use Rattle.fj_world.proofs.Fitting.{ask_submit, ask_settle, submit_fits}
use Rattle.fj_world.proofs.Leads.{led_once, led}
use Rattle.fj_world.proofs.Runs.{after_next}

module _ {G J A P T R : Type 0} (m : Meaning G J A P T R) where
  -- one slot was changed, and is sound as before
  pub holds_here : (qs : List (PlainSlot P T)) (old new : Rack G J A) (at : ℕ) (l l' : Ledger G J A) → SlotsHold m qs old → slice_get old.slots at ≡ Some l → new.slots ≡ set old.slots at l'
      → ((s : P) (ts : List T) → IsSound m s ts l → IsSound m s ts l') → l.done ≤ l'.done → SlotsHold m qs new
  holds_here qs old new at l l' h found after keeps more = record {
    same = h.same ∙ sym (length-set old.slots at l') ∙ sym (ap length after);
    each = λ k q y eq ey. elim (slice_get_set old.slots at k l' y (subst (λ s. slice_get s k ≡ Some y) after ey)) [
      | inl b ↦ subst (λ z. IsSound m q.start q.jobs z) (sym b.1) (keeps q.start q.jobs (h.each k q l eq (ap (slice_get old.slots) b.0 ∙ found)))
      | inr b ↦ h.each k q y eq b.1
    ];
    done = λ k q y eq ey. elim (slice_get_set old.slots at k l' y (subst (λ s. slice_get s k ≡ Some y) after ey)) [
      | inl b ↦ let was = h.done k q l eq (ap (slice_get old.slots) b.0 ∙ found) in subst (λ z. q.told ≤ z.done) (sym b.1) (omega (arith, was, more))
      | inr b ↦ h.done k q y eq b.1
    ];
  }

  -- an answer was told, by which no slot has other jobs
  pub holds_told : (qs : List (PlainSlot P T)) (rack : Rack G J A) (at n : ℕ) (q : PlainSlot P T) → SlotsHold m qs rack → slice_get qs at ≡ Some q
      → ((l : Ledger G J A) → slice_get rack.slots at ≡ Some l → n ≤ l.done) → SlotsHold m (set qs at (record { start = q.start; jobs = q.jobs; told = n })) rack
  holds_told qs rack at n q h found most =
      let q' : PlainSlot P T = record { start = q.start; jobs = q.jobs; told = n } in
      record {
        same = length-set qs at q' ∙ h.same;
        each = λ k x l ex el. elim (slice_get_set qs at k q' x ex) [
          | inl a ↦ subst (λ z. IsSound m z.start z.jobs l) (sym a.1) (h.each k q l (ap (slice_get qs) a.0 ∙ found) el)
          | inr a ↦ h.each k x l a.1 el
        ];
        done = λ k x l ex el. elim (slice_get_set qs at k q' x ex) [
          | inl a ↦ subst (λ z. z.told ≤ l.done) (sym a.1) (most l (ap (slice_get rack.slots) (sym a.0) ∙ el))
          | inr a ↦ h.done k x l a.1 el
        ];
      }

module _ {S G J A P T R : Type 0} (m : Meaning G J A P T R) (c : Conduct S T R) where
  number_slots : (o : Option (PlainSlot P T)) (at : ℕ) (t : T) (p : Plain P c) → (submitted_to m c o at t p).slots ≡ (given_number m c o at t p).1
  number_slots None at t p = refl
  number_slots (Some q) at t p = refl

  reply_slots : (r : Option (T × R)) (q : PlainSlot P T) (at : ℕ) (p : Plain P c) → (told_from m c r q at p).slots ≡ (given_reply m c r q at p).1
  reply_slots None q at p = refl
  reply_slots (Some reply) q at p = refl

  outcome_slots : (o : Option (PlainSlot P T)) (at : ℕ) (p : Plain P c) → (settled_from m c o at p).slots ≡ (given_outcome m c o at p).1
  outcome_slots None at p = refl
  outcome_slots (Some q) at p = reply_slots (outcome m q.start q.jobs q.told) q at p

  pub served_slots : (h : Ask T) (p : Plain P c) → (served m c h p).slots ≡ (answered m c h p).1
  served_slots (Submit at t) p = number_slots (slice_get p.slots at) at t p
  served_slots (Settle at) p = outcome_slots (slice_get p.slots at) at p
  served_slots Finished p = refl

  -- an ask leaves the slots
  pub before_slots : (n : ℕ) (s : c.State) (qs : List (PlainSlot P T)) → (after m c n (asked_next m c s qs)).slots ≡ (before_ask m c n s qs).1
  before_slots zero s qs = refl
  before_slots (suc n) s qs =
      let now = after m c n (asked_next m c s qs) in
      ap (λ z. z.slots) (after_next m c n (asked_next m c s qs)) ∙ served_slots now.hand now

  fits_hold : (p : Plain P c) (start script : S) (hand : Ask J) (rack : Rack G J A) → Fits m c p (record { start = start; script = script; hand = hand; rack = rack; workers = [] }) → SlotsHold m p.slots rack
  fits_hold p start script hand rack fits = record { same = fits.same_slots; each = λ at q l eq el. (fits.slots at q l eq el).sound; done = λ at q l eq el. (fits.slots at q l eq el).done }

  -- what the answer to a submit gives, and to a settle
  pub answered_submit : (p : Plain P c) (at : ℕ) (t : T) (q : PlainSlot P T) → p.hand ≡ Submit at t → slice_get p.slots at ≡ Some q
      → answered m c p.hand p ≡ (c.took p.script (length q.jobs), set p.slots at (record { start = q.start; jobs = q.jobs ++ t ∷ []; told = q.told }))
  answered_submit p at t q hand found = ap (λ h. answered m c h p) hand ∙ ap (λ o. given_number m c o at t p) found

  pub answered_settle : (p : Plain P c) (at : ℕ) (q : PlainSlot P T) (reply : T × R) → p.hand ≡ Settle at → slice_get p.slots at ≡ Some q → outcome m q.start q.jobs q.told ≡ Some reply
      → answered m c p.hand p ≡ (c.told p.script reply, set p.slots at (record { start = q.start; jobs = q.jobs; told = q.told + 1 }))
  answered_settle p at q reply hand found is = ap (λ h. answered m c h p) hand ∙ ap (λ o. given_outcome m c o at p) found ∙ ap (λ o. given_reply m c o q at p) is

  -- by its first ask
  pub by_first_ask : (s : c.State) (qs : List (PlainSlot P T)) (script new : S) (hand : Ask J)
      → c.state script ≡ Some s → c.due script ≡ Idle → c.over script ≡ false → Asks m c script hand new → c.over new ≡ true → GaveUp m c 0 s qs script new
  by_first_ask s qs script new hand state idle going asks over =
      record { before = script; gone = new; led = (0, refl); going = going; leads = asks.leads; over = over; rests = (0, refl); stood = inl (tt, state, idle) }

  -- by the answer to the ask at hand
  pub by_answer : (s : c.State) (qs : List (PlainSlot P T)) (n : ℕ) (first script mid new : S) (hand : Ask J)
      → LeadsTo c.leads first script → c.over script ≡ false → c.state script ≡ Some (after m c n (asked_next m c s qs)).script → (after m c n (asked_next m c s qs)).hand ≢ Finished
      → IsDueAsk (c.due script) (after m c n (asked_next m c s qs)).hand → c.leads script mid → c.over mid ≡ true → Asks m c mid hand new → GaveUp m c n s qs first new
  by_answer s qs n first script mid new hand path going state asked due leads over asks =
      record { before = script; gone = mid; led = path; going = going; leads = leads; over = over; rests = led_once c.leads mid new asks.leads; stood = inr (asked, state, due) }

  -- by the ask behind it
  pub by_ask : (s : c.State) (qs : List (PlainSlot P T)) (n : ℕ) (first script mid new : S) (hand : Ask J)
      → LeadsTo c.leads first script → c.leads script mid → c.over mid ≡ false → (after m c n (asked_next m c s qs)).hand ≢ Finished
      → c.state mid ≡ Some (before_ask m c (suc n) s qs).0 → c.due mid ≡ Idle → Asks m c mid hand new → c.over new ≡ true → GaveUp m c (suc n) s qs first new
  by_ask s qs n first script mid new hand path leads going asked state idle asks over =
      record { before = mid; gone = new; led = led c.leads first script mid path leads; going = going; leads = asks.leads; over = over; rests = (0, refl); stood = inl (asked, state, idle) }

  pub first_lost : (s : c.State) (qs : List (PlainSlot P T)) (script new : S) (hand : Ask J) (rack : Rack G J A)
      → c.state script ≡ Some s → c.due script ≡ Idle → c.over script ≡ false → SlotsFit m qs rack → Asks m c script hand new → c.over new ≡ true → WasLost m c s qs script new rack
  first_lost s qs script new hand rack state idle going fit asks over = record {
    asks = 0;
    call = by_first_ask s qs script new hand state idle going asks over;
    slots = record { same = fit.same; each = λ at q l eq el. (fit.each at q l eq el).sound; done = λ at q l eq el. (fit.each at q l eq el).done };
  }

  -- by a submit or the ask behind it
  pub submit_lost : (s : c.State) (qs : List (PlainSlot P T)) (n : ℕ) (first script mid new : S) (hand hand' : Ask J) (rack rack' : Rack G J A) (at : ℕ) (job : J) (number : Result ℕ (Refused J)) (l : Ledger G J A)
      → LeadsTo c.leads first script → Fits m c (after m c n (asked_next m c s qs)) (record { start = script; script = script; hand = hand; rack = rack; workers = [] })
      → c.over script ≡ false → hand ≡ Submit at job → c.due script ≡ Submitting at → slice_get rack.slots at ≡ Some l
      → IfOk number (λ k. k ≡ length l.jobs) → IfOk number (λ _. rack'.slots ≡ set rack.slots at (with_job l job)) → OnErr number (rack' ≡ rack)
      → Takes c script number mid → Asks m c mid hand' new → c.over new ≡ true → WasLost m c s qs first new rack'
  submit_lost s qs n first script mid new hand hand' rack rack' at job (Ok k) l path fits going is due found count after_ok same takes asks over =
      let now = after m c n (asked_next m c s qs) in
      let told = fits.script going in
      let plain = ask_submit m now.hand at job (subst (IsAsk m now.hand) is told.1) in
      let inside = slice_get_within rack.slots at l found in
      let here = slice_get_in now.slots at (omega (arith, inside, fits.same_slots)) in
      let q = here.0 in
      let fit = fits.slots at q l here.1 found in
      let going' : c.over mid ≡ false = takes.goes ∙ going in
      let number : k ≡ length q.jobs = count ∙ length_mapped l.jobs q.jobs m.task fit.sound.jobs in
      let then = answered_submit now at plain.0 q plain.1 here.1 in
      let next_fits = submit_fits m c now (record { start = script; script = script; hand = hand; rack = rack; workers = [] }) mid new hand' rack' at job k l fits going is found count after_ok takes asks in
      record {
        asks = suc n;
        call = by_ask s qs n first script mid new hand' path takes.leads going' (λ z. absurd (let no = sym plain.1 ∙ z in cc))
            (takes.took now.script told.0 going' ∙ ap (λ z. Some (c.took now.script z)) number ∙ ap (λ z. Some z.0) (sym then)) takes.due asks over;
        slots = subst (λ z. SlotsHold m z rack') (served_slots now.hand now) (fits_hold (next m c now) script new hand' rack' next_fits);
      }
  submit_lost s qs n first script mid new hand hand' rack rack' at job (Err e) l path fits going is due found count after_ok same takes asks over =
      let now = after m c n (asked_next m c s qs) in
      let told = fits.script going in
      let plain = ask_submit m now.hand at job (subst (IsAsk m now.hand) is told.1) in
      record {
        asks = n;
        call = by_answer s qs n first script mid new hand' path going told.0 (λ z. absurd (let no = sym plain.1 ∙ z in cc)) (subst (λ h. IsDueAsk (c.due script) h) (sym plain.1) due) takes.leads takes.refused asks;
        slots = subst (λ z. SlotsHold m z rack') (before_slots n s qs) (subst (λ r. SlotsHold m now.slots r) (sym same) (fits_hold now script script hand rack fits));
      }

  -- by a settle or the ask behind it
  pub settle_lost : (s : c.State) (qs : List (PlainSlot P T)) (n : ℕ) (first script mid new : S) (hand hand' : Ask J) (rack rack' : Rack G J A) (at : ℕ) (l : Ledger G J A) (it : Told G J A P T R)
      → LeadsTo c.leads first script → Fits m c (after m c n (asked_next m c s qs)) (record { start = script; script = script; hand = hand; rack = rack; workers = [] })
      → c.over script ≡ false → hand ≡ Settle at → c.due script ≡ Settling at → slice_get rack.slots at ≡ Some l → Settles m rack at l it rack'
      → Tells m c script it mid → Asks m c mid hand' new → c.over new ≡ true → WasLost m c s qs first new rack'
  settle_lost s qs n first script mid new hand hand' rack rack' at l it path fits going is due found settles tells asks over = go it refl
    where
      now : Plain P c
      now = after m c n (asked_next m c s qs)

      told : (c.state script ≡ Some now.script) × IsAsk m now.hand hand
      told = fits.script going

      plain : now.hand ≡ Settle at
      plain = ask_settle m now.hand at (subst (IsAsk m now.hand) is told.1)

      holds : SlotsHold m now.slots rack'
      holds = holds_here m now.slots rack rack' at l (with_tell settles.ledger) (fits_hold now script script hand rack fits) found settles.after
          (λ s ts sound. tell_keeps m s ts settles.ledger (settles.serves.sound s ts sound) settles.ready) settles.serves.done

      by_it : c.over mid ≡ true → WasLost m c s qs first new rack'
      by_it e = record {
        asks = n;
        call = by_answer s qs n first script mid new hand' path going told.0 (λ z. absurd (let no = sym plain ∙ z in cc)) (subst (λ h. IsDueAsk (c.due script) h) (sym plain) due) tells.leads e asks;
        slots = subst (λ z. SlotsHold m z rack') (before_slots n s qs) holds;
      }

      on : (job : J) (answer : A) → it ≡ Done job answer → (b : Bool) → c.over mid ≡ b → WasLost m c s qs first new rack'
      on job answer e true done = by_it done
      on job answer e false goes =
          let inside = slice_get_within rack.slots at l found in
          let here = slice_get_in now.slots at (omega (arith, inside, fits.same_slots)) in
          let q = here.0 in
          let fit = fits.slots at q l here.1 found in
          let v = settles.ledger in
          let out = told_is_outcome m q.start q.jobs v (Done job answer) (settles.serves.sound q.start q.jobs fit.sound) (subst (telling.Tells v) e settles.tells) in
          let reply : T × R = (out.0, m.reply answer) in
          let count : v.told ≡ q.told = settles.serves.told ∙ fit.told going in
          let then = answered_settle now at q reply plain here.1 (ap (outcome m q.start q.jobs) (sym count) ∙ out.2) in
          let tells' : Tells m c script (Done job answer) mid = subst (λ z. Tells m c script z mid) e tells in
          record {
            asks = suc n;
            call = by_ask s qs n first script mid new hand' path tells.leads goes (λ z. absurd (let no = sym plain ∙ z in cc)) (tells'.told now.script reply told.0 goes (out.1, refl) ∙ ap (λ z. Some z.0) (sym then)) tells.due asks over;
            slots = subst (λ z. SlotsHold m z.1 rack') (sym then) (holds_told m now.slots rack' at (q.told + 1) q holds here.1
                (λ y ey. elim (slice_get_set rack.slots at at (with_tell v) y (subst (λ s. slice_get s at ≡ Some y) settles.after ey)) [
                  | inl b ↦ subst (λ z. q.told + 1 ≤ z.done) (sym b.1) (let low = (subst (telling.Tells v) e settles.tells).0 in omega (arith, low, count))
                  | inr b ↦ absurd (b.0 refl)
                ]));
          }

      go : (x : Told G J A P T R) → it ≡ x → WasLost m c s qs first new rack'
      go (Done job answer) e = on job answer e (c.over mid) refl
      go (Stopped job stop before after') e = by_it ((subst (λ z. Tells m c script z mid) e tells).stopped refl)
