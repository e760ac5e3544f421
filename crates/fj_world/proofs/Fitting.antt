-- Every event keeps a world fitting.
use Rattle.std.proofs.Common.{is_some, ◌≡◌, ◌⊎◌, ℕ, ◌+◌, ◌≤◌, Bool, true, false, List, [], ◌∷◌, ◌++◌, length, take, Option, Some, None, slice_get, set, Result, Ok, Err, IfOk, IfErr, OnErr, refl, sym, ap, ◌∙◌, subst, inl, inr, arith}
use Rattle.std.proofs.lemmas.List.{length-set, take-append-le}
use Rattle.std.proofs.lemmas.Option.{slice_get_within}
use Rattle.fj_slot.specs.Causes.{HasCause}
use Rattle.fj_outside.specs.declared.errors.Stop.{Stop}
use Rattle.fj_slot.specs.declared.stop.Halt.{Halt}
use Rattle.fj_slot.specs.declared.told.Refused.{Refused}
use Rattle.fj_slot.specs.declared.told.Told.{Told}
use Rattle.fj_slot.specs.declared.told.Told.TheVariants.{Done, Stopped}
use Rattle.fj_slot.specs.Ledger.{Ledger, with_job, with_tell, with_out, with_answer, with_halt, can_tell, can_begin}
use Rattle.fj_slot.specs.Serving.{Meaning, Serves}
use Rattle.fj_slot.specs.Sound.{IsSound, IsDue, outcome, served_by}
use Rattle.fj_slot.specs.Telling as telling
use Rattle.fj_slot.proofs.Sound.{submit_keeps, begin_keeps, due_from_begin, tell_keeps, told_is_outcome, end_keeps, length_mapped, slice_get_front}
use Rattle.fj_world.specs.declared.ask.Ask.{Ask}
use Rattle.fj_world.specs.declared.ask.Ask.TheVariants.{Submit, Settle, Finished}
use Rattle.fj_world.specs.declared.busy.Busy.{Busy}
use Rattle.fj_world.specs.Conduct.{Conduct, Asks, Takes, Tells, IsAsk, is_done}
use Rattle.fj_world.specs.Rack.{Rack}
use Rattle.fj_world.specs.Scene.{Scene, IsOrderly}
use Rattle.fj_world.specs.Plain.{Plain, PlainSlot, asked_next, submitted_to, settled_from, told_from, served, next, after}
use Rattle.fj_world.specs.Fits.{HasStopped, SlotFits, Fits, Advances}
use Rattle.fj_world.proofs.Places.{slice_get_set, slice_get_in, same_some}

-- the plain ask behind a Submit, and behind a Settle
pub ask_submit : {G J A P T R : Type 0} → (m : Meaning G J A P T R) (a : Ask T) (at : ℕ) (job : J) → IsAsk m a (Submit at job) → (t : T) × (a ≡ Submit at t) × (m.task job ≡ Some t)
ask_submit m (Submit slot task) at job h = (task, ap (λ s. Submit s task) (sym h.0), h.1)
ask_submit m (Settle slot) at job h = absurd h
ask_submit m Finished at job h = absurd h

pub ask_settle : {G J A P T R : Type 0} → (m : Meaning G J A P T R) (a : Ask T) (at : ℕ) → IsAsk m a (Settle at) → a ≡ Settle at
ask_settle m (Submit slot task) at h = absurd h
ask_settle m (Settle slot) at h = ap (λ s. Settle s) (sym h)
ask_settle m Finished at h = absurd h

-- what was not over before
pub not_over : (old new : Bool) → (old ≡ true → new ≡ true) → new ≡ false → old ≡ false
not_over true new f e = let h = f refl in cc
not_over false new f e = refl

-- what is due stays due when a job is put behind
pub due_behind : {G J A P T R : Type 0} → (m : Meaning G J A P T R) (s : P) (ts : List T) (t : T) (l l' : Ledger G J A) (number : ℕ) (engine : G) (job : J)
    → l'.start ≡ l.start → IsDue m s ts l number engine job → IsDue m s (ts ++ t ∷ []) l' number engine job
due_behind m s ts t l l' number engine job start h =
    let inside = slice_get_within ts number h.task h.at in
    let front : take number (ts ++ t ∷ []) ≡ take number ts = take-append-le number ts (t ∷ []) (omega arith) in
    record {
      engine = rw front h.engine;
      task = h.task;
      at = slice_get_front ts (t ∷ []) number inside ∙ h.at;
      job = h.job;
      count = rw start h.count;
    }

-- what is due depends on the slot by its starting engine alone
pub due_same : {G J A P T R : Type 0} → (m : Meaning G J A P T R) (s : P) (ts : List T) (l l' : Ledger G J A) (number : ℕ) (engine : G) (job : J)
    → l'.start ≡ l.start → IsDue m s ts l number engine job → IsDue m s ts l' number engine job
due_same m s ts l l' number engine job start h = record { engine = h.engine; task = h.task; at = h.at; job = h.job; count = rw start h.count }

-- slots that fit, one of them changed on both sides
pub slots_fit_set : {G J A P T R : Type 0} → (m : Meaning G J A P T R) (over over' : Bool) (qs : List (PlainSlot P T)) (ls : List (Ledger G J A)) (at : ℕ) (q : PlainSlot P T) (l : Ledger G J A)
    → (over' ≡ false → over ≡ false)
    → ((k : ℕ) (x : PlainSlot P T) (y : Ledger G J A) → slice_get qs k ≡ Some x → slice_get ls k ≡ Some y → SlotFits m over x y)
    → SlotFits m over' q l
    → (k : ℕ) (x : PlainSlot P T) (y : Ledger G J A) → slice_get (set qs at q) k ≡ Some x → slice_get (set ls at l) k ≡ Some y → SlotFits m over' x y
slots_fit_set {G} {J} {A} m over over' qs ls at q l still old new k x y ex ey =
    elim (slice_get_set qs at k q x ex) [
      | inl a ↦ elim (slice_get_set ls at k l y ey) [
        | inl b ↦ subst (λ z. SlotFits m over' z y) (sym a.1) (subst (λ z. SlotFits m over' q z) (sym b.1) new)
        | inr b ↦ absurd (b.0 a.0)
      ]
      | inr a ↦ elim (slice_get_set ls at k l y ey) [
        | inl b ↦ absurd (a.0 b.0)
        | inr b ↦ let fit = old k x y a.1 b.1 in record { sound = fit.sound; told = λ h. fit.told (still h); done = fit.done }
      ]
    ]

-- one slot changed on the side of the world alone
pub slots_fit_here : {G J A P T R : Type 0} → (m : Meaning G J A P T R) (over over' : Bool) (qs : List (PlainSlot P T)) (ls : List (Ledger G J A)) (at : ℕ) (l : Ledger G J A)
    → (over' ≡ false → over ≡ false)
    → ((k : ℕ) (x : PlainSlot P T) (y : Ledger G J A) → slice_get qs k ≡ Some x → slice_get ls k ≡ Some y → SlotFits m over x y)
    → ((x : PlainSlot P T) → slice_get qs at ≡ Some x → SlotFits m over' x l)
    → (k : ℕ) (x : PlainSlot P T) (y : Ledger G J A) → slice_get qs k ≡ Some x → slice_get (set ls at l) k ≡ Some y → SlotFits m over' x y
slots_fit_here {G} {J} {A} m over over' qs ls at l still old new k x y ex ey =
    elim (slice_get_set ls at k l y ey) [
      | inl b ↦ subst (λ z. SlotFits m over' x z) (sym b.1) (new x (subst (λ n. slice_get qs n ≡ Some x) b.0 ex))
      | inr b ↦ let fit = old k x y ex b.1 in record { sound = fit.sound; told = λ h. fit.told (still h); done = fit.done }
    ]

module _ {S G J A P T R : Type 0} (m : Meaning G J A P T R) (c : Conduct S T R) where
  -- a submit that was not refused
  pub submit_fits : (p : Plain P c) (w : Scene S G J A P T R) (mid new : S) (hand : Ask J) (rack : Rack G J A) (at : ℕ) (job : J) (n : ℕ) (l : Ledger G J A)
      → Fits m c p w → c.over w.script ≡ false → w.hand ≡ Submit at job → slice_get w.rack.slots at ≡ Some l
      → n ≡ length l.jobs → rack.slots ≡ set w.rack.slots at (with_job l job)
      → Takes {J = J} c w.script (Ok n) mid → Asks m c mid hand new
      → Fits m c (next m c p) (record { start = w.start; script = new; hand = hand; rack = rack; workers = w.workers })
  submit_fits p w mid new hand rack at job n l fits going is found number after takes asks =
      let m = m in
      let script = fits.script going in
      let plain = ask_submit m p.hand at job (subst (IsAsk m p.hand) is script.1) in
      let t = plain.0 in
      let inside = slice_get_within w.rack.slots at l found in
      let here = slice_get_in p.slots at (omega (arith, inside, fits.same_slots)) in
      let q = here.0 in
      let fit = fits.slots at q l here.1 found in
      let long = length_mapped l.jobs q.jobs m.task fit.sound.jobs in
      let q' : PlainSlot P T = record { start = q.start; jobs = q.jobs ++ t ∷ []; told = q.told } in
      let l' = with_job l job in
      let then : next m c p ≡ asked_next m c (c.took p.script (length q.jobs)) (set p.slots at q') =
      ap (λ h. served m c h p) plain.1 ∙ ap (λ o. submitted_to m c o at t p) here.1 in
      let over : c.over new ≡ false → c.over mid ≡ false = λ e. not_over (c.over mid) (c.over new) asks.over e in
      let sound = submit_keeps m q.start q.jobs t l job fit.sound plain.2 in
      let scene : Scene S G J A P T R = record { start = w.start; script = new; hand = hand; rack = rack; workers = w.workers } in
      subst (λ z. Fits m c z scene) (sym then) (record {
        script = λ e.
            let taken : c.state mid ≡ Some (c.took p.script n) = takes.took p.script script.0 (over e) in
            let same : c.took p.script n ≡ c.took p.script (length q.jobs) = ap (c.took p.script) (number ∙ long) in
            asks.told (c.took p.script (length q.jobs)) (taken ∙ ap (λ s. Some s) same) e;
        stop = λ e. absurd (let o = (fits.stop (takes.stops (asks.stops e).0)).over in cc);
        same_slots = length-set p.slots at q' ∙ fits.same_slots ∙ sym (length-set w.rack.slots at l') ∙ sym (ap length after);
        slots = λ k x y ex ey. slots_fit_set m (c.over w.script) (c.over new) p.slots w.rack.slots at q' l' (λ e. going) fits.slots
            (record { sound = sound; told = λ e. fit.told going; done = fit.done }) k x y ex (subst (λ s. slice_get s k ≡ Some y) after ey);
        held = λ k busy x y eb ex ey. elim (slice_get_set p.slots at busy.slot q' x ex) [
          | inl a ↦ elim (slice_get_set w.rack.slots at busy.slot l' y (subst (λ s. slice_get s busy.slot ≡ Some y) after ey)) [
            | inl b ↦
                let due = fits.held k busy q l eb (ap (slice_get p.slots) a.0 ∙ here.1) (ap (slice_get w.rack.slots) a.0 ∙ found) in
                let start : y.start ≡ l.start = ap (λ z. z.start) b.1 in
                subst (λ z. IsDue m z.start z.jobs y busy.out.number busy.out.engine busy.out.job) (sym a.1)
                (due_behind m q.start q.jobs t l y busy.out.number busy.out.engine busy.out.job start due)
            | inr b ↦ absurd (b.0 a.0)
          ]
          | inr a ↦ elim (slice_get_set w.rack.slots at busy.slot l' y (subst (λ s. slice_get s busy.slot ≡ Some y) after ey)) [
            | inl b ↦ absurd (a.0 b.0)
            | inr b ↦ fits.held k busy x y eb a.1 b.1
          ]
        ];
      })

  -- a submit that was refused
  pub refused_fits : (p : Plain P c) (w : Scene S G J A P T R) (mid new : S) (hand : Ask J) (rack : Rack G J A) (e : Refused J)
      → Fits m c p w → c.over w.script ≡ false → rack ≡ w.rack → Takes c w.script (Err e) mid → Asks m c mid hand new
      → (c.over new ≡ true) × Fits m c p (record { start = w.start; script = new; hand = hand; rack = rack; workers = w.workers })
  refused_fits p w mid new hand rack e fits going same takes asks =
      let over = asks.over takes.refused in
      let none : c.over new ≡ false → ⊥ = λ q. let o = over in cc in (
        over,
        subst (λ r. Fits m c p (record { start = w.start; script = new; hand = hand; rack = r; workers = w.workers })) (sym same) (record {
          script = λ q. absurd (none q);
          stop = λ q. absurd (let o = (fits.stop (takes.stops (asks.stops q).0)).over in cc);
          same_slots = fits.same_slots;
          slots = λ k x y ex ey. let fit = fits.slots k x y ex ey in record { sound = fit.sound; told = λ q. absurd (none q); done = fit.done };
          held = fits.held;
        }),
      )

  pub submit_advances : (p : Plain P c) (w : Scene S G J A P T R) (mid new : S) (hand : Ask J) (rack : Rack G J A) (at : ℕ) (job : J) (number : Result ℕ (Refused J)) (l : Ledger G J A)
      → Fits m c p w → c.over w.script ≡ false → w.hand ≡ Submit at job → slice_get w.rack.slots at ≡ Some l
      → IfOk number (λ n. n ≡ length l.jobs) → IfOk number (λ _. rack.slots ≡ set w.rack.slots at (with_job l job)) → OnErr number (rack ≡ w.rack)
      → Takes c w.script number mid → Asks m c mid hand new
      → Advances m c p (record { start = w.start; script = new; hand = hand; rack = rack; workers = w.workers })
  submit_advances p w mid new hand rack at job (Ok n) l fits going is found number after err takes asks =
      inl (submit_fits p w mid new hand rack at job n l fits going is found number after takes asks)
  submit_advances p w mid new hand rack at job (Err e) l fits going is found number after err takes asks =
      inr (refused_fits p w mid new hand rack e fits going err takes asks)

  -- an answer that was told
  pub told_fits : (p : Plain P c) (w : Scene S G J A P T R) (mid new : S) (hand : Ask J) (rack : Rack G J A) (at : ℕ) (l : Ledger G J A) (job : J) (answer : A)
      → Fits m c p w → c.over w.script ≡ false → w.hand ≡ Settle at → slice_get w.rack.slots at ≡ Some l → can_tell l ≡ true
      → telling.Tells {S = P} {T = T} {R = R} l (Done job answer) → rack.slots ≡ set w.rack.slots at (with_tell l)
      → Tells m c w.script (Done job answer) mid → Asks m c mid hand new
      → Fits m c (next m c p) (record { start = w.start; script = new; hand = hand; rack = rack; workers = w.workers })
  told_fits p w mid new hand rack at l job answer fits going is found can it after tells asks =
      let m = m in
      let script = fits.script going in
      let plain = ask_settle m p.hand at (subst (IsAsk m p.hand) is script.1) in
      let inside = slice_get_within w.rack.slots at l found in
      let here = slice_get_in p.slots at (omega (arith, inside, fits.same_slots)) in
      let q = here.0 in
      let fit = fits.slots at q l here.1 found in
      let out = told_is_outcome m q.start q.jobs l (Done job answer) fit.sound it in
      let reply : T × R = (out.0, m.reply answer) in
      let is_outcome : outcome m q.start q.jobs q.told ≡ Some reply = ap (outcome m q.start q.jobs) (sym (fit.told going)) ∙ out.2 in
      let q' : PlainSlot P T = record { start = q.start; jobs = q.jobs; told = q.told + 1 } in
      let l' = with_tell l in
      let then : next m c p ≡ asked_next m c (c.told p.script reply) (set p.slots at q') =
      ap (λ h. served m c h p) plain ∙ ap (λ o. settled_from m c o at p) here.1 ∙ ap (λ o. told_from m c o q at p) is_outcome in
      let over : c.over new ≡ false → c.over mid ≡ false = λ e. not_over (c.over mid) (c.over new) asks.over e in
      let scene : Scene S G J A P T R = record { start = w.start; script = new; hand = hand; rack = rack; workers = w.workers } in
      subst (λ z. Fits m c z scene) (sym then) (record {
        script = λ e. asks.told (c.told p.script reply) (tells.told p.script reply script.0 (over e) (out.1, refl)) e;
        stop = λ e. absurd (let o = (tells.stops (asks.stops e).0).0 in cc);
        same_slots = length-set p.slots at q' ∙ fits.same_slots ∙ sym (length-set w.rack.slots at l') ∙ sym (ap length after);
        slots = λ k x y ex ey. slots_fit_set m (c.over w.script) (c.over new) p.slots w.rack.slots at q' l' (λ e. going) fits.slots
            (record { sound = tell_keeps m q.start q.jobs l fit.sound can; told = λ e. ap (λ n. n + 1) (fit.told going); done = let same = fit.told going in omega (arith, it.0, same) }) k x y ex (subst (λ s. slice_get s k ≡ Some y) after ey);
        held = λ k busy x y eb ex ey. elim (slice_get_set p.slots at busy.slot q' x ex) [
          | inl a ↦ elim (slice_get_set w.rack.slots at busy.slot l' y (subst (λ s. slice_get s busy.slot ≡ Some y) after ey)) [
            | inl b ↦
                let due = fits.held k busy q l eb (ap (slice_get p.slots) a.0 ∙ here.1) (ap (slice_get w.rack.slots) a.0 ∙ found) in
                let start : y.start ≡ l.start = ap (λ z. z.start) b.1 in
                subst (λ z. IsDue m z.start z.jobs y busy.out.number busy.out.engine busy.out.job) (sym a.1)
                (due_same m q.start q.jobs l y busy.out.number busy.out.engine busy.out.job start due)
            | inr b ↦ absurd (b.0 a.0)
          ]
          | inr a ↦ elim (slice_get_set w.rack.slots at busy.slot l' y (subst (λ s. slice_get s busy.slot ≡ Some y) after ey)) [
            | inl b ↦ absurd (a.0 b.0)
            | inr b ↦ fits.held k busy x y eb a.1 b.1
          ]
        ];
      })

  -- one slot changed in the world alone: it is sound as before, and its start is as before
  pub changed_fits : (p : Plain P c) (w : Scene S G J A P T R) (new : S) (hand : Ask J) (rack : Rack G J A) (workers : List (Option (Busy G J A P T R))) (at : ℕ) (l l' : Ledger G J A)
      → Fits m c p w → slice_get w.rack.slots at ≡ Some l → rack.slots ≡ set w.rack.slots at l'
      → l'.start ≡ l.start
      → (c.over new ≡ false → c.over w.script ≡ false)
      → ((q : PlainSlot P T) → slice_get p.slots at ≡ Some q → SlotFits m (c.over new) q l')
      → (c.over new ≡ false → (c.state new ≡ Some p.script) × IsAsk m p.hand hand)
      → (c.stopped new ≡ true → HasStopped c p new rack)
      → ((k : ℕ) (busy : Busy G J A P T R) → slice_get workers k ≡ Some (Some busy)
      → (slice_get w.workers k ≡ Some (Some busy))
      ⊎ ((busy.slot ≡ at) × ((q : PlainSlot P T) → slice_get p.slots at ≡ Some q → IsDue m q.start q.jobs l' busy.out.number busy.out.engine busy.out.job)))
      → Fits m c p (record { start = w.start; script = new; hand = hand; rack = rack; workers = workers })
  changed_fits p w new hand rack workers at l l' fits found after start still here script stop workers_are = record {
    script = script;
    stop = stop;
    same_slots = fits.same_slots ∙ sym (length-set w.rack.slots at l') ∙ sym (ap length after);
    slots = λ k x y ex ey. slots_fit_here m (c.over w.script) (c.over new) p.slots w.rack.slots at l' still fits.slots here k x y ex (subst (λ s. slice_get s k ≡ Some y) after ey);
    held = λ k busy x y eb ex ey. elim (slice_get_set w.rack.slots at busy.slot l' y (subst (λ s. slice_get s busy.slot ≡ Some y) after ey)) [
      | inl b ↦ elim (workers_are k busy eb) [
        | inl was ↦
            let due = fits.held k busy x l was ex (ap (slice_get w.rack.slots) b.0 ∙ found) in
            due_same m x.start x.jobs l y busy.out.number busy.out.engine busy.out.job (ap (λ z. z.start) b.1 ∙ start) due
        | inr new ↦ subst (λ z. IsDue m x.start x.jobs z busy.out.number busy.out.engine busy.out.job) (sym b.1) (new.1 x (subst (λ n. slice_get p.slots n ≡ Some x) b.0 ex))
      ]
      | inr b ↦ elim (workers_are k busy eb) [
        | inl was ↦ fits.held k busy x y was ex b.1
        | inr new ↦ absurd (b.0 new.0)
      ]
    ];
  }

  -- a slot that has stopped has stopped still
  pub still_stopped : (p : Plain P c) (w : Scene S G J A P T R) (rack : Rack G J A) (at : ℕ) (l l' : Ledger G J A) → HasStopped c p w.script w.rack
      → slice_get w.rack.slots at ≡ Some l → rack.slots ≡ set w.rack.slots at l'
      → ((q : PlainSlot P T) → slice_get p.slots at ≡ Some q → is_some l.halt ≡ true → (is_some l'.halt ≡ true) × (l'.done ≡ l.done)) → HasStopped c p w.script rack
  still_stopped p w rack at l l' h found after keeps = record {
    over = h.over;
    state = h.state;
    slot = h.slot;
    hand = h.hand;
    halted = λ q y eq ey. elim (slice_get_set w.rack.slots at h.slot l' y (subst (λ s. slice_get s h.slot ≡ Some y) after ey)) [
      | inl b ↦
          let was = h.halted q l eq (ap (slice_get w.rack.slots) b.0 ∙ found) in
          let now = keeps q (ap (slice_get p.slots) (sym b.0) ∙ eq) was.0 in
          subst (λ z. (is_some z.halt ≡ true) × (z.done ≤ q.told) × (q.told ≤ z.done)) (sym b.1) (now.0, omega (arith, now.1, was.1), omega (arith, now.1, was.2))
      | inr b ↦ h.halted q y eq b.1
    ];
  }

  -- a slot whose engine is away has not stopped
  away_going : (p : Plain P c) (w : Scene S G J A P T R) (worker : ℕ) (busy : Busy G J A P T R) (l : Ledger G J A) (q : PlainSlot P T)
      → IsOrderly m c w → Fits m c p w → slice_get w.workers worker ≡ Some (Some busy) → slice_get w.rack.slots busy.slot ≡ Some l → slice_get p.slots busy.slot ≡ Some q → is_some l.halt ≡ true → ⊥
  away_going p w worker busy l q order fits holds found here h =
      let out = order.held worker busy holds in
      let is : out.ledger ≡ l = same_some (sym out.found ∙ found) in
      let away : l.home ≡ None = subst (λ z. z.home ≡ None) is out.away in
      let at_home : is_some l.home ≡ true = (fits.slots busy.slot q l here found).sound.counted.at_home h in
      let no : false ≡ true = sym (ap is_some away) ∙ at_home in
      cc

  -- a stop that was told
  pub stopped_fits : (p : Plain P c) (w : Scene S G J A P T R) (mid new : S) (hand : Ask J) (rack : Rack G J A) (at : ℕ) (l : Ledger G J A) (it : Told G J A P T R)
      → Fits m c p w → c.over w.script ≡ false → w.hand ≡ Settle at → slice_get w.rack.slots at ≡ Some l → can_tell l ≡ true → is_done it ≡ false → (is_some l.halt ≡ true) × (l.done ≤ l.told)
      → rack.slots ≡ set w.rack.slots at (with_tell l)
      → Tells m c w.script it mid → Asks m c mid hand new
      → (c.over new ≡ true) × Fits m c p (record { start = w.start; script = new; hand = hand; rack = rack; workers = w.workers })
  stopped_fits p w mid new hand rack at l it fits going is found can stopped halt after tells asks =
      let over = asks.over (tells.stopped stopped) in
      let none : c.over new ≡ false → ⊥ = λ q. let o = over in cc in (
        over,
        changed_fits p w new hand rack w.workers at l (with_tell l) fits found after refl (λ q. absurd (none q))
            (λ q e. let fit = fits.slots at q l e found in record { sound = tell_keeps m q.start q.jobs l fit.sound can; told = λ z. absurd (none z); done = fit.done })
            (λ q. absurd (none q))
            (λ e. let before = asks.stops e in
            let script = fits.script going in
            record {
              over = over;
              state = before.1 ∙ (tells.stops before.0).1 ∙ script.0;
              slot = at;
              hand = ask_settle m p.hand at (subst (IsAsk m p.hand) is script.1);
              halted = λ q y eq ey. elim (slice_get_set w.rack.slots at at (with_tell l) y (subst (λ s. slice_get s at ≡ Some y) after ey)) [
                | inl b ↦
                    let fit = fits.slots at q l eq found in
                    let told : l.told ≡ q.told = fit.told going in
                    subst (λ z. (is_some z.halt ≡ true) × (z.done ≤ q.told) × (q.told ≤ z.done)) (sym b.1) (halt.0, omega (arith, halt.1, told), fit.done)
                | inr b ↦ absurd (b.0 refl)
              ];
            })
            (λ k busy e. inl e),
      )

  pub settle_advances : (p : Plain P c) (w : Scene S G J A P T R) (mid new : S) (hand : Ask J) (rack : Rack G J A) (at : ℕ) (l : Ledger G J A) (it : Told G J A P T R)
      → Fits m c p w → c.over w.script ≡ false → w.hand ≡ Settle at → slice_get w.rack.slots at ≡ Some l → can_tell l ≡ true
      → telling.Tells l it → rack.slots ≡ set w.rack.slots at (with_tell l)
      → Tells m c w.script it mid → Asks m c mid hand new
      → Advances m c p (record { start = w.start; script = new; hand = hand; rack = rack; workers = w.workers })
  settle_advances p w mid new hand rack at l (Done job answer) fits going is found can it after tells asks =
      inl (told_fits p w mid new hand rack at l job answer fits going is found can it after tells asks)
  settle_advances p w mid new hand rack at l (Stopped job stop before after') fits going is found can it after tells asks =
      inr (stopped_fits p w mid new hand rack at l (Stopped job stop before after') fits going is found can refl (ap is_some it.1, it.0) after tells asks)

  -- a job is begun
  pub begin_fits : (p : Plain P c) (w : Scene S G J A P T R) (worker : ℕ) (busy : Busy G J A P T R) (l : Ledger G J A) (rack : Rack G J A)
      → Fits m c p w → slice_get w.rack.slots busy.slot ≡ Some l → can_begin l ≡ true
      → busy.out.number ≡ l.done → l.home ≡ Some busy.out.engine → slice_get l.jobs l.done ≡ Some busy.out.job
      → rack.slots ≡ set w.rack.slots busy.slot (with_out l)
      → Fits m c p (record { start = w.start; script = w.script; hand = w.hand; rack = rack; workers = set w.workers worker (Some busy) })
  begin_fits p w worker busy l rack fits found can number home first after =
      changed_fits p w w.script w.hand rack (set w.workers worker (Some busy)) busy.slot l (with_out l) fits found after refl (λ e. e)
      (λ q e. let fit = fits.slots busy.slot q l e found in record { sound = begin_keeps m q.start q.jobs l fit.sound can; told = fit.told; done = fit.done })
      fits.script
      (λ e. still_stopped p w rack busy.slot l (with_out l) (fits.stop e) found after (λ q eq h. (h, refl)))
      (λ k one e. elim (slice_get_set w.workers worker k (Some busy) (Some one) e) [
        | inl a ↦
            let is : busy ≡ one = sym (same_some a.1) in
            inr (
              ap (λ z. z.slot) (sym is),
              λ q eq.
                  let fit = fits.slots busy.slot q l eq found in
                  let due = due_from_begin m q.start q.jobs l busy.out.engine busy.out.job fit.sound can home first in
                  subst (λ z. IsDue m q.start q.jobs (with_out l) z.out.number z.out.engine z.out.job) is
                  (subst (λ n. IsDue m q.start q.jobs (with_out l) n busy.out.engine busy.out.job) (sym number) (due_same m q.start q.jobs l (with_out l) l.done busy.out.engine busy.out.job refl due)),
            )
        | inr a ↦ inl a.1
      ])

  -- a slot stays sound when the job that a worker holds is ended
  pub end_sound : (p : Plain P c) (w : Scene S G J A P T R) (worker : ℕ) (busy : Busy G J A P T R) (l new : Ledger G J A) (engine : G) (job : J) (got : Result A Stop) (q : PlainSlot P T)
      → IsOrderly m c w → Fits m c p w → slice_get w.workers worker ≡ Some (Some busy) → slice_get w.rack.slots busy.slot ≡ Some l → slice_get p.slots busy.slot ≡ Some q
      → ((s : P) (t : T) → m.state busy.out.engine ≡ Some s → m.task busy.out.job ≡ Some t → Serves m s t got engine job)
      → HasCause (m.faults busy.out.engine) (m.faults engine) got
      → IfOk got (λ answer. new ≡ with_answer l engine job answer)
      → IfErr got (λ stop. new ≡ with_halt l engine (record { stop = stop; before = m.faults busy.out.engine; after = m.faults engine }))
      → IsSound m q.start q.jobs new
  end_sound p w worker busy l new engine job got q order fits holds found here serves cause ok err =
      let out = order.held worker busy holds in
      let is : out.ledger ≡ l = same_some (sym out.found ∙ found) in
      let away : l.home ≡ None = subst (λ z. z.home ≡ None) is out.away in
      let number : busy.out.number ≡ l.done = subst (λ z. busy.out.number ≡ z.done) is out.number in
      let fit = fits.slots busy.slot q l here found in
      let due = fits.held worker busy q l holds here found in
      let state : m.state busy.out.engine ≡ Some (served_by m q.start (take l.done q.jobs)) = due.engine ∙ ap (λ n. Some (served_by m q.start (take n q.jobs))) number in
      let at : slice_get q.jobs l.done ≡ Some due.task = ap (slice_get q.jobs) (sym number) ∙ due.at in
      let served = serves (served_by m q.start (take l.done q.jobs)) due.task state due.job in
      end_keeps m q.start q.jobs due.task l new engine job got (m.faults busy.out.engine) fit.sound away at served due.count cause ok err

  -- a job is ended
  pub end_fits : (p : Plain P c) (w : Scene S G J A P T R) (worker : ℕ) (busy : Busy G J A P T R) (l : Ledger G J A) (rack : Rack G J A) (engine : G) (job : J) (got : Result A Stop)
      → IsOrderly m c w → Fits m c p w → slice_get w.workers worker ≡ Some (Some busy) → slice_get w.rack.slots busy.slot ≡ Some l
      → ((s : P) (t : T) → m.state busy.out.engine ≡ Some s → m.task busy.out.job ≡ Some t → Serves m s t got engine job)
      → HasCause (m.faults busy.out.engine) (m.faults engine) got
      → IfOk got (λ answer. rack.slots ≡ set w.rack.slots busy.slot (with_answer l engine job answer))
      → IfErr got (λ stop. rack.slots ≡ set w.rack.slots busy.slot (with_halt l engine (record { stop = stop; before = m.faults busy.out.engine; after = m.faults engine })))
      → Fits m c p (record { start = w.start; script = w.script; hand = w.hand; rack = rack; workers = set w.workers worker None })
  end_fits p w worker busy l rack engine job (Ok answer) order fits holds found serves cause ok err =
      changed_fits p w w.script w.hand rack (set w.workers worker None) busy.slot l (with_answer l engine job answer) fits found ok refl (λ e. e)
      (λ q e. record {
        sound = end_sound p w worker busy l (with_answer l engine job answer) engine job (Ok answer) q order fits holds found e serves cause refl tt;
        told = (fits.slots busy.slot q l e found).told;
        done = let was = (fits.slots busy.slot q l e found).done in omega (arith, was);
      })
      fits.script
      (λ e. still_stopped p w rack busy.slot l (with_answer l engine job answer) (fits.stop e) found ok (λ q eq h. absurd (away_going p w worker busy l q order fits holds found eq h)))
      (λ k one e. elim (slice_get_set w.workers worker k None (Some one) e) [ inl a ↦ absurd (let x = a.1 in cc) | inr a ↦ inl a.1 ])
  end_fits p w worker busy l rack engine job (Err stop) order fits holds found serves cause ok err =
      let halt : Halt = record { stop = stop; before = m.faults busy.out.engine; after = m.faults engine } in
      changed_fits p w w.script w.hand rack (set w.workers worker None) busy.slot l (with_halt l engine halt) fits found err refl (λ e. e)
      (λ q e. record {
        sound = end_sound p w worker busy l (with_halt l engine halt) engine job (Err stop) q order fits holds found e serves cause tt refl;
        told = (fits.slots busy.slot q l e found).told;
        done = let was = (fits.slots busy.slot q l e found).done in omega (arith, was);
      })
      fits.script
      (λ e. still_stopped p w rack busy.slot l (with_halt l engine halt) (fits.stop e) found err (λ q eq h. absurd (away_going p w worker busy l q order fits holds found eq h)))
      (λ k one e. elim (slice_get_set w.workers worker k None (Some one) e) [ inl a ↦ absurd (let x = a.1 in cc) | inr a ↦ inl a.1 ])
