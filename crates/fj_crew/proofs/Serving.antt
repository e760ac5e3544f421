-- Each turn of a script that is served over queues.
use Rattle.std.proofs.Common.{◌≡◌, ◌≢◌, ◌⊎◌, ℕ, suc, ◌+◌, ◌-◌, ◌<◌, ◌≤◌, ◌^◌, Bool, true, false, cond, List, [], ◌∷◌, ◌++◌, length, Some, slice_get, set, Result, Ok, Err, refl, sym, ap, ◌∙◌, subst, inl, inr, arith}
use Rattle.std.proofs.lemmas.List.{length-set, length-append}
use Rattle.std.proofs.lemmas.Bool.{eq-eqb, ne_eqb}
use Rattle.std.proofs.lemmas.Option.{slice_get_within}
use Rattle.fj_outside.specs.declared.errors.Stop.{Stop}
use Rattle.fj_slot.specs.declared.told.Refused.{Refused}
use Rattle.fj_slot.specs.declared.told.Told.{Told}
use Rattle.fj_slot.specs.declared.told.Told.TheVariants.{Done, Stopped}
use Rattle.fj_slot.specs.Serving.{Meaning}
use Rattle.fj_slot.specs.Sound.{outcome}
use Rattle.fj_world.specs.declared.ask.Ask.{Ask}
use Rattle.fj_world.specs.declared.ask.Ask.TheVariants.{Submit, Settle}
use Rattle.fj_world.specs.Conduct.{Conduct, Asks, Takes, Tells, IsAsk, Submitting, Settling, owed_after_submit, owed_after_settle}
use Rattle.fj_world.specs.Plain.{Plain, PlainSlot, asked_next, submitted_to, settled_from, told_from, served, next, after}
use Rattle.fj_world.proofs.Places.{slice_get_set, set_same, slice_get_in, same_some}
use Rattle.fj_world.proofs.Fitting.{ask_submit, ask_settle, not_over}
use Rattle.fj_world.proofs.Runs.{after_next}
use Rattle.fj_queue.specs.declared.view.View.{View}
use Rattle.fj_queue.specs.declared.seats.SubmitterOf.{SubmitterOf}
use Rattle.fj_queue.specs.Knows.{knows}
use Rattle.fj_queue.proofs.Counts.{code_some}
use Rattle.fj_queue.specs.Cell.{IsNext}
use Rattle.fj_queue.specs.Answers.{IsStop, KnowsStop}
use Rattle.fj_crew.specs.Seats.{SeatAt, Sends, Submits, Settles}
use Rattle.fj_crew.specs.Fits.{SeatFits, HasReached, AllReached, NoJobs, SeatsSame, OwesAsSaid, FewJobs, AllAnswered, SomeTold, Planned, Begun, CrewFits, CrewGoes}
use Rattle.fj_crew.proofs.Looking.{get_at_end}
use Rattle.fj_crew.proofs.Growing.{grows_later, outcome_before}

module _ {C G P T : Type 0} where
  -- submitters that fit, one of them changed on both sides
  pub seats_fit_set : (over over' : Bool) (qs : List (PlainSlot P T)) (ss : List (SubmitterOf C G T)) (at : ℕ) (q : PlainSlot P T) (s : SubmitterOf C G T)
      → (over' ≡ false → over ≡ false)
      → ((k : ℕ) (x : PlainSlot P T) (y : SubmitterOf C G T) → slice_get qs k ≡ Some x → slice_get ss k ≡ Some y → SeatFits over x (knows y))
      → SeatFits over' q (knows s)
      → (k : ℕ) (x : PlainSlot P T) (y : SubmitterOf C G T) → slice_get (set qs at q) k ≡ Some x → slice_get (set ss at s) k ≡ Some y → SeatFits over' x (knows y)
  seats_fit_set over over' qs ss at q s still old new k x y ex ey =
      elim (slice_get_set qs at k q x ex) [
        | inl a ↦ elim (slice_get_set ss at k s y ey) [
          | inl b ↦ subst (λ z. SeatFits over' z (knows y)) (sym a.1) (subst (λ z. SeatFits over' q (knows z)) (sym b.1) new)
          | inr b ↦ absurd (b.0 a.0)
        ]
        | inr a ↦ elim (slice_get_set ss at k s y ey) [
          | inl b ↦ absurd (a.0 b.0)
          | inr b ↦ let fit = old k x y a.1 b.1 in record { sent = fit.sent; heard = λ h. fit.heard (still h) }
        ]
      ]

  -- one submitter changed alone
  pub seats_fit_here : (over over' : Bool) (qs : List (PlainSlot P T)) (ss : List (SubmitterOf C G T)) (at : ℕ) (s : SubmitterOf C G T)
      → (over' ≡ false → over ≡ false)
      → ((k : ℕ) (x : PlainSlot P T) (y : SubmitterOf C G T) → slice_get qs k ≡ Some x → slice_get ss k ≡ Some y → SeatFits over x (knows y))
      → ((x : PlainSlot P T) → slice_get qs at ≡ Some x → SeatFits over' x (knows s))
      → (k : ℕ) (x : PlainSlot P T) (y : SubmitterOf C G T) → slice_get qs k ≡ Some x → slice_get (set ss at s) k ≡ Some y → SeatFits over' x (knows y)
  seats_fit_here over over' qs ss at s still old new k x y ex ey =
      elim (slice_get_set ss at k s y ey) [
        | inl b ↦ subst (λ z. SeatFits over' x (knows z)) (sym b.1) (new x (subst (λ n. slice_get qs n ≡ Some x) b.0 ex))
        | inr b ↦ let fit = old k x y ex b.1 in record { sent = fit.sent; heard = λ h. fit.heard (still h) }
      ]

module _ {G P T : Type 0} where
  -- what was told stays done, where the submitter knows as much
  pub still_reached : (q q' : PlainSlot P T) (v w : View G T) → q'.told ≡ q.told → w.answered ≡ v.answered → w.heard ≡ v.heard → w.stopped ≡ v.stopped → w.stopped_at ≡ v.stopped_at → HasReached q v → HasReached q' w
  still_reached q q' v w told answered heard stopped at (inl (all, low)) = inl (answered ∙ all, omega (arith, low, told, heard))
  still_reached q q' v w told answered heard stopped at (inr (code, low)) = inr ((λ z. code (sym stopped ∙ z)), omega (arith, low, told, at))

  -- one more was told, which is done
  pub told_reached : (q q' : PlainSlot P T) (v w : View G T) → q'.told ≡ q.told + 1 → v.heard ≡ q.told → w.heard ≡ v.heard + 1 → w.answered ≡ true → HasReached q' w
  told_reached q q' v w told heard more answered = inl (answered, omega (arith, told, heard, more))

  -- so it is of one fewer
  pub one_less : (q : PlainSlot P T) (v : View G T) → (let more : PlainSlot P T = record { start = q.start; jobs = q.jobs; told = q.told + 1 } in HasReached more v) → HasReached q v
  one_less q v (inl (all, low)) = inl (all, omega (arith, low))
  one_less q v (inr (code, low)) = inr (code, omega (arith, low))

-- a stop was told, which stands behind what was told
pub stop_reached : {G J A P T R : Type 0} → (m : Meaning G J A P T R) (q : PlainSlot P T) (v w : View G T) (job : J) (stop : Stop) (before after : ℕ) → IsStop m v w job stop before after → v.heard ≡ q.told → v.answered ≡ true → HasReached q w
stop_reached m q v w job stop before after is heard answered = let exact = is.exact answered in inr ((λ z. code_some stop (sym is.kind ∙ z)), omega (arith, exact, heard))

module _ {C G P T : Type 0} where
  pub reached_set : (qs : List (PlainSlot P T)) (ss ss' : List (SubmitterOf C G T)) (at : ℕ) (q : PlainSlot P T) (s : SubmitterOf C G T) → ss' ≡ set ss at s → AllReached qs ss → HasReached q (knows s) → AllReached (set qs at q) ss'
  reached_set qs ss ss' at q s after old new k x y ex ey =
      elim (slice_get_set qs at k q x ex) [
        | inl a ↦ elim (slice_get_set ss at k s y (subst (λ z. slice_get z k ≡ Some y) after ey)) [
          | inl b ↦ subst (λ z. HasReached z (knows y)) (sym a.1) (subst (λ z. HasReached q (knows z)) (sym b.1) new)
          | inr b ↦ absurd (b.0 a.0)
        ]
        | inr a ↦ elim (slice_get_set ss at k s y (subst (λ z. slice_get z k ≡ Some y) after ey)) [
          | inl b ↦ absurd (a.0 b.0)
          | inr b ↦ old k x y a.1 b.1
        ]
      ]

  pub reached_here : (qs : List (PlainSlot P T)) (ss ss' : List (SubmitterOf C G T)) (at : ℕ) (s : SubmitterOf C G T) → ss' ≡ set ss at s → AllReached qs ss
      → ((x : PlainSlot P T) → slice_get qs at ≡ Some x → HasReached x (knows s)) → AllReached qs ss'
  reached_here qs ss ss' at s after old new k x y ex ey =
      elim (slice_get_set ss at k s y (subst (λ z. slice_get z k ≡ Some y) after ey)) [
        | inl b ↦ subst (λ z. HasReached x (knows z)) (sym b.1) (new x (subst (λ n. slice_get qs n ≡ Some x) b.0 ex))
        | inr b ↦ old k x y ex b.1
      ]

module _ {C G T : Type 0} where
  -- the same plans and hands, after one submitter more was changed
  pub same_set : (old ss ss' : List (SubmitterOf C G T)) (at : ℕ) (s w : SubmitterOf C G T) → slice_get ss at ≡ Some s → ss' ≡ set ss at w
      → (knows w).plan ≡ (knows s).plan → (knows w).hands ≡ (knows s).hands → (knows s).sent ≤ (knows w).sent → (knows s).heard ≤ (knows w).heard → SeatsSame old ss → SeatsSame old ss'
  same_set old ss ss' at s w found after plan hands sent heard h = record {
    long = ap length after ∙ length-set ss at w ∙ h.long;
    each = λ k x e. elim (slice_get_set ss at k w x (subst (λ z. slice_get z k ≡ Some x) after e)) [
      | inl a ↦
          let was = h.each k s (ap (slice_get ss) a.0 ∙ found) in
          let more = was.4 in
          let told = was.5 in
          (was.0, was.1, ap (λ z. (knows z).plan) a.1 ∙ plan ∙ was.2, ap (λ z. (knows z).hands) a.1 ∙ hands ∙ was.3, omega (arith, more, sent, ap (λ z. (knows z).sent) a.1), omega (arith, told, heard, ap (λ z. (knows z).heard) a.1))
      | inr a ↦ h.each k x a.1
    ];
  }

  -- one submitter changed, which knows no less
  pub answered_set : (ss ss' : List (SubmitterOf C G T)) (at : ℕ) (w : SubmitterOf C G T) → AllAnswered ss → ss' ≡ set ss at w → (knows w).answered ≡ true → AllAnswered ss'
  answered_set ss ss' at w all after answered k x e = elim (slice_get_set ss at k w x (subst (λ z. slice_get z k ≡ Some x) after e)) [
    | inl a ↦ ap (λ z. (knows z).answered) a.1 ∙ answered
    | inr a ↦ all k x a.1
  ]

  pub same_itself : (ss : List (SubmitterOf C G T)) → SeatsSame ss ss
  same_itself ss = record { long = refl; each = λ k s e. (s, e, refl, refl, omega arith, omega arith) }

module _ {S C G J A P T R : Type 0} (m : Meaning G J A P T R) (c : Conduct S T R) where
  -- the plan's job is the one that the script submits
  pub due_next : {ever : Bool} {level : Type 0} (p : Plain P c) (most : ℕ) (old seats : List (SubmitterOf C G T)) (script : S) (hand : Ask J) (at : ℕ) (job : J) (s : SubmitterOf C G T)
      → Planned m c p most old → SeatsSame old seats → CrewGoes m c ever level p most script hand seats
      → c.over script ≡ false → 0 < c.left script → hand ≡ Submit at job → slice_get seats at ≡ Some s → IsNext m (knows s).plan (knows s).sent job
  due_next p most old seats script hand at job s planned same goes going left is found it js at_plan named =
      let n = goes.entries in
      let now = after m c n p in
      let plain = ask_submit m now.hand at job (subst (IsAsk m now.hand) is (goes.fits.script_is going).1) in
      let t = plain.0 in
      let inside = slice_get_within seats at s found in
      let here = slice_get_in now.slots at (omega (arith, inside, goes.fits.same)) in
      let q = here.0 in
      let q' : PlainSlot P T = record { start = q.start; jobs = q.jobs ++ t ∷ []; told = q.told } in
      let then : next m c now ≡ asked_next m c (c.took now.script (length q.jobs)) (set now.slots at q') =
      ap (λ h. served m c h now) plain.1 ∙ ap (λ o. submitted_to m c o at t now) here.1 in
      let one : slice_get (after m c (suc n) p).slots at ≡ Some q' =
      ap (λ z. slice_get z.slots at) (after_next m c n p ∙ then) ∙ set_same now.slots at q' (slice_get_within now.slots at q here.1) in
      let later = (grows_later m c (suc n) most p (omega (arith, goes.few, left))).each at q' one in
      let was = same.each at s found in
      let plan = planned.plans at was.0 later.0 was.1 later.1 in
      let is_it : plan.0 ≡ it = same_some (sym (was.2 ∙ plan.1) ∙ at_plan) in
      let jobs : js ≡ (q.jobs ++ t ∷ []) ++ later.2.more = same_some (sym named ∙ ap (λ z. z.jobs) (sym is_it) ∙ plan.2) ∙ later.2.jobs in
      let sent : (knows s).sent ≡ length q.jobs = (goes.fits.slots at q s here.1 found).sent in
      (t, ap (λ js. slice_get js (knows s).sent) jobs ∙ ap (slice_get ((q.jobs ++ t ∷ []) ++ later.2.more)) sent ∙ get_at_end q.jobs later.2.more t, plain.2)

  pub submit_goes : {ever : Bool} {level : Type 0} (p : Plain P c) (most : ℕ) (script mid new : S) (hand hand' : Ask J) (seats seats' : List (SubmitterOf C G T)) (at : ℕ) (job : J) (number : Result ℕ (Refused J)) (s : SubmitterOf C G T)
      → CrewGoes m c ever level p most script hand seats → c.over script ≡ false → hand ≡ Submit at job → slice_get seats at ≡ Some s
      → Submits seats at number seats' → Takes c script number mid → Asks m c mid hand' new
      → CrewGoes m c ever level p most new hand' seats'
  submit_goes {ever} {level} p most script mid new hand hand' seats seats' at job (Ok n) s goes going is found did takes asks =
      let now = after m c goes.entries p in
      let fits = goes.fits in
      let told = fits.script_is going in
      let plain = ask_submit m now.hand at job (subst (IsAsk m now.hand) is told.1) in
      let t = plain.0 in
      let inside = slice_get_within seats at s found in
      let here = slice_get_in now.slots at (omega (arith, inside, fits.same)) in
      let q = here.0 in
      let fit = fits.slots at q s here.1 found in
      let sends = did.sends s found in
      let q' : PlainSlot P T = record { start = q.start; jobs = q.jobs ++ t ∷ []; told = q.told } in
      let then : after m c (suc goes.entries) p ≡ asked_next m c (c.took now.script (length q.jobs)) (set now.slots at q') =
      after_next m c goes.entries p ∙ ap (λ h. served m c h now) plain.1 ∙ ap (λ o. submitted_to m c o at t now) here.1 in
      let over : c.over new ≡ false → c.over mid ≡ false = λ e. not_over (c.over mid) (c.over new) asks.over e in
      record {
        entries = suc goes.entries;
        few = omega (arith, goes.few, takes.left, asks.left);
        fits = subst (λ z. CrewFits m c ever level z new hand' seats') (sym then) (record {
          script_is = λ e.
              let taken : c.state mid ≡ Some (c.took now.script n) = takes.took now.script told.0 (over e) in
              let same : c.took now.script n ≡ c.took now.script (length q.jobs) = ap (c.took now.script) (sends.0 ∙ fit.sent) in
              asks.told (c.took now.script (length q.jobs)) (taken ∙ ap (λ z. Some z) same) e;
          stop = λ w e. absurd (let o = (fits.stop w (takes.stops (asks.stops e).0)).over in cc);
          same = length-set now.slots at q' ∙ fits.same ∙ sym (length-set seats at did.seat) ∙ sym (ap length did.after);
          slots = λ k x y ex ey. seats_fit_set (c.over script) (c.over new) now.slots seats at q' did.seat (λ e. going) fits.slots
              (record { sent = omega (arith, sends.1.numbers.sent_is, fit.sent, length-append q.jobs (t ∷ [])); heard = λ e. sends.1.numbers.heard_is ∙ fit.heard going }) k x y ex (subst (λ z. slice_get z k ≡ Some y) did.after ey);
          reached = λ l. reached_set now.slots seats seats' at q' did.seat did.after (fits.reached l)
              (still_reached q q' (knows s) (knows did.seat) refl sends.1.answered sends.1.numbers.heard_is sends.1.stopped sends.1.stopped_at (fits.reached l at q s here.1 found));
        });
      }
  submit_goes {ever} {level} p most script mid new hand hand' seats seats' at job (Err refused) s goes going is found did takes asks =
      let over = asks.over takes.refused in
      let none : c.over new ≡ false → ⊥ = λ q. let o = over in cc in
      let now = after m c goes.entries p in
      let fits = goes.fits in
      let sends = did.sends s found in
      record {
        entries = goes.entries;
        few = omega (arith, goes.few, takes.left, asks.left);
        fits = record {
          script_is = λ e. absurd (none e);
          stop = λ w e. absurd (let o = (fits.stop w (takes.stops (asks.stops e).0)).over in cc);
          same = fits.same ∙ sym (length-set seats at did.seat) ∙ sym (ap length did.after);
          slots = λ k x y ex ey. seats_fit_here (c.over script) (c.over new) now.slots seats at did.seat (λ e. absurd (none e)) fits.slots
              (λ x e. let fit = fits.slots at x s e found in record { sent = sends.numbers.sent_is ∙ fit.sent; heard = λ e. absurd (none e) }) k x y ex (subst (λ z. slice_get z k ≡ Some y) did.after ey);
          reached = λ l. reached_here now.slots seats seats' at did.seat did.after (fits.reached l)
              (λ x e. still_reached x x (knows s) (knows did.seat) refl sends.answered sends.numbers.heard_is sends.stopped sends.stopped_at (fits.reached l at x s e found));
        };
      }

  pub settle_goes : {ever : Bool} {level : Type 0} (p : Plain P c) (most : ℕ) (old : List (SubmitterOf C G T)) (script mid new : S) (hand hand' : Ask J) (seats seats' : List (SubmitterOf C G T)) (at : ℕ) (it : Told G J A P T R) (s : SubmitterOf C G T)
      → Planned m c p most old → SeatsSame old seats → CrewGoes m c ever level p most script hand seats → c.over script ≡ false → 0 < c.left script → hand ≡ Settle at → slice_get seats at ≡ Some s → (knows s).heard < (knows s).sent → (level → (knows s).answered ≡ true)
      → Settles m seats at it seats' → Tells m c script it mid → Asks m c mid hand' new
      → CrewGoes m c ever level p most new hand' seats'
  settle_goes {ever} {level} p most old script mid new hand hand' seats seats' at (Done job answer) s planned kept goes going left is found waits answers did tells asks =
      let now = after m c goes.entries p in
      let fits = goes.fits in
      let script_is = fits.script_is going in
      let plain = ask_settle m now.hand at (subst (IsAsk m now.hand) is script_is.1) in
      let inside = slice_get_within seats at s found in
      let here = slice_get_in now.slots at (omega (arith, inside, fits.same)) in
      let q = here.0 in
      let fit = fits.slots at q s here.1 found in
      let numbers = did.numbers s found in
      let later = (grows_later m c goes.entries most p (omega (arith, goes.few))).each at q here.1 in
      let was = kept.each at s found in
      let plan = planned.plans at was.0 later.0 was.1 later.1 in
      let out = (did.told s found).outcome plan.0 q.start later.0.jobs (was.2 ∙ plan.1) plan.2 (plan.3 ∙ ap (λ z. Some z) later.2.start) in
      let reply : T × R = (out.0, m.reply answer) in
      let jobs : later.0.jobs ≡ q.jobs ++ later.2.more = later.2.jobs in
      let heard : (knows s).heard ≡ q.told = fit.heard going in
      let is_outcome : outcome m q.start q.jobs q.told ≡ Some reply =
      sym (outcome_before m c q.start q.jobs later.2.more q.told (omega (arith, waits, fit.sent, heard))) ∙ ap (λ js. outcome m q.start js q.told) (sym jobs) ∙ ap (outcome m q.start later.0.jobs) (sym heard) ∙ out.2 in
      let q' : PlainSlot P T = record { start = q.start; jobs = q.jobs; told = q.told + 1 } in
      let then : after m c (suc goes.entries) p ≡ asked_next m c (c.told now.script reply) (set now.slots at q') =
      after_next m c goes.entries p ∙ ap (λ h. served m c h now) plain ∙ ap (λ o. settled_from m c o at now) here.1 ∙ ap (λ o. told_from m c o q at now) is_outcome in
      let over : c.over new ≡ false → c.over mid ≡ false = λ e. not_over (c.over mid) (c.over new) asks.over e in
      record {
        entries = suc goes.entries;
        few = omega (arith, goes.few, tells.left, asks.left);
        fits = subst (λ z. CrewFits m c ever level z new hand' seats') (sym then) (record {
          script_is = λ e. asks.told (c.told now.script reply) (tells.told now.script reply script_is.0 (over e) (out.1, refl)) e;
          stop = λ w e. absurd (let o = (tells.stops (asks.stops e).0).0 in cc);
          same = length-set now.slots at q' ∙ fits.same ∙ sym (length-set seats at did.seat) ∙ sym (ap length did.after);
          slots = λ k x y ex ey. seats_fit_set (c.over script) (c.over new) now.slots seats at q' did.seat (λ e. going) fits.slots
              (record { sent = numbers.sent_is ∙ fit.sent; heard = λ e. numbers.heard_is ∙ ap (λ n. n + 1) heard }) k x y ex (subst (λ z. slice_get z k ≡ Some y) did.after ey);
          reached = λ l. reached_set now.slots seats seats' at q' did.seat did.after (fits.reached l) (let kept : KnowsStop m (knows s) (knows did.seat) (Done job answer) = (did.told s found).stop in told_reached q q' (knows s) (knows did.seat) refl heard numbers.heard_is (kept.2 ∙ answers l));
        });
      }
  settle_goes {ever} {level} p most old script mid new hand hand' seats seats' at (Stopped job stop before after') s planned kept goes going left is found waits answers did tells asks =
      let over = asks.over (tells.stopped refl) in
      let none : c.over new ≡ false → ⊥ = λ q. let o = over in cc in
      let now = after m c goes.entries p in
      let fits = goes.fits in
      let script_is = fits.script_is going in
      let numbers = did.numbers s found in
      record {
        entries = goes.entries;
        few = omega (arith, goes.few, tells.left, asks.left);
        fits = record {
          script_is = λ e. absurd (none e);
          stop = λ w e.
              let asked = asks.stops e in
              record {
                over = over;
                state = asked.1 ∙ (tells.stops asked.0).1 ∙ script_is.0;
                slot = at;
                hand = ask_settle m now.hand at (subst (IsAsk m now.hand) is script_is.1);
                halted = λ q y eq ey. elim (slice_get_set seats at at did.seat y (subst (λ z. slice_get z at ≡ Some y) did.after ey)) [
                  | inl b ↦
                      let settles : IsStop m (knows s) (knows did.seat) job stop before after' = (did.told s found).stop in
                      let heard : (knows s).heard ≡ q.told = (fits.slots at q s eq found).heard going in
                      let code : (knows did.seat).stopped ≢ 0 = λ z. code_some stop (sym settles.kind ∙ z) in
                      let few : (knows did.seat).stopped_at ≤ q.told = omega (arith, settles.place, heard) in
                      let exact : level → q.told ≤ (knows did.seat).stopped_at = λ l. let at_once = settles.exact (answers l) in omega (arith, at_once, heard) in
                      subst (λ z. ((knows z).stopped ≢ 0) × ((knows z).stopped_at ≤ q.told) × (level → q.told ≤ (knows z).stopped_at)) (sym b.1) (code, few, exact)
                  | inr b ↦ absurd (b.0 refl)
                ];
              };
          same = fits.same ∙ sym (length-set seats at did.seat) ∙ sym (ap length did.after);
          slots = λ k x y ex ey. seats_fit_here (c.over script) (c.over new) now.slots seats at did.seat (λ e. absurd (none e)) fits.slots
              (λ x e. let fit = fits.slots at x s e found in record { sent = numbers.sent_is ∙ fit.sent; heard = λ e. absurd (none e) }) k x y ex (subst (λ z. slice_get z k ≡ Some y) did.after ey);
          reached = λ l. reached_here now.slots seats seats' at did.seat did.after (fits.reached l)
              (λ x e. stop_reached m x (knows s) (knows did.seat) job stop before after' (did.told s found).stop ((fits.slots at x s e found).heard going) (answers l));
        };
      }

pub sent_at_most : {G J T : Type 0} → (v w : View G T) (r : Result ℕ (Refused J)) → Sends v r w → w.sent ≤ v.sent + 1
sent_at_most v w (Ok n) h = omega (arith, h.1.numbers.sent_is)
sent_at_most v w (Err e) h = omega (arith, h.numbers.sent_is)

pub kept_by : {G J T : Type 0} → (v w : View G T) (r : Result ℕ (Refused J)) → Sends v r w → (w.plan ≡ v.plan) × (w.hands ≡ v.hands) × (w.answered ≡ v.answered) × (v.sent ≤ w.sent) × (v.heard ≤ w.heard)
kept_by v w (Ok n) h = (h.1.numbers.plan, h.1.numbers.hands_is, h.1.answered, omega (arith, h.1.numbers.sent_is), omega (arith, h.1.numbers.heard_is))
kept_by v w (Err e) h = (h.numbers.plan, h.numbers.hands_is, h.answered, omega (arith, h.numbers.sent_is), omega (arith, h.numbers.heard_is))

module _ {S C G J A P T R : Type 0} (m : Meaning G J A P T R) (c : Conduct S T R) where
  -- at first what was told is done, where the submitters know so
  pub begins_reached : (script : S) (seats : List (SubmitterOf C G T)) (b : Begun m c script seats) → AllAnswered seats → AllReached b.slots seats
  begins_reached script seats b all k q s eq es = let same = (b.fits k q s eq es).heard refl in inl (all k s es, omega (arith, same))

  -- the first ask was taken
  pub first_goes : (script new : S) (hand : Ask J) (seats : List (SubmitterOf C G T)) (b : Begun m c script seats) → Asks m c script hand new
      → {level : Type 0} → (level → AllAnswered seats) → CrewGoes m c (c.stopped script) level (asked_next m c b.state b.slots) (c.left script) new hand seats
  first_goes script new hand seats b asks levels = record {
    entries = 0;
    few = omega (arith, asks.left);
    fits = record {
      script_is = λ e. asks.told b.state b.told e;
      stop = λ w e. absurd (let o = (asks.stops e).0 in cc);
      same = b.planned.same;
      slots = λ k q s eq es. let fit = b.fits k q s eq es in record { sent = fit.sent; heard = λ _. fit.heard refl };
      reached = λ l. begins_reached script seats b (levels l);
    };
  }

  -- so few jobs are submitted after a turn
  pub few_on : (script mid new : S) (seats seats' : List (SubmitterOf C G T)) (at : ℕ) (s w : SubmitterOf C G T)
      → FewJobs c script seats → slice_get seats at ≡ Some s → seats' ≡ set seats at w → (knows w).sent ≤ (knows s).sent + 1
      → c.left mid < c.left script → c.left new ≤ c.left mid → FewJobs c new seats'
  few_on script mid new seats seats' at s w few found after most left asked k x e =
      elim (slice_get_set seats at k w x (subst (λ z. slice_get z k ≡ Some x) after e)) [
        | inl a ↦ subst (λ z. (knows z).sent + c.left new < 2 ^ 62) (sym a.1) (omega (arith, few at s found, most, left, asked))
        | inr a ↦ omega (arith, few k x a.1, left, asked)
      ]

  pub submit_owes : (script mid new : S) (hand : Ask J) (seats seats' : List (SubmitterOf C G T)) (at : ℕ) (number : Result ℕ (Refused J)) (s : SubmitterOf C G T)
      → OwesAsSaid c script seats → c.due script ≡ Submitting at → slice_get seats at ≡ Some s → Submits seats at number seats'
      → Takes c script number mid → Asks m c mid hand new → OwesAsSaid c new seats'
  submit_owes script mid new hand seats seats' at (Ok n) s owes due found did takes asks k x used e =
      let same : c.owed new k ≡ owed_after_submit (Submitting at) (c.owed script) k =
      asks.owed k ∙ takes.owed k ∙ ap (λ d. owed_after_submit d (c.owed script) k) due in
      let used' : k < c.uses script = omega (arith, used, takes.uses, asks.uses) in
      let sends = did.sends s found in
      elim (slice_get_set seats at k did.seat x (subst (λ z. slice_get z k ≡ Some x) did.after e)) [
        | inl a ↦
            let one : c.owed new k ≡ c.owed script k + 1 = same ∙ ap (λ b. cond b (c.owed script k + 1) (c.owed script k)) (eq-eqb k at a.0) in
            let was = owes k s used' (ap (slice_get seats) a.0 ∙ found) in
            subst (λ z. (knows z).heard + c.owed new k ≡ (knows z).sent) (sym a.1) (omega (arith, one, was, sends.1.numbers.sent_is, sends.1.numbers.heard_is))
        | inr a ↦
            let none : c.owed new k ≡ c.owed script k = same ∙ ap (λ b. cond b (c.owed script k + 1) (c.owed script k)) (ne_eqb k at a.0) in
            omega (arith, none, owes k x used' a.1)
      ]
  submit_owes script mid new hand seats seats' at (Err refused) s owes due found did takes asks k x used e =
      let same : c.owed new k ≡ c.owed script k = asks.owed k ∙ takes.owed k in
      let used' : k < c.uses script = omega (arith, used, takes.uses, asks.uses) in
      let sends = did.sends s found in
      elim (slice_get_set seats at k did.seat x (subst (λ z. slice_get z k ≡ Some x) did.after e)) [
        | inl a ↦
            let was = owes k s used' (ap (slice_get seats) a.0 ∙ found) in
            subst (λ z. (knows z).heard + c.owed new k ≡ (knows z).sent) (sym a.1) (omega (arith, same, was, sends.numbers.sent_is, sends.numbers.heard_is))
        | inr a ↦ omega (arith, same, owes k x used' a.1)
      ]

  pub settle_owes : (script mid new : S) (hand : Ask J) (seats seats' : List (SubmitterOf C G T)) (at : ℕ) (it : Told G J A P T R) (s : SubmitterOf C G T)
      → OwesAsSaid c script seats → c.due script ≡ Settling at → 0 < c.owed script at → slice_get seats at ≡ Some s → Settles m seats at it seats'
      → Tells m c script it mid → Asks m c mid hand new → OwesAsSaid c new seats'
  settle_owes script mid new hand seats seats' at it s owes due some found did tells asks k x used e =
      let same : c.owed new k ≡ owed_after_settle (Settling at) (c.owed script) k =
      asks.owed k ∙ tells.owed k ∙ ap (λ d. owed_after_settle d (c.owed script) k) due in
      let used' : k < c.uses script = omega (arith, used, tells.uses, asks.uses) in
      let numbers = did.numbers s found in
      elim (slice_get_set seats at k did.seat x (subst (λ z. slice_get z k ≡ Some x) did.after e)) [
        | inl a ↦
            let one : c.owed new k ≡ c.owed script k - 1 = same ∙ ap (λ b. cond b (c.owed script k - 1) (c.owed script k)) (eq-eqb k at a.0) in
            let some' : 0 < c.owed script k = subst (λ n. 0 < c.owed script n) (sym a.0) some in
            let was = owes k s used' (ap (slice_get seats) a.0 ∙ found) in
            subst (λ z. (knows z).heard + c.owed new k ≡ (knows z).sent) (sym a.1) (omega (arith, one, was, some', numbers.sent_is, numbers.heard_is))
        | inr a ↦
            let none : c.owed new k ≡ c.owed script k = same ∙ ap (λ b. cond b (c.owed script k - 1) (c.owed script k)) (ne_eqb k at a.0) in
            omega (arith, none, owes k x used' a.1)
      ]

  -- each job that was told is done, unless the script is over
  pub submit_answers : (seats seats' : List (SubmitterOf C G T)) (at : ℕ) (number : Result ℕ (Refused J)) (s : SubmitterOf C G T)
      → AllAnswered seats → slice_get seats at ≡ Some s → Submits seats at number seats' → AllAnswered seats'
  submit_answers seats seats' at number s all found did =
      answered_set seats seats' at did.seat all did.after ((kept_by (knows s) (knows did.seat) number (did.sends s found)).2 ∙ all at s found)

  pub settle_answers : (script mid new : S) (hand : Ask J) (seats seats' : List (SubmitterOf C G T)) (at : ℕ) (it : Told G J A P T R) (s : SubmitterOf C G T)
      → AllAnswered seats → slice_get seats at ≡ Some s → Settles m seats at it seats' → Tells m c script it mid → Asks m c mid hand new → c.over new ≡ false → AllAnswered seats'
  settle_answers script mid new hand seats seats' at (Done job answer) s all found did tells asks going =
      let kept : KnowsStop m (knows s) (knows did.seat) (Done job answer) = (did.told s found).stop in
      answered_set seats seats' at did.seat all did.after (kept.2 ∙ all at s found)
  settle_answers script mid new hand seats seats' at (Stopped job stop before after') s all found did tells asks going =
      absurd (let o = asks.over (tells.stopped refl) in cc)

  -- a script that was told a stop is over, and a submitter knows the stop
  pub submit_told : (script mid new : S) (hand : Ask J) (seats' : List (SubmitterOf C G T)) (number : Result ℕ (Refused J))
      → (c.stopped script ≡ true → c.over script ≡ true) → c.over script ≡ false → Takes c script number mid → Asks m c mid hand new
      → c.stopped new ≡ true → (c.over new ≡ true) × SomeTold seats'
  submit_told script mid new hand seats' number over going takes asks e = absurd (let o = over (takes.stops (asks.stops e).0) in cc)

  pub settle_told : (script mid new : S) (hand : Ask J) (seats seats' : List (SubmitterOf C G T)) (at : ℕ) (it : Told G J A P T R) (s : SubmitterOf C G T)
      → slice_get seats at ≡ Some s → Settles m seats at it seats' → Tells m c script it mid → Asks m c mid hand new
      → c.stopped new ≡ true → (c.over new ≡ true) × SomeTold seats'
  settle_told script mid new hand seats seats' at (Done job answer) s found did tells asks e = absurd (let n = (tells.stops (asks.stops e).0).0 in cc)
  settle_told script mid new hand seats seats' at (Stopped job stop before after') s found did tells asks e =
      let is : IsStop m (knows s) (knows did.seat) job stop before after' = (did.told s found).stop in (
        asks.over (tells.stopped refl),
        record {
          at = at;
          seat = did.seat;
          found = ap (λ z. slice_get z at) did.after ∙ set_same seats at did.seat (slice_get_within seats at s found);
          told = λ z. code_some stop (sym is.kind ∙ z);
        },
      )

  -- the plan's job is the one that the script submits, where there are plans
  pub is_next : (script0 script : S) (hand : Ask J) (old seats : List (SubmitterOf C G T)) (at : ℕ) (job : J) → NoJobs old ⊎ Begun m c script0 old → SeatsSame old seats
      → {level : Type 0} → ((b : Begun m c script0 old) → CrewGoes m c (c.stopped script0) level (asked_next m c b.state b.slots) (c.left script0) script hand seats)
      → c.over script ≡ false → 0 < c.left script → hand ≡ Submit at job → SeatAt seats at (λ v. IsNext m v.plan v.sent job)
  is_next script0 script hand old seats at job (inl none) same goes going left is s found =
      λ it js at_plan named. absurd (let was = same.each at s found in let no = none at was.0 it was.1 (sym was.2 ∙ at_plan) in cc)
  is_next script0 script hand old seats at job (inr b) same goes going left is s found =
      due_next m c (asked_next m c b.state b.slots) (c.left script0) old seats script hand at job s b.planned same (goes b) going left is found
