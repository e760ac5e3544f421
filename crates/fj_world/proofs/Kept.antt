-- Every event keeps what is to be kept.
use Rattle.std.proofs.Common.{◌≡◌, ℕ, ◌+◌, ◌≤◌, List, [], ◌∷◌, ◌++◌, length, Some, None, IfSome, slice_get, set, Result, Ok, Err, IfOk, IfErr, OnErr, append_assoc, refl, sym, ap, ◌∙◌, subst, inl, inr, arith, is_some, true, false, ◌<◌}
use Rattle.std.proofs.lemmas.List.{length-set}
use Rattle.std.proofs.lemmas.Option.{slice_get_within}
use Rattle.fj_outside.specs.declared.errors.Stop.{Stop}
use Rattle.fj_slot.specs.declared.stop.Halt.{Halt}
use Rattle.fj_slot.specs.declared.told.Refused.{Refused}
use Rattle.fj_slot.specs.Causes.{HasCause}
use Rattle.fj_slot.specs.Ledger.{Ledger, with_job, with_out, with_answer, with_halt, with_tell}
use Rattle.fj_slot.specs.Serving.{Meaning}
use Rattle.fj_slot.specs.Sound.{IsCounted}
use Rattle.fj_slot.proofs.Counted.{counted_submit, counted_begin, counted_end, counted_tell}
use Rattle.fj_world.specs.declared.ask.Ask.TheVariants.{Submit, Settle}
use Rattle.fj_world.specs.declared.busy.Busy.{Busy}
use Rattle.fj_world.specs.Alone.{OwesAsSaid}
use Rattle.fj_world.specs.Conduct.{Conduct, IsDueAsk, KeepsTo, is_done}
use Rattle.fj_world.specs.Happening.{Submits, TellsNext, BeginsJob, EndsJob}
use Rattle.fj_world.specs.Keeping.{GoesOn, AllGoOn, AllCounted, HeldCounted, SomeStopped, Keeps}
use Rattle.fj_slot.specs.Telling as telling
use Rattle.fj_slot.specs.declared.told.Told.{Told}
use Rattle.fj_slot.specs.declared.told.Told.TheVariants.{Done, Stopped}
use Rattle.std.proofs.lemmas.Bool.{cases_eq}
use Rattle.fj_world.specs.Rack.{Rack}
use Rattle.fj_world.specs.Scene.{Scene, IsOrderly}
use Rattle.fj_world.proofs.AloneSteps.{submit_owed, owes_settle}
use Rattle.fj_world.proofs.Places.{slice_get_set, slice_get_in, same_some, set_same, set_other}

none_behind : {X : Type 0} → (xs : List X) → xs ≡ xs ++ []
none_behind [] = refl
none_behind (x ∷ xs) = ap (λ ys. x ∷ ys) (none_behind xs)

module _ {G J A : Type 0} where
  pub goes_itself : (l : Ledger G J A) → GoesOn l l
  goes_itself l = record { start = refl; more = []; jobs = none_behind l.jobs; done = omega arith; told = omega arith }

  pub goes_on_and_on : (l l' l'' : Ledger G J A) → GoesOn l l' → GoesOn l' l'' → GoesOn l l''
  goes_on_and_on l l' l'' a b = record {
    start = b.start ∙ a.start;
    more = a.more ++ b.more;
    jobs = b.jobs ∙ ap (λ js. js ++ b.more) a.jobs ∙ append_assoc l.jobs a.more b.more;
    done = omega (arith, a.done, b.done);
    told = omega (arith, a.told, b.told);
  }

  goes_job : (l : Ledger G J A) (job : J) → GoesOn l (with_job l job)
  goes_job l job = record { start = refl; more = job ∷ []; jobs = refl; done = omega arith; told = omega arith }

  -- the jobs stay
  pub goes_same : (l l' : Ledger G J A) → l'.start ≡ l.start → l'.jobs ≡ l.jobs → l.done ≤ l'.done → l.told ≤ l'.told → GoesOn l l'
  goes_same l l' start jobs done told = record { start = start; more = []; jobs = jobs ∙ none_behind l.jobs; done = done; told = told }

  pub all_go_itself : (rack : Rack G J A) → AllGoOn rack rack
  all_go_itself rack = record { same = refl; spare = refl; each = λ at l l' e e'. subst (λ z. GoesOn l z) (same_some (sym e ∙ e')) (goes_itself l) }

  pub all_go_set : (old new : Rack G J A) (at : ℕ) (l l' : Ledger G J A) → slice_get old.slots at ≡ Some l → new.slots ≡ set old.slots at l' → new.spare ≡ old.spare
      → GoesOn l l' → AllGoOn old new
  all_go_set old new at l l' found after spare goes = record {
    same = ap length after ∙ length-set old.slots at l';
    spare = spare;
    each = λ k x y ex ey. elim (slice_get_set old.slots at k l' y (subst (λ s. slice_get s k ≡ Some y) after ey)) [
      | inl b ↦
          let is : l ≡ x = same_some (sym found ∙ ap (slice_get old.slots) (sym b.0) ∙ ex) in
          subst (λ z. GoesOn x z) (sym b.1) (subst (λ z. GoesOn z l') is goes)
      | inr b ↦ subst (λ z. GoesOn x z) (same_some (sym ex ∙ b.1)) (goes_itself x)
    ];
  }

  pub all_go_on_and_on : (old mid new : Rack G J A) → AllGoOn old mid → AllGoOn mid new → AllGoOn old new
  all_go_on_and_on old mid new a b = record {
    same = b.same ∙ a.same;
    spare = b.spare ∙ a.spare;
    each = λ k x y ex ey.
        let inside = slice_get_within old.slots k x ex in
        let between = slice_get_in mid.slots k (omega (arith, inside, a.same)) in
        goes_on_and_on x between.0 y (a.each k x between.0 ex between.1) (b.each k between.0 y between.1 ey);
  }

module _ {S G J A P T R : Type 0} (m : Meaning G J A P T R) (c : Conduct S T R) where
  pub counted_set : (old new : Rack G J A) (at : ℕ) (l l' : Ledger G J A) → slice_get old.slots at ≡ Some l → new.slots ≡ set old.slots at l'
      → (IsCounted m l → IsCounted m l') → AllCounted m old → AllCounted m new
  counted_set old new at l l' found after keeps all k y e =
      elim (slice_get_set old.slots at k l' y (subst (λ s. slice_get s k ≡ Some y) after e)) [
        | inl b ↦ subst (λ z. IsCounted m z) (sym b.1) (keeps (all at l found))
        | inr b ↦ all k y b.1
      ]

  held_set : (old new : Scene S G J A P T R) (at : ℕ) (l l' : Ledger G J A) → slice_get old.rack.slots at ≡ Some l → new.rack.slots ≡ set old.rack.slots at l'
      → l'.start ≡ l.start → ((k : ℕ) (busy : Busy G J A P T R) → slice_get new.workers k ≡ Some (Some busy) → slice_get old.workers k ≡ Some (Some busy))
      → HeldCounted m old → HeldCounted m new
  held_set old new at l l' found after start still held k busy y e ey =
      elim (slice_get_set old.rack.slots at busy.slot l' y (subst (λ s. slice_get s busy.slot ≡ Some y) after ey)) [
        | inl b ↦
            let was = held k busy l (still k busy e) (ap (slice_get old.rack.slots) b.0 ∙ found) in
            let same : y.start ≡ l.start = ap (λ z. z.start) b.1 ∙ start in
            subst (λ z. m.faults z ≤ m.faults busy.out.engine) (sym same) was
        | inr b ↦ held k busy y (still k busy e) b.1
      ]

  still_held : (old new : Scene S G J A P T R) → new.workers ≡ old.workers → (k : ℕ) (busy : Busy G J A P T R) → slice_get new.workers k ≡ Some (Some busy) → slice_get old.workers k ≡ Some (Some busy)
  still_held old new same k busy e = subst (λ ws. slice_get ws k ≡ Some (Some busy)) same e

  -- what the script is owed, where one slot was changed and no job was submitted or told
  owes_still : (old new : S) (rack rack' : Rack G J A) (at : ℕ) (l l' : Ledger G J A) → new ≡ old → slice_get rack.slots at ≡ Some l → rack'.slots ≡ set rack.slots at l'
      → l'.jobs ≡ l.jobs → l'.told ≡ l.told → OwesAsSaid c old rack → OwesAsSaid c new rack'
  owes_still old new rack rack' at l l' same found after jobs told owes =
      subst (λ z. OwesAsSaid c z rack') (sym same) (λ k y used e.
      elim (slice_get_set rack.slots at k l' y (subst (λ s. slice_get s k ≡ Some y) after e)) [
        | inl b ↦
            let was = owes k l used (ap (slice_get rack.slots) b.0 ∙ found) in
            subst (λ z. z.told + c.owed old k ≡ length z.jobs) (sym b.1) (omega (arith, was, told, ap length jobs))
        | inr b ↦ owes k y used b.1
      ])

  pub submit_counted : (old new : Rack G J A) (at : ℕ) (job : J) (l : Ledger G J A) (number : Result ℕ (Refused J)) → slice_get old.slots at ≡ Some l
      → IfOk number (λ _. new.slots ≡ set old.slots at (with_job l job)) → OnErr number (new ≡ old) → new.spare ≡ old.spare
      → AllGoOn old new × (AllCounted m old → AllCounted m new)
  submit_counted old new at job l (Ok n) found after same spare =
      (all_go_set old new at l (with_job l job) found after spare (goes_job l job), counted_set old new at l (with_job l job) found after (counted_submit m l job))
  submit_counted old new at job l (Err e) found after same spare = (subst (λ r. AllGoOn old r) (sym same) (all_go_itself old), subst (λ r. AllCounted m r) (sym same))

  -- a slot that has stopped stays so where one slot was changed
  stopped_set : (old new : Rack G J A) (at : ℕ) (l l' : Ledger G J A) → slice_get old.slots at ≡ Some l → new.slots ≡ set old.slots at l'
      → (is_some l.halt ≡ true → is_some l'.halt ≡ true) → SomeStopped old → SomeStopped new
  stopped_set old new at l l' found after halts s =
      elim (cases_eq s.at at) [
        | inl same ↦
            let is : s.ledger ≡ l = same_some (sym s.found ∙ ap (slice_get old.slots) same ∙ found) in
            record {
              at = at;
              ledger = l';
              found = ap (λ xs. slice_get xs at) after ∙ set_same old.slots at l' (slice_get_within old.slots at l found);
              halted = halts (subst (λ z. is_some z.halt ≡ true) is s.halted);
            }
        | inr ne ↦ record { at = s.at; ledger = s.ledger; found = ap (λ xs. slice_get xs s.at) after ∙ set_other old.slots at s.at l' ne ∙ s.found; halted = s.halted }
      ]

  pub submit_stopped : (old new : Rack G J A) (at : ℕ) (job : J) (l : Ledger G J A) (number : Result ℕ (Refused J)) → slice_get old.slots at ≡ Some l
      → IfOk number (λ _. new.slots ≡ set old.slots at (with_job l job)) → OnErr number (new ≡ old) → SomeStopped old → SomeStopped new
  submit_stopped old new at job l (Ok n) found after same = stopped_set old new at l (with_job l job) found after (λ e. e)
  submit_stopped old new at job l (Err e) found after same = subst (λ r. SomeStopped r) (sym same)

  -- what was told as a stop is a stop of its slot
  told_halted : (l : Ledger G J A) (it : Told G J A P T R) → telling.Tells l it → is_done it ≡ false → is_some l.halt ≡ true
  told_halted l (Done job answer) it e = absurd (cc)
  told_halted l (Stopped job stop before after) it e = ap is_some it.1

  pub told_stopped : (old new : Rack G J A) (at : ℕ) (l : Ledger G J A) (it : Told G J A P T R) → at < length old.slots → new.slots ≡ set old.slots at (with_tell l)
      → telling.Tells l it → is_done it ≡ false → SomeStopped new
  told_stopped old new at l it inside after tells e = record {
    at = at;
    ledger = with_tell l;
    found = ap (λ xs. slice_get xs at) after ∙ set_same old.slots at (with_tell l) inside;
    halted = told_halted l it tells e;
  }

  submit_held : (old new : Scene S G J A P T R) (at : ℕ) (job : J) (l : Ledger G J A) (number : Result ℕ (Refused J)) → slice_get old.rack.slots at ≡ Some l
      → IfOk number (λ _. new.rack.slots ≡ set old.rack.slots at (with_job l job)) → OnErr number (new.rack ≡ old.rack) → new.workers ≡ old.workers
      → HeldCounted m old → HeldCounted m new
  submit_held old new at job l (Ok n) found after same workers = held_set old new at l (with_job l job) found after refl (still_held old new workers)
  submit_held old new at job l (Err e) found after same workers = λ held k busy y ek ey.
      held k busy y (still_held old new workers k busy ek) (ap (λ r. slice_get r.slots busy.slot) (sym same) ∙ ey)

  pub submit_keeps_all : (old new : Scene S G J A P T R) (at : ℕ) (job : J) → IsOrderly m c old → old.hand ≡ Submit at job → Submits m c at job old new
      → new.rack.spare ≡ old.rack.spare → Keeps m c old new
  submit_keeps_all old new at job order hand h spare =
      let goes = submit_counted old.rack new.rack at job h.ledger h.number h.found h.after h.same spare in
      record {
        slots = goes.0;
        owed = λ owes. submit_owed m c old.script h.script new.script new.hand old.rack new.rack at h.number h.ledger job owes
            (subst (IsDueAsk (c.due old.script)) hand order.due) h.found h.after h.same h.takes h.asks;
        counted = λ all held. (goes.1 all, submit_held old new at job h.ledger h.number h.found h.after h.same h.workers held);
        stopped = λ was e. submit_stopped old.rack new.rack at job h.ledger h.number h.found h.after h.same (was (h.takes.stops (h.asks.stops e).0));
      }

  pub tell_keeps_all : (old new : Scene S G J A P T R) (at : ℕ) → IsOrderly m c old → old.hand ≡ Settle at → TellsNext m c at old new
      → new.rack.spare ≡ old.rack.spare → Keeps m c old new
  tell_keeps_all old new at order hand h spare =
      let to = subst (KeepsTo c old.script) hand order.keeps_to in
      record {
        slots = all_go_set old.rack new.rack at h.ledger (with_tell h.ledger) h.found h.after spare (goes_same h.ledger (with_tell h.ledger) refl refl (omega arith) (omega arith));
        owed = λ owes. owes_settle m c old.script h.script new.script new.hand old.rack new.rack at h.ledger h.ledger h.told owes
            (subst (IsDueAsk (c.due old.script)) hand order.due) to.2 h.found h.after refl refl h.hears h.asks;
        counted = λ all held. (
          counted_set old.rack new.rack at h.ledger (with_tell h.ledger) h.found h.after (λ was. counted_tell m h.ledger was h.ready) all,
          held_set old new at h.ledger (with_tell h.ledger) h.found h.after refl (still_held old new h.workers) held,
        );
        stopped = λ _ e. told_stopped old.rack new.rack at h.ledger h.told (slice_get_within old.rack.slots at h.ledger h.found) h.after h.tells (h.hears.stops (h.asks.stops e).0).0;
      }

  begun_held : (old new : Scene S G J A P T R) (worker at : ℕ) → BeginsJob worker at old new → IsOrderly m c old → AllCounted m old.rack → HeldCounted m old → HeldCounted m new
  begun_held old new worker at h order all held k busy y ek ey =
      elim (slice_get_set old.workers worker k (Some h.busy) (Some busy) (subst (λ ws. slice_get ws k ≡ Some (Some busy)) h.workers ek)) [
        | inl a ↦
            let is : busy ≡ h.busy = same_some a.1 in
            let slot : busy.slot ≡ at = ap (λ z. z.slot) is ∙ h.slot in
            elim (slice_get_set old.rack.slots at busy.slot (with_out h.ledger) y (subst (λ s. slice_get s busy.slot ≡ Some y) h.after ey)) [
              | inl b ↦
                  let start : y.start ≡ h.ledger.start = ap (λ z. z.start) b.1 in
                  let count = subst (λ o. IfSome o (λ e. m.faults h.ledger.start ≤ m.faults e)) h.engine (all at h.ledger h.found).count in
                  subst (λ z. m.faults y.start ≤ m.faults z.out.engine) (sym is) (subst (λ z. m.faults z ≤ m.faults h.busy.out.engine) (sym start) count)
              | inr b ↦ absurd (b.0 slot)
            ]
        | inr a ↦ elim (slice_get_set old.rack.slots at busy.slot (with_out h.ledger) y (subst (λ s. slice_get s busy.slot ≡ Some y) h.after ey)) [
          | inl b ↦
              let was = held k busy h.ledger a.1 (ap (slice_get old.rack.slots) b.0 ∙ h.found) in
              let start : y.start ≡ h.ledger.start = ap (λ z. z.start) b.1 in
              subst (λ z. m.faults z ≤ m.faults busy.out.engine) (sym start) was
          | inr b ↦ held k busy y a.1 b.1
        ]
      ]

  pub begin_keeps_all : (old new : Scene S G J A P T R) (worker at : ℕ) → IsOrderly m c old → BeginsJob worker at old new → new.rack.spare ≡ old.rack.spare → Keeps m c old new
  begin_keeps_all old new worker at order h spare = record {
    slots = all_go_set old.rack new.rack at h.ledger (with_out h.ledger) h.found h.after spare (goes_same h.ledger (with_out h.ledger) refl refl (omega arith) (omega arith));
    owed = owes_still old.script new.script old.rack new.rack at h.ledger (with_out h.ledger) h.script h.found h.after refl refl;
    counted = λ all held. (
      counted_set old.rack new.rack at h.ledger (with_out h.ledger) h.found h.after (λ was. counted_begin m h.ledger was h.may) all,
      begun_held old new worker at h order all held,
    );
    stopped = λ was e. stopped_set old.rack new.rack at h.ledger (with_out h.ledger) h.found h.after (λ q. q) (was (subst (λ z. c.stopped z ≡ true) h.script e));
  }

  -- a job was ended, and left its slot so
  ended_keeps : (old new : Scene S G J A P T R) (worker : ℕ) (l' : Ledger G J A) (h : EndsJob m worker old new) → IsOrderly m c old
      → new.rack.slots ≡ set old.rack.slots h.busy.slot l' → l'.start ≡ h.ledger.start → l'.jobs ≡ h.ledger.jobs → h.ledger.done ≤ l'.done → l'.told ≡ h.ledger.told
      → (IsCounted m h.ledger → m.faults h.ledger.start ≤ m.faults h.busy.out.engine → IsCounted m l') → (is_some h.ledger.halt ≡ true → is_some l'.halt ≡ true) → new.rack.spare ≡ old.rack.spare → Keeps m c old new
  ended_keeps old new worker l' h order after start jobs done told counts halts spare = record {
    slots = all_go_set old.rack new.rack h.busy.slot h.ledger l' h.found after spare (goes_same h.ledger l' start jobs done (omega (arith, told)));
    owed = owes_still old.script new.script old.rack new.rack h.busy.slot h.ledger l' h.script h.found after jobs told;
    counted = λ all held. (
      counted_set old.rack new.rack h.busy.slot h.ledger l' h.found after (λ was. counts was (held worker h.busy h.ledger h.holds h.found)) all,
      held_set old new h.busy.slot h.ledger l' h.found after start
          (λ k busy e. elim (slice_get_set old.workers worker k None (Some busy) (subst (λ ws. slice_get ws k ≡ Some (Some busy)) h.workers e)) [
            | inl a ↦ absurd (let x = a.1 in cc)
            | inr a ↦ a.1
          ]) held,
    );
    stopped = λ was e. stopped_set old.rack new.rack h.busy.slot h.ledger l' h.found after halts (was (subst (λ z. c.stopped z ≡ true) h.script e));
  }

  pub end_keeps_all : (old new : Scene S G J A P T R) (worker : ℕ) → IsOrderly m c old → EndsJob m worker old new → new.rack.spare ≡ old.rack.spare → Keeps m c old new
  end_keeps_all old new worker order h spare = go h.got refl
    where
      away : h.ledger.home ≡ None
      away =
          let out = order.held worker h.busy h.holds in
          subst (λ z. z.home ≡ None) (same_some (sym out.found ∙ h.found)) out.away

      go : (got : Result A Stop) → h.got ≡ got → Keeps m c old new
      go (Ok answer) is =
          let l' = with_answer h.ledger h.engine h.job answer in
          let cause : HasCause {T = A} (m.faults h.busy.out.engine) (m.faults h.engine) (Ok answer) = subst (λ g. HasCause (m.faults h.busy.out.engine) (m.faults h.engine) g) is h.cause in
          ended_keeps old new worker l' h order
          (subst (λ g. IfOk g (λ a. new.rack.slots ≡ set old.rack.slots h.busy.slot (with_answer h.ledger h.engine h.job a))) is h.done)
          refl refl (omega arith) refl
          (λ was count. counted_end m h.ledger l' h.engine h.job (Ok answer) (m.faults h.busy.out.engine) was away count cause refl tt) (λ q. q) spare
      go (Err stop) is =
          let halt : Halt = record { stop = stop; before = m.faults h.busy.out.engine; after = m.faults h.engine } in
          let l' = with_halt h.ledger h.engine halt in
          let cause : HasCause {T = A} (m.faults h.busy.out.engine) (m.faults h.engine) (Err stop) = subst (λ g. HasCause (m.faults h.busy.out.engine) (m.faults h.engine) g) is h.cause in
          ended_keeps old new worker l' h order
          (subst (λ g. IfErr g (λ s. new.rack.slots ≡ set old.rack.slots h.busy.slot (with_halt h.ledger h.engine (record { stop = s; before = m.faults h.busy.out.engine; after = m.faults h.engine })))) is h.stopped)
          refl refl (omega arith) refl
          (λ was count. counted_end m h.ledger l' h.engine h.job (Err stop) (m.faults h.busy.out.engine) was away count cause tt refl) (λ _. refl) spare

  pub keeps_itself : (w : Scene S G J A P T R) → Keeps m c w w
  keeps_itself w = record { slots = all_go_itself w.rack; owed = λ owes. owes; counted = λ all held. (all, held); stopped = λ was e. was e }

  pub keeps_on_and_on : (old mid new : Scene S G J A P T R) → Keeps m c old mid → Keeps m c mid new → Keeps m c old new
  keeps_on_and_on old mid new a b = record {
    slots = all_go_on_and_on old.rack mid.rack new.rack a.slots b.slots;
    owed = λ owes. b.owed (a.owed owes);
    counted = λ all held. let between = a.counted all held in b.counted between.0 between.1;
    stopped = λ was e. b.stopped (a.stopped was) e;
  }
