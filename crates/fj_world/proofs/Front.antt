-- The job in front of a slot, performed at once.
use Rattle.std.proofs.Common.{◌≡◌, ◌⊎◌, ℕ, ◌+◌, ◌-◌, ◌<◌, ◌≤◌, Bool, true, false, List, length, take, Some, is_some, cond, slice_get, set, Result, Ok, Err, IfOk, IfErr, IfSome, refl, sym, ap, ◌∙◌, subst, inl, inr, arith}
use Rattle.std.proofs.lemmas.Grind.{common_steps}
use Rattle.std.proofs.lemmas.Option.{slice_get_within}
use Rattle.fj_slot.specs.Causes.{HasCause}
use Rattle.fj_outside.specs.declared.errors.Stop.{Stop}
use Rattle.fj_slot.specs.Ledger.{Ledger, with_out, with_answer, with_halt, with_tell, can_begin, can_tell}
use Rattle.fj_slot.specs.Serving.{Meaning, Serves}
use Rattle.fj_slot.specs.Sound.{IsCounted, IsSound, served_by}
use Rattle.fj_slot.specs.Telling.{Tells}
use Rattle.fj_slot.specs.declared.told.Told.{Told}
use Rattle.fj_slot.proofs.Sound.{begin_keeps, due_from_begin, end_keeps}
use Rattle.fj_slot.proofs.Counted.{may_begin, counted_begin, counted_end}
use Rattle.fj_world.specs.Rack.{Rack}
use Rattle.fj_world.specs.Alone.{ServesOn, ServesFront, Settles, left_at}
use Rattle.fj_slot.specs.declared.stop.Halt.{Halt}
use Rattle.fj_world.proofs.Places.{set_same, set_twice, set_itself}

module _ {G J A P T R : Type 0} (m : Meaning G J A P T R) where
  pub front_sound : (l new : Ledger G J A) (engine engine' : G) (job job' : J) (got : Result A Stop)
      → can_begin l ≡ true → l.home ≡ Some engine → slice_get l.jobs l.done ≡ Some job
      → ((s : P) (t : T) → m.state engine ≡ Some s → m.task job ≡ Some t → Serves m s t got engine' job')
      → HasCause (m.faults engine) (m.faults engine') got
      → IfOk got (λ answer. new ≡ with_answer (with_out l) engine' job' answer)
      → IfErr got (λ stop. new ≡ with_halt (with_out l) engine' (record { stop = stop; before = m.faults engine; after = m.faults engine' }))
      → (s : P) (ts : List T) → IsSound m s ts l → IsSound m s ts new
  front_sound l new engine engine' job job' got can home first serves cause ok err s ts h =
      let due = due_from_begin m s ts l engine job h can home first in
      let served = serves (served_by m s (take l.done ts)) due.task due.engine due.job in
      end_keeps m s ts due.task (with_out l) new engine' job' got (m.faults engine) (begin_keeps m s ts l h can) refl due.at served due.count cause ok err

  front_counted : (l new : Ledger G J A) (engine engine' : G) (job' : J) (got : Result A Stop)
      → can_begin l ≡ true → l.home ≡ Some engine
      → HasCause (m.faults engine) (m.faults engine') got
      → IfOk got (λ answer. new ≡ with_answer (with_out l) engine' job' answer)
      → IfErr got (λ stop. new ≡ with_halt (with_out l) engine' (record { stop = stop; before = m.faults engine; after = m.faults engine' }))
      → IsCounted m l → IsCounted m new
  front_counted l new engine engine' job' got can home cause ok err h =
      counted_end m (with_out l) new engine' job' got (m.faults engine) (counted_begin m l h can) refl
      (subst (λ o. IfSome o (λ e. m.faults l.start ≤ m.faults e)) home h.count) cause ok err

  pub front_serves : (old mid new : Rack G J A) (at : ℕ) (l : Ledger G J A) (engine engine' : G) (job job' : J) (got : Result A Stop)
      → slice_get old.slots at ≡ Some l → mid.slots ≡ set old.slots at (with_out l)
      → can_begin l ≡ true → l.home ≡ Some engine → slice_get l.jobs l.done ≡ Some job
      → ((s : P) (t : T) → m.state engine ≡ Some s → m.task job ≡ Some t → Serves m s t got engine' job')
      → HasCause (m.faults engine) (m.faults engine') got
      → IfOk got (λ answer. new.slots ≡ set mid.slots at (with_answer (with_out l) engine' job' answer))
      → IfErr got (λ stop. new.slots ≡ set mid.slots at (with_halt (with_out l) engine' (record { stop = stop; before = m.faults engine; after = m.faults engine' })))
      → ServesFront m old at l new
  front_serves old mid new at l engine engine' job job' (Ok answer) found out can home first serves cause ok err = record {
    ledger = with_answer (with_out l) engine' job' answer;
    serves = record {
      jobs = refl;
      told = refl;
      start = refl;
      home = refl;
      done = omega arith;
      counted = front_counted l (with_answer (with_out l) engine' job' answer) engine engine' job' (Ok answer) can home cause refl tt;
      sound = front_sound l (with_answer (with_out l) engine' job' answer) engine engine' job job' (Ok answer) can home first serves cause refl tt;
    };
    after = ok ∙ ap (λ xs. set xs at (with_answer (with_out l) engine' job' answer)) out ∙ set_twice old.slots at _ _;
    further = inl refl;
  }
  front_serves old mid new at l engine engine' job job' (Err stop) found out can home first serves cause ok err =
      let halt : Halt = record { stop = stop; before = m.faults engine; after = m.faults engine' } in
      record {
        ledger = with_halt (with_out l) engine' halt;
        serves = record {
          jobs = refl;
          told = refl;
          start = refl;
          home = refl;
          done = omega arith;
          counted = front_counted l (with_halt (with_out l) engine' halt) engine engine' job' (Err stop) can home cause tt refl;
          sound = front_sound l (with_halt (with_out l) engine' halt) engine engine' job job' (Err stop) can home first serves cause tt refl;
        };
        after = err ∙ ap (λ xs. set xs at (with_halt (with_out l) engine' halt)) out ∙ set_twice old.slots at _ _;
        further = inr refl;
      }

-- a slot with a job that is not told, which is not ready, may begin one
pub begins_if_not_ready : {G J A : Type 0} → (l : Ledger G J A) → is_some l.home ≡ true → l.told < length l.jobs → can_tell l ≡ false → can_begin l ≡ true
begins_if_not_ready l home waits not = grind (arith, common_steps)

pub itself : {G J A P T R : Type 0} → (m : Meaning G J A P T R) (l : Ledger G J A) → is_some l.home ≡ true → ServesOn m l l
itself m l home = record { jobs = refl; told = refl; start = refl; home = home; done = omega arith; counted = λ h. h; sound = λ s ts h. h }

pub on_and_on : {G J A P T R : Type 0} → (m : Meaning G J A P T R) (l l' l'' : Ledger G J A) → ServesOn m l l' → ServesOn m l' l'' → ServesOn m l l''
on_and_on m l l' l'' a b = record {
  jobs = b.jobs ∙ a.jobs;
  told = b.told ∙ a.told;
  start = b.start ∙ a.start;
  home = b.home;
  done = omega (arith, a.done, b.done);
  counted = λ h. b.counted (a.counted h);
  sound = λ s ts h. b.sound s ts (a.sound s ts h);
}

-- what a slot is after some of its jobs were performed
pub record SoFar {G J A P T R : Type 0} (m : Meaning G J A P T R) (old : Rack G J A) (at : ℕ) (l : Ledger G J A) (now : Rack G J A) : Type 0 where
  pub ledger : Ledger G J A
  pub serves : ServesOn m l ledger
  pub is : now.slots ≡ set old.slots at ledger

module _ {G J A P T R : Type 0} (m : Meaning G J A P T R) (old : Rack G J A) (at : ℕ) (l : Ledger G J A) (found : slice_get old.slots at ≡ Some l) where
  pub at_first : is_some l.home ≡ true → SoFar m old at l old
  at_first home = record { ledger = l; serves = itself m l home; is = sym (set_itself old.slots at l found) }

  pub stands : (now : Rack G J A) (so : SoFar m old at l now) → slice_get now.slots at ≡ Some so.ledger
  stands now so = ap (λ xs. slice_get xs at) so.is ∙ set_same old.slots at so.ledger (slice_get_within old.slots at l found)

  pub one_more : (now new : Rack G J A) (so : SoFar m old at l now) → ServesFront m now at so.ledger new → SoFar m old at l new
  one_more now new so front = record {
    ledger = front.ledger;
    serves = on_and_on m l so.ledger front.ledger so.serves front.serves;
    is = front.after ∙ ap (λ xs. set xs at front.ledger) so.is ∙ set_twice old.slots at so.ledger front.ledger;
  }

  -- the slot is not ready, so it may begin a job
  pub may_go_on : (now : Rack G J A) (so : SoFar m old at l now) → l.told < length l.jobs → can_tell so.ledger ≡ false → can_begin so.ledger ≡ true
  may_go_on now so waits not =
      begins_if_not_ready so.ledger so.serves.home (subst (λ n. n < length so.ledger.jobs) (sym so.serves.told) (subst (λ js. l.told < length js) (sym so.serves.jobs) waits)) not

  pub settles : (now new : Rack G J A) (it : Told G J A P T R) (so : SoFar m old at l now) → can_tell so.ledger ≡ true → Tells so.ledger it
      → new.slots ≡ set now.slots at (with_tell so.ledger) → Settles m old at l it new
  settles now new it so can tells after = record {
    ledger = so.ledger;
    serves = so.serves;
    ready = can;
    tells = tells;
    after = after ∙ ap (λ xs. set xs at (with_tell so.ledger)) so.is ∙ set_twice old.slots at so.ledger (with_tell so.ledger);
  }

-- what is left falls
pub left_falls : {G J A P T R : Type 0} → (m : Meaning G J A P T R) (l l' : Ledger G J A) → can_begin l ≡ true → ServesOn m l l' → (l'.done ≡ l.done + 1) ⊎ (is_some l'.halt ≡ true)
    → left_at (Some l') < left_at (Some l)
left_falls m l l' can serves (inl done) =
    let may = may_begin l can in
    let long = ap length serves.jobs in
    rw may.running (less (is_some l'.halt) (length l'.jobs - l'.done) (length l.jobs - l.done) (omega (arith, may.waits)) (omega (arith, may.waits)))
  where
    less : (b : Bool) (x y : ℕ) → x < y → 0 < y → cond b 0 x < y
    less true x y p q = q
    less false x y p q = p
left_falls m l l' can serves (inr stop) =
    let may = may_begin l can in
    rw (may.running, stop) (omega (arith, may.waits))
