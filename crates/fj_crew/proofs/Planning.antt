-- The plans: the slots are sound for them, and what is closed fits the script served alone.
use Rattle.std.proofs.Common.{◌≡◌, ◌⊎◌, ℕ, zero, suc, ◌+◌, ◌-◌, ◌≤◌, Bool, true, false, List, [], ◌∷◌, ◌++◌, length, map, take, Option, Some, None, IsSome, is_some, slice_get, option_map, refl, sym, ap, ◌∙◌, subst, inl, inr, arith}
use Rattle.std.proofs.lemmas.List.{length-append}
use Rattle.std.proofs.lemmas.Bool.{cases_lt}
use Rattle.std.proofs.lemmas.Option.{slice_get_within}
use Rattle.fj_slot.specs.Serving.{Meaning}
use Rattle.fj_slot.specs.Ledger.{Ledger}
use Rattle.fj_slot.specs.Sound.{IsCounted, IsSound, IsSoundFor}
use Rattle.fj_slot.proofs.Sound.{length_mapped}
use Rattle.fj_world.specs.declared.ask.Ask.TheVariants.{Finished}
use Rattle.fj_world.specs.Conduct.{Conduct}
use Rattle.fj_world.specs.Rack.{Rack}
use Rattle.fj_world.specs.Plain.{Plain, PlainSlot, asked_next, after}
use Rattle.fj_world.specs.Fits.{SlotFits, SlotsFit}
use Rattle.fj_world.specs.Alone.{ServedAlone}
use Rattle.fj_world.specs.Losing.{WasLost, before_ask}
use Rattle.fj_world.proofs.Losing.{before_slots}
use Rattle.fj_world.proofs.Places.{slice_get_in, same_some}
use Rattle.fj_queue.specs.declared.view.View.{View}
use Rattle.fj_queue.specs.declared.view.Agenda.{Agenda}
use Rattle.fj_queue.specs.declared.seats.SubmitterOf.{SubmitterOf}
use Rattle.fj_queue.specs.Knows.{knows}
use Rattle.fj_queue.specs.Cell.{IsFor}
use Rattle.fj_queue.specs.Tokens.{Begins, IsLast}
use Rattle.fj_crew.specs.Fits.{HasReached, NoJobs, SeatsSame, AllAnswered, Planned, Begun, CrewGoes, CrewGaveUp}
use Rattle.fj_crew.specs.Plan.{with_both, told_jobs, told_slot, told_slots, AllSound, begun, agenda_with, jobs_in, plan_at, Opened, Shut, NoHands}
use Rattle.fj_crew.proofs.Looking.{code_halts}
use Rattle.fj_crew.proofs.Growing.{grows_after, grows_later}
use Rattle.fj_crew.proofs.Opening.{get_behind, in_front}

pub both_there : {X Y Z : Type 0} → (f : X → Y → Z) (o : Option X) (p : Option Y) (z : Z) → with_both f o p ≡ Some z → (x : X) × (y : Y) × (o ≡ Some x) × (p ≡ Some y) × (f x y ≡ z)
both_there f None p z e = absurd (cc)
both_there f (Some x) None z e = absurd (cc)
both_there f (Some x) (Some y) z e = (x, y, refl, refl, same_some e)

pub both_are : {X Y Z : Type 0} → (f : X → Y → Z) (o : Option X) (p : Option Y) (x : X) (y : Y) → o ≡ Some x → p ≡ Some y → with_both f o p ≡ Some (f x y)
both_are f o p x y a b = ap (λ z. with_both f z p) a ∙ ap (λ z. with_both f (Some x) z) b

pub option_cases : {X : Type 0} → (o : Option X) → (o ≡ None) ⊎ ((x : X) × (o ≡ Some x))
option_cases None = inl refl
option_cases (Some x) = inr (x, refl)

pub take_all : {X : Type 0} → (xs ys : List X) → take (length xs) (xs ++ ys) ≡ xs
take_all [] ys = refl
take_all (x ∷ xs) ys = ap (λ z. x ∷ z) (take_all xs ys)

module _ {G J A P T R : Type 0} (m : Meaning G J A P T R) where
  -- the plain slot is the slot
  pub record IsTold (l : Ledger G J A) (q : PlainSlot P T) : Type 0 where
    pub start : m.state l.start ≡ Some q.start
    pub jobs : map m.task l.jobs ≡ map Some q.jobs
    pub told : q.told ≡ l.told

  pub jobs_are : (js : List J) (ts : List T) → told_jobs m js ≡ Some ts → map m.task js ≡ map Some ts
  jobs_are [] ts e = let is : [] ≡ ts = same_some e in ap (map Some) is
  jobs_are (j ∷ js) ts e =
      let b = both_there (λ t ts. t ∷ ts) (m.task j) (told_jobs m js) ts e in
      ap (λ z. z ∷ map m.task js) b.2 ∙ ap (λ z. Some b.0 ∷ z) (jobs_are js b.1 b.3) ∙ ap (map Some) b.4

  pub jobs_told : (js : List J) (ts : List T) → map m.task js ≡ map Some ts → told_jobs m js ≡ Some ts
  jobs_told [] [] e = refl
  jobs_told [] (t ∷ ts) e = absurd (cc)
  jobs_told (j ∷ js) [] e = absurd (cc)
  jobs_told (j ∷ js) (t ∷ ts) e = let first : m.task j ≡ Some t = cc in let rest : map m.task js ≡ map Some ts = cc in
      both_are (λ t ts. t ∷ ts) (m.task j) (told_jobs m js) t ts first (jobs_told js ts rest)

  slot_is : (l : Ledger G J A) (q : PlainSlot P T) → told_slot m l ≡ Some q → IsTold l q
  slot_is l q e =
      let b = both_there (λ s ts. (let z : PlainSlot P T = record { start = s; jobs = ts; told = l.told } in z)) (m.state l.start) (told_jobs m l.jobs) q e in
      record {
        start = b.2 ∙ ap (λ z. Some z.start) b.4;
        jobs = jobs_are l.jobs b.1 b.3 ∙ ap (λ z. map Some z.jobs) b.4;
        told = ap (λ z. z.told) (sym b.4);
      }

  pub slots_are : (ls : List (Ledger G J A)) (qs : List (PlainSlot P T)) → told_slots m ls ≡ Some qs
      → (length qs ≡ length ls) × ((k : ℕ) (l : Ledger G J A) (q : PlainSlot P T) → slice_get ls k ≡ Some l → slice_get qs k ≡ Some q → IsTold l q)
  slots_are [] qs e = let is : [] ≡ qs = same_some e in (sym (ap length is), none)
    where
      none : (k : ℕ) (l : Ledger G J A) (q : PlainSlot P T) → slice_get [] k ≡ Some l → slice_get qs k ≡ Some q → IsTold l q
      none zero l q el eq = absurd (cc)
      none (suc k) l q el eq = absurd (cc)
  slots_are (l ∷ ls) qs e =
      let b = both_there (λ q qs. q ∷ qs) (told_slot m l) (told_slots m ls) qs e in
      let rest = slots_are ls b.1 b.3 in
      let first = slot_is l b.0 b.2 in
      (sym (ap length b.4) ∙ ap suc rest.0, λ k x q ex eq. each b.0 b.1 first rest.1 k x q ex (ap (λ z. slice_get z k) b.4 ∙ eq))
    where
      each : (q0 : PlainSlot P T) (qs' : List (PlainSlot P T)) → IsTold l q0 → ((k : ℕ) (x : Ledger G J A) (q : PlainSlot P T) → slice_get ls k ≡ Some x → slice_get qs' k ≡ Some q → IsTold x q)
          → (k : ℕ) (x : Ledger G J A) (q : PlainSlot P T) → slice_get (l ∷ ls) k ≡ Some x → slice_get (q0 ∷ qs') k ≡ Some q → IsTold x q
      each q0 qs' first rest zero x q ex eq = let a : l ≡ x = cc in let b : q0 ≡ q = cc in subst (λ z. IsTold z q) a (subst (λ z. IsTold l z) b first)
      each q0 qs' first rest (suc k) x q ex eq = rest k x q ex eq

  pub slots_told : (ls : List (Ledger G J A)) (qs : List (PlainSlot P T)) → length qs ≡ length ls
      → ((k : ℕ) (q : PlainSlot P T) (l : Ledger G J A) → slice_get qs k ≡ Some q → slice_get ls k ≡ Some l → SlotFits m false q l) → told_slots m ls ≡ Some qs
  slots_told [] [] long fits = refl
  slots_told [] (q ∷ qs) long fits = absurd (omega (arith, long))
  slots_told (l ∷ ls) [] long fits = absurd (omega (arith, long))
  slots_told (l ∷ ls) (q ∷ qs) long fits =
      let fit = fits 0 q l refl refl in
      let first : told_slot m l ≡ Some q = both_are (λ s ts. (let z : PlainSlot P T = record { start = s; jobs = ts; told = l.told } in z)) (m.state l.start) (told_jobs m l.jobs) q.start q.jobs fit.sound.start (jobs_told l.jobs q.jobs fit.sound.jobs)
      ∙ ap (λ n. Some (let z : PlainSlot P T = record { start = q.start; jobs = q.jobs; told = n } in z)) (fit.told refl) in
      both_are (λ q qs. q ∷ qs) (told_slot m l) (told_slots m ls) q qs first (slots_told ls qs (omega (arith, long)) (λ k x y ex ey. fits (suc k) x y ex ey))

  -- slots that fit plain ones are sound for what these are
  pub fitting_sound : (qs : List (PlainSlot P T)) (rack : Rack G J A) → SlotsFit m qs rack → AllSound m rack.slots
  fitting_sound qs rack fits k l e s ts is jobs =
      let q = slice_get_in qs k (omega (arith, fits.same, slice_get_within rack.slots k l e)) in
      let sound = (fits.each k q.0 l q.1 e).sound in
      let start : q.0.start ≡ s = same_some (sym sound.start ∙ is) in
      let same : q.0.jobs ≡ ts = same_some (sym (jobs_told l.jobs q.0.jobs sound.jobs) ∙ jobs_told l.jobs ts jobs) in
      subst (λ x. IsSound m x ts l) start (subst (λ xs. IsSound m q.0.start xs l) same sound)

  -- what was told is done, as the submitter knew
  done_by : (q : PlainSlot P T) (l : Ledger G J A) (v : View G T) → IsLast m v l → HasReached q v → q.told ≤ l.done
  done_by q l v last (inl (all, low)) = let told = last.answered all in omega (arith, told, last.told_is, low)
  done_by q l v last (inr (code, low)) = let at = (last.stopped code).1 in omega (arith, at, low)

  -- what was closed is the slot of a script served alone
  pub closed_fits : (over : Bool) (q : PlainSlot P T) (it : Agenda G T) (js more : List T) (l : Ledger G J A) (v : View G T)
      → IsLast m v l → v.plan ≡ Some it → it.jobs ≡ Some js → js ≡ q.jobs ++ more → m.state it.start ≡ Some q.start → v.sent ≡ length q.jobs → (over ≡ false → v.heard ≡ q.told) → HasReached q v → SlotFits m over q l
  closed_fits over q it js more l v last plan named jobs start sent heard reached =
      let sound = ((last.sound it plan).1 q.start js named start).sound in
      let first : take (length l.jobs) js ≡ q.jobs = ap (λ n. take n js) (last.jobs ∙ sent) ∙ ap (take (length q.jobs)) jobs ∙ take_all q.jobs more in
      record { sound = subst (λ ts. IsSound m q.start ts l) first sound; told = λ e. last.told_is ∙ heard e; done = done_by q l v last reached }

module _ {S G J A P T R : Type 0} (m : Meaning G J A P T R) (c : Conduct S T R) where
  begun_is : (script : S) (slots : List (Ledger G J A)) (w : Plain P c) → begun m c script slots ≡ Some w
      → (s : c.State) × (qs : List (PlainSlot P T)) × (c.state script ≡ Some s) × (told_slots m slots ≡ Some qs) × (asked_next m c s qs ≡ w)
  begun_is script slots w e = both_there (λ s qs. asked_next m c s qs) (c.state script) (told_slots m slots) w e

  -- each slot has a plan
  pub plan_there : (script : S) (slots : List (Ledger G J A)) (k : ℕ) (l : Ledger G J A) → slice_get slots k ≡ Some l
      → plan_at m c script slots k ≡ Some (agenda_with m c (jobs_in m c (begun m c script slots) (c.left script) k) l)
  plan_there script slots k l found = ap (option_map (agenda_with m c (jobs_in m c (begun m c script slots) (c.left script) k))) found

  -- the plan of a slot, where all tell
  pub plan_is : (script : S) (slots : List (Ledger G J A)) (s : c.State) (qs : List (PlainSlot P T)) (k : ℕ) (l : Ledger G J A) (q : PlainSlot P T)
      → c.state script ≡ Some s → told_slots m slots ≡ Some qs → slice_get slots k ≡ Some l → slice_get (after m c (c.left script) (asked_next m c s qs)).slots k ≡ Some q
      → plan_at m c script slots k ≡ Some (agenda_with m c (Some q.jobs) l)
  plan_is script slots s qs k l q state told found later =
      plan_there script slots k l found
      ∙ ap (λ w. Some (agenda_with m c (jobs_in m c w (c.left script) k) l)) (both_are (λ s qs. asked_next m c s qs) (c.state script) (told_slots m slots) s qs state told)
      ∙ ap (λ o. Some (agenda_with m c (option_map (λ z. z.jobs) o) l)) later

  -- each slot is sound for its plan
  pub plan_sound : (script : S) (slots : List (Ledger G J A)) → (IsSome (c.state script) → AllSound m slots) → ((k : ℕ) (l : Ledger G J A) → slice_get slots k ≡ Some l → IsCounted m l) → (k : ℕ) (l : Ledger G J A) → slice_get slots k ≡ Some l → IsFor m (plan_at m c script slots k) l
  plan_sound script slots sound counted k l found = elim (option_cases (begun m c script slots)) [
    | inl none ↦ λ p at.
        let is : agenda_with m c None l ≡ p = same_some (ap (λ w. Some (agenda_with m c (jobs_in m c w (c.left script) k) l)) (sym none) ∙ sym (plan_there script slots k l found) ∙ at) in
        (ap (λ z. z.start) is, λ s js named state. absurd (let no : p.jobs ≡ None = ap (λ z. z.jobs) (sym is) in cc), counted k l found)
    | inr w ↦
        let b = begun_is script slots w.0 w.1 in
        let each = slots_are m slots b.1 b.3 in
        let here = slice_get_in b.1 k (omega (arith, each.0, slice_get_within slots k l found)) in
        let is = each.1 k l here.0 found here.1 in
        let later = (grows_after m c (c.left script) (asked_next m c b.0 b.1)).each k here.0 here.1 in
        let plan = plan_is script slots b.0 b.1 k l later.0 b.2 b.3 found later.1 in
        let it : Agenda G T = agenda_with m c (Some later.0.jobs) l in
        subst (λ o. IsFor m o l) (sym plan) (λ p at.
        let same : it ≡ p = same_some at in
        subst (λ z. (l.start ≡ z.start) × ((s : P) (js : List T) → z.jobs ≡ Some js → m.state z.start ≡ Some s → IsSoundFor m s js l) × IsCounted m l) same (
          refl,
          λ s js named state.
              let jobs : later.0.jobs ≡ js = same_some named in
              let start : here.0.start ≡ s = same_some (sym is.start ∙ state) in
              let long = length_mapped l.jobs here.0.jobs m.task is.jobs in
              let mine = sound (subst (λ o. IsSome o) (sym b.2) refl) k l found here.0.start here.0.jobs is.start is.jobs in
              let first : take (length l.jobs) later.0.jobs ≡ here.0.jobs = ap (λ n. take n later.0.jobs) long ∙ ap (take (length here.0.jobs)) later.2.jobs ∙ take_all here.0.jobs later.2.more in
              subst (λ z. IsSoundFor m s z l) jobs record {
                within = omega (arith, long, ap length later.2.jobs, length-append here.0.jobs later.2.more);
                sound = subst (λ x. IsSound m x (take (length l.jobs) later.0.jobs) l) start (subst (λ ts. IsSound m here.0.start ts l) (sym first) mine);
              },
          counted k l found,
        ))
  ]

module _ {S C G J A P T R : Type 0} (m : Meaning G J A P T R) (c : Conduct S T R) where
  -- all queues are made, each for its plan
  abbrev pub begun_from : (script : S) (slots : List (Ledger G J A)) (seats : List (SubmitterOf C G T)) (s : c.State) (qs : List (PlainSlot P T))
      → c.state script ≡ Some s → told_slots m slots ≡ Some qs → Opened (plan_at m c script slots) slots [] seats → Begun m c script seats
  begun_from script slots seats s qs state told opened =
      let each = slots_are m slots qs told in
      let grows = grows_after m c (c.left script) (asked_next m c s qs) in
      let long : length seats ≡ length slots = opened.same ∙ sym (ap length opened.is) in
      let begins : (k : ℕ) (l : Ledger G J A) (x : SubmitterOf C G T) → slice_get slots k ≡ Some l → slice_get seats k ≡ Some x → Begins (plan_at m c script slots k) l (knows x) =
      λ k l x el ex. let at : 0 + k ≡ k = omega arith in subst (λ n. Begins (plan_at m c script slots n) l (knows x)) at (opened.each k l x (ap (λ z. slice_get z k) (sym opened.is) ∙ el) ex) in
      record {
        state = s;
        slots = qs;
        told = state;
        planned = record {
          same = each.0 ∙ sym long;
          plans = λ k x q ex eq.
              let l = slice_get_in slots k (omega (arith, long, slice_get_within seats k x ex)) in
              let q0 = slice_get_in qs k (omega (arith, each.0, slice_get_within slots k l.0 l.1)) in
              let is = each.1 k l.0 q0.0 l.1 q0.1 in
              let later = grows.each k q0.0 q0.1 in
              let same : later.0 ≡ q = same_some (sym later.1 ∙ eq) in (
                agenda_with m c (Some q.jobs) l.0,
                (begins k l.0 x l.1 ex).plan ∙ plan_is m c script slots s qs k l.0 q state told l.1 eq,
                refl,
                is.start ∙ ap (λ z. Some z) (sym later.2.start ∙ ap (λ z. z.start) same),
              );
        };
        fits = λ k q x eq ex.
            let l = slice_get_in slots k (omega (arith, long, slice_get_within seats k x ex)) in
            let is = each.1 k l.0 q l.1 eq in
            let b = begins k l.0 x l.1 ex in
            record { sent = b.sent_is ∙ length_mapped l.0.jobs q.jobs m.task is.jobs; heard = λ _. b.heard_is ∙ sym is.told };
      }

  pub planned_or_not : (script : S) (slots : List (Ledger G J A)) (seats : List (SubmitterOf C G T)) → Opened (plan_at m c script slots) slots [] seats → NoJobs seats ⊎ Begun m c script seats
  planned_or_not script slots seats opened = elim (option_cases (begun m c script slots)) [
    | inl none ↦ inl (λ k x it e named.
        let l = slice_get_in opened.taken k (omega (arith, opened.same, slice_get_within seats k x e)) in
        let at : 0 + k ≡ k = omega arith in
        let found : slice_get slots k ≡ Some l.0 = ap (λ z. slice_get z k) opened.is ∙ l.1 in
        let plan : (knows x).plan ≡ plan_at m c script slots k = (opened.each k l.0 x l.1 e).plan ∙ ap (plan_at m c script slots) at in
        let is : agenda_with m c (jobs_in m c (begun m c script slots) (c.left script) k) l.0 ≡ it = same_some (sym (plan_there m c script slots k l.0 found) ∙ sym plan ∙ named) in
        ap (λ z. z.jobs) (sym is) ∙ ap (λ w. jobs_in m c w (c.left script) k) none)
    | inr w ↦ let b = both_there (λ s qs. asked_next m c s qs) (c.state script) (told_slots m slots) w.0 w.1 in inr (begun_from script slots seats b.0 b.1 b.2 b.3 opened)
  ]

  -- the slots at the end are those of the script served alone
  pub ends_alone : {ever : Bool} {level : Type 0} (p : Plain P c) (most : ℕ) (script : S) (seats seats' : List (SubmitterOf C G T)) (closed : Rack G J A)
      → Planned m c p most seats → SeatsSame seats seats' → CrewGoes m c ever level p most script Finished seats' → ever ≡ false → level → Shut m [] seats' closed.slots → ServedAlone m c p script closed
  ends_alone p most script seats seats' closed planned same goes on levels shut =
      let fits = goes.fits in
      let n = goes.entries in
      record {
        entries = n;
        fits = record {
          script = fits.script_is;
          stop = λ e.
              let h = fits.stop on e in
              record {
                over = h.over;
                state = h.state;
                slot = h.slot;
                hand = h.hand;
                halted = λ q l eq el.
                    let el' = ap (λ z. slice_get z h.slot) (sym shut.is) ∙ el in
                    let x = slice_get_in seats' h.slot (omega (arith, shut.same, slice_get_within shut.closed h.slot l el')) in
                    let know = h.halted q x.0 eq x.1 in
                    let last = (shut.each h.slot x.0 l x.1 el').stopped know.0 in
                    (code_halts l.halt (λ z. know.0 (sym last.0 ∙ z)), omega (arith, know.1, last.1), let exact = know.2 levels in omega (arith, exact, last.1));
              };
          same_slots = fits.same ∙ sym (shut.same) ∙ sym (ap length shut.is);
          slots = λ k q l eq el.
              let el' = ap (λ z. slice_get z k) (sym shut.is) ∙ el in
              let x = slice_get_in seats' k (omega (arith, shut.same, slice_get_within shut.closed k l el')) in
              let was = same.each k x.0 x.1 in
              let later = (grows_later m c n most p (omega (arith, goes.few))).each k q eq in
              let plan = planned.plans k was.0 later.0 was.1 later.1 in
              let fit = fits.slots k q x.0 eq x.1 in
              closed_fits m (c.over script) q plan.0 later.0.jobs later.2.more l (knows x.0) (shut.each k x.0 l x.1 el') (was.2 ∙ plan.1) plan.2 later.2.jobs (plan.3 ∙ ap (λ z. Some z) later.2.start) fit.sent fit.heard (fits.reached levels k q x.0 eq x.1);
          held = λ k busy q l e eq el. absurd (nobody k (Some busy) e);
        };
      }
    where
      nobody : {X : Type 0} → (k : ℕ) (x : X) → slice_get [] k ≡ Some x → ⊥
      nobody zero x e = cc
      nobody (suc k) x e = cc

  -- the slots at the end are sound for the jobs that were submitted until the script was over
  pub ends_lost : {level : Type 0} (s : c.State) (qs : List (PlainSlot P T)) (most : ℕ) (script new : S) (seats seats' : List (SubmitterOf C G T)) (closed : Rack G J A)
      → Planned m c (asked_next m c s qs) most seats → SeatsSame seats seats' → CrewGaveUp m c level most s qs script new seats' → level → Shut m [] seats' closed.slots → WasLost m c s qs script new closed
  ends_lost s qs most script new seats seats' closed planned same g levels shut =
      record {
        asks = g.asks;
        call = g.call;
        slots = record {
          same = g.slots.same ∙ sym (shut.same) ∙ sym (ap length shut.is);
          each = λ k q l eq el. (fit k q l eq el).sound;
          done = λ k q l eq el. (fit k q l eq el).done;
        };
      }
    where
      fit : (k : ℕ) (q : PlainSlot P T) (l : Ledger G J A) → slice_get (before_ask m c g.asks s qs).1 k ≡ Some q → slice_get closed.slots k ≡ Some l → SlotFits m true q l
      fit k q l eq el =
          let el' = ap (λ z. slice_get z k) (sym shut.is) ∙ el in
          let x = slice_get_in seats' k (omega (arith, shut.same, slice_get_within shut.closed k l el')) in
          let was = same.each k x.0 x.1 in
          let later = (grows_later m c g.asks most (asked_next m c s qs) g.few).each k q (ap (λ z. slice_get z k) (before_slots m c g.asks s qs) ∙ eq) in
          let plan = planned.plans k was.0 later.0 was.1 later.1 in
          closed_fits m true q plan.0 later.0.jobs later.2.more l (knows x.0) (shut.each k x.0 l x.1 el') (was.2 ∙ plan.1) plan.2 later.2.jobs (plan.3 ∙ ap (λ z. Some z) later.2.start)
          (g.slots.sent k q x.0 eq x.1) (λ e. absurd (cc)) (g.slots.reached levels k q x.0 eq x.1)

-- each slot has a plan with its starting engine
abbrev pub NamesStarts : {G J A T : Type 0} → (ℕ → Option (Agenda G T)) → List (Ledger G J A) → Type 0
NamesStarts {G} {J} {A} {T} plans slots = (k : ℕ) (l : Ledger G J A) → slice_get slots k ≡ Some l → (p : Agenda G T) × (plans k ≡ Some p) × (p.start ≡ l.start)

pub plan_names : {S G J A P T R : Type 0} → (m : Meaning G J A P T R) (c : Conduct S T R) (script : S) (slots : List (Ledger G J A)) → NamesStarts (plan_at m c script slots) slots
plan_names m c script slots k l found = (agenda_with m c (jobs_in m c (begun m c script slots) (c.left script) k) l, plan_there m c script slots k l found, refl)

-- where a place of what was put back lies: in front, or among what was closed
pub record Behind (C : Type 0) {G J A P T R : Type 0} (m : Meaning G J A P T R) (plans : ℕ → Option (Agenda G T)) (k : ℕ) (l l' : Ledger G J A) : Type 0 where
  pub seat : SubmitterOf C G T
  pub begins : Begins (plans k) l (knows seat)
  pub last : IsLast m (knows seat) l'

module _ {C G J A P T R : Type 0} (m : Meaning G J A P T R) where
  pub put_back : (plans : ℕ → Option (Agenda G T)) (slots rest new : List (Ledger G J A)) (seats : List (SubmitterOf C G T)) → Opened plans slots rest seats → Shut m rest seats new
      → (k : ℕ) (l l' : Ledger G J A) → slice_get slots k ≡ Some l → slice_get new k ≡ Some l' → (l' ≡ l) ⊎ Behind C m plans k l l'
  put_back plans slots rest new seats opened shut k l l' e e' = elim (cases_lt k (length rest)) [
    | inl lt ↦
        let x = slice_get_in rest k lt in
        let a : x.0 ≡ l = same_some (sym (in_front rest opened.taken k x.0 x.1) ∙ ap (λ z. slice_get z k) (sym opened.is) ∙ e) in
        let b : x.0 ≡ l' = same_some (sym (in_front rest shut.closed k x.0 x.1) ∙ ap (λ z. slice_get z k) (sym shut.is) ∙ e') in
        inl (sym b ∙ a)
    | inr le ↦
        let j = k - length rest in
        let at : k ≡ length rest + j = omega (arith, le) in
        let a : slice_get opened.taken j ≡ Some l = sym (get_behind rest opened.taken j) ∙ ap (slice_get (rest ++ opened.taken)) (sym at) ∙ ap (λ z. slice_get z k) (sym opened.is) ∙ e in
        let b : slice_get shut.closed j ≡ Some l' = sym (get_behind rest shut.closed j) ∙ ap (slice_get (rest ++ shut.closed)) (sym at) ∙ ap (λ z. slice_get z k) (sym shut.is) ∙ e' in
        let x = slice_get_in seats j (omega (arith, opened.same, slice_get_within opened.taken j l a)) in
        inr (record { seat = x.0; begins = subst (λ n. Begins (plans n) l (knows x.0)) (sym at) (opened.each j l x.0 a x.1); last = shut.each j x.0 l' x.1 b })
  ]

  pub back_long : (plans : ℕ → Option (Agenda G T)) (slots rest new : List (Ledger G J A)) (seats : List (SubmitterOf C G T)) → Opened plans slots rest seats → Shut m rest seats new → length new ≡ length slots
  back_long plans slots rest new seats opened shut =
      omega (arith, ap length opened.is, ap length shut.is, length-append rest opened.taken, length-append rest shut.closed, opened.same, shut.same)

  -- each slot that was put back has its engine at home
  pub back_home : (plans : ℕ → Option (Agenda G T)) (slots rest new : List (Ledger G J A)) (seats : List (SubmitterOf C G T)) → Opened plans slots rest seats → Shut m rest seats new
      → ((k : ℕ) (l : Ledger G J A) → slice_get slots k ≡ Some l → is_some l.home ≡ true) → (k : ℕ) (l : Ledger G J A) → slice_get new k ≡ Some l → is_some l.home ≡ true
  back_home plans slots rest new seats opened shut home k l' e' =
      let l = slice_get_in slots k (omega (arith, back_long plans slots rest new seats opened shut, slice_get_within new k l' e')) in
      elim (put_back plans slots rest new seats opened shut k l.0 l' l.1 e') [
        | inl same ↦ subst (λ z. is_some z.home ≡ true) (sym same) (home k l.0 l.1)
        | inr b ↦ b.last.home
      ]

  -- and as many jobs and tells as before, where no ask was served
  pub back_numbers : (plans : ℕ → Option (Agenda G T)) (slots rest new : List (Ledger G J A)) (seats : List (SubmitterOf C G T)) → Opened plans slots rest seats → Shut m rest seats new → NamesStarts plans slots
      → (k : ℕ) (l l' : Ledger G J A) → slice_get slots k ≡ Some l → slice_get new k ≡ Some l' → (l'.start ≡ l.start) × (length l'.jobs ≡ length l.jobs) × (l'.told ≡ l.told)
  back_numbers plans slots rest new seats opened shut names k l l' e e' = elim (put_back plans slots rest new seats opened shut k l l' e e') [
    | inl same ↦ (ap (λ z. z.start) same, ap (λ z. length z.jobs) same, ap (λ z. z.told) same)
    | inr b ↦ let p = names k l e in ((b.last.sound p.0 (b.begins.plan ∙ p.1)).0 ∙ p.2, b.last.jobs ∙ b.begins.sent_is, b.last.told_is ∙ b.begins.heard_is)
  ]

  -- and is counted
  pub back_counted : (plans : ℕ → Option (Agenda G T)) (slots rest new : List (Ledger G J A)) (seats : List (SubmitterOf C G T)) → Opened plans slots rest seats → Shut m rest seats new → NamesStarts plans slots
      → ((k : ℕ) (l : Ledger G J A) → slice_get slots k ≡ Some l → IsCounted m l) → (k : ℕ) (l : Ledger G J A) → slice_get new k ≡ Some l → IsCounted m l
  back_counted plans slots rest new seats opened shut names counted k l' e' =
      let l = slice_get_in slots k (omega (arith, back_long plans slots rest new seats opened shut, slice_get_within new k l' e')) in
      elim (put_back plans slots rest new seats opened shut k l.0 l' l.1 e') [
        | inl same ↦ subst (λ z. IsCounted m z) (sym same) (counted k l.0 l.1)
        | inr b ↦ let p = names k l.0 l.1 in (b.last.sound p.0 (b.begins.plan ∙ p.1)).2
      ]

module _ {S C G J A P T R : Type 0} (m : Meaning G J A P T R) (c : Conduct S T R) where
  -- where no ask was served, the slots fit as before
  pub back_fits : (script : S) (old new : Rack G J A) (rest : List (Ledger G J A)) (seats : List (SubmitterOf C G T)) (s : c.State) (qs : List (PlainSlot P T))
      → c.state script ≡ Some s → SlotsFit m qs old → Opened (plan_at m c script old.slots) old.slots rest seats → Shut m rest seats new.slots → SlotsFit m qs new
  back_fits script old new rest seats s qs state fits opened shut =
      let long = back_long m (plan_at m c script old.slots) old.slots rest new.slots seats opened shut in
      let told = slots_told m old.slots qs fits.same fits.each in
      let each = slots_are m old.slots qs told in
      record {
        same = fits.same ∙ sym long;
        each = λ k q l' eq e'.
            let l = slice_get_in old.slots k (omega (arith, long, slice_get_within new.slots k l' e')) in
            elim (put_back m (plan_at m c script old.slots) old.slots rest new.slots seats opened shut k l.0 l' l.1 e') [
              | inl same ↦ subst (λ z. SlotFits m false q z) (sym same) (fits.each k q l.0 eq l.1)
              | inr b ↦
                  let is = each.1 k l.0 q l.1 eq in
                  let later = (grows_after m c (c.left script) (asked_next m c s qs)).each k q eq in
                  closed_fits m false q (agenda_with m c (Some later.0.jobs) l.0) later.0.jobs later.2.more l' (knows b.seat) b.last
                  (b.begins.plan ∙ plan_is m c script old.slots s qs k l.0 later.0 state told l.1 later.1) refl later.2.jobs is.start
                  (b.begins.sent_is ∙ length_mapped l.0.jobs q.jobs m.task is.jobs) (λ _. b.begins.heard_is ∙ sym is.told)
                  (let fit = fits.each k q l.0 eq l.1 in
                  let same = fit.told refl in
                  let low = fit.done in
                  let heard = b.begins.heard_is in
                  inl (b.begins.answered (omega (arith, same, low)), omega (arith, same, heard)))
            ];
      }

module _ {C G J A T : Type 0} where
  -- where all slots were taken out
  pub opened_begins : (plans : ℕ → Option (Agenda G T)) (slots : List (Ledger G J A)) (seats : List (SubmitterOf C G T)) → Opened plans slots [] seats
      → (k : ℕ) (x : SubmitterOf C G T) → slice_get seats k ≡ Some x → (l : Ledger G J A) × (slice_get slots k ≡ Some l) × Begins (plans k) l (knows x)
  opened_begins plans slots seats opened k x e =
      let l = slice_get_in opened.taken k (omega (arith, opened.same, slice_get_within seats k x e)) in
      let at : 0 + k ≡ k = omega arith in
      (l.0, ap (λ z. slice_get z k) opened.is ∙ l.1, subst (λ n. Begins (plans n) l.0 (knows x)) at (opened.each k l.0 x l.1 e))

module _ {C G J A P T R : Type 0} (m : Meaning G J A P T R) where
  -- where the slots fit, each job that was told before is done
  pub opened_answered : (plans : ℕ → Option (Agenda G T)) (old : Rack G J A) (seats : List (SubmitterOf C G T)) (qs : List (PlainSlot P T)) → Opened plans old.slots [] seats → SlotsFit m qs old → AllAnswered seats
  opened_answered plans old seats qs opened fits k x e =
      let begins = opened_begins plans old.slots seats opened k x e in
      let q = slice_get_in qs k (omega (arith, fits.same, slice_get_within old.slots k begins.0 begins.1)) in
      let fit = fits.each k q.0 begins.0 q.1 begins.1 in
      begins.2.answered (let same = fit.told refl in let low = fit.done in omega (arith, same, low))

module _ {C G J A P T R : Type 0} where
  pub closed_home : (m : Meaning G J A P T R) (seats : List (SubmitterOf C G T)) (closed : List (Ledger G J A)) → Shut m [] seats closed
      → (k : ℕ) (l : Ledger G J A) → slice_get closed k ≡ Some l → is_some l.home ≡ true
  closed_home m seats closed shut k l e =
      let e' = ap (λ z. slice_get z k) (sym shut.is) ∙ e in
      let x = slice_get_in seats k (omega (arith, shut.same, slice_get_within shut.closed k l e')) in
      (shut.each k x.0 l x.1 e').home

module _ {C G T : Type 0} where
  pub hands_same : (old new : List (SubmitterOf C G T)) → SeatsSame old new → NoHands old → NoHands new
  hands_same old new same none k x e = let was = same.each k x e in was.3 ∙ none k was.0 was.1
