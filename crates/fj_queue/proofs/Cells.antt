-- What each call of a slot keeps of it, for a plan.
use Rattle.std.proofs.Common.{◌≡◌, ℕ, ◌+◌, ◌<◌, ◌≤◌, ◌^◌, true, List, [], ◌∷◌, ◌++◌, length, take, drop, slice_get, Option, Some, None, is_some, Result, IfOk, IfErr, IfSome, nat_lt, if◌then◌else◌, refl, sym, ap, ◌∙◌, subst, arith}
use Rattle.std.proofs.lemmas.Grind.{common_steps}
use Rattle.std.proofs.lemmas.List.{length-append, length-take, take-append-drop, take-append-le}
use Rattle.std.proofs.lemmas.Option.{slice_get_within}
use Rattle.fj_slot.specs.Causes.{HasCause}
use Rattle.fj_outside.specs.declared.errors.Stop.{Stop}
use Rattle.fj_slot.specs.declared.stop.Halt.{Halt}
use Rattle.fj_slot.specs.declared.told.Told.{Told}
use Rattle.fj_slot.specs.declared.told.Told.TheVariants.{Done, Stopped}
use Rattle.fj_slot.specs.Ledger.{Ledger, IsSized, with_job, with_out, with_answer, with_halt, with_tell, can_begin, can_tell}
use Rattle.fj_slot.specs.Serving.{Meaning, Serves}
use Rattle.fj_slot.specs.Sound.{IsSound, IsOutcome, TellsOutcome, outcome, outcomes, served_by}
use Rattle.fj_slot.proofs.Serving.{slice_get_mapped_some, take_one_more, outcomes-append}
use Rattle.fj_slot.proofs.Counted.{may_begin, counted_submit, counted_begin, counted_end, counted_tell}
use Rattle.fj_slot.proofs.Sound.{submit_keeps, begin_keeps, due_from_begin, end_keeps, tell_keeps, slice_get_front}
use Rattle.fj_queue.specs.declared.view.Agenda.{Agenda}
use Rattle.fj_queue.specs.Cell.{IsFor, IsDueFor, IsNext}

told_below : (o : Option Halt) (t n d : ℕ) → nat_lt t (if is_some o then n else d) ≡ true → o ≡ None → t + 1 ≤ d
told_below None t n d e none = grind (arith, common_steps)
told_below (Some h) t n d e none = absurd (cc)

module _ {E J A : Type 0} where
  pub sized_submit : (c : Ledger E J A) (j : J) → IsSized c → length c.jobs < 2 ^ 62 → IsSized (with_job c j)
  sized_submit c j h few = let long = length-append c.jobs (j ∷ []) in
      record { few = omega arith; within = omega (arith, h.within); away = λ e. omega (arith, h.away e); home = h.home; told = h.told }

  pub sized_begin : (c : Ledger E J A) → IsSized c → can_begin c ≡ true → IsSized (with_out c)
  sized_begin c h can = let may = may_begin c can in
      record { few = h.few; within = h.within; away = λ e. may.waits; home = λ q. absurd (let r = may.running in cc); told = h.told }

  pub sized_end : (c : Ledger E J A) (e : E) (j : J) (a : A) → IsSized c → c.home ≡ None → IsSized (with_answer c e j a)
  sized_end c e j a h out = record { few = h.few; within = omega (arith, h.away out); away = λ n. absurd (cc); home = λ q. refl; told = λ n. omega (arith, h.told n) }

  pub sized_halt : (c : Ledger E J A) (e : E) (t : Halt) → IsSized c → c.home ≡ None → IsSized (with_halt c e t)
  sized_halt c e t h out = record { few = h.few; within = h.within; away = λ n. absurd (cc); home = λ q. refl; told = λ n. absurd (cc) }

  pub sized_tell : (c : Ledger E J A) → IsSized c → can_tell c ≡ true → IsSized (with_tell c)
  sized_tell c h can = record { few = h.few; within = h.within; away = h.away; home = h.home; told = told_below c.halt c.told (length c.jobs) c.done can }

-- the first of the first
pub take_front : {X : Type 0} → (xs : List X) (k n : ℕ) → k ≤ n → n ≤ length xs → take k (take n xs) ≡ take k xs
take_front xs k n le within =
    sym (take-append-le k (take n xs) (drop n xs) (omega (arith, length-take n xs))) ∙ ap (take k) (take-append-drop n xs)

pub get_front : {X : Type 0} → (xs : List X) (k n : ℕ) (x : X) → slice_get (take n xs) k ≡ Some x → slice_get xs k ≡ Some x
get_front xs k n x e =
    sym (ap (λ zs. slice_get zs k) (take-append-drop n xs)) ∙ slice_get_front (take n xs) (drop n xs) k (slice_get_within (take n xs) k x e) ∙ e

pub get_in_front : {X : Type 0} → (xs : List X) (k n : ℕ) (x : X) → k < n → n ≤ length xs → slice_get xs k ≡ Some x → slice_get (take n xs) k ≡ Some x
get_in_front xs k n x lt within e =
    sym (slice_get_front (take n xs) (drop n xs) k (omega (arith, length-take n xs))) ∙ ap (λ zs. slice_get zs k) (take-append-drop n xs) ∙ e

module _ {E J A S T R : Type 0} (m : Meaning E J A S T R) where
  -- an outcome stays the same where jobs follow
  pub outcome_longer : (s : S) (ts us : List T) (k : ℕ) (x : T × R) → outcome m s ts k ≡ Some x → outcome m s (ts ++ us) k ≡ Some x
  outcome_longer s ts us k x e =
      ap (λ zs. slice_get zs k) (outcomes-append m s ts us) ∙ slice_get_front (outcomes m s ts) (outcomes m (served_by m s ts) us) k (slice_get_within (outcomes m s ts) k x e) ∙ e

  pub outcome_planned : (s : S) (ts : List T) (n k : ℕ) (x : T × R) → outcome m s (take n ts) k ≡ Some x → outcome m s ts k ≡ Some x
  outcome_planned s ts n k x e = subst (λ zs. outcome m s zs k ≡ Some x) (take-append-drop n ts) (outcome_longer s (take n ts) (drop n ts) k x e)

  pub sound_submit : (q : Option (Agenda E T)) (c : Ledger E J A) (j : J) → IsFor m q c → IsNext m q (length c.jobs) j → IsFor m q (with_job c j)
  sound_submit q c j h next p at = (
    (h p at).0,
    λ s js named is.
        let old = (h p at).1 s js named is in
        let t = next p js at named in
        let long = length-append c.jobs (j ∷ []) in
        let one : take (length (c.jobs ++ j ∷ [])) js ≡ take (length c.jobs) js ++ t.0 ∷ [] = ap (λ n. take n js) long ∙ take_one_more js (length c.jobs) t.0 t.1 in
        record {
          within = omega (arith, slice_get_within js (length c.jobs) t.0 t.1);
          sound = subst (λ ts. IsSound m s ts (with_job c j)) (sym one) (submit_keeps m s (take (length c.jobs) js) t.0 c j old.sound t.2);
        },
    counted_submit m c j (h p at).2,
  )

  pub sound_begin : (q : Option (Agenda E T)) (c : Ledger E J A) → IsFor m q c → can_begin c ≡ true → IsFor m q (with_out c)
  sound_begin q c h can p at = (
    (h p at).0,
    λ s js named is. let old = (h p at).1 s js named is in
        record { within = old.within; sound = begin_keeps m s (take (length c.jobs) js) c old.sound can },
    counted_begin m c (h p at).2 can,
  )

  pub due : (q : Option (Agenda E T)) (c : Ledger E J A) (e : E) (j : J) → IsFor m q c → can_begin c ≡ true → c.home ≡ Some e → slice_get c.jobs c.done ≡ Some j → IsDueFor m q c.done e j
  due q c e j h can home first p at = (
    (let count = subst (λ o. IfSome o (λ x. m.faults c.start ≤ m.faults x)) home (h p at).2.count in subst (λ z. m.faults z ≤ m.faults e) (h p at).0 count),
    λ s js named is.
        let old = (h p at).1 s js named is in
        let ts = take (length c.jobs) js in
        let d = due_from_begin m s ts c e j old.sound can home first in
        let within = slice_get_within c.jobs c.done j first in
        record {
          engine = d.engine ∙ ap (λ zs. Some (served_by m s zs)) (take_front js c.done (length c.jobs) (omega (arith, within)) old.within);
          task = d.task;
          at = get_front js c.done (length c.jobs) d.task d.at;
          job = d.job;
        },
  )

  pub sound_end : (q : Option (Agenda E T)) (c new : Ledger E J A) (e e' : E) (j j' : J) (got : Result A Stop)
      → IsFor m q c → IsSized c → c.home ≡ None → IsDueFor m q c.done e j
      → ((s : S) (t : T) → m.state e ≡ Some s → m.task j ≡ Some t → Serves m s t got e' j')
      → HasCause (m.faults e) (m.faults e') got
      → new.start ≡ c.start → new.jobs ≡ c.jobs
      → IfOk got (λ answer. new ≡ with_answer c e' j' answer)
      → IfErr got (λ stop. new ≡ with_halt c e' (record { stop = stop; before = m.faults e; after = m.faults e' }))
      → IsFor m q new
  sound_end q c new e e' j j' got h sized out due serves cause start jobs ok err p at =
      let count : m.faults c.start ≤ m.faults e = subst (λ z. m.faults z ≤ m.faults e) (sym (h p at).0) (due p at).0 in (
        start ∙ (h p at).0,
        λ s js named is.
            let old = (h p at).1 s js named is in
            let d = (due p at).1 s js named is in
            let n = length c.jobs in
            let ts = take n js in
            let lt = sized.away out in
            let front = take_front js c.done n (omega (arith, lt)) old.within in
            let served = serves (served_by m s (take c.done js)) d.task d.engine d.job in
            let kept = end_keeps m s ts d.task c new e' j' got (m.faults e) old.sound out (get_in_front js c.done n d.task lt old.within d.at)
            (subst (λ zs. Serves m (served_by m s zs) d.task got e' j') (sym front) served) count cause ok err in
            record {
              within = subst (λ xs. length xs ≤ length js) (sym jobs) old.within;
              sound = subst (λ xs. IsSound m s (take (length xs) js) new) (sym jobs) kept;
            },
        counted_end m c new e' j' got (m.faults e) (h p at).2 out count cause ok err,
      )

  pub sound_tell : (q : Option (Agenda E T)) (c : Ledger E J A) → IsFor m q c → can_tell c ≡ true → IsFor m q (with_tell c)
  sound_tell q c h can p at = (
    (h p at).0,
    λ s js named is. let old = (h p at).1 s js named is in
        record { within = old.within; sound = tell_keeps m s (take (length c.jobs) js) c old.sound can },
    counted_tell m c (h p at).2 can,
  )

  -- what is told is the outcome of the plan's job
  pub told_is : (q : Option (Agenda E T)) (c : Ledger E J A) (it : Told E J A S T R) → IsFor m q c → TellsOutcome m c it
      → (p : Agenda E T) (s : S) (js : List T) → q ≡ Some p → p.jobs ≡ Some js → m.state p.start ≡ Some s → IsOutcome m s js c.told it
  told_is q c (Done j a) h tells p s js at named is =
      let old = (h p at).1 s js named is in
      let it = tells s (take (length c.jobs) js) old.sound in
      (it.0, it.1, outcome_planned s js (length c.jobs) c.told (it.0, m.reply a) it.2)
  told_is q c (Stopped j u b a) h tells p s js at named is =
      let old = (h p at).1 s js named is in
      let n = length c.jobs in
      let it = tells s (take n js) old.sound in
      let lt = slice_get_within (take n js) it.number it.task it.at in
      record {
        number = it.number;
        reached = it.reached;
        task = it.task;
        at = get_front js it.number n it.task it.at;
        engine = it.engine;
        tells = it.tells;
        spoilt = subst (λ zs. m.spoilt (served_by m s zs) it.task u it.engine) (take_front js it.number n (omega (arith, lt, length-take n js)) old.within) it.spoilt;
        rose = it.rose;
        until = it.until;
      }

  -- a job behind the stop is the plan's
  pub behind_is : (q : Option (Agenda E T)) (c : Ledger E J A) (k : ℕ) (j : J) → IsFor m q c → slice_get c.jobs k ≡ Some j
      → (p : Agenda E T) (s : S) (js : List T) → q ≡ Some p → p.jobs ≡ Some js → m.state p.start ≡ Some s → (t : T) × (slice_get js k ≡ Some t) × (m.task j ≡ Some t)
  behind_is q c k j h e p s js at named is =
      let old = (h p at).1 s js named is in
      let found = slice_get_mapped_some c.jobs (take (length c.jobs) js) m.task k j old.sound.jobs e in
      (found.0, get_front js k (length c.jobs) found.0 found.1, found.2)

  -- the first count of a stop is at least the starting engine's
  pub since_is : (q : Option (Agenda E T)) (c : Ledger E J A) (u : Halt) → IsFor m q c → c.halt ≡ Some u → (p : Agenda E T) → q ≡ Some p → m.faults p.start ≤ u.before
  since_is q c u h e p at =
      let since = subst (λ o. IfSome o (λ x. m.faults c.start ≤ x.before)) e (h p at).2.since in
      subst (λ z. m.faults z ≤ u.before) (h p at).0 since
