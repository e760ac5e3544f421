-- Each call of a slot keeps it sound.
use Rattle.std.proofs.Common.{◌≡◌, ℕ, zero, suc, ◌<◌, ◌≤◌, true, List, [], ◌∷◌, ◌++◌, length, map, take, drop, slice_get, Option, Some, None, IsSome, IfSome, is_some, Result, Ok, Err, IfOk, IfErr, refl, sym, ap, ◌∙◌, subst, arith}
use Rattle.std.proofs.lemmas.Grind.{common_steps}
use Rattle.std.proofs.lemmas.List.{map-append, length-map, take-append-le, drop-append-le, take-append-drop, length-take, drop-drop, drop-map}
use Rattle.std.proofs.lemmas.Option.{gets, slice_get_within}
use Rattle.fj_outside.specs.Faults.{Rose}
use Rattle.fj_slot.specs.Causes.{HasCause}
use Rattle.fj_outside.specs.declared.errors.Stop.{Stop}
use Rattle.fj_outside.specs.declared.errors.Stop.TheVariants.{Failed}
use Rattle.fj_slot.specs.declared.stop.Halt.{Halt}
use Rattle.fj_slot.specs.declared.told.Told.{Told}
use Rattle.fj_slot.specs.declared.told.Told.TheVariants.{Done, Stopped}
use Rattle.fj_slot.specs.Serving.{Meaning, Serves}
use Rattle.fj_slot.specs.Ledger.{Ledger, with_job, with_out, with_answer, with_halt, with_tell, can_begin, can_tell}
use Rattle.fj_slot.specs.Sound.{served_by, outcomes, outcome, IsSound, IsDue, IsOutcome, shown, as_told}
use Rattle.fj_slot.proofs.Counted.{is_there, IfSome_mapped, may_begin, runs_while_out, counted_submit, counted_begin, counted_answer, counted_halt, counted_tell}
use Rattle.fj_slot.specs.Telling.{Tells}
use Rattle.fj_slot.proofs.Serving.{take_one_more, served_by-append, outcomes-append, length-outcomes, slice_get_mapped_some}

pub length_mapped : {X Y : Type 0} → (xs : List X) (ys : List Y) (f : X → Option Y) → map f xs ≡ map Some ys → length xs ≡ length ys
length_mapped xs ys f e = sym (length-map xs f) ∙ ap length e ∙ length-map ys Some

-- a list is read at a place as before, after one is put behind
pub slice_get_front : {X : Type 0} → (xs ys : List X) (k : ℕ) → k < length xs → slice_get (xs ++ ys) k ≡ slice_get xs k
slice_get_front xs ys k p = grind (arith, common_steps, gets)

pub submit_keeps : {E J A S T R : Type 0} → (m : Meaning E J A S T R) (s : S) (ts : List T) (t : T) (l : Ledger E J A) (job : J)
    → IsSound m s ts l → m.task job ≡ Some t → IsSound m s (ts ++ t ∷ []) (with_job l job)
submit_keeps m s ts t l job h e =
    let long = length_mapped l.jobs ts m.task h.jobs in
    let front : take l.done (ts ++ t ∷ []) ≡ take l.done ts = take-append-le l.done ts (t ∷ []) (omega (arith, long, h.counted.within)) in
    record {
      start = h.start;
      jobs = map-append m.task l.jobs (job ∷ []) ∙ ap (λ zs. zs ++ m.task job ∷ []) h.jobs ∙ ap (λ z. map Some ts ++ z ∷ []) e ∙ sym (map-append Some ts (t ∷ []));
      counted = counted_submit m l job h.counted;
      answers = rw front h.answers;
      home = rw front h.home;
      tells = h.tells;
      spoilt = IfSome_mapped l.halt _ _ (λ stop is old. rw (front, slice_get_front ts (t ∷ []) l.done (omega (arith, long, h.counted.below (is_there l.halt stop is)))) old) h.spoilt;
    }

pub begin_keeps : {E J A S T R : Type 0} → (m : Meaning E J A S T R) (s : S) (ts : List T) (l : Ledger E J A)
    → IsSound m s ts l → can_begin l ≡ true → IsSound m s ts (with_out l)
begin_keeps m s ts l h e =
    let may = may_begin l e in
    record {
      start = h.start;
      jobs = h.jobs;
      counted = counted_begin m l h.counted e;
      answers = h.answers;
      home = λ _. tt;
      tells = rw may.running tt;
      spoilt = rw may.running tt;
    }

pub due_from_begin : {E J A S T R : Type 0} → (m : Meaning E J A S T R) (s : S) (ts : List T) (l : Ledger E J A) (engine : E) (job : J)
    → IsSound m s ts l → can_begin l ≡ true → l.home ≡ Some engine → slice_get l.jobs l.done ≡ Some job → IsDue m s ts l l.done engine job
due_from_begin m s ts l engine job h e home first =
    let may = may_begin l e in
    let found = slice_get_mapped_some l.jobs ts m.task l.done job h.jobs first in
    record {
      engine = subst (λ o. IfSome o (λ e. m.state e ≡ Some (served_by m s (take l.done ts)))) home (h.home may.running);
      task = found.0;
      at = found.1;
      job = found.2;
      count = subst (λ o. IfSome o (λ e. m.faults l.start ≤ m.faults e)) home h.counted.count;
    }

pub answer_keeps : {E J A S T R : Type 0} → (m : Meaning E J A S T R) (s : S) (ts : List T) (t : T) (l : Ledger E J A) (engine : E) (job : J) (answer : A)
    → IsSound m s ts l → l.home ≡ None → slice_get ts l.done ≡ Some t
    → Serves m (served_by m s (take l.done ts)) t (Ok answer) engine job → m.faults l.start ≤ m.faults engine
    → IsSound m s ts (with_answer l engine job answer)
answer_keeps m s ts t l engine job answer h out due served count =
    let runs = runs_while_out m l h.counted out in
    let long = length_mapped l.jobs ts m.task h.jobs in
    let inside = slice_get_within ts l.done t due in
    let more = take_one_more ts l.done t due in
    let state = served_by-append m s (take l.done ts) (t ∷ []) in
    let given = outcomes-append m s (take l.done ts) (t ∷ []) in
    let told : l.told ≤ l.done = rw runs at h.counted.told in
    let counted : length (outcomes m s (take l.done ts)) ≡ l.done = length-outcomes m s (take l.done ts) ∙ length-take l.done ts ∙ omega (arith, inside) in
    let one = m.serve (served_by m s (take l.done ts)) t in
    let last : shown m (job, answer) ≡ as_told (one.job, one.answer) = rw (served.1, served.2) refl in
    record {
      start = h.start;
      jobs = h.jobs;
      counted = counted_answer m l engine job answer h.counted out count;
      answers = map-append (shown m) l.answers ((job, answer) ∷ [])
          ∙ ap (λ zs. zs ++ shown m (job, answer) ∷ []) h.answers
          ∙ ap (λ z. map as_told (drop l.told (outcomes m s (take l.done ts))) ++ z ∷ []) last
          ∙ sym (map-append as_told (drop l.told (outcomes m s (take l.done ts))) ((one.job, one.answer) ∷ []))
          ∙ ap (map as_told) (sym (drop-append-le l.told (outcomes m s (take l.done ts)) ((one.job, one.answer) ∷ []) (omega arith)))
          ∙ ap (λ zs. map as_told (drop l.told zs)) (sym given ∙ ap (outcomes m s) (sym more));
      home = λ _. rw (more, state) served.0;
      tells = rw runs tt;
      spoilt = rw runs tt;
    }

pub halt_keeps : {E J A S T R : Type 0} → (m : Meaning E J A S T R) (s : S) (ts : List T) (t : T) (l : Ledger E J A) (engine : E) (job : J) (stop : Stop) (before : ℕ)
    → IsSound m s ts l → l.home ≡ None → slice_get ts l.done ≡ Some t
    → Serves m (served_by m s (take l.done ts)) t (Err stop) engine job
    → m.faults l.start ≤ before → HasCause {T = A} before (m.faults engine) (Err stop)
    → IsSound m s ts (with_halt l engine (record { stop = stop; before = before; after = m.faults engine }))
halt_keeps {E} {J} {A} m s ts t l engine job stop before h out due served count cause =
    let runs = runs_while_out m l h.counted out in
    let long = length_mapped l.jobs ts m.task h.jobs in
    let inside = slice_get_within ts l.done t due in
    let told : l.told ≤ l.done = rw runs at h.counted.told in
    record {
      start = h.start;
      jobs = h.jobs;
      counted = counted_halt m l engine stop before h.counted out count cause;
      answers = h.answers;
      home = λ q. absurd (cc);
      tells = served.0;
      spoilt = rw due served.1;
    }

pub tell_keeps : {E J A S T R : Type 0} → (m : Meaning E J A S T R) (s : S) (ts : List T) (l : Ledger E J A)
    → IsSound m s ts l → can_tell l ≡ true → IsSound m s ts (with_tell l)
tell_keeps m s ts l h can =
    record {
      start = h.start;
      jobs = h.jobs;
      counted = counted_tell m l h.counted can;
      answers = sym (drop-map (shown m) 1 l.answers) ∙ ap (drop 1) h.answers ∙ drop-map as_told 1 (drop l.told (outcomes m s (take l.done ts)))
          ∙ ap (map as_told) (drop-drop 1 l.told (outcomes m s (take l.done ts)));
      home = h.home;
      tells = h.tells;
      spoilt = h.spoilt;
    }

-- what stands in front of two lists that are read alike
pub first_mapped : {X Y Z : Type 0} → (xs : List X) (ys : List Y) (f : X → Z) (g : Y → Z) (n : ℕ) (x : X) → map f xs ≡ map g (drop n ys) → slice_get xs 0 ≡ Some x → (y : Y) × (slice_get ys n ≡ Some y) × (f x ≡ g y)
first_mapped [] ys f g n x e h = cc
first_mapped (x' ∷ xs) [] f g zero x e h = cc
first_mapped (x' ∷ xs) [] f g (suc n) x e h = cc
first_mapped (x' ∷ xs) (y ∷ ys) f g zero x e h = (y, refl, cc)
first_mapped (x' ∷ xs) (y ∷ ys) f g (suc n) x e h = first_mapped (x' ∷ xs) ys f g n x e h

-- a value that is there, and an element within a list
pub some_of : {X : Type 0} → (o : Option X) → is_some o ≡ true → (x : X) × (o ≡ Some x)
some_of None e = absurd (cc)
some_of (Some x) e = (x, refl)

pub slice_get_inside : {X : Type 0} → (xs : List X) (k : ℕ) → k < length xs → (x : X) × (slice_get xs k ≡ Some x)
slice_get_inside [] k p = absurd (omega (arith, p))
slice_get_inside (x ∷ xs) zero p = (x, refl)
slice_get_inside (x ∷ xs) (suc k) p = slice_get_inside xs k (omega (arith, p))

pub told_is_outcome : {E J A S T R : Type 0} → (m : Meaning E J A S T R) (s : S) (ts : List T) (l : Ledger E J A) (it : Told E J A S T R)
    → IsSound m s ts l → Tells l it → IsOutcome m s ts l.told it
told_is_outcome {E} m s ts l (Stopped job stop before after) h tells =
    let halted : is_some l.halt ≡ true = ap is_some tells.1 in
    let home = some_of l.home (h.counted.at_home halted) in
    let long = length_mapped l.jobs ts m.task h.jobs in
    let due = slice_get_inside ts l.done (omega (arith, long, h.counted.below halted)) in
    let both : (Q : Halt → E → Type 0) → IfSome l.halt (λ h. IfSome l.home (λ e. Q h e)) → Q (record { stop = stop; before = before; after = after }) home.0 =
    λ Q f. subst (λ o. IfSome o (λ e. Q (record { stop = stop; before = before; after = after }) e)) home.1 (subst (λ o. IfSome o (λ h. IfSome l.home (λ e. Q h e))) tells.1 f) in
    record {
      number = l.done;
      reached = tells.0;
      task = due.0;
      at = due.1;
      engine = home.0;
      tells = both (λ h e. IsSome (m.state e)) h.tells;
      spoilt = subst (λ o. IfSome o (λ t. m.spoilt (served_by m s (take l.done ts)) t stop home.0)) due.1
          (both (λ h e. IfSome (slice_get ts l.done) (λ t. m.spoilt (served_by m s (take l.done ts)) t h.stop e)) h.spoilt);
      rose = subst (λ o. IfSome o (λ h. (h.before ≤ h.after) × (h.stop ≡ Failed → Rose h.before h.after))) tells.1 h.counted.rose;
      until = both (λ h e. h.after ≤ m.faults e) h.counted.until;
    }
told_is_outcome m s ts l (Done job answer) h tells =
    let found = first_mapped l.answers (outcomes m s (take l.done ts)) (shown m) as_told l.told (job, answer) h.answers tells.1 in
    let both : shown m (job, answer) ≡ as_told found.0 = found.2 in
    let whole : take l.done ts ++ drop l.done ts ≡ ts = take-append-drop l.done ts in
    let parts : outcomes m s ts ≡ outcomes m s (take l.done ts) ++ outcomes m (served_by m s (take l.done ts)) (drop l.done ts) =
    ap (outcomes m s) (sym whole) ∙ outcomes-append m s (take l.done ts) (drop l.done ts) in
    let inside = slice_get_within (outcomes m s (take l.done ts)) l.told found.0 found.1 in
    let read : outcome m s ts l.told ≡ Some found.0 =
    ap (λ zs. slice_get zs l.told) parts ∙ slice_get_front (outcomes m s (take l.done ts)) (outcomes m (served_by m s (take l.done ts)) (drop l.done ts)) l.told inside ∙ found.1 in
    (found.0.0, ap (λ p. p.0) both, read ∙ ap (λ r. Some (found.0.0, r)) (sym (ap (λ p. p.1) both)))

pub end_keeps : {E J A S T R : Type 0} → (m : Meaning E J A S T R) (s : S) (ts : List T) (t : T) (l new : Ledger E J A) (engine : E) (job : J) (got : Result A Stop) (before : ℕ)
    → IsSound m s ts l → l.home ≡ None → slice_get ts l.done ≡ Some t
    → Serves m (served_by m s (take l.done ts)) t got engine job
    → m.faults l.start ≤ before → HasCause before (m.faults engine) got
    → IfOk got (λ answer. new ≡ with_answer l engine job answer)
    → IfErr got (λ stop. new ≡ with_halt l engine (record { stop = stop; before = before; after = m.faults engine }))
    → IsSound m s ts new
end_keeps m s ts t l new engine job (Ok answer) before h out due served count cause ok err =
    subst (λ n. IsSound m s ts n) (sym ok) (answer_keeps m s ts t l engine job answer h out due served (omega (arith, count, cause.later)))
end_keeps m s ts t l new engine job (Err stop) before h out due served count cause ok err =
    subst (λ n. IsSound m s ts n) (sym err) (halt_keeps m s ts t l engine job stop before h out due served count (record { later = cause.later; failed = cause.failed }))
