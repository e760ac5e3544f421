-- A unit's calls on its slot.
use Rattle.std.proofs.Common.{◌≡◌, ℕ, zero, suc, ◌-◌, ◌≤◌, List, [], ◌∷◌, ◌++◌, length, map, take, drop, slice_get, Option, Some, None, is_some, if◌then◌else◌, unwrap_or, option_map, Result, Ok, Err, IfOk, IfErr, OnOk, refl, sym, ap, ◌∙◌, subst, arith}
use Rattle.std.proofs.lemmas.List.{drop-append-le, drop-drop, length-drop, map-append, length-map}
use Rattle.fj_outside.specs.declared.errors.Stop.{Stop}
use Rattle.fj_connect.specs.Linked.{Linked}
use Rattle.fj_value.specs.declared.condition.Condition.{Condition}
use Rattle.fj_slot.specs.Serving.{Serves}
use Rattle.fj_slot.specs.Ledger.{fresh, with_job, with_out, with_answer, with_halt, with_tell}
use Rattle.fj_slot.specs.Sound.{served_by, outcomes, outcome, IsSound, KeepsSound, KeepsSoundWith, KeepsSoundAfter, HandsOutDue}
use Rattle.fj_slot.proofs.Serving.{served_by-append, outcomes-append, length-outcomes}
use Rattle.fj_bay.specs.Bay.{Bay as PlainBay}
use Rattle.fj_bay.specs.Jobs.{Job as PlainJob, Answer as PlainAnswer}
use Rattle.fj_bay.specs.Plain.{state_of, task_of, reply_of, place_of}
use Rattle.fj_bay.specs.declared.bay.Bay.{Bay}
use Rattle.fj_bay.specs.declared.job.Job.{Job}
use Rattle.fj_bay.specs.declared.job.Job.TheVariants as job
use Rattle.fj_bay.specs.declared.job.Answer.{Answer}
use Rattle.fj_unit.specs.Unit as unit
use Rattle.fj_unit.specs.Held.{always, bytes, meaning, task, reply, state, Held, unit_of, IsHeld}

-- ---- a file in memory tells

pub task_is : (it : Job (List ℕ)) → task_of always bytes it ≡ Some (task it)
task_is (job.Attach None) = refl
task_is (job.Attach (Some c)) = refl
task_is (job.Detach None) = refl
task_is (job.Detach (Some c)) = refl
task_is (job.Move t) = refl
task_is (job.Go how) = refl
task_is (job.Change edit) = refl
task_is job.Flush = refl
task_is (job.Look place) = refl
task_is job.Resume = refl

state_at : (o : Option (Linked (List ℕ))) (halt : Option Condition) (none : PlainBay)
    → option_map (λ place. record { connection = place; halt = halt }) (place_of always bytes o)
    ≡ Some (unwrap_or (option_map (λ place. record { connection = place; halt = halt }) (place_of always bytes o)) none)
state_at None halt none = refl
state_at (Some c) halt none = refl

pub state_is : (it : Bay (List ℕ)) → state_of always bytes it ≡ Some (state it)
state_is it = state_at it.connection it.halt (record { connection = None; halt = None })

-- ---- the same start, jobs and count of what was told make the same unit

pub view_same : (old new : Held) → new.start ≡ old.start → new.jobs ≡ old.jobs → new.told ≡ old.told → unit_of new ≡ unit_of old
unfolding unit_of
view_same old new start jobs told =
    let is : (s : PlainBay) (ts : List PlainJob) (n : ℕ) → unit.Unit = λ s ts n. record { bay = served_by meaning s ts; pending = drop n (outcomes meaning s ts) } in
    ap (λ x. is (state x) (map task new.jobs) new.told) start ∙ ap (λ x. is (state old.start) (map task x) new.told) jobs ∙ ap (is (state old.start) (map task old.jobs)) told

held_same : (old new : Held) → new.start ≡ old.start → new.jobs ≡ old.jobs → IsSound meaning (state old.start) (map task old.jobs) new → IsHeld new
held_same old new start jobs h =
    subst (λ x. IsSound meaning (state x) (map task new.jobs) new) (sym start) (subst (λ x. IsSound meaning (state old.start) (map task x) new) (sym jobs) h)

-- ---- one job more

module _ (old new : Held) (it : Job (List ℕ)) (held : IsHeld old) (keeps : KeepsSoundWith meaning it old new) (is : new ≡ with_job old it) where
  more : map task new.jobs ≡ map task old.jobs ++ task it ∷ []
  more = ap (λ (l : Held). map task l.jobs) is ∙ map-append task old.jobs (it ∷ [])

  start : new.start ≡ old.start
  start = ap (λ (l : Held). l.start) is

  pub given_held : IsHeld new
  given_held =
      let h = keeps (state old.start) (map task old.jobs) (task it) held (task_is it) in
      subst (λ x. IsSound meaning (state x) (map task new.jobs) new) (sym start) (subst (λ ts. IsSound meaning (state old.start) ts new) (sym more) h)

  few : {X : Type 0} → (o : Option X) (a b told : ℕ) → told ≤ (if is_some o then a else b) → b ≤ a → told ≤ a
  few None a b told p q = omega (arith, p, q)
  few (Some x) a b told p q = p

  pub given_view : unit_of new ≡ unit.given (unit_of old) (task it)
  unfolding unit_of
  given_view =
      let s = state old.start in let ts = map task old.jobs in
      let both : PlainBay → List (PlainJob × PlainAnswer) → unit.Unit = λ b p. record { bay = b; pending = p } in
      let within : old.told ≤ length (outcomes meaning s ts) =
      omega (arith, length-outcomes meaning s ts, length-map old.jobs task, few old.halt (length old.jobs) old.done old.told held.counted.told held.counted.within) in
      let last = outcomes meaning (served_by meaning s ts) (task it ∷ []) in
      ap (λ x. both (served_by meaning (state x) (map task new.jobs)) (drop new.told (outcomes meaning (state x) (map task new.jobs)))) start
      ∙ ap (λ zs. both (served_by meaning s zs) (drop new.told (outcomes meaning s zs))) more
      ∙ ap (λ n. both (served_by meaning s (ts ++ task it ∷ [])) (drop n (outcomes meaning s (ts ++ task it ∷ [])))) (ap (λ (l : Held). l.told) is)
      ∙ ap (λ b. both b (drop old.told (outcomes meaning s (ts ++ task it ∷ [])))) (served_by-append meaning s ts (task it ∷ []))
      ∙ ap (λ zs. both (served_by meaning (served_by meaning s ts) (task it ∷ [])) (drop old.told zs)) (outcomes-append meaning s ts (task it ∷ []))
      ∙ ap (both (served_by meaning (served_by meaning s ts) (task it ∷ []))) (drop-append-le old.told (outcomes meaning s ts) last within)

-- ---- the first is told

module _ (old new : Held) (held : IsHeld old) (is : new ≡ with_tell old) where
  pub told_held : KeepsSound meaning old new → IsHeld new
  told_held keeps = held_same old new (ap (λ (l : Held). l.start) is) (ap (λ (l : Held). l.jobs) is) (keeps (state old.start) (map task old.jobs) held)

  pub told_view : unit_of new ≡ unit.told (unit_of old)
  unfolding unit_of
  told_view =
      let s = state old.start in let ts = map task old.jobs in
      let both : PlainBay → List (PlainJob × PlainAnswer) → unit.Unit = λ b p. record { bay = b; pending = p } in
      ap unit_of is ∙ ap (both (served_by meaning s ts)) (sym (drop-drop 1 old.told (outcomes meaning s ts)))

first_behind : {X : Type 0} → (xs : List X) (n : ℕ) → slice_get (drop n xs) 0 ≡ slice_get xs n
first_behind [] zero = refl
first_behind [] (suc n) = refl
first_behind (x ∷ xs) zero = refl
first_behind (x ∷ xs) (suc n) = first_behind xs n

pub told_outcome : (old : Held) (it : Job (List ℕ)) (answer : Answer)
    → ((t : PlainJob) × (task_of always bytes it ≡ Some t) × (outcome meaning (state old.start) (map task old.jobs) old.told ≡ Some (t, reply_of answer)))
    → slice_get (unit_of old).pending 0 ≡ Some (task it, reply answer)
unfolding unit_of
told_outcome old it answer o =
    let same : Some (task it) ≡ Some o.0 = sym (task_is it) ∙ o.1 in
    let is : task it ≡ o.0 = ap (λ x. unwrap_or x (task it)) same in
    first_behind (outcomes meaning (state old.start) (map task old.jobs)) old.told ∙ o.2 ∙ ap (λ t. Some (t, reply_of answer)) (sym is)

-- ---- a job is carried out

-- what ending a job leaves of a slot
frame : (mid new : Held) (engine : Bay (List ℕ)) (it : Job (List ℕ)) (got : Result Answer Stop) (before : ℕ)
    → IfOk got (λ answer. new ≡ with_answer mid engine it answer)
    → IfErr got (λ stop. new ≡ with_halt mid engine (record { stop = stop; before = before; after = engine.faults }))
    → (new.start ≡ mid.start) × (new.jobs ≡ mid.jobs) × (new.told ≡ mid.told)
frame mid new engine it (Ok answer) before ok err = (ap (λ (l : Held). l.start) ok, ap (λ (l : Held). l.jobs) ok, ap (λ (l : Held). l.told) ok)
frame mid new engine it (Err stop) before ok err = (ap (λ (l : Held). l.start) err, ap (λ (l : Held). l.jobs) err, ap (λ (l : Held). l.told) err)

module _ (old mid new : Held) (number before : ℕ) (engine0 engine : Bay (List ℕ)) (it0 it : Job (List ℕ)) (got : Result Answer Stop) (held : IsHeld old)
    (keeps : KeepsSound meaning old mid) (out : mid ≡ with_out old) (due : HandsOutDue meaning old number engine0 it0) (at : number ≡ old.done)
    (serves : (s : PlainBay) (t : PlainJob) → state_of always bytes engine0 ≡ Some s → task_of always bytes it0 ≡ Some t → Serves meaning s t got engine it)
    (count : before ≡ engine0.faults) (after : KeepsSoundAfter meaning engine it got before mid new)
    (ok : IfOk got (λ answer. new ≡ with_answer mid engine it answer))
    (err : IfErr got (λ stop. new ≡ with_halt mid engine (record { stop = stop; before = before; after = engine.faults }))) where
  sames : (new.start ≡ old.start) × (new.jobs ≡ old.jobs) × (new.told ≡ old.told)
  sames =
      let f = frame mid new engine it got before ok err in
      (f.0 ∙ ap (λ (l : Held). l.start) out, f.1 ∙ ap (λ (l : Held). l.jobs) out, f.2 ∙ ap (λ (l : Held). l.told) out)

  pub worked_held : IsHeld new
  worked_held =
      let s = state old.start in let ts = map task old.jobs in
      let d = due s ts held in
      let is : number ≡ mid.done = at ∙ sym (ap (λ (l : Held). l.done) out) in
      let here : slice_get ts mid.done ≡ Some d.task = subst (λ n. slice_get ts n ≡ Some d.task) is d.at in
      let served : Serves meaning (served_by meaning s (take mid.done ts)) d.task got engine it =
      subst (λ n. Serves meaning (served_by meaning s (take n ts)) d.task got engine it) is (serves (served_by meaning s (take number ts)) d.task d.engine d.job) in
      let least : mid.start.faults ≤ before = subst (λ (l : Held). l.start.faults ≤ before) (sym out) (subst (λ n. old.start.faults ≤ n) (sym count) d.count) in
      held_same old new sames.0 sames.1 (after s ts d.task (keeps s ts held) here served least)

  pub worked_view : unit_of new ≡ unit_of old
  worked_view = view_same old new sames.0 sames.1 sames.2

-- ---- what became of giving a job

pub given_or_not : {X Y : Type 0} → (old new : Held) (it : Job (List ℕ)) (r : Result X Y) → IsHeld old → IfOk r (λ _. KeepsSoundWith meaning it old new)
    → IfOk r (λ _. new ≡ with_job old it) → IfErr r (λ _. new ≡ old) → IsHeld new
given_or_not old new it (Ok x) held keeps is not = given_held old new it held keeps is
given_or_not old new it (Err e) held keeps is not = subst IsHeld (sym not) held

-- ---- a new one

pub fresh_is : (engine : Bay (List ℕ)) → engine.connection ≡ None → engine.halt ≡ None → unit_of (fresh engine) ≡ unit.fresh
unfolding unit_of
fresh_is engine connection halt =
    let both : Option (Linked (List ℕ)) → Option Condition → unit.Unit = λ c h. record {
      bay = unwrap_or (option_map (λ place. record { connection = place; halt = h }) (place_of always bytes c)) (record { connection = None; halt = None });
      pending = [];
    } in
    ap (λ c. both c engine.halt) connection ∙ ap (both None) halt

pub on_ok : {X Y P : Type 0} → (r : Result X Y) → P → OnOk r P
on_ok (Ok x) p = p
on_ok (Err e) p = tt

-- ---- how many are not told

few_told : {X : Type 0} → (o : Option X) (a b told : ℕ) → told ≤ (if is_some o then a else b) → b ≤ a → told ≤ a
few_told None a b told p q = omega (arith, p, q)
few_told (Some x) a b told p q = p

pub told_within : (l : Held) → IsHeld l → l.told ≤ length l.jobs
told_within l held = few_told l.halt (length l.jobs) l.done l.told held.counted.told held.counted.within

pub count_pending : (l : Held) → length (unit_of l).pending ≡ length l.jobs - l.told
unfolding unit_of
count_pending l =
    length-drop l.told (outcomes meaning (state l.start) (map task l.jobs))
    ∙ ap (λ n. n - l.told) (length-outcomes meaning (state l.start) (map task l.jobs) ∙ length-map l.jobs task)
