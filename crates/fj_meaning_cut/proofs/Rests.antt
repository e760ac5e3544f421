-- The statements that are left: no ask and no answer makes them more.
use Rattle.std.proofs.Common.{◌≡◌, ℕ, zero, suc, ◌+◌, ◌-◌, ◌≤◌, Bool, true, false, List, [], ◌∷◌, length, Option, Some, None, is_some, slice_get, refl, sym, ap, ◌∙◌, subst, arith, drop}
use Rattle.std.specs.Prelude.{option_and_then, if◌then◌else◌}
use Rattle.fj_value.specs.declared.condition.Rule.{Rule}
use Rattle.fj_slot.specs.Serving.{Meaning}
use Rattle.fj_slot.specs.Sound.{outcome}
use Rattle.fj_world.specs.declared.ask.Ask.{Ask}
use Rattle.fj_world.specs.declared.ask.Ask.TheVariants.{Submit, Settle, Finished}
use Rattle.fj_world.specs.Conduct.{Conduct}
use Rattle.fj_world.specs.Losing.{given_number, given_reply, given_outcome, answered}
use Rattle.fj_world.specs.Plain.{Plain, PlainSlot, submitted_to, told_from, settled_from, served, next, after}
use Rattle.fj_bay.specs.Bay.{Bay}
use Rattle.fj_bay.specs.Jobs.{Job, Answer}
use Rattle.fj_meaning.specs.Statement.{Stated, Ending, ends}
use Rattle.fj_meaning_jobs.specs.Doing.{Doing, finishes, gives, awaits}
use Rattle.fj_meaning_turns.specs.Run.{Run, Stage, Start, Waiting, Acting, Awaiting}
use Rattle.fj_meaning_turns.specs.Turns.{Turn, Pauses, Passes, Stops, Asked, finish_by, turn_act, with_core, with_iostat, doing_told, with_tells, wait_by, waited_now, unsettled, start_by, rule_of, begun_for, with_hand, turn, turn_start, goes, by_turn, asked_on, asked}
use Rattle.fj_meaning_turns.specs.Passing.{passed_by, passed_on, passes}
use Rattle.fj_meaning_turns.specs.Serving.{over_bays, Shows, run_conduct}

-- a turn keeps so many
abbrev KeepsRest : ℕ → Turn → Type 0
KeepsRest n (Pauses ask run) = length run.rest ≡ n
KeepsRest n (Passes run) = length run.rest ≡ n
KeepsRest n (Stops run) = length run.rest ≡ n

module _ (st : Stated) where
  finish_keeps : (o : Option Ending) (r : Run) → KeepsRest (length r.rest) (finish_by o r)
  finish_keeps None r = refl
  finish_keeps (Some ending) r = refl

  act_keeps : (d : Doing) (r : Run) → KeepsRest (length r.rest) (turn_act st d r)
  act_keeps (finishes core condition) r = finish_keeps (ends st.0.line st.0.what condition) (with_core (with_iostat st condition r core) r)
  act_keeps (gives slot job core next) r = refl
  act_keeps (awaits slot job core next) r = refl

  wait_keeps : (o : Option ℕ) (r : Run) → KeepsRest (length r.rest) (wait_by st (waited_now st r) o r)
  wait_keeps None r = act_keeps (doing_told r.variables st (waited_now st r) r.core) (with_tells st (waited_now st r) r)
  wait_keeps (Some slot) r = refl

  start_keeps : (o : Option Rule) (r : Run) → KeepsRest (length r.rest) (start_by st o r)
  start_keeps (Some rule) r = refl
  start_keeps None r = wait_keeps (unsettled (waited_now st r) r.book) r

turn_keeps : (st : Stated) (rest : List Stated) (stage : Stage) (r : Run) → r.rest ≡ st ∷ rest → KeepsRest (suc (length rest)) (turn st stage r)
turn_keeps st rest Start r e =
    let x : Stated = begun_for r st in
    subst (λ l. KeepsRest (suc (length (drop 1 l))) (turn_start st r)) e (start_keeps x (rule_of r.variables x r.core) (with_hand x r))
turn_keeps st rest Waiting r e = subst (λ l. KeepsRest (length l) (turn st Waiting r)) e (wait_keeps st (unsettled (waited_now st r) r.book) r)
turn_keeps st rest (Acting does) r e = subst (λ l. KeepsRest (length l) (turn st (Acting does) r)) e (act_keeps st does r)
turn_keeps st rest (Awaiting slot number next) r e = ap length e

-- ---- an ask

fewer_of : (x y : List Stated) → x ≡ y → length x ≤ length y
fewer_of x y e = let same = ap length e in omega (arith, same)

goes_fewer : (sts : List Stated) (r : Run) → length (goes sts r).run.rest ≤ length sts
goes_fewer [] r = omega arith
goes_fewer (st ∷ rest) r = by (λ run. goes_fewer rest run) (turn_start st (record r { rest = st ∷ rest })) (turn_keeps st rest Start (record r { rest = st ∷ rest }) refl)
  where
    by : ((run : Run) → length (goes rest run).run.rest ≤ length rest) → (t : Turn) → KeepsRest (suc (length rest)) t
        → let a = elim t as (λ _. Asked) [ Pauses ask run ↦ record { ask = ask; run = run } | Passes run ↦ goes rest run | Stops run ↦ record { ask = Finished; run = run } ] in length a.run.rest ≤ suc (length rest)
    by later (Pauses ask run) k = omega (arith, k)
    by later (Passes run) k = let h = later run in omega (arith, h)
    by later (Stops run) k = omega (arith, k)

turn_fewer : (rest : List Stated) (t : Turn) → KeepsRest (suc (length rest)) t → length (by_turn rest t).run.rest ≤ suc (length rest)
turn_fewer rest (Pauses ask run) k = omega (arith, k)
turn_fewer rest (Passes run) k = let h = goes_fewer rest run in omega (arith, h)
turn_fewer rest (Stops run) k = omega (arith, k)

on_fewer : (sts : List Stated) (r : Run) → r.rest ≡ sts → length (asked_on sts r).run.rest ≤ length sts
on_fewer [] r e = fewer_of r.rest [] e
on_fewer (st ∷ rest) r e = turn_fewer rest (turn st r.stage r) (turn_keeps st rest r.stage r e)

asked_fewer : (r : Run) → length (asked r).run.rest ≤ length r.rest
asked_fewer r = by (is_some r.ending)
  where
    by : (b : Bool) → let a : Asked = if b then record { ask = Finished; run = r } else asked_on r.rest r in length a.run.rest ≤ length r.rest
    by true = omega arith
    by false = on_fewer r.rest r refl

-- ---- statements that are passed

passed_fewer : (rest : List Stated) (t : Turn) (run : Run) → passed_by rest t ≡ Some run → run.rest ≡ rest
passed_fewer rest (Pauses ask r) run e = cc
passed_fewer rest (Passes r) run e = let same : record r { rest = rest } ≡ run = cc in ap (λ (x : Run). x.rest) (sym same)
passed_fewer rest (Stops r) run e = cc

on_passed : (sts : List Stated) (r run : Run) → passed_on sts r ≡ Some run → suc (length run.rest) ≤ length sts
on_passed [] r run e = cc
on_passed (st ∷ rest) r run e = let h = ap length (passed_fewer rest (turn st r.stage r) run e) in omega (arith, h)

pub passes_fewer : (count : ℕ) (r run : Run) → passes count r ≡ Some run → length run.rest ≤ length r.rest
passes_fewer zero r run e = let same : r ≡ run = cc in fewer_of run.rest r.rest (ap (λ (x : Run). x.rest) (sym same))
passes_fewer (suc count) r run e = by (λ mid h. passes_fewer count mid run h) (passed_on r.rest r) refl e
  where
    by : ((mid : Run) → passes count mid ≡ Some run → length run.rest ≤ length mid.rest) → (o : Option Run) → passed_on r.rest r ≡ o → option_and_then (passes count) o ≡ Some run → length run.rest ≤ length r.rest
    by later None f h = cc
    by later (Some mid) f h = let a = on_passed r.rest r mid f in let b = later mid h in omega (arith, a, b)

-- ---- a script served alone

module _ {E J A S : Type 0} (m : Meaning E J A Bay Job Answer) (s : Shows S) where
  abbrev c : Conduct S Job Answer
  c = run_conduct s

  told_fewer : (o : Option (Job × Answer)) (q : PlainSlot Bay Job) (i : ℕ) (x : Plain Bay c) → length (told_from (over_bays m) c o q i x).script.rest ≤ length x.script.rest
  told_fewer None q i x = omega arith
  told_fewer (Some reply) q i x = asked_fewer (c.told x.script reply)

  settled_fewer : (o : Option (PlainSlot Bay Job)) (i : ℕ) (x : Plain Bay c) → length (settled_from (over_bays m) c o i x).script.rest ≤ length x.script.rest
  settled_fewer None i x = omega arith
  settled_fewer (Some q) i x = told_fewer (outcome (over_bays m) q.start q.jobs q.told) q i x

  submitted_fewer : (o : Option (PlainSlot Bay Job)) (i : ℕ) (job : Job) (x : Plain Bay c) → length (submitted_to (over_bays m) c o i job x).script.rest ≤ length x.script.rest
  submitted_fewer None i job x = omega arith
  submitted_fewer (Some q) i job x = asked_fewer (c.took x.script (length q.jobs))

  served_fewer : (ask : Ask Job) (x : Plain Bay c) → length (served (over_bays m) c ask x).script.rest ≤ length x.script.rest
  served_fewer (Submit i job) x = submitted_fewer (slice_get x.slots i) i job x
  served_fewer (Settle i) x = settled_fewer (slice_get x.slots i) i x
  served_fewer Finished x = omega arith

  further : (k : ℕ) (x : Plain Bay c) → length (after (over_bays m) c k x).script.rest ≤ length x.script.rest
  further zero x = omega arith
  further (suc k) x = let a = served_fewer x.hand x in let b = further k (next (over_bays m) c x) in omega (arith, a, b)

  later_is : (n k : ℕ) (x : Plain Bay c) → after (over_bays m) c (n + k) x ≡ after (over_bays m) c k (after (over_bays m) c n x)
  later_is zero k x = let none : 0 + k ≡ k = omega arith in ap (λ z. after (over_bays m) c z x) none
  later_is (suc n) k x = let one : suc n + k ≡ suc (n + k) = omega arith in ap (λ z. after (over_bays m) c z x) one ∙ later_is n k (next (over_bays m) c x)

  -- they are no more after more entries
  pub after_fewer : (e n : ℕ) (x : Plain Bay c) → e ≤ n → length (after (over_bays m) c n x).script.rest ≤ length (after (over_bays m) c e x).script.rest
  after_fewer e n x h =
      let is : after (over_bays m) c n x ≡ after (over_bays m) c (n - e) (after (over_bays m) c e x) = (let sum : n ≡ e + (n - e) = omega (arith, h) in ap (λ z. after (over_bays m) c z x) sum) ∙ later_is e (n - e) x in
      subst (λ (z : Plain Bay c). length z.script.rest ≤ length (after (over_bays m) c e x).script.rest) (sym is) (further (n - e) (after (over_bays m) c e x))

  -- nor is it once the ask is answered
  reply_same : (o : Option (Job × Answer)) (q : PlainSlot Bay Job) (i : ℕ) (x : Plain Bay c) → (given_reply (over_bays m) c o q i x).0.rest ≡ x.script.rest
  reply_same None q i x = refl
  reply_same (Some reply) q i x = refl

  outcome_same : (o : Option (PlainSlot Bay Job)) (i : ℕ) (x : Plain Bay c) → (given_outcome (over_bays m) c o i x).0.rest ≡ x.script.rest
  outcome_same None i x = refl
  outcome_same (Some q) i x = reply_same (outcome (over_bays m) q.start q.jobs q.told) q i x

  number_same : (o : Option (PlainSlot Bay Job)) (i : ℕ) (job : Job) (x : Plain Bay c) → (given_number (over_bays m) c o i job x).0.rest ≡ x.script.rest
  number_same None i job x = refl
  number_same (Some q) i job x = refl

  pub answered_same : (ask : Ask Job) (x : Plain Bay c) → (answered (over_bays m) c ask x).0.rest ≡ x.script.rest
  answered_same (Submit i job) x = number_same (slice_get x.slots i) i job x
  answered_same (Settle i) x = outcome_same (slice_get x.slots i) i x
  answered_same Finished x = refl
