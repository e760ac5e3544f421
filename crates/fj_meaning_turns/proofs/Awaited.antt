-- Each job that a statement waits for is told before the statement ends.
use Rattle.std.proofs.Common.{◌≡◌, ◌⊎◌, inl, inr, ℕ, zero, suc, ◌+◌, ◌<◌, ◌≤◌, Bool, true, false, List, [], ◌∷◌, map, Option, Some, None, is_some, is_none, slice_get, set, get_or, refl, sym, ap, ◌∙◌, subst, arith}
use Rattle.std.specs.Prelude.{nat_lt, option_map, if◌then◌else◌}
use Rattle.std.proofs.lemmas.Bool.{ltb-true}
use Rattle.fj_value.specs.declared.condition.Condition.{Condition}
use Rattle.fj_value.specs.declared.condition.Rule.{Rule}
use Rattle.fj_statement.specs.declared.deck.Variable.{Variable}
use Rattle.fj_slot.specs.Serving.{Meaning}
use Rattle.fj_world.specs.declared.ask.Ask.{Ask}
use Rattle.fj_world.specs.declared.ask.Ask.TheVariants.{Submit, Settle, Finished}
use Rattle.fj_world.specs.Plain.{PlainSlot}
use Rattle.fj_bay.specs.Bay.{Bay}
use Rattle.fj_bay.specs.Jobs.{Job, Answer}
use Rattle.fj_meaning.specs.State.{Entry}
use Rattle.fj_meaning.specs.Statement.{Stated, Ending, ends}
use Rattle.fj_meaning.specs.Telling.{tells_id}
use Rattle.fj_meaning_jobs.specs.Core.{Core, Pending}
use Rattle.fj_meaning_jobs.specs.Desks.{Desk, Outcome, brought_by, log_at, log_length}
use Rattle.fj_meaning_jobs.specs.Doing.{Doing, finishes, gives, awaits, Desked}
use Rattle.fj_meaning_turns.specs.Run.{Held, Run, Stage, Start, Waiting, Acting, Awaiting}
use Rattle.fj_meaning_turns.specs.Turns.{Turn, Pauses, Passes, Stops, unsettled, bump, waited_now, finish_by, with_core, with_iostat, turn_act, with_tells, doing_told, wait_by, start_by, rule_of, begun_for, with_hand, turn_start, turn, Asked, goes, by_turn, asked_on, asked}
use Rattle.fj_meaning_turns.specs.Inside.{does, walked}
use Rattle.fj_meaning_turns.specs.Awaiting.{TellsJob, IsAwaited}
use Rattle.fj_meaning_jobs.proofs.Apart.{Each}
use Rattle.fj_meaning_turns.proofs.Slots.{same_some}
use Rattle.fj_meaning_turns.proofs.Ties.{Ties, IsKept, answer_at}
use Rattle.fj_meaning_turns.proofs.Waits.{none_unsettled}
use Rattle.fj_meaning_turns.proofs.Reaching.{waited_is}
use Rattle.fj_meaning_turns.proofs.Acted.{walked_more}

-- ---- so many of each slot were told

-- no fewer are, where one more is
set_more : (xs : List ℕ) (s k v : ℕ) → get_or xs s 0 ≤ v → get_or xs k 0 ≤ get_or (set xs s v) k 0
set_more [] s k v h = omega arith
set_more (x ∷ xs) zero zero v h = h
set_more (x ∷ xs) zero (suc k) v h = omega arith
set_more (x ∷ xs) (suc s) zero v h = omega arith
set_more (x ∷ xs) (suc s) (suc k) v h = set_more xs s k v h

pub bump_more : (told : List ℕ) (slot k : ℕ) → get_or told k 0 ≤ get_or (bump told slot) k 0
bump_more told slot k = set_more told slot k (get_or told slot 0 + 1) (omega arith)

-- ---- a turn tells none itself

-- where it awaits an answer it says of which slot
abbrev pub IsDueAt : Ask Job → ℕ → Type 0
IsDueAt (Submit slot job) due = Unit {0}
IsDueAt (Settle slot) due = due ≡ slot
IsDueAt Finished due = Unit {0}

abbrev pub TurnTold : List ℕ → Turn → Type 0
TurnTold told (Pauses ask run) = (run.told ≡ told) × IsDueAt ask run.due
TurnTold told (Passes run) = run.told ≡ told
TurnTold told (Stops run) = run.told ≡ told

finish_told : (o : Option Ending) (r : Run) → TurnTold r.told (finish_by o r)
finish_told None r = refl
finish_told (Some e) r = refl

act_told : (st : Stated) (d : Doing) (r : Run) → TurnTold r.told (turn_act st d r)
act_told st (finishes core condition) r = finish_told (ends st.0.line st.0.what condition) (with_core (with_iostat st condition r core) r)
act_told st (gives slot job core next) r = (refl, tt)
act_told st (awaits slot job core next) r = (refl, tt)

wait_told : (st : Stated) (waited : List Entry) (o : Option ℕ) (r : Run) → TurnTold r.told (wait_by st waited o r)
wait_told st waited None r = act_told st (doing_told r.variables st waited r.core) (with_tells st waited r)
wait_told st waited (Some slot) r = (refl, refl)

start_told : (st : Stated) (o : Option Rule) (r : Run) → TurnTold r.told (start_by st o r)
start_told st (Some rule) r = refl
start_told st None r = wait_told st (waited_now st r) (unsettled (waited_now st r) r.book) r

pub turn_told : (st : Stated) (stage : Stage) (r : Run) → TurnTold r.told (turn st stage r)
turn_told st Start r = start_told (begun_for r st) (rule_of r.variables (begun_for r st) r.core) (with_hand (begun_for r st) r)
turn_told st Waiting r = wait_told st (waited_now st r) (unsettled (waited_now st r) r.book) r
turn_told st (Acting d) r = act_told st d r
turn_told st (Awaiting slot number next) r = (refl, refl)

-- ---- nor does what is asked next

goes_told : (sts : List Stated) (r : Run) → let a = goes sts r in (a.run.told ≡ r.told) × IsDueAt a.ask a.run.due
goes_told [] r = (refl, tt)
goes_told (st ∷ rest) r = by (turn_start st (record r { rest = st ∷ rest })) (turn_told st Start (record r { rest = st ∷ rest })) (λ run. goes_told rest run)
  where
    by : (t : Turn) → TurnTold r.told t → ((run : Run) → let a = goes rest run in (a.run.told ≡ run.told) × IsDueAt a.ask a.run.due)
        → let a = elim t as (λ _. Asked) [ Pauses ask run ↦ record { ask = ask; run = run } | Passes run ↦ goes rest run | Stops run ↦ record { ask = Finished; run = run } ] in (a.run.told ≡ r.told) × IsDueAt a.ask a.run.due
    by (Pauses ask run) t later = t
    by (Passes run) t later = let l = later run in (l.0 ∙ t, l.1)
    by (Stops run) t later = (t, tt)

on_told : (sts : List Stated) (r : Run) → let a = asked_on sts r in (a.run.told ≡ r.told) × IsDueAt a.ask a.run.due
on_told [] r = (refl, tt)
on_told (st ∷ rest) r = by (turn st r.stage r) (turn_told st r.stage r)
  where
    by : (t : Turn) → TurnTold r.told t → let a = by_turn rest t in (a.run.told ≡ r.told) × IsDueAt a.ask a.run.due
    by (Pauses ask run) t = t
    by (Passes run) t = let l = goes_told rest run in (l.0 ∙ t, l.1)
    by (Stops run) t = (t, tt)

pub asked_told : (r : Run) → ((asked r).run.told ≡ r.told) × IsDueAt (asked r).ask (asked r).run.due
asked_told r = by (is_some r.ending)
  where
    by : (b : Bool) → let a : Asked = if b then record { ask = Finished; run = r } else asked_on r.rest r in (a.run.told ≡ r.told) × IsDueAt a.ask a.run.due
    by true = (refl, tt)
    by false = on_told r.rest r

-- ---- the statement's own jobs

-- a job that it waits for is one of those that it gives so far
pub below_or : (j n : ℕ) → j < suc n → (j < n) ⊎ (j ≡ n)
below_or zero zero h = inr refl
below_or zero (suc n) h = inl (omega arith)
below_or (suc j) zero h = absurd (omega (arith, h))
below_or (suc j) (suc n) h = elim (below_or j n (omega (arith, h))) [ inl low ↦ inl (omega (arith, low)) | inr same ↦ inr (ap suc same) ]

from_or : (j n : ℕ) → (j < n) ⊎ ((k : ℕ) × (n + k ≡ j))
from_or zero zero = inr (0, refl)
from_or zero (suc n) = inl (omega arith)
from_or (suc j) zero = inr (suc j, omega arith)
from_or (suc j) (suc n) = elim (from_or j n) [ inl low ↦ inl (omega (arith, low)) | inr (k, same) ↦ inr (k, omega (arith, same)) ]

-- once it finishes it gives no more
stays_finished : (k n : ℕ) (ds at : List Desk) (d : Doing) (core : Core) (condition : Condition) → walked n ds d ≡ (at, finishes core condition) → walked (n + k) ds d ≡ (at, finishes core condition)
stays_finished zero n ds at d core condition e = let same : n + zero ≡ n = omega arith in ap (λ i. walked i ds d) same ∙ e
stays_finished (suc k) n ds at d core condition e =
    let same : n + suc k ≡ suc (n + k) = omega arith in
    ap (λ i. walked i ds d) same ∙ walked_more (n + k) ds d ∙ ap (λ w. walked 1 w.0 w.1) (stays_finished k n ds at d core condition e)

module _ (variables : List Variable) (st : Stated) (p : Desked) where
  -- those among its first jobs that it waits for were told
  abbrev pub OwnTold : ℕ → List ℕ → Type 0
  OwnTold jobs told = (j : ℕ) → j < jobs → (slot : ℕ) (job : Job) (core : Core) (onward : Outcome → Doing) → (walked j p.desks (does variables st p)).1 ≡ awaits slot job core onward
      → log_length (slice_get (walked j p.desks (does variables st p)).0 slot) < get_or told slot 0

  -- and so are those of the transfers that it tells
  abbrev pub TransfersTold : List ℕ → Type 0
  TransfersTold told = (slot number : ℕ) → TellsJob st p slot number → number < get_or told slot 0

  pub own_more : (jobs : ℕ) (told more : List ℕ) → ((k : ℕ) → get_or told k 0 ≤ get_or more k 0) → OwnTold jobs told → OwnTold jobs more
  own_more jobs told more h own j low slot job core onward e = let was = own j low slot job core onward e in let less = h slot in omega (arith, was, less)

  pub transfers_more : (told more : List ℕ) → ((k : ℕ) → get_or told k 0 ≤ get_or more k 0) → TransfersTold told → TransfersTold more
  transfers_more told more h transfers slot number x = let was = transfers slot number x in let less = h slot in omega (arith, was, less)

  -- one more, which it does not wait for
  pub own_given : (jobs : ℕ) (told : List ℕ) (at : List Desk) (slot : ℕ) (job : Job) (core : Core) (next : ℕ → Doing) → walked jobs p.desks (does variables st p) ≡ (at, gives slot job core next)
      → OwnTold jobs told → OwnTold (suc jobs) told
  own_given jobs told at slot job core next walk own j low slot' job' core' onward e = elim (below_or j jobs low) [
    | inl less ↦ own j less slot' job' core' onward e
    | inr same ↦ absurd (let z : gives slot job core next ≡ awaits slot' job' core' onward = sym (ap (λ w. w.1) walk) ∙ ap (λ i. (walked i p.desks (does variables st p)).1) (sym same) ∙ e in cc)
  ]

  -- one more, which was told
  pub own_awaited : (jobs : ℕ) (told : List ℕ) (at : List Desk) (slot : ℕ) (job : Job) (core : Core) (next : Outcome → Doing) → walked jobs p.desks (does variables st p) ≡ (at, awaits slot job core next)
      → log_length (slice_get at slot) < get_or told slot 0 → OwnTold jobs told → OwnTold (suc jobs) told
  own_awaited jobs told at slot job core next walk here own j low slot' job' core' onward e = elim (below_or j jobs low) [
    | inl less ↦ own j less slot' job' core' onward e
    | inr same ↦
        let same_walk : walked j p.desks (does variables st p) ≡ (at, awaits slot job core next) = ap (λ i. walked i p.desks (does variables st p)) same ∙ walk in
        let is : awaits slot job core next ≡ awaits slot' job' core' onward = sym (ap (λ w. w.1) same_walk) ∙ e in
        let there : slot ≡ slot' = cc in
        subst (λ n. log_length (slice_get (walked j p.desks (does variables st p)).0 n) < get_or told n 0) there
        (subst (λ ds. log_length (slice_get ds slot) < get_or told slot 0) (sym (ap (λ w. w.0) same_walk)) here)
  ]

  -- once it finishes all of them were
  pub all_awaited : (jobs : ℕ) (told : List ℕ) (at : List Desk) (core : Core) (condition : Condition) → walked jobs p.desks (does variables st p) ≡ (at, finishes core condition)
      → OwnTold jobs told → TransfersTold told → (slot number : ℕ) → IsAwaited variables st p slot number → number < get_or told slot 0
  all_awaited jobs told at core condition walk own transfers slot number (inl x) = transfers slot number x
  all_awaited jobs told at core condition walk own transfers slot number (inr x) = elim (from_or x.jobs jobs) [
    | inl low ↦ subst (λ n. n < get_or told slot 0) x.number_is (own x.jobs low slot x.job x.core x.onward x.awaited)
    | inr (k, same) ↦
        absurd (let z : finishes core condition ≡ awaits slot x.job x.core x.onward =
        sym (ap (λ w. w.1) (stays_finished k jobs p.desks at (does variables st p) core condition walk)) ∙ ap (λ i. (walked i p.desks (does variables st p)).1) same ∙ x.awaited in cc)
  ]

-- ---- the transfers that it tells

some_answer : (told : List ℕ) (desks : List Desk) (e : Pending) → is_none (answer_at desks told e) ≡ false → e.number < get_or told e.slot 0
some_answer told desks e h = by (nat_lt e.number (get_or told e.slot 0)) refl h
  where
    by : (b : Bool) → nat_lt e.number (get_or told e.slot 0) ≡ b → is_none (if b then option_map brought_by (log_at (slice_get desks e.slot) e.number) else None) ≡ false → e.number < get_or told e.slot 0
    by true is z = ltb-true e.number (get_or told e.slot 0) is
    by false is z = cc

held_told : (desks : List Desk) (told : List ℕ) (es : List Entry) (hs : List Held) (at : ℕ) (e : Pending) → slice_get (map (λ (h : Held). h.pending) hs) at ≡ Some e → tells_id es e.id ≡ true
    → Each (IsKept desks told) hs → Each (λ (h : Held). tells_id es h.pending.id ≡ true → is_none h.answer ≡ false) hs → e.number < get_or told e.slot 0
held_told desks told es [] at e f t kept known = absurd (let z : None ≡ Some e = f in cc)
held_told desks told es (h ∷ hs) zero e f t kept known =
    let same : h.pending ≡ e = same_some f in
    subst (λ (x : Pending). x.number < get_or told x.slot 0) same
    (some_answer told desks h.pending (sym (ap is_none kept.0.answer) ∙ known.0 (ap (λ (x : Pending). tells_id es x.id) same ∙ t)))
held_told desks told es (h ∷ hs) (suc at) e f t kept known = held_told desks told es hs at e f t kept.1 known.1

module _ {E J A : Type 0} (m : Meaning E J A Bay Job Answer) where
  -- once all answers that it needs are known
  pub transfers_told : (st : Stated) (p : Desked) (r : Run) (qs : List (PlainSlot Bay Job)) → Ties m r qs p → unsettled (waited_now st r) r.book ≡ None → TransfersTold r.variables st p r.told
  transfers_told st p r qs t none slot number x =
      let same = waited_is m st r qs p t none in
      let book : map (λ (h : Held). h.pending) r.book ≡ p.core.book = t.same ∙ ap (λ c. c.book) t.core in
      subst (λ n. number < get_or r.told n 0) x.place
      (subst (λ n. n < get_or r.told x.transfer.slot 0) x.number_is
      (held_told p.desks r.told (waited_now st r) r.book x.at x.transfer (ap (λ l. slice_get l x.at) book ∙ x.pending) (ap (λ es. tells_id es x.transfer.id) same ∙ x.tells)
      t.kept (none_unsettled (waited_now st r) r.book none)))
