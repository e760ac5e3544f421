-- A runner after one call.
use Rattle.std.proofs.Common.{◌≡◌, ℕ, ◌<◌, ◌≤◌, Bool, true, false, cond, List, drop, Option, Some, None, Result, Ok, Err, IfOk, inl, arith, refl, sym, ap, subst, ◌∙◌}
use Rattle.std.specs.Option.{option_map}
use Rattle.fj_outside.specs.declared.outside.FileStore.{Ghosts}
use Rattle.fj_statement.specs.declared.deck.Deck.{Deck}
use Rattle.fj_world.specs.Conduct as conduct
use Rattle.fj_slot.specs.Serving.{Meaning}
use Rattle.fj_world.specs.Conduct.{Conduct, Asks, IsDueAsk, KeepsTo, IsAsk}
use Rattle.fj_world.specs.declared.ask.Ask.{Ask}
use Rattle.fj_world.specs.declared.ask.Ask.TheVariants.{Submit, Settle, Finished}
use Rattle.fj_bay.specs.Jobs.{Job as Task}
use Rattle.fj_bay.specs.Meaning.{bay_meaning}
use Rattle.fj_bay.specs.declared.job.Job.{Job}
use Rattle.fj_meaning.specs.State.{Files}
use Rattle.fj_meaning.specs.Statement.{stated}
use Rattle.fj_meaning_turns.specs.Run.{Run}
use Rattle.fj_meaning_turns.specs.Turns.{Asked}
use Rattle.fj_run_statements.specs.State.{core_of}
use Rattle.fj_run_script.specs.Leaving.{Leaves, Rests}
use Rattle.fj_run_script.specs.Machine.{numbered, run_in, run_of, stage_of}
use Rattle.fj_run_script.specs.Tallying.{due_of, owed_at, MaySubmit, MaySettle}
use Rattle.fj_run_script.specs.Turned.{IsTask, IsAsked}
use Rattle.fj_run_script.specs.declared.hand.Hand.{Hand}
use Rattle.fj_run_script.specs.declared.hand.Hand.TheVariants.{Idle, Submitting, Settling}
use Rattle.fj_run_script.specs.declared.state.State.{State}
use Rattle.fj_run_script.specs.declared.machine.AtHand.{AtHand}
use Rattle.fj_run_script.specs.declared.machine.Machine.{Machine}
use Rattle.fj_run_script.proofs.Runs.{hands_none, takes_none}

abbrev pub run_by : {F : Type 0} {ghosts : Ghosts F} → (F → Bool) → (F → List ℕ) → Files → Deck → AtHand → State F ghosts → Option Run
run_by told bytes files deck at s = option_map (run_in deck.variables (numbered at.number (drop at.place (stated deck.statements))) files s) (stage_of told bytes deck.variables (numbered at.number (drop at.place (stated deck.statements))) (core_of files s.core) s.stage)

-- the run of a machine does not show its tally
pub run_same : {F : Type 0} {ghosts : Ghosts F} → (told : F → Bool) (bytes : F → List ℕ) (files : Files) (m m' : Machine F ghosts) → m'.deck ≡ m.deck → m'.at ≡ m.at → m'.state ≡ m.state → run_of told bytes files m' ≡ run_of told bytes files m
run_same told bytes files m m' d a s =
    ap (λ (k : Deck). run_by told bytes files k m'.at m'.state) d ∙ ap (λ n. run_by told bytes files m.deck n m'.state) a ∙ ap (λ k. run_by told bytes files m.deck m.at k) s

-- where a disk tells
pub if_told : (b : Bool) (o o' : Option Run) (s s' : Run) → cond b o None ≡ Some s → (b ≡ true → o ≡ Some s → o' ≡ Some s') → cond b o' None ≡ Some s'
if_told true o o' s s' e go = go refl e
if_told false o o' s s' e go = cc

-- whatever its number is
pub took_by : {X E : Type 0} → (number : Result X E) (P : Type 0) → P → IfOk number (λ n. P)
took_by (Ok n) P p = p
took_by (Err e) P p = tt

-- a call that touches neither disk nor sink
pub rests_leaves : {W D F : Type 0} {ghosts : Ghosts F} {tells_out : W → Type 0} {taken : W → List ℕ} {count_out : W → ℕ} {tells : D → Type 0} {count refusals : D → ℕ} → (out : W) (disk : D) (m m' : Machine F ghosts)
    → Rests m m' → Leaves tells_out taken count_out tells count refusals out disk m out disk m'
rests_leaves {taken = taken} out disk m m' r = record {
  telling = (λ t. t, λ t. t);
  later = omega arith;
  own = λ t. omega arith;
  telling_out = (λ t. t, λ t. t);
  later_out = omega arith;
  output = λ t none. hands_none (taken out) (taken out) m.state.core.output m'.state.core.output refl r.output;
  front = λ t. takes_none (taken out) (taken out) refl;
  of_disk = λ e. inl (r.of_disk e);
  of_sink = λ e. inl (r.of_sink e);
  first = r.first;
  deck = r.deck;
  looks = r.looks;
}

-- ---- what is asked

keeps_submit : (hand : Hand) (over : Bool) (left slot : ℕ) → due_of hand ≡ conduct.Submitting slot → MaySubmit hand over left → (slot < 16) × (0 < left)
keeps_submit Idle over left slot e may = cc
keeps_submit (Submitting own) over left slot e may =
    let same : own ≡ slot = cc in subst (λ n. (n < 16) × (0 < left)) same ((may own refl).1, (may own refl).2)
keeps_submit (Settling own) over left slot e may = cc

keeps_settle : (hand : Hand) (over : Bool) (left : ℕ) (owed : List ℕ) (slot : ℕ) → due_of hand ≡ conduct.Settling slot → MaySettle hand over left owed → (slot < 16) × (0 < left) × (0 < owed_at owed slot)
keeps_settle Idle over left owed slot e may = cc
keeps_settle (Submitting own) over left owed slot e may = cc
keeps_settle (Settling own) over left owed slot e may =
    let same : own ≡ slot = cc in subst (λ n. (n < 16) × (0 < left) × (0 < owed_at owed n)) same ((may own refl).1, (may own refl).2, (may own refl).3)

-- the numbers that an ask keeps to
pub keeps_to : {S T R J : Type 0} → (c : Conduct S T R) (script : S) (hand : Hand) (over : Bool) (left : ℕ) (owed : List ℕ) (result : Ask J) → c.uses script ≡ 16 → c.left script ≡ left → ((slot : ℕ) → c.owed script slot ≡ owed_at owed slot)
    → IsDueAsk (due_of hand) result → MaySubmit hand over left → MaySettle hand over left owed → KeepsTo c script result
keeps_to c script hand over left owed (Submit slot job) u l o due submit settle =
    let k = keeps_submit hand over left slot due submit in (subst (λ n. slot < n) (sym u) k.0, subst (λ n. 0 < n) (sym l) k.1)
keeps_to c script hand over left owed (Settle slot) u l o due submit settle =
    let k = keeps_settle hand over left owed slot due settle in (subst (λ n. slot < n) (sym u) k.0, subst (λ n. 0 < n) (sym l) k.1, subst (λ n. 0 < n) (sym (o slot)) k.2)
keeps_to c script hand over left owed Finished u l o due submit settle = tt

-- the ask over plain data is the same
pub asks_task : {F : Type 0} → (told : F → Bool) (bytes : F → List ℕ) (count : F → ℕ) (a : Ask Task) (b : Ask (Job F)) → IsTask told bytes a b → IsAsk (bay_meaning told bytes count) a b
asks_task told bytes count (Submit slot task) (Submit slot' job) t = t
asks_task told bytes count (Submit slot task) (Settle slot') t = t
asks_task told bytes count (Submit slot task) Finished t = t
asks_task told bytes count (Settle slot) (Submit slot' job) t = t
asks_task told bytes count (Settle slot) (Settle slot') t = t
asks_task told bytes count (Settle slot) Finished t = t
asks_task told bytes count Finished (Submit slot' job) t = t
asks_task told bytes count Finished (Settle slot') t = t
asks_task told bytes count Finished Finished t = tt

-- where the disk tells, before and after
pub asked_told : {F : Type 0} {ghosts : Ghosts F} → (told : F → Bool) (bytes : F → List ℕ) (count : F → ℕ) (files : Files) (m : Machine F ghosts) (b b' : Bool) (o : Option Run) (r : Run) (a : Asked) (result : Ask (Job F)) → cond b o None ≡ Some r
    → (b ≡ true → b' ≡ true) → (b ≡ true → o ≡ Some r → IsAsked told bytes files m result a)
    → (cond b' (run_of told bytes files m) None ≡ Some a.run) × IsAsk (bay_meaning told bytes count) a.ask result
asked_told told bytes count files m false b' o r a result e still go = cc
asked_told told bytes count files m true b' o r a result e still go =
    let it = go refl e in
    (ap (λ t. cond t (run_of told bytes files m) None) (still refl) ∙ it.run, asks_task told bytes count a.ask result it.asks)

-- one `ask`, by what the tally shows
pub asks_of : {S G J A P T R : Type 0} → (m : Meaning G J A P T R) (c : Conduct S T R) (old new : S) (result : Ask J) (hand : Hand) (over : Bool) (left : ℕ) (owed : List ℕ)
    → c.uses new ≡ 16 → c.left new ≡ left → ((slot : ℕ) → c.owed new slot ≡ owed_at owed slot) → c.due new ≡ due_of hand → IsDueAsk (due_of hand) result → MaySubmit hand over left → MaySettle hand over left owed
    → c.left new ≤ c.left old → c.uses new ≡ c.uses old → ((slot : ℕ) → c.owed new slot ≡ c.owed old slot) → (c.over old ≡ true → c.over new ≡ true) → (c.over new ≡ true → result ≡ Finished)
    → (c.stopped new ≡ true → (c.stopped old ≡ true) × (c.state new ≡ c.state old)) → c.leads old new
    → ((s : c.State) → c.state old ≡ Some s → c.over new ≡ false → (c.state new ≡ Some (c.asked s)) × IsAsk m (c.ask s) result) → Asks m c old result new
asks_of m c old new result hand over left owed uses_is left_is owed_is due_is due submit settle less uses owes still ends stops leads told = record {
  due = subst (λ d. IsDueAsk d result) (sym due_is) due;
  keeps_to = keeps_to c new hand over left owed result uses_is left_is owed_is due submit settle;
  left = less;
  uses = uses;
  owed = owes;
  over = still;
  ends = ends;
  stops = stops;
  leads = leads;
  told = told;
}
