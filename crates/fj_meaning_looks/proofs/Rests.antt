-- A turn over other statements behind the one at hand, and what a turn leaves.
use Rattle.std.proofs.Common.{◌≡◌, ℕ, true, List, [], ◌∷◌, Option, Some, None, is_some, refl, sym, ap, ◌∙◌}
use Rattle.std.specs.Prelude.{if◌then◌else◌}
use Rattle.fj_value.specs.declared.condition.Rule.{Rule}
use Rattle.fj_world.specs.declared.ask.Ask.{Ask}
use Rattle.fj_world.specs.declared.ask.Ask.TheVariants.{Submit, Settle, Finished}
use Rattle.fj_bay.specs.Jobs.{Job}
use Rattle.fj_meaning.specs.State.{Entry}
use Rattle.fj_meaning.specs.Statement.{Stated, Ending, ends}
use Rattle.fj_meaning_jobs.specs.Doing.{Doing, finishes, gives, awaits}
use Rattle.fj_meaning_turns.specs.Run.{Stage, Start, Waiting, Acting, Awaiting, Run}
use Rattle.fj_meaning_turns.specs.Turns.{Turn, Pauses, Passes, Stops, doing_told, with_core, with_iostat, finish_by, turn_act, with_tells, wait_by, waited_now, unsettled, start_by, rule_of, begun_for, hand_at, turn_on, turn, Asked, goes, by_turn, asked}
use Rattle.fj_meaning_turns.proofs.Decks.{goes_is_turn}
use Rattle.fj_meaning_turns.proofs.Reaching.{asked_at}
use Rattle.fj_meaning_looks.specs.Stretches.{with_rest}

-- a turn with these statements left
abbrev pub over : List Stated → Turn → Turn
over l (Pauses ask run) = Pauses ask (with_rest l run)
over l (Passes run) = Passes (with_rest l run)
over l (Stops run) = Stops (with_rest l run)

finish_over : (o : Option Ending) (r : Run) (l : List Stated) → finish_by o (with_rest l r) ≡ over l (finish_by o r)
finish_over None r l = refl
finish_over (Some e) r l = refl

act_over : (st : Stated) (d : Doing) (r : Run) (l : List Stated) → turn_act st d (with_rest l r) ≡ over l (turn_act st d r)
act_over st (finishes core condition) r l = finish_over (ends st.0.line st.0.what condition) (with_core (with_iostat st condition r core) r) l
act_over st (gives slot job core next) r l = refl
act_over st (awaits slot job core next) r l = refl

wait_over : (st : Stated) (es : List Entry) (o : Option ℕ) (r : Run) (l : List Stated) → wait_by st es o (with_rest l r) ≡ over l (wait_by st es o r)
wait_over st es None r l = act_over st (doing_told r.variables st es r.core) (with_tells st es r) l
wait_over st es (Some slot) r l = refl

start_over : (st : Stated) (o : Option Rule) (r : Run) (l : List Stated) → start_by st o (with_rest l r) ≡ over l (start_by st o r)
start_over st (Some rule) r l = refl
start_over st None r l = wait_over st (waited_now st r) (unsettled (waited_now st r) r.book) r l

-- the turn of a statement that has begun is about no statement behind it
turn_over : (st : Stated) (stage : Stage) (r : Run) (l : List Stated) → turn_on st stage (with_rest l r) ≡ over l (turn_on st stage r)
turn_over st Start r l = start_over st (rule_of r.variables st r.core) r l
turn_over st Waiting r l = wait_over st (waited_now st r) (unsettled (waited_now st r) r.book) r l
turn_over st (Acting d) r l = act_over st d r l
turn_over st (Awaiting slot number next) r l = refl

-- nor is that of any statement at hand
pub turn_is : (st : Stated) (stage : Stage) (r : Run) (k : List Stated) → turn st stage (with_rest (st ∷ k) r) ≡ over (hand_at st stage r ∷ k) (turn_on (hand_at st stage r) stage r)
turn_is st Start r k = turn_over (begun_for r st) Start r (begun_for r st ∷ k)
turn_is st Waiting r k = turn_over st Waiting r (st ∷ k)
turn_is st (Acting d) r k = turn_over st (Acting d) r (st ∷ k)
turn_is st (Awaiting slot number next) r k = refl

-- ---- what a turn leaves

abbrev pub HasBegun : Stage → Type 0
HasBegun Start = ⊥
HasBegun Waiting = Unit {0}
HasBegun (Acting d) = Unit {0}
HasBegun (Awaiting slot number next) = Unit {0}

abbrev pub IsAsking : Ask Job → Type 0
IsAsking (Submit slot job) = Unit {0}
IsAsking (Settle slot) = Unit {0}
IsAsking Finished = ⊥

-- it asks inside a statement, or the next one may start, or the deck ended
abbrev pub Leaves : Turn → Type 0
Leaves (Pauses ask run) = HasBegun run.stage × IsAsking ask
Leaves (Passes run) = (run.stage ≡ Start) × (run.ending ≡ None)
Leaves (Stops run) = is_some run.ending ≡ true

finish_leaves : (o : Option Ending) (r : Run) → r.ending ≡ None → Leaves (finish_by o r)
finish_leaves None r none = (refl, none)
finish_leaves (Some e) r none = refl

act_leaves : (st : Stated) (d : Doing) (r : Run) → r.ending ≡ None → Leaves (turn_act st d r)
act_leaves st (finishes core condition) r none = finish_leaves (ends st.0.line st.0.what condition) (with_core (with_iostat st condition r core) r) none
act_leaves st (gives slot job core next) r none = (tt, tt)
act_leaves st (awaits slot job core next) r none = (tt, tt)

wait_leaves : (st : Stated) (es : List Entry) (o : Option ℕ) (r : Run) → r.ending ≡ None → Leaves (wait_by st es o r)
wait_leaves st es None r none = act_leaves st (doing_told r.variables st es r.core) (with_tells st es r) none
wait_leaves st es (Some slot) r none = (tt, tt)

start_leaves : (st : Stated) (o : Option Rule) (r : Run) → r.ending ≡ None → Leaves (start_by st o r)
start_leaves st (Some rule) r none = refl
start_leaves st None r none = wait_leaves st (waited_now st r) (unsettled (waited_now st r) r.book) r none

pub turn_leaves : (st : Stated) (stage : Stage) (r : Run) → r.ending ≡ None → Leaves (turn_on st stage r)
turn_leaves st Start r none = start_leaves st (rule_of r.variables st r.core) r none
turn_leaves st Waiting r none = wait_leaves st (waited_now st r) (unsettled (waited_now st r) r.book) r none
turn_leaves st (Acting d) r none = act_leaves st d r none
turn_leaves st (Awaiting slot number next) r none = (tt, tt)

-- ---- the statements that are left

pub goes_over : (k l : List Stated) (r : Run) → goes k (with_rest l r) ≡ goes k r
goes_over [] l r = refl
goes_over (st ∷ k) l r = goes_is_turn st k (with_rest l r) ∙ sym (goes_is_turn st k r)

pub goes_asked : (k : List Stated) (r : Run) → r.stage ≡ Start → r.ending ≡ None → goes k r ≡ asked (with_rest k r)
goes_asked [] r start none =
    let over : Asked = record { ask = Finished; run = with_rest [] r } in
    sym (ap (λ e. if is_some e then over else over) none)
goes_asked (st ∷ k) r start none =
    goes_is_turn st k r ∙ ap (λ stage. by_turn k (turn st stage (with_rest (st ∷ k) r))) (sym start) ∙ sym (asked_at st k (with_rest (st ∷ k) r) none refl)
