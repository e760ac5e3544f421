-- How many jobs statements give, and how many asks are left for them.
use Rattle.std.proofs.Common.{◌≡◌, ℕ, ◌+◌, ◌-◌, ◌*◌, ◌^◌, ◌<◌, ◌≤◌, min, max, true, false, List, length, get_or, slice_set, replicate, Option, Some, None, IsSome, Result, Ok, Err, IfOk, refl, sym, ap, ◌∙◌, not, arith}
use Rattle.std.proofs.lemmas.List.{length-map}
use Rattle.std.proofs.lemmas.List.Filters.{length-filter_both}
use Rattle.std.specs.Prelude.{filter, is_some}
use Rattle.std.specs.List.{sum}
use Rattle.std.proofs.Props.{props}
use Rattle.std.proofs.lemmas.List.Folds.{sum_by-replicate}
use Rattle.std.proofs.lemmas.List.Sums.{sum_by-set}
use Rattle.fj_outside.specs.declared.outside.FileStore.{Ghosts}
use Rattle.fj_bay.specs.declared.job.Job.{Job}
use Rattle.fj_bay.specs.declared.job.Answer.{Answer}
use Rattle.fj_run_items.specs.declared.lost.Lost.{Lost}
use Rattle.fj_meaning.specs.State.{Entry}
use Rattle.fj_meaning.specs.Telling.{tells_cause}
use Rattle.fj_meaning_jobs.specs.Core.{Connected}
use Rattle.fj_meaning_turns.specs.Few.{most_jobs}
use Rattle.fj_meaning_turns.specs.Turns.{halted_slots}
use Rattle.fj_world.specs.declared.ask.Ask.{Ask}
use Rattle.fj_world.specs.declared.ask.Ask.TheVariants as ask
use Rattle.fj_run_statements.specs.Jobs.{jobs_after, jobs_behind, jobs_of}
use Rattle.fj_run_statements.specs.declared.doing.After.{After}
use Rattle.fj_run_statements.specs.declared.doing.After.TheVariants as after
use Rattle.fj_run_statements.specs.declared.doing.Then.{Then}
use Rattle.fj_run_statements.specs.declared.doing.Then.TheVariants as then
use Rattle.fj_run_statements.specs.declared.doing.Doing.{Doing}
use Rattle.fj_run_statements.specs.declared.doing.Doing.TheVariants as doing
use Rattle.fj_run_script.specs.Admitting.{MayAsk}
use Rattle.fj_run_script.specs.Answering.{with_own}
use Rattle.fj_run_script.proofs.Owning.{own_same}
use Rattle.fj_run_script.specs.Spending.{Gives, Lives, Spends, Spent, jobs_at, jobs_from, jobs_left}
use Rattle.fj_run_script.specs.declared.machine.Machine.{Machine}
use Rattle.fj_run_script.specs.declared.stage.Stage.{Stage}
use Rattle.fj_run_script.specs.declared.stage.Stage.TheVariants as stage
use Rattle.fj_run_script.specs.declared.state.State.{State}
use Rattle.fj_run_script.specs.declared.turned.Turned.{Turned}
use Rattle.fj_run_script.specs.declared.turned.Turned.TheVariants as turned

-- ---- what a statement does next

after_few : (next : After) (units : ℕ) → jobs_after next (units - 1) + 1 ≤ max units 2
after_few (after.Finishes condition) units = omega arith
after_few (after.ClosesAll condition) units = omega arith
after_few (after.Connects number) units = omega arith

then_few : (next : Then) (units : ℕ) → jobs_behind next units + 1 ≤ max units 2
then_few then.Finishes units = omega arith
then_few (then.Carries slot) units = omega arith
then_few (then.Closes number keep next) units = after_few next units
then_few (then.Changes number modes) units = omega arith
then_few (then.Attaches u) units = omega arith
then_few then.Looks units = omega arith

pub doing_few : {F : Type 0} → (does : Doing F) (units : ℕ) → jobs_of does units ≤ max units 2
doing_few (doing.Finishes condition) units = omega arith
doing_few (doing.Gives slot job next) units = omega arith
doing_few (doing.Awaits slot job next) units = then_few next units

-- ---- of so many jobs

pub gives_le : {J : Type 0} → (a : Ask J) (left jobs jobs' : ℕ) → jobs ≤ jobs' → Gives a left jobs → Gives a left jobs'
gives_le (ask.Submit slot job) left jobs jobs' low g = omega (arith, low, g)
gives_le (ask.Settle slot) left jobs jobs' low g = omega (arith, low, g)
gives_le ask.Finished left jobs jobs' low g = absurd g

gives_more : {J : Type 0} → (a : Ask J) (left jobs more : ℕ) → Gives a left jobs → Gives a (left + more) (jobs + more)
gives_more (ask.Submit slot job) left jobs more g = omega (arith, g)
gives_more (ask.Settle slot) left jobs more g = omega (arith, g)
gives_more ask.Finished left jobs more g = absurd g

spends_le : {F : Type 0} {ghosts : Ghosts F} → (jobs jobs' : ℕ) (t : Turned F) (s : State F ghosts) → jobs ≤ jobs' → Spends jobs t s → Spends jobs' t s
spends_le jobs jobs' (turned.Pauses a) s low g = gives_le a (jobs_at s.stage (length s.core.units)) jobs jobs' low g
spends_le jobs jobs' turned.Passes s low g = tt
spends_le jobs jobs' turned.Stops s low g = tt

pub ok_spends : {F : Type 0} {ghosts : Ghosts F} → (r : Result (Turned F) Lost) (jobs jobs' : ℕ) (s : State F ghosts) → jobs ≤ jobs' → IfOk r (λ t. Spends jobs t s) → IfOk r (λ t. Spends jobs' t s)
ok_spends (Ok t) jobs jobs' s low g = spends_le jobs jobs' t s low g
ok_spends (Err e) jobs jobs' s low g = tt

-- ---- halts that end

pub halted_few : (es : List Entry) (us : List Connected) → length (halted_slots es us) ≤ length us
halted_few es us =
    let same : length (halted_slots es us) ≡ length (filter (λ (u : Connected). tells_cause es u.number) us) = length-map (filter (λ (u : Connected). tells_cause es u.number) us) (λ (u : Connected). u.slot) in
    let both = length-filter_both (λ (u : Connected). tells_cause es u.number) (λ (u : Connected). not (tells_cause es u.number)) (λ (u : Connected). refl) us in
    omega (arith, same, both)

-- ---- the statement's own job comes back

pub own_jobs : {F : Type 0} → (slot number : ℕ) (job : Job F) (answer : Answer) (s : Stage F) (units : ℕ) → jobs_at (with_own slot number job answer s) units ≡ jobs_at s units
own_jobs slot number job answer s units = own_same (λ x. jobs_at x units) slot number job answer (λ own last next. refl) s

-- ---- statements behind one another

pub from_next : (statements at : ℕ) → at < statements → most_jobs + jobs_from statements (at + 1) ≡ jobs_from statements at
from_next statements at low = omega (arith, low)

pub from_later : (statements at at' : ℕ) → at ≤ at' → jobs_from statements at' ≤ jobs_from statements at
from_later statements at at' low = omega (arith, low)

-- it finished at a statement that has not begun
pub spent_here : {F : Type 0} {ghosts : Ghosts F} (m mid : Machine F ghosts) → mid.state.stage ≡ stage.Start → mid.deck ≡ m.deck → m.at.place ≤ mid.at.place → Spent {J = ℕ} ask.Finished (jobs_from (length m.deck.statements) m.at.place) mid
spent_here m mid start deck at = λ none inside.
    let statements = length mid.deck.statements in
    let left : jobs_left mid ≡ most_jobs + jobs_from statements (mid.at.place + 1) = ap (λ s. jobs_at s (length mid.state.core.units) + jobs_from statements (mid.at.place + 1)) start in
    let next = from_next statements mid.at.place inside in
    let few = from_later statements m.at.place mid.at.place at in
    let same : jobs_from statements m.at.place ≡ jobs_from (length m.deck.statements) m.at.place = ap (λ d. jobs_from (length d.statements) m.at.place) deck in
    omega (arith, left, next, few, same)

module _ {F J : Type 0} {ghosts : Ghosts F} where
  pub spent_paused : (a : Ask J) (m : Machine F ghosts) (jobs : ℕ) → Gives a (jobs_at m.state.stage (length m.state.core.units)) jobs → Spent a (jobs + jobs_from (length m.deck.statements) (m.at.place + 1)) m
  spent_paused (ask.Submit slot job) m jobs g = gives_more (ask.Submit slot job) (jobs_at m.state.stage (length m.state.core.units)) jobs (jobs_from (length m.deck.statements) (m.at.place + 1)) g
  spent_paused (ask.Settle slot) m jobs g = gives_more {J = J} (ask.Settle slot) (jobs_at m.state.stage (length m.state.core.units)) jobs (jobs_from (length m.deck.statements) (m.at.place + 1)) g
  spent_paused ask.Finished m jobs g = absurd g

  pub spent_le : (a : Ask J) (m : Machine F ghosts) (jobs jobs' : ℕ) → jobs ≤ jobs' → Spent a jobs m → Spent a jobs' m
  spent_le (ask.Submit slot job) m jobs jobs' low g = gives_le (ask.Submit slot job) (jobs_left m) jobs jobs' low g
  spent_le (ask.Settle slot) m jobs jobs' low g = gives_le {J = J} (ask.Settle slot) (jobs_left m) jobs jobs' low g
  spent_le ask.Finished m jobs jobs' low g = λ none inside. let few = g none inside in omega (arith, low, few)

  pub lives : (a : Ask J) (m m' : Machine F ghosts) → m.state.ending ≡ None → m.at.place < length m.deck.statements → Lives a m m'
  lives (ask.Submit slot job) m m' none low = (none, low)
  lives (ask.Settle slot) m m' none low = (none, low)
  lives ask.Finished m m' none low = λ alive. (none, low)

  pub ok_spent : {E : Type 0} → (r : Result (Ask J) E) (m : Machine F ghosts) (jobs jobs' : ℕ) → jobs ≤ jobs' → IfOk r (λ a. Spent a jobs m) → IfOk r (λ a. Spent a jobs' m)
  ok_spent (Ok a) m jobs jobs' low g = spent_le a m jobs jobs' low g
  ok_spent (Err e) m jobs jobs' low g = tt

  pub ok_lives : {E : Type 0} → (r : Result (Ask J) E) (m m' : Machine F ghosts) (jobs : ℕ) → m.state.ending ≡ None → m.at.place < length m.deck.statements → IfOk r (λ a. Spent a jobs m') → IfOk r (λ a. Spent a jobs m' × Lives a m m')
  ok_lives (Ok a) m m' jobs none low g = (g, lives a m m' none low)
  ok_lives (Err e) m m' jobs none low g = tt

pub is_none_by : {X : Type 0} → (o : Option X) → is_some o ≡ false → o ≡ None
is_none_by None e = refl
is_none_by (Some x) e = cc

pub some_ended : {X Y : Type 0} → (o : Option X) → is_some o ≡ true → o ≡ None → Y
some_ended o some none = absurd (let z : false ≡ true = sym (ap is_some none) ∙ some in let bad : ⊥ = cc in bad)

pub none_ended : {X Y : Type 0} → (o : Option X) → IsSome o → o ≡ None → Y
none_ended o some none = absurd (let z : false ≡ true = sym (ap is_some none) ∙ some in let bad : ⊥ = cc in bad)

-- ---- asks

pub may_prop : {J : Type 0} → (a : Ask J) (owed : List ℕ) (left : ℕ) → IsProp (MayAsk a owed left)
may_prop (ask.Submit slot job) owed left = hlevel props
may_prop (ask.Settle slot) owed left = hlevel props
may_prop ask.Finished owed left = hlevel props

pub submit_asks : (owed jobs jobs' hand left : ℕ) → owed + 2 * jobs + hand ≤ left → hand ≡ 0 → jobs' + 1 ≤ jobs → owed + 2 * jobs' + 2 ≤ left
submit_asks owed jobs jobs' hand left few none spent = omega (arith, few, none, spent)

pub settle_asks : (owed jobs jobs' hand left : ℕ) → owed + 2 * jobs + hand ≤ left → hand ≡ 0 → jobs' ≤ jobs → owed + 2 * jobs' + 0 ≤ left
settle_asks owed jobs jobs' hand left few none spent = omega (arith, few, none, spent)

-- one was made
pub took_asks : (owed owed' jobs left left' : ℕ) → owed + 2 * jobs + 2 ≤ left → owed' ≡ owed + 1 → left' + 1 ≡ left → owed' + 2 * jobs + 0 ≤ left'
took_asks owed owed' jobs left left' few more less = omega (arith, few, more, less)

pub told_asks : (owed owed' jobs left left' : ℕ) → owed + 2 * jobs + 0 ≤ left → owed' + 1 ≡ owed → left' + 1 ≡ left → owed' + 2 * jobs + 0 ≤ left'
told_asks owed owed' jobs left left' few more less = omega (arith, few, more, less)

pub submit_left : (owed jobs jobs' hand left : ℕ) → owed + 2 * jobs + hand ≤ left → jobs' + 1 ≤ jobs → 0 < left
submit_left owed jobs jobs' hand left few spent = omega (arith, few, spent)

pub settle_left : (owed one jobs hand left : ℕ) → owed + 2 * jobs + hand ≤ left → 0 < one → one ≤ owed → 0 < left
settle_left owed one jobs hand left few some within = omega (arith, few, some, within)

-- a sound deck has so few statements
pub first_asks : (statements owed hand left : ℕ) → statements ≤ 100000 → 0 < statements → owed ≡ 0 → hand ≡ 0 → left ≡ min (64 * statements) (2 ^ 62 - 1)
    → owed + 2 * (most_jobs + jobs_from statements 1) + hand ≤ left
first_asks statements owed hand left few some none idle is = omega (arith, few, some, none, idle, is)

pub none_owed : (owed : List ℕ) → owed ≡ replicate 16 0 → sum owed ≡ 0
none_owed owed is = ap sum is ∙ sum_by-replicate (λ (n : ℕ). n) 16 0

-- ---- jobs that are owed, in all

-- one more at a slot
pub sum_more : (owed : List ℕ) (slot n : ℕ) → slot < length owed → n ≡ get_or owed slot 0 → sum (slice_set owed slot (n + 1)) ≡ sum owed + 1
sum_more owed slot n within is = let e = sum_by-set (λ (k : ℕ). k) owed slot (n + 1) 0 within in omega (arith, e, is)

-- one fewer
pub sum_fewer : (owed : List ℕ) (slot n : ℕ) → slot < length owed → n ≡ get_or owed slot 0 → 0 < n → sum (slice_set owed slot (n - 1)) + 1 ≡ sum owed
sum_fewer owed slot n within is some = let e = sum_by-set (λ (k : ℕ). k) owed slot (n - 1) 0 within in omega (arith, e, is, some)
