-- Units have the files that are out, and jobs are counted: turn by turn, and ask by ask.
use Rattle.std.proofs.Common.{◌≡◌, ℕ, zero, suc, ◌+◌, ◌-◌, ◌*◌, ◌<◌, ◌≤◌, ◌==◌, ◌&&◌, Bool, true, false, cond, List, [], ◌∷◌, replicate, length, get_or, slice_set, None, IsSome, refl, sym, ap, ◌∙◌, subst, inl, inr, arith}
use Rattle.std.specs.Prelude.{Result, Ok, Err, IfOk, if◌then◌else◌}
use Rattle.std.specs.List.{sum}
use Rattle.std.proofs.Props.{props}
use Rattle.std.proofs.lemmas.List.Sums.{get_or-le-sum_by}
use Rattle.std.proofs.lemmas.Bool.Decides.{eqb_tells}
use Rattle.std.proofs.lemmas.List.{get_or-set_same, get_or-set_other}
use Rattle.fj_outside.specs.declared.outside.FileStore.{Ghosts}
use Rattle.fj_bay.specs.declared.job.Job.{Job}
use Rattle.fj_bay.specs.declared.job.Answer.{Answer}
use Rattle.fj_statement.specs.Sound.{IsSound}
use Rattle.fj_statement.specs.declared.statement.Statement.{Statement}
use Rattle.fj_meaning.specs.Statement.{Stated}
use Rattle.fj_meaning_jobs.specs.Core.{Connected}
use Rattle.fj_world.specs.Conduct.{IsDueAsk, IsSettling, IsSubmitting, owed_after_settle, owed_after_submit}
use Rattle.fj_world.specs.declared.ask.Ask.{Ask}
use Rattle.fj_world.specs.declared.ask.Ask.TheVariants as ask
use Rattle.fj_run_units.specs.Having.{HaveFiles}
use Rattle.fj_meaning.specs.Transfers.{star_limit}
use Rattle.fj_run_statements.specs.Fitting.{IsKept}
use Rattle.fj_run_statements.specs.Having.{HaveThen}
use Rattle.fj_run_statements.specs.declared.doing.Then.{Then}
use Rattle.fj_run_script.specs.Admitting.{MayAsk}
use Rattle.fj_run_script.specs.Answering.{with_own}
use Rattle.fj_run_script.specs.Fitting.{HasRoom}
use Rattle.fj_run_script.specs.Going.{Awaits, CanCount, Counts, DoesNotPause, HaveAt, HaveTurned, Hears, IsAt, AwaitsAtHand, IsGoing, IsMore, KeepsToSlots, OwesAsGiven, SentFor, asked_for, given_ahead}
use Rattle.fj_run_script.specs.Machine.{behind, rest_of}
use Rattle.fj_run_script.specs.Spending.{HasAsks, Lives, Spent, asks_for, jobs_at, jobs_from, jobs_left}
use Rattle.fj_run_script.specs.Tallying.{MaySettle, due_of, owed_at}
use Rattle.fj_run_script.specs.declared.hand.Hand.{Hand}
use Rattle.fj_run_script.specs.declared.hand.Hand.TheVariants.{Idle, Submitting, Settling}
use Rattle.fj_run_script.specs.declared.machine.AtHand.{AtHand}
use Rattle.fj_run_script.specs.declared.machine.Machine.{Machine}
use Rattle.fj_run_script.specs.declared.stage.Stage.{Stage}
use Rattle.fj_run_script.specs.declared.stage.Stage.TheVariants as stage
use Rattle.fj_run_script.specs.declared.state.State.{State}
use Rattle.fj_run_script.specs.declared.tally.Tally.{Tally}
use Rattle.fj_run_script.specs.declared.turned.Turned.{Turned}
use Rattle.fj_run_script.specs.declared.turned.Turned.TheVariants as turned
use Rattle.fj_run_statements.specs.Holding.{MayEnter}
use Rattle.fj_run_statements.specs.declared.doing.Given.{Given}
use Rattle.fj_run_statements.specs.declared.doing.Given.TheVariants as given
use Rattle.fj_run_statements.specs.declared.state.Core.{Core}
use Rattle.fj_run_items.specs.declared.lost.Lost.{Lost}
use Rattle.fj_run_script.proofs.AtHand.{rest_same, same_place}
use Rattle.fj_run_script.proofs.Numbering.{equal_by}
use Rattle.fj_run_script.proofs.Spending.{none_ended, settle_asks, settle_left, submit_asks, submit_left, told_asks, took_asks}

-- ---- one more at a slot

pub is_more : (counts : List ℕ) (slot more : ℕ) → slot < length counts → more ≡ get_or counts slot 0 + 1 → IsMore slot counts (slice_set counts slot more)
is_more counts slot more within is = λ at.
    let due : Bool → ℕ = λ b. if b then get_or counts at 0 + 1 else get_or counts at 0 in
    elim (eqb_tells at slot) [
      | inl a ↦ subst (λ k. get_or (slice_set counts slot more) k 0 ≡ get_or counts k 0 + 1) (sym a.1) (get_or-set_same counts slot more 0 within ∙ is) ∙ sym (ap due a.0)
      | inr a ↦ get_or-set_other counts slot at more 0 a.1 ∙ sym (ap due a.0)
    ]

most_by : (b : Bool) (count more : ℕ) → more ≡ (if b then count + 1 else count) → more ≤ count + 1
most_by true count more e = omega (arith, e)
most_by false count more e = omega (arith, e)

pub one_at_most : (slot : ℕ) (counts counts' : List ℕ) → IsMore slot counts counts' → (at : ℕ) → get_or counts' at 0 ≤ get_or counts at 0 + 1
one_at_most slot counts counts' more at = most_by (at == slot) (get_or counts at 0) (get_or counts' at 0) (more at)

-- ---- the statement's own job comes back

have_by : {F : Type 0} → (b : Bool) (job : Job F) (answer : Answer) (own last : ℕ) (then_ : Then) (names : List (List ℕ)) (us : List Connected) (what : Statement) → HaveThen then_ names us what
    → HaveAt (cond b (stage.Answered then_ job answer) (stage.Awaiting own last then_)) names us what
have_by true job answer own last then_ names us what h = h
have_by false job answer own last then_ names us what h = h

pub have_with : {F : Type 0} → (at n : ℕ) (job : Job F) (answer : Answer) (s : Stage F) (names : List (List ℕ)) (us : List Connected) (what : Statement) → HaveAt s names us what
    → HaveAt (with_own at n job answer s) names us what
have_with at n job answer stage.Start names us what h = h
have_with at n job answer (stage.Waiting whose from) names us what h = h
have_with at n job answer (stage.Resuming slots next condition) names us what h = h
have_with at n job answer (stage.Going next last) names us what h = h
have_with at n job answer (stage.Awaiting own last then_) names us what h = have_by ((own == at) && (last == n)) job answer own last then_ names us what h
have_with at n job answer (stage.Answered then_ other reply) names us what h = h

pub have_start : {F : Type 0} → (s : Stage F) (names : List (List ℕ)) (us : List Connected) (what : Statement) → s ≡ stage.Start → HaveFiles names us → HaveAt s names us what
have_start s names us what is have = subst (λ x. HaveAt x names us what) (sym is) have

pub files_at : {F : Type 0} → (s : Stage F) (names : List (List ℕ)) (us : List Connected) (what : Statement) → s ≡ stage.Start → HaveAt s names us what → HaveFiles names us
files_at s names us what is have = subst (λ x. HaveAt x names us what) is have

-- ---- the record of `*` is within its limit

kept_in : {F : Type 0} {ghosts : Ghosts F} → (m m' : Machine F ghosts) → m'.state ≡ m.state → IsKept m.state.core → IsKept m'.state.core
kept_in {F = F} {ghosts = ghosts} m m' same kept = subst (λ (x : State F ghosts). IsKept x.core) (sym same) kept

-- ---- a turn was taken

module _ {F : Type 0} {ghosts : Ghosts F} (m : Machine F ghosts) (s : State F ghosts) (st : Stated) (more : List Stated) (few : s.ending ≡ None → s.core.next ≤ m.at.place + 1)
    (kept : IsKept m.state.core) where
  at_hand : (st' : Stated) (more' : List Stated) → rest_of m ≡ st ∷ more → rest_of m ≡ st' ∷ more' → st ≡ st'
  at_hand st' more' here e = let both : st ∷ more ≡ st' ∷ more' = sym here ∙ e in cc

  pub on_paused : (a : Ask (Job F)) → rest_of m ≡ st ∷ more → HaveTurned (turned.Pauses a) m.state st.0.what → Counts (turned.Pauses a) s m.state → IsAt m
  on_paused a here have counts = record {
    files = λ st' more' e. subst (λ (x : Stated). HaveAt m.state.stage m.state.core.names m.state.core.units x.0.what) (at_hand st' more' here e) have.0;
    few = λ none. let f = few (sym counts.2 ∙ none) in omega (arith, f, counts.0);
    kept = kept;
  }

  pub on_stopped : (have : (m.state.stage ≡ stage.Start) × HaveFiles m.state.core.names m.state.core.units) → IsSome m.state.ending → IsAt m
  on_stopped have ended = record {
    files = λ st' more' e. have_start m.state.stage m.state.core.names m.state.core.units st'.0.what have.0 have.1;
    few = λ none. none_ended m.state.ending ended none;
    kept = kept;
  }

  pub on_passed : (m' : Machine F ghosts) → m'.state ≡ m.state → m'.deck ≡ m.deck → m'.at ≡ behind m.at → (m.state.stage ≡ stage.Start) × HaveFiles m.state.core.names m.state.core.units
      → m.state.core.next ≤ s.core.next + 1 → m.state.ending ≡ s.ending → IsAt m'
  on_passed m' same deck at have next ending = record {
    files = λ st' more' e. subst (λ (x : State F ghosts). HaveAt x.stage x.core.names x.core.units st'.0.what) (sym same) (have_start m.state.stage m.state.core.names m.state.core.units st'.0.what have.0 have.1);
    few = λ none.
        let f = few (sym ending ∙ ap (λ (x : State F ghosts). x.ending) (sym same) ∙ none) in
        let n : m'.state.core.next ≡ m.state.core.next = ap (λ (x : State F ghosts). x.core.next) same in
        let p : m'.at.place ≡ m.at.place + 1 = ap (λ (a : AtHand). a.place) at in
        omega (arith, f, next, n, p);
    kept = kept_in m m' same kept;
  }

-- one that does not pause gives no job
pub room_kept : {F : Type 0} {ghosts : Ghosts F} → (t : Turned F) (s s' : State F ghosts) → Counts t s s' → DoesNotPause t → HasRoom s.sent.items → HasRoom s'.sent.items
room_kept (turned.Pauses a) s s' counts still room = absurd still
room_kept turned.Passes s s' counts still room = subst (λ l. HasRoom l.items) (sym counts.1) room
room_kept turned.Stops s s' counts still room = subst (λ l. HasRoom l.items) (sym counts.0) room

-- behind a transfer that is made pending
pub entered_next : (next : Given) (number : ℕ) (old new : Core) → MayEnter next number old new → new.next ≤ old.next + 1
entered_next (given.Finishes condition) number old new m = omega (arith, m.1)
entered_next (given.Pends unit slot) number old new (inl m) = omega (arith, m.1)
entered_next (given.Pends unit slot) number old new (inr m) = omega (arith, m.1)

pub count_entered : {F : Type 0} {ghosts : Ghosts F} → (r : Result (Turned F) Lost) (s mid s' : State F ghosts) → mid.core.next ≤ s.core.next + 1 → mid.sent ≡ s.sent → mid.ending ≡ s.ending → s'.core.next ≡ mid.core.next
    → IfOk r (λ t. Counts t mid s') → IfOk r DoesNotPause → IfOk r (λ t. Counts t s s')
count_entered (Ok (turned.Pauses a)) s mid s' few sent ending next counts still = absurd still
count_entered (Ok turned.Passes) s mid s' few sent ending next counts still = (omega (arith, few, next), counts.1 ∙ sent, counts.2 ∙ ending)
count_entered (Ok turned.Stops) s mid s' few sent ending next counts still = (counts.0 ∙ sent, counts.1)
count_entered (Err lost) s mid s' few sent ending next counts still = tt

-- the same statement
pub on_same : {F : Type 0} {ghosts : Ghosts F} → (m m' : Machine F ghosts) → m'.deck ≡ m.deck → m'.at ≡ m.at → m'.state ≡ m.state → IsAt m → IsAt m'
on_same {F = F} {ghosts = ghosts} m m' deck at same on =
    let rest = rest_same m m' deck at in
    record {
      files = λ st more e. subst (λ (x : State F ghosts). HaveAt x.stage x.core.names x.core.units st.0.what) (sym same) (on.files st more (sym rest ∙ e));
      few = λ none.
          let f = on.few (ap (λ (x : State F ghosts). x.ending) (sym same) ∙ none) in
          let n : m'.state.core.next ≡ m.state.core.next = ap (λ (x : State F ghosts). x.core.next) same in
          let p = same_place m m' at in
          omega (arith, f, n, p);
      kept = kept_in m m' same on.kept;
    }

-- ---- counts

pub at_most_one : (hand : Hand) → asked_for hand ≤ 1
at_most_one Idle = omega arith
at_most_one (Submitting slot) = omega arith
at_most_one (Settling slot) = omega arith

none_idle : (hand : Hand) → hand ≡ Idle → asked_for hand ≡ 0
none_idle hand e = ap asked_for e

pub can_asked : {J : Type 0} → (a : Ask J) (hand : Hand) (sent sent' : List ℕ) (left : ℕ) → IsDueAsk (due_of hand) a → SentFor a sent sent' → CanCount sent left 0 → CanCount sent' left (asked_for hand)
can_asked ask.Finished hand sent sent' left due same can = λ slot. let c = can slot in let e : get_or sent' slot 0 ≡ get_or sent slot 0 = ap (λ l. get_or l slot 0) same in omega (arith, c, e)
can_asked (ask.Submit at job) Idle sent sent' left due more can = absurd (let bad : ⊥ = cc in bad)
can_asked (ask.Submit at job) (Submitting n) sent sent' left due more can = λ slot. let c = can slot in let m = one_at_most at sent sent' more slot in omega (arith, c, m)
can_asked (ask.Submit at job) (Settling n) sent sent' left due more can = λ slot. let c = can slot in let m = one_at_most at sent sent' more slot in omega (arith, c, m)
can_asked (ask.Settle at) hand sent sent' left due same can = λ slot. let c = can slot in let e : get_or sent' slot 0 ≡ get_or sent slot 0 = ap (λ l. get_or l slot 0) same in omega (arith, c, e)

-- one ask less is left
pub can_less : (counts : List ℕ) (left left' : ℕ) (hand : Hand) → left' < left → CanCount counts left (asked_for hand) → CanCount counts left' 0
can_less counts left left' hand less can = λ slot. let c = can slot in let one = at_most_one hand in omega (arith, c, one, less)

pub can_later : (counts : List ℕ) (left left' : ℕ) → left' < left → CanCount counts left 0 → CanCount counts left' 0
can_later counts left left' less can = λ slot. let c = can slot in omega (arith, c, less)

-- one more was told, and one ask less is left
pub can_told : (told told' : List ℕ) (left left' : ℕ) → ((slot : ℕ) → get_or told' slot 0 ≤ get_or told slot 0 + 1) → left' < left → CanCount told left 0 → CanCount told' left' 0
can_told told told' left left' more less can = λ slot. let c = can slot in let m = more slot in omega (arith, c, m, less)

pub room_for : (counts : List ℕ) (left ahead : ℕ) → ahead ≤ 1 → CanCount counts left ahead → HasRoom counts
room_for counts left ahead one can = λ slot. let c = can slot in omega (arith, c, one)

pub room_prop : (counts : List ℕ) → IsProp (HasRoom counts)
room_prop counts = hlevel props

-- ---- jobs that are owed

pub owes_prop : (hand : Hand) (owed sent told : List ℕ) → IsProp (OwesAsGiven hand owed sent told)
owes_prop hand owed sent told = hlevel props

owes_by : (b : Bool) (owed told sent sent' : ℕ) → owed + told + 0 ≡ sent → sent' ≡ (if b then sent + 1 else sent) → owed + told + (if b then 1 else 0) ≡ sent'
owes_by true owed told sent sent' e more = omega (arith, e, more)
owes_by false owed told sent sent' e more = omega (arith, e, more)

pub owes_asked : {J : Type 0} → (a : Ask J) (hand : Hand) (owed sent sent' told : List ℕ) → IsDueAsk (due_of hand) a → SentFor a sent sent' → OwesAsGiven Idle owed sent told → OwesAsGiven hand owed sent' told
owes_asked ask.Finished Idle owed sent sent' told due same owes = subst (λ l. OwesAsGiven Idle owed l told) (sym same) owes
owes_asked ask.Finished (Submitting n) owed sent sent' told due same owes = absurd (let bad : ⊥ = cc in bad)
owes_asked ask.Finished (Settling n) owed sent sent' told due same owes = absurd (let bad : ⊥ = cc in bad)
owes_asked (ask.Submit at job) Idle owed sent sent' told due more owes = absurd (let bad : ⊥ = cc in bad)
owes_asked (ask.Submit at job) (Submitting n) owed sent sent' told due more owes =
    let same : at ≡ n = cc in λ slot. owes_by (slot == n) (get_or owed slot 0) (get_or told slot 0) (get_or sent slot 0) (get_or sent' slot 0) (owes slot) (subst (λ k. IsMore k sent sent') same more slot)
owes_asked (ask.Submit at job) (Settling n) owed sent sent' told due more owes = absurd (let bad : ⊥ = cc in bad)
owes_asked (ask.Settle at) Idle owed sent sent' told due same owes = absurd (let bad : ⊥ = cc in bad)
owes_asked (ask.Settle at) (Submitting n) owed sent sent' told due same owes = absurd (let bad : ⊥ = cc in bad)
owes_asked (ask.Settle at) (Settling n) owed sent sent' told due same owes = subst (λ l. OwesAsGiven (Settling n) owed l told) (sym same) owes

owed_took : (b : Bool) (owed told sent owed' : ℕ) → owed + told + (if b then 1 else 0) ≡ sent → owed' ≡ (if b then owed + 1 else owed) → owed' + told + 0 ≡ sent
owed_took true owed told sent owed' e more = omega (arith, e, more)
owed_took false owed told sent owed' e more = omega (arith, e, more)

-- the job at hand is taken
pub owes_took : (hand : Hand) (owed owed' sent told : List ℕ) → ((slot : ℕ) → owed_at owed' slot ≡ owed_after_submit (due_of hand) (owed_at owed) slot) → OwesAsGiven hand owed sent told → OwesAsGiven Idle owed' sent told
owes_took Idle owed owed' sent told more owes = λ slot. let o = owes slot in let m = more slot in omega (arith, o, m)
owes_took (Submitting n) owed owed' sent told more owes = λ slot. owed_took (slot == n) (get_or owed slot 0) (get_or told slot 0) (get_or sent slot 0) (get_or owed' slot 0) (owes slot) (more slot)
owes_took (Settling n) owed owed' sent told more owes = λ slot. let o = owes slot in let m = more slot in omega (arith, o, m)

owed_told : (b : Bool) (owed told sent owed' told' : ℕ) → (b ≡ true → 0 < owed) → owed + told + 0 ≡ sent → owed' ≡ (if b then owed - 1 else owed) → told' ≡ (if b then told + 1 else told) → owed' + told' + 0 ≡ sent
owed_told true owed told sent owed' told' some e less more = let s = some refl in omega (arith, e, less, more, s)
owed_told false owed told sent owed' told' some e less more = omega (arith, e, less, more)

-- the answer at hand is told
pub owes_told : {F : Type 0} {ghosts : Ghosts F} → (hand : Hand) (over : Bool) (left : ℕ) (s : State F ghosts) (owed owed' told' : List ℕ) → MaySettle hand over left owed → IsSettling (due_of hand) → AwaitsAtHand hand s
    → ((slot : ℕ) → owed_at owed' slot ≡ owed_after_settle (due_of hand) (owed_at owed) slot) → IsMore s.due s.told.items told' → OwesAsGiven hand owed s.sent.items s.told.items → OwesAsGiven Idle owed' s.sent.items told'
owes_told Idle over left s owed owed' told' may settling w less more owes = absurd settling
owes_told (Submitting n) over left s owed owed' told' may settling w less more owes = absurd settling
owes_told (Settling n) over left s owed owed' told' may settling w less more owes = λ slot.
    owed_told (slot == n) (get_or owed slot 0) (get_or s.told.items slot 0) (get_or s.sent.items slot 0) (get_or owed' slot 0) (get_or told' slot 0)
    (λ e. subst (λ k. 0 < get_or owed k 0) (sym (equal_by slot n e)) (may n refl).3) (owes slot) (less slot) (subst (λ k. IsMore k s.told.items told') w.due more slot)

-- ---- an answer that is awaited

pub awaited_asked : {F : Type 0} {ghosts : Ghosts F} → (a : Ask (Job F)) (hand : Hand) (s : State F ghosts) → IsDueAsk (due_of hand) a → KeepsToSlots a s → AwaitsAtHand hand s
awaited_asked a Idle s due keeps = tt
awaited_asked a (Submitting n) s due keeps = tt
awaited_asked ask.Finished (Settling n) s due keeps = absurd (let bad : ⊥ = cc in bad)
awaited_asked (ask.Submit at job) (Settling n) s due keeps = absurd (let bad : ⊥ = cc in bad)
awaited_asked (ask.Settle at) (Settling n) s due keeps = let same : at ≡ n = cc in subst (λ k. Awaits k s) same keeps

pub none_awaited : {F : Type 0} {ghosts : Ghosts F} → (hand : Hand) (s : State F ghosts) → hand ≡ Idle → AwaitsAtHand hand s
none_awaited hand s idle = subst (λ h. AwaitsAtHand h s) (sym idle) tt

-- so it may be asked for, where as many asks are left as the deck may still make
pub may_ask : {F : Type 0} {ghosts : Ghosts F} → (a : Ask (Job F)) (m mid : Machine F ghosts) → m.tally.hand ≡ Idle → OwesAsGiven m.tally.hand m.tally.owed.items m.state.sent.items mid.state.told.items
    → SentFor a m.state.sent.items mid.state.sent.items → KeepsToSlots a mid.state → HasAsks m → Spent a (jobs_left m) mid → Lives a m mid → MayAsk a m.tally.owed.items m.tally.left
may_ask ask.Finished m mid idle owes same keeps asks spent lives = tt
may_ask (ask.Submit at job) m mid idle owes more keeps asks spent lives =
    (omega (arith, keeps), submit_left (sum m.tally.owed.items) (jobs_left m) (jobs_left mid) (asks_for m.tally.hand) m.tally.left (asks lives.0 lives.1) spent)
may_ask (ask.Settle at) m mid idle owes same keeps asks spent lives =
    let hand = m.tally.hand in
    let owed = m.tally.owed.items in
    let o = owes at in
    let none : given_ahead hand at ≡ 0 = ap (λ h. given_ahead h at) idle in
    let e : get_or mid.state.sent.items at 0 ≡ get_or m.state.sent.items at 0 = ap (λ l. get_or l at 0) same in
    let some : 0 < get_or owed at 0 = omega (arith, o, none, e, keeps.owed) in
    let within : at < length owed = omega (arith, keeps.inside, m.tally.sixteen) in
    let part = get_or-le-sum_by (λ (n : ℕ). n) owed at 0 within in
    (omega (arith, keeps.inside), some, settle_left (sum owed) (get_or owed at 0) (jobs_left m) (asks_for hand) m.tally.left (asks lives.0 lives.1) some part)

module _ {F : Type 0} {ghosts : Ghosts F} (hand : Hand) (s : State F ghosts) (settling : IsSettling (due_of hand)) (awaited : AwaitsAtHand hand s) where
  -- that of the slot of the last Settle
  pub awaits_due : Awaits s.due s
  awaits_due = by hand settling awaited
    where
      by : (h : Hand) → IsSettling (due_of h) → AwaitsAtHand h s → Awaits s.due s
      by Idle st w = absurd st
      by (Submitting n) st w = absurd st
      by (Settling n) st w = subst (λ k. Awaits k s) (sym w.due) w

pub still_going : (a b : Bool) → (a ≡ true → b ≡ true) → b ≡ false → a ≡ false
still_going true b up e = absurd (let z : true ≡ false = sym (up refl) ∙ e in let bad : ⊥ = cc in bad)
still_going false b up e = refl

-- ---- asks that are left

none_asked : (hand : Hand) → hand ≡ Idle → asks_for hand ≡ 0
none_asked hand e = ap asks_for e

submitting_asks : (hand : Hand) → IsSubmitting (due_of hand) → asks_for hand ≡ 2
submitting_asks Idle s = absurd s
submitting_asks (Submitting n) s = refl
submitting_asks (Settling n) s = absurd s

settling_asks : (hand : Hand) → IsSettling (due_of hand) → asks_for hand ≡ 0
settling_asks Idle s = absurd s
settling_asks (Submitting n) s = absurd s
settling_asks (Settling n) s = refl

module _ {F : Type 0} {ghosts : Ghosts F} (m m' : Machine F ghosts) where
  still_inside : m'.deck ≡ m.deck → m'.at ≡ m.at → m'.at.place < length m'.deck.statements → m.at.place < length m.deck.statements
  still_inside deck at low = subst (λ (a : AtHand). a.place < length m.deck.statements) at (subst (λ d. m'.at.place < length d.statements) deck low)

  jobs_same : m'.deck ≡ m.deck → m'.at ≡ m.at → m'.state.stage ≡ m.state.stage → m'.state.core.units ≡ m.state.core.units → jobs_left m' ≡ jobs_left m
  jobs_same deck at stage units =
      ap (λ d. jobs_at m'.state.stage (length m'.state.core.units) + jobs_from (length d.statements) (m'.at.place + 1)) deck
      ∙ ap (λ (a : AtHand). jobs_at m'.state.stage (length m'.state.core.units) + jobs_from (length m.deck.statements) (a.place + 1)) at
      ∙ ap (λ s. jobs_at s (length m'.state.core.units) + jobs_from (length m.deck.statements) (m.at.place + 1)) stage
      ∙ ap (λ us. jobs_at m.state.stage (length us) + jobs_from (length m.deck.statements) (m.at.place + 1)) units

  jobs_heard : m'.deck ≡ m.deck → m'.at ≡ m.at → Hears m.state m'.state → jobs_left m' ≡ jobs_left m
  jobs_heard deck at h =
      ap (λ d. jobs_at m'.state.stage (length m'.state.core.units) + jobs_from (length d.statements) (m'.at.place + 1)) deck
      ∙ ap (λ (a : AtHand). jobs_at m'.state.stage (length m'.state.core.units) + jobs_from (length m.deck.statements) (a.place + 1)) at
      ∙ ap (λ n. n + jobs_from (length m.deck.statements) (m.at.place + 1)) (h.jobs (length m'.state.core.units))
      ∙ ap (λ us. jobs_at m.state.stage (length us) + jobs_from (length m.deck.statements) (m.at.place + 1)) h.units

  has_asks : (mid : Machine F ghosts) (a : Ask (Job F)) → m.tally.hand ≡ Idle → m'.deck ≡ mid.deck → m'.at ≡ mid.at → m'.state ≡ mid.state → m'.tally.left ≡ m.tally.left → m'.tally.owed ≡ m.tally.owed
      → IsDueAsk (due_of m'.tally.hand) a → HasAsks m → Spent a (jobs_left m) mid → Lives a m mid → HasAsks m'
  has_asks mid a idle deck at state left owed due asks spent lives = λ none low.
      let hand = m'.tally.hand in
      let have : sum m.tally.owed.items + 2 * jobs_left mid + asks_for hand ≤ m.tally.left =
      by a hand due spent lives (ap (λ (x : State F ghosts). x.ending) (sym state) ∙ none) (subst (λ (a : AtHand). a.place < length mid.deck.statements) at (subst (λ d. m'.at.place < length d.statements) deck low)) in
      let same = jobs_between mid deck at state in
      subst (λ n. sum m'.tally.owed.items + 2 * jobs_left m' + asks_for hand ≤ n) (sym left)
      (subst (λ o. sum o.items + 2 * jobs_left m' + asks_for hand ≤ m.tally.left) (sym owed)
      (subst (λ k. sum m.tally.owed.items + 2 * k + asks_for hand ≤ m.tally.left) (sym same) have))
    where
      jobs_between : (mid : Machine F ghosts) → m'.deck ≡ mid.deck → m'.at ≡ mid.at → m'.state ≡ mid.state → jobs_left m' ≡ jobs_left mid
      jobs_between mid deck at state =
          ap (λ d. jobs_at m'.state.stage (length m'.state.core.units) + jobs_from (length d.statements) (m'.at.place + 1)) deck
          ∙ ap (λ (a : AtHand). jobs_at m'.state.stage (length m'.state.core.units) + jobs_from (length mid.deck.statements) (a.place + 1)) at
          ∙ ap (λ (x : State F ghosts). jobs_at x.stage (length x.core.units) + jobs_from (length mid.deck.statements) (mid.at.place + 1)) state

      by : (b : Ask (Job F)) (hand : Hand) → IsDueAsk (due_of hand) b → Spent b (jobs_left m) mid → Lives b m mid → mid.state.ending ≡ None → mid.at.place < length mid.deck.statements
          → sum m.tally.owed.items + 2 * jobs_left mid + asks_for hand ≤ m.tally.left
      by ask.Finished Idle d sp li none low =
          let alive = li (none, low) in
          settle_asks (sum m.tally.owed.items) (jobs_left m) (jobs_left mid) (asks_for m.tally.hand) m.tally.left (asks alive.0 alive.1) (none_asked m.tally.hand idle) (sp none low)
      by ask.Finished (Submitting n) d sp li none low = absurd (let bad : ⊥ = cc in bad)
      by ask.Finished (Settling n) d sp li none low = absurd (let bad : ⊥ = cc in bad)
      by (ask.Submit at job) Idle d sp li none low = absurd (let bad : ⊥ = cc in bad)
      by (ask.Submit at job) (Submitting n) d sp li none low = submit_asks (sum m.tally.owed.items) (jobs_left m) (jobs_left mid) (asks_for m.tally.hand) m.tally.left (asks li.0 li.1) (none_asked m.tally.hand idle) sp
      by (ask.Submit at job) (Settling n) d sp li none low = absurd (let bad : ⊥ = cc in bad)
      by (ask.Settle at) Idle d sp li none low = absurd (let bad : ⊥ = cc in bad)
      by (ask.Settle at) (Submitting n) d sp li none low = absurd (let bad : ⊥ = cc in bad)
      by (ask.Settle at) (Settling n) d sp li none low = settle_asks (sum m.tally.owed.items) (jobs_left m) (jobs_left mid) (asks_for m.tally.hand) m.tally.left (asks li.0 li.1) (none_asked m.tally.hand idle) sp

-- as many statements are left in another deck
pub known_asks : {F : Type 0} {ghosts : Ghosts F} → (m : Machine F ghosts) (statements : ℕ) → length m.deck.statements ≡ statements → HasAsks m
    → m.state.ending ≡ None → m.at.place < statements → sum m.tally.owed.items + 2 * (jobs_at m.state.stage (length m.state.core.units) + jobs_from statements (m.at.place + 1)) + asks_for m.tally.hand ≤ m.tally.left
known_asks m statements long asks =
    subst (λ n. m.state.ending ≡ None → m.at.place < n → sum m.tally.owed.items + 2 * (jobs_at m.state.stage (length m.state.core.units) + jobs_from n (m.at.place + 1)) + asks_for m.tally.hand ≤ m.tally.left) long asks

-- ---- one call

module _ {F : Type 0} {ghosts : Ghosts F} (m m' : Machine F ghosts) (g : IsGoing m) where
  pub going_asked : (mid : Machine F ghosts) (a : Ask (Job F)) → m.tally.hand ≡ Idle → IsAt mid → mid.deck ≡ m.deck → mid.tally ≡ m.tally → SentFor a m.state.sent.items mid.state.sent.items → KeepsToSlots a mid.state
      → mid.state.told ≡ m.state.told → m'.deck ≡ mid.deck → m'.at ≡ mid.at → m'.state ≡ mid.state → m'.tally.left ≡ mid.tally.left → m'.tally.owed ≡ mid.tally.owed → IsDueAsk (due_of m'.tally.hand) a
      → Spent a (jobs_left m) mid → Lives a m mid → IsGoing m'
  going_asked mid a idle on deck tally sent keeps told deck' at' state' left' owed' due spent lives =
      let left : m'.tally.left ≡ m.tally.left = left' ∙ ap (λ t. t.left) tally in
      record {
        sound = subst (λ d. IsSound d) (sym (deck' ∙ deck)) g.sound;
        at = on_same mid m' deck' at' state' on;
        sent = subst (λ k. CanCount m'.state.sent.items k (asked_for m'.tally.hand)) (sym left)
            (subst (λ (x : State F ghosts). CanCount x.sent.items m.tally.left (asked_for m'.tally.hand)) (sym state')
            (can_asked a m'.tally.hand m.state.sent.items mid.state.sent.items m.tally.left due sent (subst (CanCount m.state.sent.items m.tally.left) (none_idle m.tally.hand idle) g.sent)));
        told = subst (λ k. CanCount m'.state.told.items k 0) (sym left)
            (subst (λ (x : State F ghosts). CanCount x.told.items m.tally.left 0) (sym state') (subst (λ l. CanCount l.items m.tally.left 0) (sym told) g.told));
        owes = subst (λ o. OwesAsGiven m'.tally.hand o.items m'.state.sent.items m'.state.told.items) (sym (owed' ∙ ap (λ t. t.owed) tally))
            (subst (λ (x : State F ghosts). OwesAsGiven m'.tally.hand m.tally.owed.items x.sent.items x.told.items) (sym state')
            (subst (λ l. OwesAsGiven m'.tally.hand m.tally.owed.items mid.state.sent.items l.items) (sym told)
            (owes_asked a m'.tally.hand m.tally.owed.items m.state.sent.items mid.state.sent.items m.state.told.items due sent
            (subst (λ h. OwesAsGiven h m.tally.owed.items m.state.sent.items m.state.told.items) idle g.owes))));
        awaited = subst (AwaitsAtHand m'.tally.hand) (sym state') (awaited_asked a m'.tally.hand mid.state due keeps);
        asks = has_asks m m' mid a idle deck' at' state' left (owed' ∙ ap (λ t. t.owed) tally) due g.asks spent lives;
      }

  -- a job was taken
  pub going_took : m'.deck ≡ m.deck → m'.at ≡ m.at → m'.state ≡ m.state → m'.tally.left + 1 ≡ m.tally.left → m'.tally.hand ≡ Idle → IsSubmitting (due_of m.tally.hand) → sum m'.tally.owed.items ≡ sum m.tally.owed.items + 1
      → ((slot : ℕ) → owed_at m'.tally.owed.items slot ≡ owed_after_submit (due_of m.tally.hand) (owed_at m.tally.owed.items) slot) → IsGoing m'
  going_took deck at state one_less idle submitting one_more owed = let less : m'.tally.left < m.tally.left = omega (arith, one_less) in record {
    sound = subst (λ d. IsSound d) (sym deck) g.sound;
    at = on_same m m' deck at state g.at;
    sent = subst (CanCount m'.state.sent.items m'.tally.left) (sym (none_idle m'.tally.hand idle))
        (subst (λ (x : State F ghosts). CanCount x.sent.items m'.tally.left 0) (sym state) (can_less m.state.sent.items m.tally.left m'.tally.left m.tally.hand less g.sent));
    told = subst (λ (x : State F ghosts). CanCount x.told.items m'.tally.left 0) (sym state) (can_later m.state.told.items m.tally.left m'.tally.left less g.told);
    owes = subst (λ h. OwesAsGiven h m'.tally.owed.items m'.state.sent.items m'.state.told.items) (sym idle)
        (subst (λ (x : State F ghosts). OwesAsGiven Idle m'.tally.owed.items x.sent.items x.told.items) (sym state)
        (owes_took m.tally.hand m.tally.owed.items m'.tally.owed.items m.state.sent.items m.state.told.items owed g.owes));
    awaited = none_awaited m'.tally.hand m'.state idle;
    asks = λ none low.
        let same = jobs_same m m' deck at (ap (λ (x : State F ghosts). x.stage) state) (ap (λ (x : State F ghosts). x.core.units) state) in
        subst (λ k. sum m'.tally.owed.items + 2 * jobs_left m' + k ≤ m'.tally.left) (sym (ap asks_for idle)) (subst (λ k. sum m'.tally.owed.items + 2 * k + 0 ≤ m'.tally.left) (sym same)
        (took_asks (sum m.tally.owed.items) (sum m'.tally.owed.items) (jobs_left m) m.tally.left m'.tally.left
        (subst (λ k. sum m.tally.owed.items + 2 * jobs_left m + k ≤ m.tally.left) (submitting_asks m.tally.hand submitting) (g.asks (ap (λ (x : State F ghosts). x.ending) (sym state) ∙ none) (still_inside m m' deck at low))) one_more one_less));
  }

  -- an answer was told
  pub going_told : m'.deck ≡ m.deck → m'.at ≡ m.at → Hears m.state m'.state → m'.tally.left + 1 ≡ m.tally.left → m'.tally.hand ≡ Idle → IsSettling (due_of m.tally.hand) → sum m'.tally.owed.items + 1 ≡ sum m.tally.owed.items
      → ((slot : ℕ) → owed_at m'.tally.owed.items slot ≡ owed_after_settle (due_of m.tally.hand) (owed_at m.tally.owed.items) slot) → IsGoing m'
  going_told deck at h one_less idle settling one_fewer owed =
      let less : m'.tally.left < m.tally.left = omega (arith, one_less) in
      let rest = rest_same m m' deck at in
      record {
        sound = subst (λ d. IsSound d) (sym deck) g.sound;
        at = record {
          files = λ st more e. h.files st.0.what (g.at.files st more (sym rest ∙ e));
          few = λ none. let f = g.at.few (sym h.ending ∙ none) in let p = same_place m m' at in omega (arith, f, h.next, p);
          kept = subst (λ o. o.begun ≤ star_limit) (sym h.output) g.at.kept;
        };
        sent = subst (CanCount m'.state.sent.items m'.tally.left) (sym (none_idle m'.tally.hand idle))
            (subst (λ l. CanCount l.items m'.tally.left 0) (sym h.sent) (can_less m.state.sent.items m.tally.left m'.tally.left m.tally.hand less g.sent));
        told = can_told m.state.told.items m'.state.told.items m.tally.left m'.tally.left (one_at_most m.state.due m.state.told.items m'.state.told.items h.told) less g.told;
        owes = subst (λ x. OwesAsGiven x m'.tally.owed.items m'.state.sent.items m'.state.told.items) (sym idle)
            (subst (λ l. OwesAsGiven Idle m'.tally.owed.items l.items m'.state.told.items) (sym h.sent)
            (owes_told m.tally.hand m.tally.over m.tally.left m.state m.tally.owed.items m'.tally.owed.items m'.state.told.items m.tally.settles settling g.awaited owed h.told g.owes));
        awaited = none_awaited m'.tally.hand m'.state idle;
        asks = λ none low.
            let same = jobs_heard m m' deck at h in
            subst (λ k. sum m'.tally.owed.items + 2 * jobs_left m' + k ≤ m'.tally.left) (sym (ap asks_for idle)) (subst (λ k. sum m'.tally.owed.items + 2 * k + 0 ≤ m'.tally.left) (sym same)
            (told_asks (sum m.tally.owed.items) (sum m'.tally.owed.items) (jobs_left m) m.tally.left m'.tally.left
            (subst (λ k. sum m.tally.owed.items + 2 * jobs_left m + k ≤ m.tally.left) (settling_asks m.tally.hand settling) (g.asks (sym h.ending ∙ none) (still_inside m m' deck at low))) one_fewer one_less));
      }

-- ---- the first one

-- no unit has a file that is out
pub first_files : (names : List (List ℕ)) (us : List Connected) → names ≡ [] → us ≡ [] → HaveFiles names us
first_files names us no_names no_units = subst (λ ns. HaveFiles ns us) (sym no_names) (subst (HaveFiles []) (sym no_units) (λ name. refl, tt))

-- nothing is counted yet
pub first_can : (tally : Tally) (counts : List ℕ) → tally.owed.items ≡ replicate 16 0 → counts ≡ replicate 16 0 → CanCount counts tally.left 0
first_can tally counts owed none = λ slot.
    let f = tally.few slot in
    let e : get_or tally.owed.items slot 0 ≡ get_or counts slot 0 = ap (λ l. get_or l slot 0) (owed ∙ sym none) in
    omega (arith, f, e)

none_counted : (n slot : ℕ) → get_or (replicate n zero) slot zero ≡ zero
none_counted zero slot = refl
none_counted (suc n) zero = refl
none_counted (suc n) (suc slot) = none_counted n slot

pub first_owes : (hand : Hand) (owed sent told : List ℕ) → hand ≡ Idle → owed ≡ replicate 16 0 → sent ≡ replicate 16 0 → told ≡ replicate 16 0 → OwesAsGiven hand owed sent told
first_owes hand owed sent told idle none_owed none_sent none_told = λ slot.
    let none = none_counted 16 slot in
    let o : get_or owed slot 0 ≡ 0 = ap (λ l. get_or l slot 0) none_owed ∙ none in
    let s : get_or sent slot 0 ≡ 0 = ap (λ l. get_or l slot 0) none_sent ∙ none in
    let t : get_or told slot 0 ≡ 0 = ap (λ l. get_or l slot 0) none_told ∙ none in
    let a : given_ahead hand slot ≡ 0 = ap (λ h. given_ahead h slot) idle in
    omega (arith, o, s, t, a)
