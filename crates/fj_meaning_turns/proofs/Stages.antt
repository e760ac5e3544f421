-- The runner at each stage of a statement, and what its turn comes to from there.
use Rattle.std.proofs.Common.{◌≡◌, ◌⊎◌, ℕ, zero, suc, ◌<◌, ◌≤◌, true, List, [], ◌∷◌, ◌++◌, map, length, Option, Some, None, is_some, slice_get, set, get_or, refl, sym, ap, ◌∙◌, subst, inl, inr, arith}
use Rattle.std.proofs.lemmas.List.{length-append}
use Rattle.fj_statement.specs.declared.deck.Variable.{Variable}
use Rattle.fj_slot.specs.Serving.{Meaning}
use Rattle.fj_slot.specs.Sound.{outcome}
use Rattle.fj_world.specs.declared.ask.Ask.TheVariants.{Submit, Settle, Finished}
use Rattle.fj_world.specs.Plain.{PlainSlot}
use Rattle.fj_world.proofs.Places.{slice_get_in}
use Rattle.fj_bay.specs.Bay.{Bay}
use Rattle.fj_bay.specs.Jobs.{Job, Answer}
use Rattle.fj_meaning.specs.State.{Output, Tell}
use Rattle.fj_meaning.specs.Statement.{Stated, Ending, ends}
use Rattle.fj_meaning.specs.Telling.{tell_of}
use Rattle.fj_meaning_jobs.specs.Core.{Core}
use Rattle.fj_meaning_jobs.specs.Desks.{Desk, Outcome, carry, log_at, log_length, most_slots}
use Rattle.fj_meaning_jobs.specs.Desks as desks
use Rattle.fj_meaning_jobs.specs.Doing.{Doing, finishes, gives, awaits, Desked, acted}
use Rattle.fj_meaning_jobs.specs.Desking.{completed, goes_on, desk_step}
use Rattle.fj_meaning_turns.specs.Run.{Stage, Start, Waiting, Acting, Awaiting, Run}
use Rattle.fj_meaning_turns.specs.Turns.{Turn, Pauses, Passes, Stops, with_core, bump, submits, finish_by, with_iostat, turn_act, rule_of, told_of}
use Rattle.fj_meaning_turns.specs.Serving.{over_bays}
use Rattle.fj_meaning_turns.specs.Inside.{waited_at, does, walked}
use Rattle.fj_meaning_turns.specs.Passing.{output_of}
use Rattle.fj_meaning_turns.specs.Awaiting.{IsAwaited}
use Rattle.fj_meaning_turns.proofs.Awaited.{OwnTold, TransfersTold, own_given, all_awaited}
use Rattle.fj_meaning_turns.proofs.Slots.{each_at, set_found}
use Rattle.fj_meaning_turns.proofs.Ties.{Ties, more, given, told_found, sent_found}
use Rattle.fj_meaning_turns.proofs.Tying.{core_ties, pending_ties, submit_ties}
use Rattle.fj_meaning_turns.proofs.EachKind.{Housed, Starts, Keeps}
use Rattle.fj_meaning_turns.proofs.Acted.{walked_more, logged_at, logs_more, sent_log}
use Rattle.fj_meaning_turns.proofs.Statements.{acts_are, step_is}
use Rattle.fj_meaning_turns.proofs.Printing.{Silent, Quiet, silent_quiet, silent_acted}

-- a transfer that is not told was given, and is pending
abbrev pub Pended : Core → Run → List Desk → Doing → Type 0
Pended from r ds d = (slot : ℕ) × (number : ℕ) × (get_or r.told slot 0 ≤ number) × (number < log_length (slice_get ds slot)) × Starts from slot number d

-- ---- where it stands, the statement being this one and the execution over desks being just before it

module _ {E J A : Type 0} (m : Meaning E J A Bay Job Answer) (variables : List Variable) (st : Stated) (p : Desked) where
  -- the tells once its transfers are told
  abbrev pub tells_then : List Tell
  tells_then = p.core.tells ++ map (tell_of st.0.line) (waited_at st p)

  -- its transfers are told, it gave so many jobs, and this is what it does next
  pub record Onward (r : Run) (qs : List (PlainSlot Bay Job)) (d : Doing) : Type 0 where
    pub now : Desked
    pub ties : Ties m r qs now
    pub jobs : ℕ
    pub walk : walked jobs p.desks (does variables st p) ≡ (now.desks, d)
    pub own : OwnTold variables st p jobs r.told
    pub transfers : TransfersTold variables st p r.told
    pub from : Core
    pub book : r.core.book ≡ from.book
    pub keeps : Keeps from d ⊎ Pended from r now.desks d
    pub from_tells : from.tells ≡ tells_then
    pub tells : r.core.tells ≡ tells_then
    pub output : r.core.output ≡ p.core.output
    pub quiet : Quiet p.core.output d

  -- behind so many others it gave its own job, and waits for it
  pub record Awaited (r : Run) (qs : List (PlainSlot Bay Job)) (slot number : ℕ) (next : Outcome → Doing) : Type 0 where
    pub now : Desked
    pub ties : Ties m r qs now
    pub jobs : ℕ
    pub at : List Desk
    pub job : Job
    pub walk : walked jobs p.desks (does variables st p) ≡ (at, awaits slot job now.core next)
    pub own : OwnTold variables st p jobs r.told
    pub transfers : TransfersTold variables st p r.told
    pub number_is : number ≡ log_length (slice_get at slot)
    pub carried : now.desks ≡ carry at slot job
    pub logged : log_at (slice_get now.desks slot) number ≡ Some (desks.outcome at slot job)
    pub inside : slot < most_slots
    pub untold : get_or r.told slot 0 ≤ number
    pub submitted : number < get_or r.sent slot 0
    pub from : Core
    pub book : r.core.book ≡ from.book
    pub keeps : (o : Outcome) → Keeps from (next o)
    pub from_tells : from.tells ≡ tells_then
    pub tells : r.core.tells ≡ tells_then
    pub output : r.core.output ≡ p.core.output
    pub silent : (o : Outcome) → Silent p.core.output (next o)

  abbrev pub IsAllowed : Type 0
  IsAllowed = rule_of variables st p.core ≡ None

  abbrev pub AtStage : Run → List (PlainSlot Bay Job) → Stage → Type 0
  AtStage r qs Start = Ties m r qs p
  AtStage r qs Waiting = Ties m r qs p × IsAllowed
  AtStage r qs (Acting d) = Onward r qs d × IsAllowed
  AtStage r qs (Awaiting slot number next) = Awaited r qs slot number next × IsAllowed

  -- ---- what its turn comes to

  -- its ask was answered, and it stands inside the same statement
  pub record Paused (rest : List Stated) (run : Run) (qs : List (PlainSlot Bay Job)) : Type 0 where
    pub stands : AtStage run qs run.stage
    pub rest_same : run.rest ≡ rest
    pub variables_same : run.variables ≡ variables
    pub going : run.ending ≡ None

  -- the statement is done, and with it what it does over desks; each job that it waits for was told
  pub record Passed (run : Run) (qs : List (PlainSlot Bay Job)) : Type 0 where
    pub ties : Ties m run qs (desk_step variables st p).0
    pub onward : (desk_step variables st p).1 ≡ None
    pub awaited : (slot number : ℕ) → IsAwaited variables st p slot number → number < get_or run.told slot 0
    pub start : run.stage ≡ Start
    pub variables_same : run.variables ≡ variables
    pub going : run.ending ≡ None

  pub record Stopped (rest : List Stated) (run : Run) : Type 0 where
    pub ended : (desk_step variables st p).1 ≡ run.ending
    pub some : is_some run.ending ≡ true
    pub rest_same : run.rest ≡ rest

  abbrev pub TurnComes : List Stated → List (PlainSlot Bay Job) → Turn → Type 0
  TurnComes rest qs (Pauses (Submit slot job) run) = (q : PlainSlot Bay Job) × (slice_get qs slot ≡ Some q) × Paused rest run (set qs slot (given q job))
  TurnComes rest qs (Pauses (Settle slot) run) =
      (q : PlainSlot Bay Job) × (slice_get qs slot ≡ Some q) × (o : Outcome) × (outcome (over_bays m) q.start q.jobs q.told ≡ Some o) × Paused rest (told_of run o) (set qs slot (more q))
  TurnComes rest qs (Pauses Finished run) = ⊥
  TurnComes rest qs (Passes run) = Passed run qs
  TurnComes rest qs (Stops run) = Stopped rest run

  -- and to the output that the statement leaves
  abbrev pub Leaves : Turn → Type 0
  Leaves t = output_of t ≡ (desk_step variables st p).0.core.output

-- ---- what is done over desks

acted_walked : (k : ℕ) (ds : List Desk) (d : Doing) → acted (walked k ds d).0 (walked k ds d).1 ≡ acted ds d
acted_walked zero ds d = refl
acted_walked (suc k) ds (finishes core condition) = refl
acted_walked (suc k) ds (gives slot job core next) = acted_walked k (carry ds slot job) (next (log_length (slice_get ds slot)))
acted_walked (suc k) ds (awaits slot job core next) = acted_walked k (carry ds slot job) (next (desks.outcome ds slot job))

-- a statement that is not prohibited does what is left of it
step_walked : (variables : List Variable) (st : Stated) (p : Desked) (k : ℕ) (ds : List Desk) (d : Doing) → rule_of variables st p.core ≡ None → walked k p.desks (does variables st p) ≡ (ds, d)
    → desk_step variables st p ≡ completed variables st.0.line st.0.what (acted ds d)
step_walked variables st p k ds d allowed walk =
    step_is variables st p ∙ ap (goes_on st.1 variables st.0.line st.0.what p) allowed
    ∙ ap (completed variables st.0.line st.0.what) (sym (acts_are variables st p) ∙ sym (acted_walked k p.desks (does variables st p)) ∙ ap (λ w. acted w.0 w.1) walk)

pub step_output : (variables : List Variable) (st : Stated) (p : Desked) (k : ℕ) (ds : List Desk) (d : Doing) (o : Output) → rule_of variables st p.core ≡ None → walked k p.desks (does variables st p) ≡ (ds, d)
    → Silent o d → (desk_step variables st p).0.core.output ≡ o
step_output variables st p k ds d o allowed walk quiet = ap (λ s. s.0.core.output) (step_walked variables st p k ds d allowed walk) ∙ silent_acted o d ds quiet

-- one job more
pub walk_on : (k : ℕ) (ds behind : List Desk) (d next : Doing) → walked k ds d ≡ (behind, next) → walked (suc k) ds d ≡ walked 1 behind next
walk_on k ds behind d next e = walked_more k ds d ∙ ap (λ w. walked 1 w.0 w.1) e

finish_output : (o : Option Ending) (run : Run) → output_of (finish_by o run) ≡ run.core.output
finish_output None run = refl
finish_output (Some e) run = refl

module _ {E J A : Type 0} (m : Meaning E J A Bay Job Answer) where
  pub restart : (stage : Stage) (r : Run) (qs : List (PlainSlot Bay Job)) (p : Desked) → Ties m r qs p → Ties m (record r { stage = stage }) qs p
  restart stage r qs p t = record { core = t.core; desks = t.desks; sent = t.sent; told = t.told; within = t.within; slots = t.slots; housed = t.housed; same = t.same; kept = t.kept }

  -- ---- it finishes

  finish_comes : (st : Stated) (p : Desked) (run : Run) (qs : List (PlainSlot Bay Job)) (ds : List Desk) (o : Option Ending) → Ties m run qs (record { core = run.core; desks = ds })
      → desk_step run.variables st p ≡ (record { core = run.core; desks = ds }, o) → ((slot number : ℕ) → IsAwaited run.variables st p slot number → number < get_or run.told slot 0) → run.ending ≡ None → TurnComes m run.variables st p run.rest qs (finish_by o run)
  finish_comes st p run qs ds None t e awaited none = record {
    ties = subst (λ d. Ties m (record run { stage = Start }) qs d) (sym (ap (λ s. s.0) e)) (restart Start run qs (record { core = run.core; desks = ds }) t);
    onward = ap (λ s. s.1) e;
    awaited = awaited;
    start = refl;
    variables_same = refl;
    going = none;
  }
  finish_comes st p run qs ds (Some ending) t e awaited none = record { ended = ap (λ s. s.1) e; some = refl; rest_same = refl }

  -- ---- it acts

  pub act_comes : (st : Stated) (p : Desked) (r : Run) (qs : List (PlainSlot Bay Job)) (d : Doing) → Onward m r.variables st p r qs d → IsAllowed m r.variables st p → r.ending ≡ None
      → TurnComes m r.variables st p r.rest qs (turn_act st d r)
  act_comes st p r qs (finishes core condition) w allowed none =
      finish_comes st p (with_core last r) qs w.now.desks (ends st.0.line st.0.what condition) (by w.keeps)
      (step_walked r.variables st p w.jobs w.now.desks (finishes core condition) allowed w.walk)
      (all_awaited r.variables st p w.jobs r.told w.now.desks core condition w.walk w.own w.transfers) none
    where
      last : Core
      last = with_iostat st condition r core

      by : Keeps w.from (finishes core condition) ⊎ Pended w.from r w.now.desks (finishes core condition) → Ties m (with_core last r) qs (record { core = last; desks = w.now.desks })
      by (inl k) = core_ties m r qs w.now last w.ties (k.0 ∙ sym w.book) k.2
      by (inr (slot, number, untold, inside, (e, pended, at_slot, at_number, units))) =
          pending_ties m r qs w.now last e w.ties (pended ∙ ap (λ l. l ++ e ∷ []) (sym w.book)) units
          (subst (λ k. get_or r.told k 0 ≤ e.number) (sym at_slot) (subst (λ n. get_or r.told slot 0 ≤ n) (sym at_number) untold))
          (subst (λ k. e.number < log_length (slice_get w.now.desks k)) (sym at_slot) (subst (λ n. n < log_length (slice_get w.now.desks slot)) (sym at_number) inside))
  act_comes st p r qs (gives slot job core next) w allowed none = by w.keeps
    where
      number : ℕ
      number = get_or r.sent slot 0

      run : Run
      run = record (with_core core r) { sent = bump r.sent slot; stage = Acting (next number) }

      behind : Desked
      behind = record { core = core; desks = carry w.now.desks slot job }

      submitted : (q : PlainSlot Bay Job) → slice_get qs slot ≡ Some q → core.book ≡ w.from.book → core.tells ≡ w.from.tells → Housed core.units
          → Keeps w.from (next number) ⊎ ((n : ℕ) → Starts w.from slot n (next n)) → Paused m r.variables st p r.rest run (set qs slot (given q job))
      submitted q at book tells units keeps =
          let t = core_ties m r qs w.now core w.ties (book ∙ sym w.book) units in
          let logged : number ≡ log_length (slice_get w.now.desks slot) = sent_log m r qs w.now slot q w.ties at in
          record {
            stands = (
              record {
                now = behind;
                ties = submit_ties m (Acting (next number)) (with_core core r) qs (record { core = core; desks = w.now.desks }) slot q job t at;
                jobs = suc w.jobs;
                walk = walk_on w.jobs p.desks w.now.desks (does r.variables st p) (gives slot job core next) w.walk ∙ ap (λ n. (carry w.now.desks slot job, next n)) (sym logged);
                own = own_given r.variables st p w.jobs r.told w.now.desks slot job core next w.walk w.own;
                transfers = w.transfers;
                from = w.from;
                book = book;
                keeps = kept keeps
                    (omega (arith, told_found m r qs w.now slot q w.ties at, sent_found m r qs w.now slot q w.ties at, each_at (λ x. x.told ≤ length x.jobs) qs slot q w.ties.within at))
                    (subst (λ n. n < log_length (slice_get behind.desks slot)) (sym logged) (logs_more m r qs w.now slot q job w.ties at));
                from_tells = w.from_tells;
                tells = tells ∙ w.from_tells;
                output = w.quiet.0;
                quiet = silent_quiet p.core.output (next number) (w.quiet.1 number);
              },
              allowed,
            );
            rest_same = refl;
            variables_same = refl;
            going = none;
          }
        where
          kept : Keeps w.from (next number) ⊎ ((n : ℕ) → Starts w.from slot n (next n)) → get_or r.told slot 0 ≤ number → number < log_length (slice_get behind.desks slot)
              → Keeps w.from (next number) ⊎ Pended w.from run behind.desks (next number)
          kept (inl k) low long = inl k
          kept (inr f) low long = inr (slot, number, low, long, f number)

      by : Keeps w.from (gives slot job core next) ⊎ Pended w.from r w.now.desks (gives slot job core next) → TurnComes m r.variables st p r.rest qs (submits slot job (Acting (next number)) (with_core core r))
      by (inl (inside, keeps, inl onward)) =
          let at = slice_get_in qs slot (subst (λ n. slot < n) (sym w.ties.slots) inside) in (at.0, at.1, submitted at.0 at.1 keeps.0 keeps.1 keeps.2 (inl (onward number)))
      by (inl (inside, keeps, inr onward)) =
          let at = slice_get_in qs slot (subst (λ n. slot < n) (sym w.ties.slots) inside) in (at.0, at.1, submitted at.0 at.1 keeps.0 keeps.1 keeps.2 (inr onward))
      by (inr p) = absurd p.4
  act_comes st p r qs (awaits slot job core next) w allowed none = by w.keeps
    where
      number : ℕ
      number = get_or r.sent slot 0

      run : Run
      run = record (with_core core r) { sent = bump r.sent slot; stage = Awaiting slot number next }

      submitted : (q : PlainSlot Bay Job) → slice_get qs slot ≡ Some q → slot < most_slots → core.book ≡ w.from.book → core.tells ≡ w.from.tells → Housed core.units
          → ((o : Outcome) → Keeps w.from (next o)) → Paused m r.variables st p r.rest run (set qs slot (given q job))
      submitted q at inside book tells units keeps =
          let before : Desked = record { core = core; desks = w.now.desks } in
          let t = core_ties m r qs w.now core w.ties (book ∙ sym w.book) units in
          let t2 = submit_ties m (Awaiting slot number next) (with_core core r) qs before slot q job t at in
          let sent : get_or r.sent slot 0 ≡ length q.jobs = sent_found m r qs w.now slot q w.ties at in
          record {
            stands = (
              record {
                now = record { core = core; desks = carry w.now.desks slot job };
                ties = t2;
                jobs = w.jobs;
                at = w.now.desks;
                job = job;
                walk = w.walk;
                own = w.own;
                transfers = w.transfers;
                number_is = sent_log m r qs w.now slot q w.ties at;
                carried = refl;
                logged = ap (log_at (slice_get (carry w.now.desks slot job) slot)) (sent_log m r qs w.now slot q w.ties at) ∙ logged_at m r qs w.now slot q job w.ties at;
                inside = inside;
                untold = omega (arith, told_found m r qs w.now slot q w.ties at, sent, each_at (λ x. x.told ≤ length x.jobs) qs slot q w.ties.within at);
                submitted = omega (arith, sent, length-append q.jobs (job ∷ []), sent_found m run (set qs slot (given q job)) (record { core = core; desks = carry w.now.desks slot job }) slot (given q job) t2 (set_found qs slot (given q job) q at));
                from = w.from;
                book = book;
                keeps = keeps;
                from_tells = w.from_tells;
                tells = tells ∙ w.from_tells;
                output = w.quiet.0;
                silent = w.quiet.1;
              },
              allowed,
            );
            rest_same = refl;
            variables_same = refl;
            going = none;
          }

      by : Keeps w.from (awaits slot job core next) ⊎ Pended w.from r w.now.desks (awaits slot job core next) → TurnComes m r.variables st p r.rest qs (submits slot job (Awaiting slot number next) (with_core core r))
      by (inl (inside, keeps, onward)) =
          let at = slice_get_in qs slot (subst (λ n. slot < n) (sym w.ties.slots) inside) in (at.0, at.1, submitted at.0 at.1 inside keeps.0 keeps.1 keeps.2 onward)
      by (inr p) = absurd p.4

  pub act_leaves : (st : Stated) (p : Desked) (r : Run) (qs : List (PlainSlot Bay Job)) (d : Doing) → Onward m r.variables st p r qs d → IsAllowed m r.variables st p → Leaves m r.variables st p (turn_act st d r)
  act_leaves st p r qs (finishes core condition) w allowed =
      finish_output (ends st.0.line st.0.what condition) (with_core (with_iostat st condition r core) r)
      ∙ sym (ap (λ s. s.0.core.output) (step_walked r.variables st p w.jobs w.now.desks (finishes core condition) allowed w.walk))
  act_leaves st p r qs (gives slot job core next) w allowed =
      w.quiet.0 ∙ sym (step_output r.variables st p w.jobs w.now.desks (gives slot job core next) p.core.output allowed w.walk w.quiet)
  act_leaves st p r qs (awaits slot job core next) w allowed =
      w.quiet.0 ∙ sym (step_output r.variables st p w.jobs w.now.desks (awaits slot job core next) p.core.output allowed w.walk w.quiet)
