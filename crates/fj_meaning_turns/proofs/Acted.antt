-- The runner served alone, through all that a statement does once its transfers are told.
use Rattle.std.proofs.Common.{◌≡◌, ℕ, zero, suc, ◌+◌, ◌-◌, ◌<◌, ◌≤◌, List, [], ◌∷◌, ◌++◌, map, length, Some, None, slice_get, set, get_or, refl, sym, ap, ◌∙◌, subst, inl, inr, ◌&&◌, arith}
use Rattle.std.specs.Prelude.{if◌then◌else◌, ◌==◌}
use Rattle.std.proofs.lemmas.Bool.{eq-eqb, ne_eqb}
use Rattle.std.proofs.lemmas.List.{length-append}
use Rattle.fj_value.specs.declared.condition.Condition.{Condition}
use Rattle.fj_statement.specs.declared.deck.Variable.{Variable}
use Rattle.fj_slot.specs.Serving.{Meaning}
use Rattle.fj_slot.specs.Sound.{outcome}
use Rattle.fj_world.specs.Conduct.{Conduct}
use Rattle.fj_world.specs.Plain.{Plain, PlainSlot, next}
use Rattle.fj_world.proofs.Places.{slice_get_in}
use Rattle.fj_bay.specs.Bay.{Bay}
use Rattle.fj_bay.specs.Jobs.{Job, Answer}
use Rattle.fj_meaning.specs.Statement.{Stated}
use Rattle.fj_meaning.specs.Telling.{tell_of}
use Rattle.fj_meaning_jobs.specs.Core.{Core}
use Rattle.fj_meaning_jobs.specs.Desks.{Desk, Outcome, carry, log_at, log_length, most_slots}
use Rattle.fj_meaning_jobs.specs.Desks as desks
use Rattle.fj_meaning_jobs.specs.Doing.{Doing, finishes, gives, awaits, Desked, acted}
use Rattle.fj_meaning_jobs.specs.Forgetting.{bay_at}
use Rattle.fj_meaning_jobs.proofs.Carrying.{serves_at}
use Rattle.fj_meaning_turns.specs.Run.{Stage, Acting, Awaiting, Run}
use Rattle.fj_meaning_turns.specs.Turns.{Turn, with_core, bump, submits, settles, turn_finish, turn_act, turn, told_of}
use Rattle.fj_meaning_turns.specs.Serving.{over_bays, Shows, run_conduct, desk_of}
use Rattle.fj_meaning_turns.specs.Inside.{waited_at, does, walked}
use Rattle.fj_meaning_turns.specs.Standing.{Reaches, GivesNext}
use Rattle.fj_meaning_turns.proofs.Slots.{each_at, map_get, set_found}
use Rattle.fj_meaning_turns.proofs.Ties.{Ties, more, given, told_found, sent_found, length_found, log_found, settle_ties}
use Rattle.fj_meaning_turns.proofs.Tying.{core_ties, pending_ties, submit_ties}
use Rattle.fj_meaning_turns.proofs.EachKind.{Starts, Keeps}
use Rattle.fj_meaning_turns.proofs.Reaching.{at_turn, settle_next, submit_next, reach_next, reach_then, answer_of, MayStand}

-- one job more
pub walked_more : (k : ℕ) (ds : List Desk) (d : Doing) → walked (suc k) ds d ≡ walked 1 (walked k ds d).0 (walked k ds d).1
walked_more zero ds d = refl
walked_more (suc k) ds (finishes core condition) = refl
walked_more (suc k) ds (gives slot job core next) = walked_more k (carry ds slot job) (next (log_length (slice_get ds slot)))
walked_more (suc k) ds (awaits slot job core next) = walked_more k (carry ds slot job) (next (desks.outcome ds slot job))

module _ {E J A : Type 0} (m : Meaning E J A Bay Job Answer) where
  -- what becomes of a job at a slot stands in its log
  pub logged_at : (r : Run) (qs : List (PlainSlot Bay Job)) (p : Desked) (slot : ℕ) (q : PlainSlot Bay Job) (job : Job) → Ties m r qs p → slice_get qs slot ≡ Some q
      → log_at (slice_get (carry p.desks slot job) slot) (log_length (slice_get p.desks slot)) ≡ Some (desks.outcome p.desks slot job)
  logged_at r qs p slot q job t e =
      let here : bay_at (slice_get p.desks slot) ≡ Some (desk_of m q).bay = ap (λ ds. bay_at (slice_get ds slot)) (sym t.desks) ∙ ap bay_at (map_get (desk_of m) qs slot q e) in
      let served = serves_at p.desks slot job (desk_of m q).bay here in
      served.logged ∙ ap Some (sym served.outcome_is)

  pub logs_more : (r : Run) (qs : List (PlainSlot Bay Job)) (p : Desked) (slot : ℕ) (q : PlainSlot Bay Job) (job : Job) → Ties m r qs p → slice_get qs slot ≡ Some q
      → log_length (slice_get p.desks slot) < log_length (slice_get (carry p.desks slot job) slot)
  logs_more r qs p slot q job t e =
      let here : bay_at (slice_get p.desks slot) ≡ Some (desk_of m q).bay = ap (λ ds. bay_at (slice_get ds slot)) (sym t.desks) ∙ ap bay_at (map_get (desk_of m) qs slot q e) in
      (serves_at p.desks slot job (desk_of m q).bay here).longer

  pub sent_log : (r : Run) (qs : List (PlainSlot Bay Job)) (p : Desked) (slot : ℕ) (q : PlainSlot Bay Job) → Ties m r qs p → slice_get qs slot ≡ Some q
      → get_or r.sent slot 0 ≡ log_length (slice_get p.desks slot)
  sent_log r qs p slot q t e = sent_found m r qs p slot q t e ∙ sym (length_found m r qs p slot q t e)

module _ {E J A S : Type 0} (m : Meaning E J A Bay Job Answer) (s : Shows S) (P : Plain Bay (run_conduct s) → Type 0) where
  abbrev pub c : Conduct S Job Answer
  c = run_conduct s

  abbrev pub turned : List Stated → Turn → List (PlainSlot Bay Job) → Plain Bay c
  turned rest t qs = at_turn m s P rest t qs

  -- its own job was told: what the runner and its slots are then
  record OwnTold (st : Stated) (rest : List Stated) (r : Run) (p : Desked) (next : Outcome → Doing) (o : Outcome) (x : Plain Bay c) : Type 0 where
    run : Run
    slots : List (PlainSlot Bay Job)
    ties : Ties m run slots p
    ending : run.ending ≡ None
    rest_is : run.rest ≡ st ∷ rest
    variables : run.variables ≡ r.variables
    reaches : Reaches (over_bays m) c P x (turned rest (turn_act st (next o) run) slots)

  -- jobs of its slot are told until it is
  own_out : (k : ℕ) (st : Stated) (rest : List Stated) (r : Run) (qs : List (PlainSlot Bay Job)) (p : Desked) (slot number : ℕ) (q : PlainSlot Bay Job) (next : Outcome → Doing) (o : Outcome)
      → Ties m r qs p → r.ending ≡ None → r.rest ≡ st ∷ rest
      → ((r' : Run) (qs' : List (PlainSlot Bay Job)) → r'.rest ≡ st ∷ rest → Ties m r' qs' p → P (turned rest (settles slot (Awaiting slot number next) r') qs'))
      → slice_get qs slot ≡ Some q → q.told + k ≡ number → number < length q.jobs → log_at (slice_get p.desks slot) number ≡ Some o
      → OwnTold st rest r p next o (turned rest (settles slot (Awaiting slot number next) r) qs)
  own_out zero st rest r qs p slot number q next o t none is ok at here below logged =
      let same : q.told ≡ number = omega (arith, here) in
      let out : outcome (over_bays m) q.start q.jobs q.told ≡ Some o = ap (outcome (over_bays m) q.start q.jobs) same ∙ sym (log_found m r qs p slot number q t at) ∙ logged in
      let r2 : Run = told_of (record r { stage = Awaiting slot number next; due = slot }) o in
      let t2 = settle_ties m (Awaiting slot number next) r qs p slot q o t at out (omega (arith, same, below)) in
      let is_own : r2.stage ≡ Acting (next o) =
      ap (λ b. if b && (number == get_or r.told slot 0) then Acting (next o) else Awaiting slot number next) (eq-eqb slot slot refl)
      ∙ ap (λ b. if b then Acting (next o) else Awaiting slot number next) (eq-eqb number (get_or r.told slot 0) (sym (told_found m r qs p slot q t at ∙ same))) in
      record {
        run = r2;
        slots = set qs slot (more q);
        ties = t2;
        ending = none;
        rest_is = is;
        variables = refl;
        reaches = reach_next m s P (turned rest (settles slot (Awaiting slot number next) r) qs) (turned rest (turn_act st (next o) r2) (set qs slot (more q))) (turned rest (turn_act st (next o) r2) (set qs slot (more q)))
            (ok r qs is t)
            (settle_next m s P st rest (Awaiting slot number next) r qs slot q o none is at out ∙ ap (λ g. turned rest (turn st g r2) (set qs slot (more q))) is_own)
            (0, refl, tt);
      }
  own_out (suc k) st rest r qs p slot number q next o t none is ok at here below logged =
      let less : q.told < length q.jobs = omega (arith, here, below) in
      let answer = answer_of m q less in
      let r2 : Run = told_of (record r { stage = Awaiting slot number next; due = slot }) answer.0 in
      let t2 = settle_ties m (Awaiting slot number next) r qs p slot q answer.0 t at answer.1 less in
      let was : get_or r.told slot 0 ≡ q.told = told_found m r qs p slot q t at in
      let other : r2.stage ≡ Awaiting slot number next =
      ap (λ b. if b && (number == get_or r.told slot 0) then Acting (next answer.0) else Awaiting slot number next) (eq-eqb slot slot refl)
      ∙ ap (λ b. if b then Acting (next answer.0) else Awaiting slot number next) (ne_eqb number (get_or r.told slot 0) (λ e. absurd (omega (arith, e, was, here)))) in
      let later = own_out k st rest r2 (set qs slot (more q)) p slot number (more q) next o t2 none is ok (set_found qs slot (more q) q at) (omega (arith, here)) below logged in
      record {
        run = later.run;
        slots = later.slots;
        ties = later.ties;
        ending = later.ending;
        rest_is = later.rest_is;
        variables = later.variables;
        reaches = reach_next m s P (turned rest (settles slot (Awaiting slot number next) r) qs) (turned rest (settles slot (Awaiting slot number next) r2) (set qs slot (more q))) (turned rest (turn_act st (next o) later.run) later.slots)
            (ok r qs is t)
            (settle_next m s P st rest (Awaiting slot number next) r qs slot q answer.0 none is at answer.1 ∙ ap (λ g. turned rest (turn st g r2) (set qs slot (more q))) other)
            later.reaches;
      }

  -- the statement is done, but for its definitions
  pub record ActedTo (st : Stated) (rest : List Stated) (r : Run) (done : Desked × Condition) (x : Plain Bay c) : Type 0 where
    pub run : Run
    pub slots : List (PlainSlot Bay Job)
    pub ties : Ties m (with_core done.0.core run) slots done.0
    pub ending : run.ending ≡ None
    pub rest_is : run.rest ≡ st ∷ rest
    pub variables : run.variables ≡ r.variables
    pub reaches : Reaches (over_bays m) c P x (turned rest (turn_finish st done.0.core done.1 run) slots)

  acted_first : (st : Stated) (rest : List Stated) (r r' : Run) (done : Desked × Condition) (x y : Plain Bay c) → Reaches (over_bays m) c P x y → r'.variables ≡ r.variables → ActedTo st rest r' done y → ActedTo st rest r done x
  acted_first st rest r r' done x y h e a = record {
    run = a.run;
    slots = a.slots;
    ties = a.ties;
    ending = a.ending;
    rest_is = a.rest_is;
    variables = a.variables ∙ e;
    reaches = reach_then m s P x y (turned rest (turn_finish st done.0.core done.1 a.run) a.slots) h a.reaches;
  }

  -- a pending transfer was started
  start_reaches : (d : Doing) (from : Core) (st : Stated) (rest : List Stated) (r : Run) (qs : List (PlainSlot Bay Job)) (p : Desked) (slot number : ℕ)
      → Ties m r qs p → r.core.book ≡ from.book → get_or r.told slot 0 ≤ number → number < log_length (slice_get p.desks slot) → Starts from slot number d
      → r.ending ≡ None → r.rest ≡ st ∷ rest → ActedTo st rest r (acted p.desks d) (turned rest (turn_act st d r) qs)
  start_reaches (finishes core condition) from st rest r qs p slot number t book untold inside (e, pended, at_slot, at_number, units) none is = record {
    run = r;
    slots = qs;
    ties = pending_ties m r qs p core e t (pended ∙ ap (λ l. l ++ e ∷ []) (sym book)) units
        (subst (λ k. get_or r.told k 0 ≤ e.number) (sym at_slot) (subst (λ n. get_or r.told slot 0 ≤ n) (sym at_number) untold))
        (subst (λ k. e.number < log_length (slice_get p.desks k)) (sym at_slot) (subst (λ n. n < log_length (slice_get p.desks slot)) (sym at_number) inside));
    ending = none;
    rest_is = is;
    variables = refl;
    reaches = (0, refl, tt);
  }
  start_reaches (gives at job core next) from st rest r qs p slot number t book untold inside no_start none is = absurd no_start
  start_reaches (awaits at job core next) from st rest r qs p slot number t book untold inside no_start none is = absurd no_start

  -- what a statement does, job after job
  pub act_reaches : (d : Doing) (from : Core) (k : ℕ) (variables : List Variable) (st : Stated) (before : Desked) (rest : List Stated) (r : Run) (qs : List (PlainSlot Bay Job)) (p : Desked)
      → Ties m r qs p → r.core.book ≡ from.book → Keeps from d → walked k before.desks (does variables st before) ≡ (p.desks, d)
      → from.tells ≡ before.core.tells ++ map (tell_of st.0.line) (waited_at st before) → MayStand m s P variables st rest before → r.ending ≡ None → r.rest ≡ st ∷ rest
      → ActedTo st rest r (acted p.desks d) (turned rest (turn_act st d r) qs)
  act_reaches (finishes core condition) from k variables st before rest r qs p t book keeps walk made ok none is = record {
    run = r;
    slots = qs;
    ties = core_ties m r qs p core t (keeps.0 ∙ sym book) keeps.2;
    ending = none;
    rest_is = is;
    variables = refl;
    reaches = (0, refl, tt);
  }
  act_reaches (gives slot job core next) from k variables st before rest r qs p t book (inside, keeps, inl onward) walk made ok none is =
      let at = slice_get_in qs slot (subst (λ n. slot < n) (sym t.slots) inside) in
      let q = at.0 in
      let number : ℕ = get_or r.sent slot 0 in
      let r1 : Run = with_core core r in
      let t1 = core_ties m r qs p core t (keeps.0 ∙ sym book) keeps.2 in
      let p1 : Desked = record { core = core; desks = p.desks } in
      let stage : Stage = Acting (next number) in
      let t2 = submit_ties m stage r1 qs p1 slot q job t1 at.1 in
      let r2 : Run = record r1 { sent = bump r1.sent slot; stage = stage } in
      let qs2 : List (PlainSlot Bay Job) = set qs slot (given q job) in
      let logged : number ≡ log_length (slice_get p.desks slot) = sent_log m r qs p slot q t at.1 in
      let walk2 : walked (suc k) before.desks (does variables st before) ≡ (carry p.desks slot job, next number) =
      walked_more k before.desks (does variables st before) ∙ ap (λ z. walked 1 z.0 z.1) walk ∙ ap (λ n. (carry p.desks slot job, next n)) (sym logged) in
      let later = act_reaches (next number) from (suc k) variables st before rest r2 qs2 (record { core = core; desks = carry p.desks slot job }) t2 keeps.0 (onward number) walk2 made ok none is in
      let x : Plain Bay c = turned rest (submits slot job stage r1) qs in
      let y : Plain Bay c = turned rest (turn st stage r2) qs2 in
      subst (λ n. ActedTo st rest r (acted (carry p.desks slot job) (next n)) x) logged
      (acted_first st rest r r2 (acted (carry p.desks slot job) (next number)) x y
      (reach_next m s P x y y (ok x is (record { told = t.told; asks = record { tells = keeps.1 ∙ made; jobs = k; desks_are = t.desks ∙ sym (ap (λ z. z.0) walk); gives = subst (λ d. GivesNext d slot job core) (sym (ap (λ z. z.1) walk)) (refl, refl, refl) } }))
      (submit_next m s P st rest stage r1 qs slot q job none is at.1) (0, refl, tt))
      refl later)
  act_reaches (gives slot job core next) from k variables st before rest r qs p t book (inside, keeps, inr onward) walk made ok none is =
      let at = slice_get_in qs slot (subst (λ n. slot < n) (sym t.slots) inside) in
      let q = at.0 in
      let number : ℕ = get_or r.sent slot 0 in
      let r1 : Run = with_core core r in
      let t1 = core_ties m r qs p core t (keeps.0 ∙ sym book) keeps.2 in
      let p1 : Desked = record { core = core; desks = p.desks } in
      let stage : Stage = Acting (next number) in
      let t2 = submit_ties m stage r1 qs p1 slot q job t1 at.1 in
      let r2 : Run = record r1 { sent = bump r1.sent slot; stage = stage } in
      let qs2 : List (PlainSlot Bay Job) = set qs slot (given q job) in
      let logged : number ≡ log_length (slice_get p.desks slot) = sent_log m r qs p slot q t at.1 in
      let low : get_or r.told slot 0 ≤ number =
      omega (arith, told_found m r qs p slot q t at.1, sent_found m r qs p slot q t at.1, each_at (λ x. x.told ≤ length x.jobs) qs slot q t.within at.1) in
      let later = start_reaches (next number) from st rest r2 qs2 (record { core = core; desks = carry p.desks slot job }) slot number t2 keeps.0 low
      (subst (λ n. n < log_length (slice_get (carry p.desks slot job) slot)) (sym logged) (logs_more m r qs p slot q job t at.1)) (onward number) none is in
      let x : Plain Bay c = turned rest (submits slot job stage r1) qs in
      let y : Plain Bay c = turned rest (turn st stage r2) qs2 in
      subst (λ n. ActedTo st rest r (acted (carry p.desks slot job) (next n)) x) logged
      (acted_first st rest r r2 (acted (carry p.desks slot job) (next number)) x y
      (reach_next m s P x y y (ok x is (record { told = t.told; asks = record { tells = keeps.1 ∙ made; jobs = k; desks_are = t.desks ∙ sym (ap (λ z. z.0) walk); gives = subst (λ d. GivesNext d slot job core) (sym (ap (λ z. z.1) walk)) (refl, refl, refl) } }))
      (submit_next m s P st rest stage r1 qs slot q job none is at.1) (0, refl, tt))
      refl later)
  act_reaches (awaits slot job core next) from k variables st before rest r qs p t book (inside, keeps, onward) walk made ok none is =
      let at = slice_get_in qs slot (subst (λ n. slot < n) (sym t.slots) inside) in
      let q = at.0 in
      let number : ℕ = get_or r.sent slot 0 in
      let r1 : Run = with_core core r in
      let t1 = core_ties m r qs p core t (keeps.0 ∙ sym book) keeps.2 in
      let p1 : Desked = record { core = core; desks = p.desks } in
      let p2 : Desked = record { core = core; desks = carry p.desks slot job } in
      let stage : Stage = Awaiting slot number next in
      let t2 = submit_ties m stage r1 qs p1 slot q job t1 at.1 in
      let r2 : Run = record r1 { sent = bump r1.sent slot; stage = stage } in
      let qs2 : List (PlainSlot Bay Job) = set qs slot (given q job) in
      let logged : number ≡ log_length (slice_get p.desks slot) = sent_log m r qs p slot q t at.1 in
      let o : Outcome = desks.outcome p.desks slot job in
      let low : q.told ≤ number = omega (arith, sent_found m r qs p slot q t at.1, each_at (λ x. x.told ≤ length x.jobs) qs slot q t.within at.1) in
      let walk2 : walked (suc k) before.desks (does variables st before) ≡ (carry p.desks slot job, next o) =
      walked_more k before.desks (does variables st before) ∙ ap (λ z. walked 1 z.0 z.1) walk in
      let own = own_out (number - q.told) st rest r2 qs2 p2 slot number (given q job) next o t2 none is
      (λ r' qs' is' t'. ok (turned rest (settles slot (Awaiting slot number next) r') qs') is' (record {
        told = t'.told;
        asks = inr (record {
          tells = ap (λ z. z.tells) t'.core ∙ keeps.1 ∙ made;
          jobs = k;
          job = job;
          onward = next;
          awaited = ap (λ z. z.1) walk ∙ ap (λ now. awaits slot job now next) (sym t'.core);
          desks_are = t'.desks ∙ ap (λ ds. carry ds slot job) (sym (ap (λ z. z.0) walk));
        });
      }))
      (set_found qs slot (given q job) q at.1) (omega (arith, low)) (longer q job (sent_found m r qs p slot q t at.1))
      (ap (log_at (slice_get (carry p.desks slot job) slot)) logged ∙ logged_at m r qs p slot q job t at.1) in
      let later = act_reaches (next o) from (suc k) variables st before rest own.run own.slots p2 own.ties (ap (λ z. z.book) own.ties.core ∙ keeps.0) (onward o) walk2 made ok own.ending own.rest_is in
      let x : Plain Bay c = turned rest (submits slot job stage r1) qs in
      let y : Plain Bay c = turned rest (turn st stage r2) qs2 in
      let z : Plain Bay c = turned rest (turn_act st (next o) own.run) own.slots in
      acted_first st rest r own.run (acted (carry p.desks slot job) (next o)) x z
      (reach_next m s P x y z (ok x is (record { told = t.told; asks = record { tells = keeps.1 ∙ made; jobs = k; desks_are = t.desks ∙ sym (ap (λ w. w.0) walk); gives = subst (λ d. GivesNext d slot job core) (sym (ap (λ w. w.1) walk)) (refl, refl, refl) } }))
      (submit_next m s P st rest stage r1 qs slot q job none is at.1) own.reaches)
      own.variables later
    where
      longer : (q : PlainSlot Bay Job) (job : Job) → get_or r.sent slot 0 ≡ length q.jobs → get_or r.sent slot 0 < length (q.jobs ++ job ∷ [])
      longer q job e = omega (arith, e, length-append q.jobs (job ∷ []))
