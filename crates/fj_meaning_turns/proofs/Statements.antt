-- The runner served alone, through a whole statement.
use Rattle.std.proofs.Common.{◌≡◌, ℕ, ◌<◌, Bool, true, false, List, [], ◌∷◌, map, Option, Some, None, refl, sym, ap, ◌∙◌, subst}
use Rattle.std.specs.Prelude.{if◌then◌else◌, filter}
use Rattle.fj_value.specs.declared.condition.Condition.{Condition}
use Rattle.fj_value.specs.declared.condition.Rule.{Rule}
use Rattle.fj_statement.specs.declared.statement.Statement.{Statement}
use Rattle.fj_statement.specs.declared.deck.Variable.{Variable}
use Rattle.fj_slot.specs.Serving.{Meaning}
use Rattle.fj_world.specs.Conduct.{Conduct}
use Rattle.fj_world.specs.Plain.{Plain, PlainSlot}
use Rattle.fj_bay.specs.Bay.{Bay}
use Rattle.fj_bay.specs.Jobs.{Job, Answer, resume}
use Rattle.fj_meaning.specs.State.{Entry}
use Rattle.fj_meaning.specs.Statement.{Stated, Ending}
use Rattle.fj_meaning.specs.Telling.{condition_of, tells_cause}
use Rattle.fj_meaning_jobs.specs.Core.{Core, Connected}
use Rattle.fj_meaning_jobs.specs.Desks.{Desk, carry, resumed, most_slots}
use Rattle.fj_meaning_jobs.specs.Doing.{Doing, Desked, acted}
use Rattle.fj_meaning_jobs.specs.Acting.{doing}
use Rattle.fj_meaning_jobs.specs.Desking.{defined, told_core, acts, completed, goes_on, desk_step}
use Rattle.fj_meaning_jobs.proofs.Apart.{Each, each_filter, each_map}
use Rattle.fj_meaning_turns.specs.Run.{Run}
use Rattle.fj_meaning_turns.specs.Turns.{Turn, with_core, halted_slots, ends_halts, doing_told, with_iostat, turn_act, finish_by, with_tells, turn_wait, rule_of, start_by, turn_begun}
use Rattle.fj_meaning_turns.specs.Serving.{over_bays, Shows, run_conduct}
use Rattle.fj_meaning_turns.specs.Inside.{waited_at, does}
use Rattle.fj_meaning_turns.specs.Standing.{Reaches}
use Rattle.fj_meaning_turns.proofs.Ties.{Ties}
use Rattle.fj_meaning_turns.proofs.Tying.{tell_ties}
use Rattle.fj_meaning_turns.proofs.EachKind.{Housed, Keeps, doing_keeps, halts_keep}
use Rattle.fj_meaning_turns.proofs.Reaching.{at_turn, reach_then, MayStand, wait_reaches}
use Rattle.fj_meaning_turns.proofs.Acted.{ActedTo, act_reaches}

-- ---- the halts that end

carry_halts : List ℕ → List Desk → List Desk
carry_halts [] ds = ds
carry_halts (slot ∷ slots) ds = carry_halts slots (carry ds slot resume)

acted_halts : (slots : List ℕ) (core : Core) (next : Doing) (ds : List Desk) → acted ds (ends_halts slots core next) ≡ acted (carry_halts slots ds) next
unfolding carry_halts
acted_halts [] core next ds = refl
acted_halts (slot ∷ slots) core next ds = acted_halts slots core next (carry ds slot resume)

resumed_halts : (told : List Entry) (us : List Connected) (ds : List Desk) → carry_halts (halted_slots told us) ds ≡ resumed told us ds
unfolding carry_halts
resumed_halts told [] ds = refl
resumed_halts told (u ∷ us) ds = by (tells_cause told u.number) (λ d. resumed_halts told us d)
  where
    by : (b : Bool) → ((d : List Desk) → carry_halts (halted_slots told us) d ≡ resumed told us d)
        → carry_halts (map (λ (u : Connected). u.slot) (if b then u ∷ filter (λ (v : Connected). tells_cause told v.number) us else filter (λ (v : Connected). tells_cause told v.number) us)) ds
        ≡ resumed told us (if b then carry ds u.slot resume else ds)
    by true f = f (carry ds u.slot resume)
    by false f = f ds

-- all that a statement does once its transfers are told
pub acts_are : (variables : List Variable) (st : Stated) (p : Desked) → acted p.desks (does variables st p) ≡ acts st.1 variables st.0.line st.0.what p (waited_at st p)
acts_are variables st p =
    let told : List Entry = waited_at st p in
    let new : Core = told_core variables st.0.line told p.core in
    let next : Doing = doing st.1 variables st.0.line new st.0.what (condition_of told) in
    acted_halts (halted_slots told p.core.units) new next p.desks ∙ ap (λ ds. acted ds next) (resumed_halts told p.core.units p.desks)

pub step_is : (variables : List Variable) (st : Stated) (p : Desked) → desk_step variables st p ≡ goes_on st.1 variables st.0.line st.0.what p (rule_of variables st p.core)
unfolding desk_step
step_is variables st p = refl

slots_housed : (told : List Entry) (us : List Connected) → Housed us → Each (λ slot. slot < most_slots) (halted_slots told us)
slots_housed told us h =
    each_map (λ slot. slot < most_slots) (λ (u : Connected). u.slot) (filter (λ (u : Connected). tells_cause told u.number) us)
    (each_filter (λ (u : Connected). u.slot < most_slots) (λ (u : Connected). tells_cause told u.number) us h)

pub told_keeps : (variables : List Variable) (st : Stated) (told : List Entry) (core : Core) → Housed core.units → Keeps (told_core variables st.0.line told core) (doing_told variables st told core)
told_keeps variables st told core h =
    let new : Core = told_core variables st.0.line told core in
    halts_keep (halted_slots told core.units) new (doing st.1 variables st.0.line new st.0.what (condition_of told)) h (slots_housed told core.units h)
    (doing_keeps st.1 variables st.0.line new st.0.what (condition_of told) h)

module _ {E J A : Type 0} (m : Meaning E J A Bay Job Answer) where
  -- what the end of a statement defines
  defined_ties : (variables : List Variable) (st : Statement) (condition : Condition) (r : Run) (qs : List (PlainSlot Bay Job)) (p : Desked) → Ties m r qs p
      → Ties m (record r { core = defined variables st condition r.core }) qs (record { core = defined variables st condition p.core; desks = p.desks })
  defined_ties variables st condition r qs p t = record {
    core = ap (defined variables st condition) t.core;
    desks = t.desks;
    sent = t.sent;
    told = t.told;
    within = t.within;
    slots = t.slots;
    housed = t.housed;
    same = t.same;
    kept = t.kept;
  }

module _ {E J A S : Type 0} (m : Meaning E J A Bay Job Answer) (s : Shows S) (P : Plain Bay (run_conduct s) → Type 0) where
  abbrev pub c : Conduct S Job Answer
  c = run_conduct s

  abbrev pub turned : List Stated → Turn → List (PlainSlot Bay Job) → Plain Bay c
  turned rest t qs = at_turn m s P rest t qs

  -- a statement was carried out
  pub record Stepped (st : Stated) (rest : List Stated) (r : Run) (done : Desked × Option Ending) (x : Plain Bay c) : Type 0 where
    pub run : Run
    pub slots : List (PlainSlot Bay Job)
    pub ties : Ties m run slots done.0
    pub ending : run.ending ≡ None
    pub variables : run.variables ≡ r.variables
    pub reaches : Reaches (over_bays m) c P x (turned rest (finish_by done.1 run) slots)

  finishes_step : (st : Stated) (rest : List Stated) (r : Run) (done : Desked × Condition) (x : Plain Bay c) → ActedTo m s P st rest r done x → Stepped st rest r (completed r.variables st.0.line st.0.what done) x
  finishes_step st rest r done x a = record {
    run = with_core (with_iostat st done.1 a.run done.0.core) a.run;
    slots = a.slots;
    ties = subst (λ vs. Ties m (with_core (with_iostat st done.1 a.run done.0.core) a.run) a.slots (record { core = defined vs st.0.what done.1 done.0.core; desks = done.0.desks })) a.variables
        (defined_ties m a.run.variables st.0.what done.1 (with_core done.0.core a.run) a.slots done.0 a.ties);
    ending = a.ending;
    variables = a.variables;
    reaches = a.reaches;
  }

  stepped_later : (st : Stated) (rest : List Stated) (r r' : Run) (done : Desked × Option Ending) (x y : Plain Bay c) → Reaches (over_bays m) c P x y → r'.variables ≡ r.variables → Stepped st rest r' done y → Stepped st rest r done x
  stepped_later st rest r r' done x y h e a = record {
    run = a.run;
    slots = a.slots;
    ties = a.ties;
    ending = a.ending;
    variables = a.variables ∙ e;
    reaches = reach_then m s P x y (turned rest (finish_by done.1 a.run) a.slots) h a.reaches;
  }

  -- a statement that is not prohibited
  goes_reaches : (st : Stated) (rest : List Stated) (r : Run) (qs : List (PlainSlot Bay Job)) (p : Desked)
      → Ties m r qs p → r.ending ≡ None → r.rest ≡ st ∷ rest → MayStand m s P r.variables st rest p
      → Stepped st rest r (completed r.variables st.0.line st.0.what (acts st.1 r.variables st.0.line st.0.what p (waited_at st p))) (turned rest (turn_wait st r) qs)
  goes_reaches st rest r qs p t none is ok =
      let w = wait_reaches m s P st rest r qs p t none is ok in
      let told : List Entry = waited_at st p in
      let run2 : Run = with_tells st told w.run in
      let new : Core = told_core w.run.variables st.0.line told p.core in
      let doing_is : doing_told w.run.variables st told w.run.core ≡ does r.variables st p =
      ap (λ k. doing_told w.run.variables st told k) w.ties.core ∙ ap (λ vs. doing_told vs st told p.core) w.variables in
      let t2 = tell_ties m st told w.run w.slots p w.ties in
      let keeps = subst (λ vs. Keeps (told_core vs st.0.line told p.core) (does r.variables st p)) (sym w.variables) (told_keeps r.variables st (waited_at st p) p.core (subst (λ k. Housed k.units) w.ties.core w.ties.housed)) in
      let acted_to = act_reaches m s P (does r.variables st p) new 0 r.variables st p rest run2 w.slots (record { core = new; desks = p.desks }) t2 (ap (λ k. k.book) t2.core) keeps refl refl ok w.ending w.rest_is in
      let y : Plain Bay c = turned rest (turn_act st (does r.variables st p) run2) w.slots in
      let first : Reaches (over_bays m) c P (turned rest (turn_wait st r) qs) y =
      subst (λ d. Reaches (over_bays m) c P (turned rest (turn_wait st r) qs) (turned rest (turn_act st d run2) w.slots)) doing_is w.reaches in
      let done : Desked × Condition = acted p.desks (does r.variables st p) in
      subst (λ d. Stepped st rest r (completed r.variables st.0.line st.0.what d) (turned rest (turn_wait st r) qs)) (acts_are r.variables st p)
      (stepped_later st rest r run2 (completed r.variables st.0.line st.0.what done) (turned rest (turn_wait st r) qs) y first w.variables
      (subst (λ vs. Stepped st rest run2 (completed vs st.0.line st.0.what done) y) w.variables (finishes_step st rest run2 done y acted_to)))

  pub step_reaches : (st : Stated) (rest : List Stated) (r : Run) (qs : List (PlainSlot Bay Job)) (p : Desked)
      → Ties m r qs p → r.ending ≡ None → r.rest ≡ st ∷ rest → (rule_of r.variables st p.core ≡ None → MayStand m s P r.variables st rest p)
      → Stepped st rest r (desk_step r.variables st p) (turned rest (turn_begun st r) qs)
  step_reaches st rest r qs p t none is ok =
      subst (λ d. Stepped st rest r d (turned rest (turn_begun st r) qs)) (sym (step_is r.variables st p))
      (subst (λ k. Stepped st rest r (goes_on st.1 r.variables st.0.line st.0.what p (rule_of r.variables st p.core)) (turned rest (start_by st (rule_of r.variables st k) r) qs)) (sym t.core)
      (by (rule_of r.variables st p.core) refl))
    where
      by : (o : Option Rule) → rule_of r.variables st p.core ≡ o → Stepped st rest r (goes_on st.1 r.variables st.0.line st.0.what p (rule_of r.variables st p.core)) (turned rest (start_by st (rule_of r.variables st p.core) r) qs)
      by (Some rule) e = subst (λ o. Stepped st rest r (goes_on st.1 r.variables st.0.line st.0.what p o) (turned rest (start_by st o r) qs)) (sym e)
          (record { run = r; slots = qs; ties = t; ending = none; variables = refl; reaches = (0, refl, tt) })
      by None e = subst (λ o. Stepped st rest r (goes_on st.1 r.variables st.0.line st.0.what p o) (turned rest (start_by st o r) qs)) (sym e)
          (goes_reaches st rest r qs p t none is (ok e))
