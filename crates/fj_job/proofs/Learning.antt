-- Where in a deck a runner stands when a call gives up: before an ask, at one, and behind the statements that it then passes.
use Rattle.std.proofs.Common.{◌≡◌, ◌≢◌, ◌⊎◌, ℕ, zero, suc, Bool, true, false, List, [], ◌∷◌, ◌++◌, map, length, drop, slice_get, Option, Some, None, is_some, refl, sym, ap, ◌∙◌, subst, inl, inr}
use Rattle.std.specs.Prelude.{option_and_then, if◌then◌else◌}
use Rattle.fj_value.specs.declared.condition.Rule.{Rule}
use Rattle.fj_statement.specs.declared.deck.Variable.{Variable}
use Rattle.fj_slot.specs.Serving.{Meaning}
use Rattle.fj_world.specs.declared.ask.Ask.{Ask}
use Rattle.fj_world.specs.declared.ask.Ask.TheVariants.{Submit, Settle, Finished}
use Rattle.fj_world.specs.Conduct.{Conduct}
use Rattle.fj_world.specs.Losing.{given_number, given_reply, given_outcome, answered, before_ask, HasAsked}
use Rattle.fj_world.specs.Plain.{Plain, PlainSlot, after}
use Rattle.fj_bay.specs.Bay.{Bay}
use Rattle.fj_bay.specs.Jobs.{Job, Answer}
use Rattle.fj_meaning.specs.State.{Files}
use Rattle.fj_meaning.specs.Statement.{Stated, Ending, ends}
use Rattle.fj_meaning.specs.Telling.{tell_of}
use Rattle.fj_meaning_jobs.specs.Doing.{Doing, finishes, gives, awaits, Desked}
use Rattle.fj_meaning_jobs.specs.Desking.{desk_step, fresh}
use Rattle.fj_meaning_turns.specs.Run.{Run, Stage, Start, Waiting, Acting, Awaiting}
use Rattle.fj_meaning_turns.specs.Turns.{Turn, Pauses, Passes, Stops, Asked, finish_by, turn_act, with_core, with_iostat, doing_told, with_tells, wait_by, waited_now, unsettled, start_by, rule_of, begun_for, hand_at, with_hand, turn, turn_start, goes, by_turn, asked_on, asked, told_of}
use Rattle.fj_meaning_turns.specs.Serving.{over_bays, Shows, run_conduct, first_run, fresh_slots, begins}
use Rattle.fj_meaning_turns.specs.Inside.{waited_at, cut_desks}
use Rattle.fj_meaning_turns.specs.Passing.{passed_by, passed_on, passes, output_of, output_due, turn_output, knows_at, known_due, KnowsAnswers, told_at, tells_due, turn_tells}
use Rattle.fj_meaning_turns.proofs.Decks.{cut_here}
use Rattle.fj_meaning_turns.proofs.Slots.{same_some}
use Rattle.fj_meaning_turns.proofs.Passed.{At, long_at, stands_at, tells_at, output_at, Led, asked_leads}
use Rattle.fj_meaning_turns.proofs.Before.{fares_after}
use Rattle.fj_run_statements.specs.Calling.{calls_disk}
use Rattle.fj_meaning_cut.specs.Stopping.{WereGiven}
use Rattle.fj_meaning_cut.proofs.Given.{each_turn_given, within_deck}
use Rattle.fj_run_script.proofs.AtHand.{calls_hand}
use Rattle.fj_job.proofs.Leaving.{same_index}
use Rattle.fj_job.proofs.Pausing.{asked_pauses}
use Rattle.fj_job.proofs.Passes.{IsPassed, EndsSo, passed_is, passes_on}

-- ---- a runner that waits for an answer

-- it waits for a transfer that the statement tells, or for the statement's own job
abbrev pub WaitsIn : Stated → Stage → Run → Type 0
WaitsIn st Start r = ⊥
WaitsIn st Waiting r = (slot : ℕ) × (unsettled (waited_now st r) r.book ≡ Some slot)
WaitsIn st (Acting does) r = ⊥
WaitsIn st (Awaiting slot number next) r = Unit {0}

abbrev pub WaitsOn : List Stated → Run → Type 0
WaitsOn [] r = ⊥
WaitsOn (st ∷ rest) r = WaitsIn st r.stage r

-- or the statement at hand has begun
abbrev pub HasBegun : Stage → Type 0
HasBegun Start = ⊥
HasBegun Waiting = Unit {0}
HasBegun (Acting does) = Unit {0}
HasBegun (Awaiting slot number next) = Unit {0}

abbrev WaitsBy : Ask Job → Run → Type 0
WaitsBy (Submit slot job) r = HasBegun r.stage
WaitsBy (Settle slot) r = WaitsOn r.rest r
WaitsBy Finished r = Unit {0}

-- where a turn comes to that
abbrev TurnWaits : Turn → Type 0
TurnWaits (Pauses ask run) = WaitsBy ask run
TurnWaits (Passes run) = Unit {0}
TurnWaits (Stops run) = Unit {0}

finish_waits : (o : Option Ending) (r : Run) → TurnWaits (finish_by o r)
finish_waits None r = tt
finish_waits (Some e) r = tt

module _ (st : Stated) (rest : List Stated) where
  act_waits : (d : Doing) (r : Run) → TurnWaits (turn_act st d r)
  act_waits (finishes core condition) r = finish_waits (ends st.0.line st.0.what condition) (with_core (with_iostat st condition r core) r)
  act_waits (gives slot job core next) r = tt
  act_waits (awaits slot job core next) r = tt

  wait_waits : (r : Run) → r.rest ≡ st ∷ rest → (o : Option ℕ) → unsettled (waited_now st r) r.book ≡ o → TurnWaits (wait_by st (waited_now st r) o r)
  wait_waits r e None f = act_waits (doing_told r.variables st (waited_now st r) r.core) (with_tells st (waited_now st r) r)
  wait_waits r e (Some slot) f = subst (λ l. WaitsOn l (record r { stage = Waiting; due = slot })) (sym e) (slot, f)

  start_waits : (r : Run) → r.rest ≡ st ∷ rest → (o : Option Rule) → TurnWaits (start_by st o r)
  start_waits r e (Some rule) = tt
  start_waits r e None = wait_waits r e (unsettled (waited_now st r) r.book) refl

turn_waits : (st : Stated) (rest : List Stated) (stage : Stage) (r : Run) → r.rest ≡ st ∷ rest → TurnWaits (turn st stage r)
turn_waits st rest Start r e =
    let hand = begun_for r st in
    start_waits hand rest (with_hand hand r) (ap (λ l. hand ∷ drop 1 l) e) (rule_of r.variables hand r.core)
turn_waits st rest Waiting r e = wait_waits st rest r e (unsettled (waited_now st r) r.book) refl
turn_waits st rest (Acting does) r e = act_waits st rest does r
turn_waits st rest (Awaiting slot number next) r e = subst (λ l. WaitsOn l (record r { stage = Awaiting slot number next; due = slot })) (sym e) tt

goes_waits : (sts : List Stated) (r : Run) → WaitsBy (goes sts r).ask (goes sts r).run
goes_waits [] r = tt
goes_waits (st ∷ rest) r = by (λ run. goes_waits rest run) (turn_start st (record r { rest = st ∷ rest })) (turn_waits st rest Start (record r { rest = st ∷ rest }) refl)
  where
    by : ((run : Run) → WaitsBy (goes rest run).ask (goes rest run).run) → (t : Turn) → TurnWaits t
        → let a = elim t as (λ _. Asked) [ Pauses ask run ↦ record { ask = ask; run = run } | Passes run ↦ goes rest run | Stops run ↦ record { ask = Finished; run = run } ] in WaitsBy a.ask a.run
    by later (Pauses ask run) w = w
    by later (Passes run) w = later run
    by later (Stops run) w = tt

on_waits : (sts : List Stated) (r : Run) → r.rest ≡ sts → WaitsBy (asked_on sts r).ask (asked_on sts r).run
on_waits [] r e = tt
on_waits (st ∷ rest) r e = by (turn st r.stage r) (turn_waits st rest r.stage r e)
  where
    by : (t : Turn) → TurnWaits t → WaitsBy (by_turn rest t).ask (by_turn rest t).run
    by (Pauses ask run) w = w
    by (Passes run) w = goes_waits rest run
    by (Stops run) w = tt

asked_waits : (r : Run) → WaitsBy (asked r).ask (asked r).run
asked_waits r = by (is_some r.ending)
  where
    by : (b : Bool) → let a : Asked = if b then record { ask = Finished; run = r } else asked_on r.rest r in WaitsBy a.ask a.run
    by true = tt
    by false = on_waits r.rest r refl

module _ (st : Stated) (r : Run) where
  known_output : (o : Option ℕ) (slot : ℕ) → o ≡ Some slot → output_of (wait_by st (waited_now st r) o r) ≡ r.core.output
  known_output None slot e = cc
  known_output (Some other) slot e = refl

  known_stays : (o : Option ℕ) (slot : ℕ) → o ≡ Some slot → IsPassed (wait_by st (waited_now st r) o r) → ⊥
  known_stays None slot e p = cc
  known_stays (Some other) slot e p = p

  waits_output : (stage : Stage) → WaitsIn st stage r → output_of (turn st stage r) ≡ r.core.output
  waits_output Start w = absurd w
  waits_output Waiting w = known_output (unsettled (waited_now st r) r.book) w.0 w.1
  waits_output (Acting does) w = absurd w
  waits_output (Awaiting slot number next) w = refl

  waits_stays : (stage : Stage) → WaitsIn st stage r → IsPassed (turn st stage r) → ⊥
  waits_stays Start w p = w
  waits_stays Waiting w p = known_stays (unsettled (waited_now st r) r.book) w.0 w.1 p
  waits_stays (Acting does) w p = w
  waits_stays (Awaiting slot number next) w p = p

  waits_tells : (stage : Stage) → WaitsIn st stage r → knows_at st stage r → told_at st stage r ≡ r.core.tells
  waits_tells Start w k = absurd w
  waits_tells Waiting w k = absurd (let z : None ≡ Some w.0 = sym k ∙ w.1 in cc)
  waits_tells (Acting does) w k = absurd w
  waits_tells (Awaiting slot number next) w k = refl

-- ---- where it stands

-- A runner is at a statement of the deck, the output being that of before it. Its turn comes to the output that the statement leaves; and
-- once their answers are known, what it tells first are the transfers that the statement waits for, or they were told.
pub record LearnsAt (variables : List Variable) (deck : List Stated) (first : Desked) (run : Run) : Type 0 where
  pub index : ℕ
  pub statement : Stated
  pub before : Desked
  pub reached : cut_desks variables index deck first ≡ Some (statement, before)
  pub rest : length run.rest ≡ length (drop index deck)
  -- it calls the disk itself as the one at hand does
  pub calls : (st : Stated) (more : List Stated) → run.rest ≡ st ∷ more → calls_disk statement.0.what ≡ calls_disk st.0.what
  pub output : run.core.output ≡ before.core.output
  pub due : turn_output run ≡ (desk_step variables statement before).0.core.output
  pub tells : KnowsAnswers run → (turn_tells run ≡ before.core.tells) ⊎ (turn_tells run ≡ before.core.tells ++ map (tell_of statement.0.line) (waited_at statement before))

-- the one in front is the statement of the deck as it begins
pub record SubmitsHand (variables : List Variable) (deck : List Stated) (first : Desked) (run : Run) : Type 0 where
  pub index : ℕ
  pub statement : Stated
  pub before : Desked
  pub reached : cut_desks variables index deck first ≡ Some (statement, before)
  pub rest : length run.rest ≡ length (drop index deck)
  pub behind : List Stated
  pub here : run.rest ≡ statement ∷ behind

begun_hand : (st : Stated) (stage : Stage) (r : Run) → HasBegun stage → hand_at st stage r ≡ st
begun_hand st Start r b = absurd b
begun_hand st Waiting r b = refl
begun_hand st (Acting does) r b = refl
begun_hand st (Awaiting slot number next) r b = refl

-- statements are left then
pub none_left : (variables : List Variable) (deck : List Stated) (first : Desked) (run : Run) → LearnsAt variables deck first run → run.rest ≡ [] → ⊥
none_left variables deck first run x none =
    let here = cut_here variables x.index deck first (x.statement, x.before) x.reached in
    let z : 0 ≡ suc (length (drop (suc x.index) deck)) = ap length (sym none) ∙ x.rest ∙ here in cc

module _ {E J A S : Type 0} (m : Meaning E J A Bay Job Answer) (s : Shows S) (variables : List Variable) (deck : List Stated) (files : Files) (so : EndsSo deck) (some : deck ≡ [] → ⊥) where
  abbrev c : Conduct S Job Answer
  c = run_conduct s

  abbrev first : Desked
  first = fresh variables files

  -- before the ask of that number, and at it
  abbrev before : ℕ → Run × List (PlainSlot Bay Job)
  before n = before_ask (over_bays m) c n (first_run variables deck files) fresh_slots

  abbrev at : ℕ → Plain Bay c
  at n = after (over_bays m) c n (begins m s variables deck files)

  calls_so : (run : Run) (qs : List (PlainSlot Bay Job)) (x : At m variables deck first run qs) (late : Run) → late.rest ≡ run.rest → (st : Stated) (more : List Stated) → late.rest ≡ st ∷ more
      → calls_disk x.statement.0.what ≡ calls_disk st.0.what
  calls_so run qs x late same st more e =
      let here : x.at_hand ∷ x.behind ≡ st ∷ more = sym (same ∙ x.here) ∙ e in
      let first : x.at_hand ≡ st = cc in
      calls_hand x.at_hand x.statement run.stage run x.hand ∙ ap (λ (z : Stated). calls_disk z.0.what) first

  same_statement : (run : Run) (qs : List (PlainSlot Bay Job)) (x : At m variables deck first run qs) (index : ℕ) (st : Stated) (p : Desked) → cut_desks variables index deck first ≡ Some (st, p)
      → length run.rest ≡ length (drop index deck) → x.statement ≡ st
  same_statement run qs x index st p reached rest =
      let place : x.index ≡ index = same_index deck x.index index (within_deck variables index deck first (st, p) reached) (sym (long_at m variables deck first run qs x) ∙ rest) in
      let same : ◌≡◌ {A = Stated × Desked} (x.statement, x.before) (st, p) = same_some (sym x.reached ∙ ap (λ n. cut_desks variables n deck first) place ∙ reached) in
      ap (λ (z : Stated × Desked). z.0) same

  stands_learns : (run : Run) (qs : List (PlainSlot Bay Job)) → At m variables deck first run qs → LearnsAt variables deck first run
  stands_learns run qs x =
      let y = stands_at m variables deck first run qs x in
      record {
        index = y.index;
        statement = y.statement;
        before = y.before;
        reached = y.reached;
        rest = y.rest;
        calls = λ st more e. ap (λ (z : Stated). calls_disk z.0.what) (sym (same_statement run qs x y.index y.statement y.before y.reached y.rest)) ∙ calls_so run qs x run refl st more e;
        output = y.output;
        due = y.due;
        tells = λ k. inr (y.tells k);
      }

  hand_of : (run : Run) (qs : List (PlainSlot Bay Job)) → At m variables deck first run qs → HasBegun run.stage → SubmitsHand variables deck first run
  hand_of run qs x b = record {
    index = x.index;
    statement = x.statement;
    before = x.before;
    reached = x.reached;
    rest = long_at m variables deck first run qs x;
    behind = x.behind;
    here = x.here ∙ ap (λ st. st ∷ x.behind) (sym (begun_hand x.at_hand run.stage run b) ∙ x.hand);
  }

  -- ---- before an ask

  led_at : (ask : Ask Job) (run : Run) (qs : List (PlainSlot Bay Job)) → Led m variables deck first ask run qs → ask ≢ Finished
      → let z = answered (over_bays m) c ask (record { script = run; hand = ask; slots = qs }) in At m variables deck first z.0 z.1
  led_at (Submit slot job) run qs (q, is, y) n =
      let x : Plain Bay c = record { script = run; hand = Submit slot job; slots = qs } in
      subst (λ z. At m variables deck first z.0 z.1) (sym (ap (λ z. given_number (over_bays m) c z slot job x) is)) y.stands
  led_at (Settle slot) run qs (q, is, o, out, y) n =
      let x : Plain Bay c = record { script = run; hand = Settle slot; slots = qs } in
      subst (λ z. At m variables deck first z.0 z.1) (sym (ap (λ z. given_outcome (over_bays m) c z slot x) is ∙ ap (λ z. given_reply (over_bays m) c z q slot x) out)) y.stands
  led_at Finished run qs over n = absurd (n refl)

  pub at_before : (n : ℕ) → HasAsked (over_bays m) c n (first_run variables deck files) fresh_slots → At m variables deck first (before n).0 (before n).1
  at_before zero h =
      elim (fares_after m s variables deck files 0) [
        | inl (e, y) ↦ y
        | inr (f, over, inl (none, going)) ↦ absurd (some none)
        | inr (f, over, inr ended) ↦ absurd (let z : false ≡ true = ended.some in cc)
      ]
  at_before (suc n) h =
      elim (fares_after m s variables deck files n) [
        | inl (e, y) ↦
            subst (λ (z : Plain Bay c). At m variables deck first (answered (over_bays m) c z.hand z).0 (answered (over_bays m) c z.hand z).1) (sym e)
            (led_at (asked (before n).0).ask (asked (before n).0).run (before n).1 (asked_leads m variables deck first (before n).0 (before n).1 y)
            (λ f. h (ap (λ (z : Plain Bay c). z.hand) e ∙ f)))
        | inr (f, over, was) ↦ absurd (h f)
      ]

  pub learns_before : (n count : ℕ) (run : Run) → HasAsked (over_bays m) c n (first_run variables deck files) fresh_slots → passes count (before n).0 ≡ Some run → LearnsAt variables deck first run
  learns_before n count run h p = stands_learns run (before n).1 (passes_on m variables deck first so count (before n).0 run (before n).1 (at_before n h) p)

  -- ---- at an ask

  waits_learn : (run : Run) (qs : List (PlainSlot Bay Job)) (x : At m variables deck first run qs) → run.core.output ≡ (desk_step variables x.statement x.before).0.core.output → (told : Run)
      → told.core ≡ run.core → told.rest ≡ run.rest → WaitsOn told.rest told → (count : ℕ) (late : Run) → passes count told ≡ Some late → LearnsAt variables deck first late
  waits_learn run qs x leaves told core rest w zero late p =
      let here : told.rest ≡ x.at_hand ∷ x.behind = rest ∙ x.here in
      let waits : WaitsIn x.at_hand told.stage told = subst (λ l. WaitsOn l told) here w in
      let same : told ≡ late = same_some p in
      subst (LearnsAt variables deck first) same (record {
        index = x.index;
        statement = x.statement;
        before = x.before;
        reached = x.reached;
        rest = ap length rest ∙ long_at m variables deck first run qs x;
        calls = calls_so run qs x told rest;
        output = ap (λ k. k.output) core ∙ output_at m variables deck first run qs x;
        due = ap (λ l. output_due l told) here ∙ waits_output x.at_hand told told.stage waits ∙ ap (λ k. k.output) core ∙ leaves;
        tells = λ k.
            let tells : turn_tells told ≡ run.core.tells =
            ap (λ l. tells_due l told) here ∙ waits_tells x.at_hand told told.stage waits (subst (λ l. known_due l told) here k) ∙ ap (λ z. z.tells) core in
            elim (tells_at m variables deck first run qs x) [ inl e ↦ inl (tells ∙ e) | inr e ↦ inr (tells ∙ e) ];
      })
  waits_learn run qs x leaves told core rest w (suc count) late p =
      let here : told.rest ≡ x.at_hand ∷ x.behind = rest ∙ x.here in
      let waits : WaitsIn x.at_hand told.stage told = subst (λ l. WaitsOn l told) here w in
      absurd (by (passed_by x.behind (turn x.at_hand told.stage told)) (λ late e. waits_stays x.at_hand told told.stage waits (passed_is x.behind (turn x.at_hand told.stage told) late e).0)
      (sym (ap (λ l. option_and_then (passes count) (passed_on l told)) here) ∙ p))
    where
      by : (o : Option Run) → ((z : Run) → o ≡ Some z → ⊥) → option_and_then (passes count) o ≡ Some late → ⊥
      by None n e = let z : None ≡ Some late = e in cc
      by (Some z) n e = n z refl

  led_learns : (ask : Ask Job) (run : Run) (qs : List (PlainSlot Bay Job)) → Led m variables deck first ask run qs → WaitsBy ask run → ask ≢ Finished → (count : ℕ) (late : Run)
      → passes count run ≡ Some late → LearnsAt variables deck first late
  led_learns (Submit slot job) run qs (q, is, y) w n count late p = stands_learns late _ (passes_on m variables deck first so count run late _ y.stands p)
  led_learns (Settle slot) run qs (q, is, o, out, y) w n count late p = waits_learn (told_of run o) _ y.stands y.leaves run refl refl w count late p
  led_learns Finished run qs over w n count late p = absurd (n refl)

  pub learns_at : (n count : ℕ) (run : Run) → (at n).hand ≢ Finished → passes count (at n).script ≡ Some run → LearnsAt variables deck first run
  learns_at n count run h p =
      elim (fares_after m s variables deck files n) [
        | inl (e, y) ↦
            led_learns (asked (before n).0).ask (asked (before n).0).run (before n).1 (asked_leads m variables deck first (before n).0 (before n).1 y) (asked_waits (before n).0)
            (λ f. h (ap (λ (z : Plain Bay c). z.hand) e ∙ f)) count run (ap (λ (z : Plain Bay c). passes count z.script) (sym e) ∙ p)
        | inr (f, over, was) ↦ absurd (h f)
      ]

  -- the jobs that the slots have at an ask were given
  pub asked_given : (n : ℕ) → (at n).hand ≢ Finished → WereGiven variables deck files (at n).script (before n).1
  asked_given n h =
      elim (fares_after m s variables deck files n) [
        | inl (e, y) ↦
            let p = asked_pauses (before n).0 (λ f. h (ap (λ (z : Plain Bay c). z.hand) e ∙ f)) in
            let x = stands_learns p.run (before n).1 (passes_on m variables deck first so p.count (before n).0 p.run (before n).1 y p.passed) in
            elim (each_turn_given m s variables deck files n p.count p.run y.going p.passed) [
              | inl none ↦ absurd (none_left variables deck first p.run x none)
              | inr g ↦ record { index = g.index; rest = ap (λ (z : Plain Bay c). length z.script.rest) e ∙ p.rest ∙ g.rest; within = g.within; each = g.each; told = g.told }
            ]
        | inr (f, over, was) ↦ absurd (h f)
      ]

  -- where an answer is awaited, it waits for that
  pub settle_waits : (n slot : ℕ) → (at n).hand ≡ Settle slot → WaitsOn (at n).script.rest (at n).script
  settle_waits n slot h =
      elim (fares_after m s variables deck files n) [
        | inl (e, y) ↦
            let asks : (asked (before n).0).ask ≡ Settle slot = sym (ap (λ (z : Plain Bay c). z.hand) e) ∙ h in
            subst (λ (z : Plain Bay c). WaitsOn z.script.rest z.script) (sym e) (subst (λ a. WaitsBy a (asked (before n).0).run) asks (asked_waits (before n).0))
        | inr (f, over, was) ↦ absurd (let z : Finished ≡ Settle slot = sym f ∙ h in cc)
      ]

  -- where a job is submitted, the statement at hand is the one of the deck as it begins
  pub submits_hand : (n slot : ℕ) (job : Job) → (at n).hand ≡ Submit slot job → SubmitsHand variables deck first (at n).script
  submits_hand n slot job h =
      elim (fares_after m s variables deck files n) [
        | inl (e, y) ↦
            let asks : (asked (before n).0).ask ≡ Submit slot job = sym (ap (λ (z : Plain Bay c). z.hand) e) ∙ h in
            let it = subst (λ a. Led m variables deck first a (asked (before n).0).run (before n).1) asks (asked_leads m variables deck first (before n).0 (before n).1 y) in
            let begun = subst (λ a. WaitsBy a (asked (before n).0).run) asks (asked_waits (before n).0) in
            subst (λ (z : Plain Bay c). SubmitsHand variables deck first z.script) (sym e) (hand_of (asked (before n).0).run _ it.2.stands begun)
        | inr (f, over, was) ↦ absurd (let z : Finished ≡ Submit slot job = sym f ∙ h in cc)
      ]

  -- the slot of an answer that is awaited is one of those that there are
  pub asked_slot : (n slot : ℕ) → (at n).hand ≡ Settle slot → (q : PlainSlot Bay Job) × (slice_get (at n).slots slot ≡ Some q)
  asked_slot n slot h =
      elim (fares_after m s variables deck files n) [
        | inl (e, y) ↦
            let led = asked_leads m variables deck first (before n).0 (before n).1 y in
            let asks : (asked (before n).0).ask ≡ Settle slot = sym (ap (λ (z : Plain Bay c). z.hand) e) ∙ h in
            let it = subst (λ a. Led m variables deck first a (asked (before n).0).run (before n).1) asks led in
            (it.0, ap (λ (z : Plain Bay c). slice_get z.slots slot) e ∙ it.1)
        | inr (f, over, was) ↦ absurd (let z : Finished ≡ Settle slot = sym f ∙ h in cc)
      ]
