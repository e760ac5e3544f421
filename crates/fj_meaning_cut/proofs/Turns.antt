-- The turns of a runner: what each does is what the statement does behind so many of its jobs.
use Rattle.std.proofs.Common.{◌≡◌, ◌⊎◌, ℕ, true, false, List, [], length, drop, Some, None, is_some, refl, sym, ap, ◌∙◌, subst, inl, inr}
use Rattle.fj_statement.specs.declared.deck.Variable.{Variable}
use Rattle.fj_slot.specs.Serving.{Meaning}
use Rattle.fj_world.specs.Losing.{before_ask}
use Rattle.fj_world.specs.declared.ask.Ask.TheVariants.{Submit, Finished}
use Rattle.fj_world.specs.Plain.{Plain, PlainSlot, after}
use Rattle.fj_world.specs.Conduct.{Conduct}
use Rattle.fj_bay.specs.Bay.{Bay}
use Rattle.fj_bay.specs.Jobs.{Job, Answer, attach}
use Rattle.fj_meaning.specs.State.{Files, start}
use Rattle.fj_meaning.specs.Statement.{Stated}
use Rattle.fj_meaning_jobs.specs.Core.{Core, has_name}
use Rattle.fj_meaning_jobs.specs.Desks.{Desk}
use Rattle.fj_meaning_jobs.specs.Doing.{Doing, finishes, gives, awaits, Desked}
use Rattle.fj_meaning_jobs.specs.Desking.{fresh}
use Rattle.fj_meaning_turns.specs.Run.{Run, Stage, Start, Waiting, Acting, Awaiting}
use Rattle.fj_meaning_turns.specs.Turns.{begun_for, hand_at, with_hand, turn, turn_act, start_by, unsettled, wait_by, with_tells, rule_of, doing_told, waited_now}
use Rattle.fj_meaning_turns.specs.Inside.{waited_at, does, walked, cut_desks}
use Rattle.fj_meaning_turns.specs.Standing.{GivesNext, GivesJob, Asks, StandsIn}
use Rattle.fj_meaning_turns.specs.Serving.{over_bays, Shows, run_conduct, desks_of, first_run, fresh_slots, begins}
use Rattle.fj_meaning_turns.specs.Laws.{plain_bays, shown}
use Rattle.fj_meaning_turns.specs.Passing.{passes, known_due, knows_at, KnowsAnswers}
use Rattle.fj_meaning_turns.proofs.Before.{Fares, fares_after}
use Rattle.fj_meaning_turns.proofs.Cutting.{each_entry}
use Rattle.fj_meaning_turns.proofs.Meant.{CutTied, cut_of_deck}
use Rattle.fj_meaning_turns.proofs.Passed.{passes_none, At, long_at, passes_stand}
use Rattle.fj_meaning_turns.proofs.Reaching.{waited_is}
use Rattle.fj_meaning_turns.proofs.Slots.{same_some}
use Rattle.fj_meaning_turns.proofs.Stages.{AtStage}
use Rattle.fj_meaning_turns.proofs.Ties.{Ties}
use Rattle.fj_meaning_cut.specs.Others.{names_of, names_in, file_opened, core_now, left_now, AreHoused}
use Rattle.fj_meaning_cut.specs.Turning.{TurnsDo, doing_at, doing_due, turn_doing, IsUnbegun, TurnLeavesOthers, EachTurn, TurnsLeaveOthers, SubmitLeavesOthers, EachSubmit, SubmitsLeaveOthers}
use Rattle.fj_meaning_cut.proofs.Connecting.{connects_at_point, told_connects, connects_one, opened_about}
use Rattle.fj_meaning_cut.proofs.Deck.{housed_before, others_stay, units_keep_desks}
use Rattle.fj_meaning_cut.proofs.Keeping.{has_behind}
use Rattle.fj_meaning_cut.proofs.Opened.{opened_so}
use Rattle.fj_meaning_cut.proofs.Stops.{names_same, opened_same, about_same, renewed_same, closed_same}

-- ---- behind so many jobs

abbrev IsBehind : List Variable → Stated → Desked → List Desk → Doing → Type 0
IsBehind variables st p desks d = (jobs : ℕ) × (walked jobs p.desks (does variables st p) ≡ (desks, d))

module _ {E J A : Type 0} (m : Meaning E J A Bay Job Answer) where
  told_behind : (variables : List Variable) (st : Stated) (p : Desked) (r : Run) (qs : List (PlainSlot Bay Job)) (d : Doing) → r.variables ≡ variables → Ties m r qs p
      → unsettled (waited_now st r) r.book ≡ None → Some (doing_told r.variables st (waited_now st r) r.core) ≡ Some d → IsBehind variables st p (desks_of m qs) d
  told_behind variables st p r qs d vs t known e =
      let same : does variables st p ≡ d =
      sym (ap (λ v. doing_told v st (waited_now st r) r.core) vs ∙ ap (λ es. doing_told variables st es r.core) (waited_is m st r qs p t known) ∙ ap (doing_told variables st (waited_at st p)) t.core) ∙ same_some e in
      (0, ap (λ ds. (ds, does variables st p)) (sym t.desks) ∙ ap (λ x. (desks_of m qs, x)) same)

  stage_behind : (variables : List Variable) (at_hand st : Stated) (p : Desked) (r : Run) (qs : List (PlainSlot Bay Job)) (d : Doing) → r.variables ≡ variables → (stage : Stage) → AtStage m variables st p r qs stage
      → hand_at at_hand stage r ≡ st → knows_at at_hand stage r → doing_at at_hand stage r ≡ Some d → IsBehind variables st p (desks_of m qs) d
  stage_behind variables at_hand st p r qs d vs Start t h known e =
      told_behind variables st p r qs d vs t (subst (λ y. unsettled (waited_now y r) r.book ≡ None) h known) (subst (λ y. Some (doing_told r.variables y (waited_now y r) r.core) ≡ Some d) h e)
  stage_behind variables at_hand st p r qs d vs Waiting (t, allowed) h known e =
      told_behind variables st p r qs d vs t (subst (λ y. unsettled (waited_now y r) r.book ≡ None) h known) (subst (λ y. Some (doing_told r.variables y (waited_now y r) r.core) ≡ Some d) h e)
  stage_behind variables at_hand st p r qs d vs (Acting next) (w, allowed) h known e = (w.jobs, w.walk ∙ ap (λ ds. (ds, next)) (sym w.ties.desks) ∙ ap (λ x. (desks_of m qs, x)) (same_some e))
  stage_behind variables at_hand st p r qs d vs (Awaiting slot number next) (w, allowed) h known e = cc

  -- while nothing of it is begun
  stage_before : (variables : List Variable) (st : Stated) (p : Desked) (r : Run) (qs : List (PlainSlot Bay Job)) (stage : Stage) → AtStage m variables st p r qs stage → IsUnbegun stage → Ties m r qs p
  stage_before variables st p r qs Start t un = t
  stage_before variables st p r qs Waiting (t, allowed) un = t
  stage_before variables st p r qs (Acting next) a un = absurd un
  stage_before variables st p r qs (Awaiting slot number next) a un = absurd un

  -- the statement opens that file
  abbrev Opens : {variables : List Variable} {deck : List Stated} {first : Desked} {run : Run} {qs : List (PlainSlot Bay Job)} → At m variables deck first run qs → List ℕ → Type 0
  Opens x name = file_opened (names_of x.before.core.units) x.statement.0.what ≡ Some name

  turn_leaves : (variables : List Variable) (deck : List Stated) (files : Files) (run : Run) (qs : List (PlainSlot Bay Job)) → At m variables deck (fresh variables files) run qs
      → TurnLeavesOthers variables deck files run (desks_of m qs)
  turn_leaves variables deck files run qs x = record {
    index = x.index;
    statement = x.statement;
    state = it.state;
    cut_is = it.cut_is;
    rest = long_at m variables deck (fresh variables files) run qs x;
    units = λ known d e. let at = behind known d e in
        subst (λ (z : List Desk × Doing). AreHoused z.0 (core_now z.1).units) at.1 (units_keep_desks variables deck files x.index x.statement x.before at.0 x.reached).inside;
    others = λ known d e name about. let at = behind known d e in
        ap (λ (z : List Desk × Doing). left_now z.0 (core_now z.1) name) (sym at.1)
        ∙ (others_stay variables deck files x.index x.statement x.before at.0 name x.reached).inside
        (λ q. about (sym (about_same (names_of x.before.core.units) (names_in it.state.units) x.statement.0.what (names_same x.before.desks x.before.core.units it.state.units it.tied.same.units)) ∙ q))
        ∙ ap (λ (f : Files). f name) (closed_same x.before it.state it.tied.same);
    keeps = λ known d e name about new. let at = behind known d e in
        let names = names_same x.before.desks x.before.core.units it.state.units it.tied.same.units in
        ap (λ (z : List Desk × Doing). has_name (core_now z.1).units name) (sym at.1)
        ∙ has_behind variables x.statement x.before at.0 name (about_same (names_of x.before.core.units) (names_in it.state.units) x.statement.0.what names ∙ about)
        (λ q. new (sym (renewed_same (names_of x.before.core.units) (names_in it.state.units) x.statement.0.what names) ∙ q));
    unbegun = λ un. let t = stage_before variables x.statement x.before run qs run.stage x.stands un in (
      subst (λ ds. AreHoused ds run.core.units) (sym t.desks) (subst (λ (k : Core). AreHoused x.before.desks k.units) (sym t.core) (housed_before variables deck files x.index x.statement x.before x.reached)),
      λ name. ap (λ ds. left_now ds run.core name) t.desks ∙ ap (λ (k : Core). left_now x.before.desks k name) t.core ∙ ap (λ (f : Files). f name) (closed_same x.before it.state it.tied.same),
    );
    connects = λ known slot c core next e. let at = behind known (awaits slot (attach (Some c)) core next) e in
        let opens = connects_at_point (Opens x) at.0 x.before.desks (does variables x.statement x.before) (told_connects (Opens x) variables x.statement (waited_at x.statement x.before) x.before.core (λ name q. q)) in
        sym (about_same (names_of x.before.core.units) (names_in it.state.units) x.statement.0.what (names_same x.before.desks x.before.core.units it.state.units it.tied.same.units))
        ∙ opened_about (names_of x.before.core.units) x.statement.0.what c.name
        (connects_one (Opens x) (walked at.0 x.before.desks (does variables x.statement x.before)).1 opens slot c core next (ap (λ (z : List Desk × Doing). z.1) at.1));
  }
    where
      it : CutTied variables deck x.index (start variables files) x.statement x.before
      it = cut_of_deck variables deck files x.index x.statement x.before x.reached

      behind : KnowsAnswers run → (d : Doing) → turn_doing run ≡ Some d → IsBehind variables x.statement x.before (desks_of m qs) d
      behind known d e =
          stage_behind variables x.at_hand x.statement x.before run qs d x.variables_are run.stage x.stands x.hand (subst (λ l. known_due l run) x.here known) (sym (ap (λ l. doing_due l run) x.here) ∙ e)

module _ {E J A S : Type 0} (m : Meaning E J A Bay Job Answer) (s : Shows S) where
  abbrev c : Conduct S Job Answer
  c = run_conduct s

  pub each_turn : EachTurn m s
  each_turn variables deck files n count run going passed =
      by (before_ask (over_bays m) c n (first_run variables deck files) fresh_slots) (fares_after m s variables deck files n) going passed
    where
      by : (b : Run × List (PlainSlot Bay Job)) → Fares m s variables deck (fresh variables files) (after (over_bays m) c n (begins m s variables deck files)) b → b.0.ending ≡ None → passes count b.0 ≡ Some run
          → (run.rest ≡ []) ⊎ TurnLeavesOthers variables deck files run (desks_of m b.1)
      by b (inl (e, y)) none p =
          elim (passes_stand m variables deck (fresh variables files) count b.0 b.1 y run p) [
            | inl left ↦ inl left
            | inr z ↦ inr (turn_leaves m variables deck files run b.1 z)
          ]
      by b (inr (h, over, inl (left, f))) none p = inl (passes_none count b.0 run left p)
      by b (inr (h, over, inr ended)) none p = absurd (let z : true ≡ false = sym ended.some ∙ ap is_some none in cc)

pub turns_leave_others : TurnsLeaveOthers
turns_leave_others s = each_turn plain_bays (shown s)

-- ---- a job is submitted

gives_core : (d : Doing) (slot : ℕ) (job : Job) (core : Core) → GivesNext d slot job core → core_now d ≡ core
gives_core (finishes now condition) slot job core h = absurd h
gives_core (gives at task now next) slot job core h = h.2
gives_core (awaits at task now next) slot job core h = h.2

submit_leaves : (variables : List Variable) (deck : List Stated) (files : Files) (run : Run) (desks : List Desk) (index : ℕ) (statement : Stated) (before : Desked) (slot : ℕ) (job : Job)
    → cut_desks variables index deck (fresh variables files) ≡ Some (statement, before) → length run.rest ≡ length (drop index deck) → GivesJob variables statement before slot job run desks → SubmitLeavesOthers variables deck files run desks
submit_leaves variables deck files run desks index statement before slot job reached rest g = record {
  index = index;
  statement = statement;
  state = it.state;
  cut_is = it.cut_is;
  rest = rest;
  units = subst (λ ds. AreHoused ds run.core.units) (sym g.desks_are) (subst (λ (k : Core). AreHoused point.0 k.units) core (units_keep_desks variables deck files index statement before g.jobs reached).inside);
  others = λ name about.
      ap (λ ds. left_now ds run.core name) g.desks_are ∙ ap (λ (k : Core). left_now point.0 k name) (sym core)
      ∙ (others_stay variables deck files index statement before g.jobs name reached).inside (λ q. about (sym (about_same (names_of before.core.units) (names_in it.state.units) statement.0.what names) ∙ q))
      ∙ ap (λ (f : Files). f name) (closed_same before it.state it.tied.same);
  keeps = λ name about new.
      ap (λ (k : Core). has_name k.units name) (sym core)
      ∙ has_behind variables statement before g.jobs name (about_same (names_of before.core.units) (names_in it.state.units) statement.0.what names ∙ about)
      (λ q. new (sym (renewed_same (names_of before.core.units) (names_in it.state.units) statement.0.what names) ∙ q));
  opens = opened_so variables statement before g.jobs slot job run.core g.gives ∙ opened_same (names_of before.core.units) (names_in it.state.units) statement.0.what names;
}
  where
    it : CutTied variables deck index (start variables files) statement before
    it = cut_of_deck variables deck files index statement before reached

    point : List Desk × Doing
    point = walked g.jobs before.desks (does variables statement before)

    core : core_now point.1 ≡ run.core
    core = gives_core point.1 slot job run.core g.gives

    names : (number : ℕ) → names_of before.core.units number ≡ names_in it.state.units number
    names = names_same before.desks before.core.units it.state.units it.tied.same.units

module _ {E J A S : Type 0} (m : Meaning E J A Bay Job Answer) (s : Shows S) where
  abbrev Then : Type 0
  Then = Plain Bay (run_conduct s)

  pub each_submit : EachSubmit m s
  each_submit variables deck files n slot job hand = by (each_entry m s variables deck files n) (fares_after m s variables deck files n)
    where
      x : Then
      x = after (over_bays m) (run_conduct s) n (begins m s variables deck files)

      b : Run × List (PlainSlot Bay Job)
      b = before_ask (over_bays m) (run_conduct s) n (first_run variables deck files) fresh_slots

      ends : {P : Type 0} → x.hand ≡ Finished → P
      ends over = absurd (let z : Submit slot job ≡ Finished = sym hand ∙ over in cc)

      by : (x.hand ≡ Finished) ⊎ StandsIn m s variables deck (fresh variables files) x → Fares m s variables deck (fresh variables files) x b → SubmitLeavesOthers variables deck files x.script (desks_of m b.1)
      by (inl over) fares = ends over
      by (inr t) (inr (over, after, was)) = ends over
      by (inr t) (inl (e, y)) =
          submit_leaves variables deck files x.script (desks_of m b.1) t.index t.statement t.before slot job t.reached t.rest
          (subst (λ (qs : List (PlainSlot Bay Job)). GivesJob variables t.statement t.before slot job x.script (desks_of m qs)) (ap (λ (z : Then). z.slots) e)
          (subst (λ a. Asks variables t.statement t.before a x.script (desks_of m x.slots)) hand t.inside.asks))

pub submits_leave_others : SubmitsLeaveOthers
submits_leave_others s = each_submit plain_bays (shown s)

-- ---- what a turn does

pub turns_do : TurnsDo
turns_do st rest r d here allowed known e = by r.stage allowed (subst (λ l. known_due l r) here known) (sym (ap (λ l. doing_due l r) here) ∙ e)
  where
    x : Stated
    x = begun_for r st

    by : (stage : Stage) → (stage ≡ Start → rule_of r.variables x r.core ≡ None) → knows_at st stage r → doing_at st stage r ≡ Some d → (acting : Run) × (turn st stage r ≡ turn_act (hand_at st stage r) d acting)
    by Start allowed known e =
        let begun : Run = with_hand x r in
        let acting : Run = with_tells x (waited_now x r) begun in
        (acting, ap (λ o. start_by x o begun) (allowed refl) ∙ ap (λ o. wait_by x (waited_now x r) o begun) known ∙ ap (λ y. turn_act x y acting) (same_some e))
    by Waiting allowed known e = let acting : Run = with_tells st (waited_now st r) r in (acting, ap (λ o. wait_by st (waited_now st r) o r) known ∙ ap (λ x. turn_act st x acting) (same_some e))
    by (Acting next) allowed known e = (r, ap (λ x. turn_act st x r) (same_some e))
    by (Awaiting slot number next) allowed known e = cc
