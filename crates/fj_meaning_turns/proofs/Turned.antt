-- What the turn of a statement comes to from each stage, and the tells once it knows what it waits for.
use Rattle.std.proofs.Common.{◌≡◌, ℕ, suc, ◌<◌, Bool, true, false, List, ◌++◌, map, length, Option, Some, None, slice_get, set, get_or, refl, sym, ap, ◌∙◌, subst, inl, inr, ◌&&◌, arith}
use Rattle.std.specs.Prelude.{if◌then◌else◌, ◌==◌}
use Rattle.std.proofs.lemmas.Bool.{eq-eqb, eqb-true}
use Rattle.std.proofs.lemmas.Bool.Decides.{eqb_tells}
use Rattle.fj_value.specs.declared.condition.Rule.{Rule}
use Rattle.fj_statement.specs.declared.deck.Variable.{Variable}
use Rattle.fj_slot.specs.Serving.{Meaning}
use Rattle.fj_slot.specs.Sound.{outcome}
use Rattle.fj_world.specs.Plain.{PlainSlot}
use Rattle.fj_world.proofs.Places.{slice_get_in}
use Rattle.fj_bay.specs.Bay.{Bay}
use Rattle.fj_bay.specs.Jobs.{Job, Answer}
use Rattle.fj_meaning.specs.State.{Entry}
use Rattle.fj_meaning.specs.Statement.{Stated}
use Rattle.fj_meaning.specs.Telling.{tell_of}
use Rattle.fj_meaning_jobs.specs.Core.{Core}
use Rattle.fj_meaning_jobs.specs.Desks.{Outcome, log_at, log_length}
use Rattle.fj_meaning_jobs.specs.Desks as desks
use Rattle.fj_meaning_jobs.specs.Doing.{Doing, awaits, Desked}
use Rattle.fj_meaning_jobs.specs.Desking.{told_core, goes_on}
use Rattle.fj_meaning_turns.specs.Run.{Stage, Start, Waiting, Acting, Awaiting, Run}
use Rattle.fj_meaning_turns.specs.Turns.{unsettled, settles, doing_told, turn_act, with_tells, turn_tell, wait_by, waited_now, start_by, rule_of, begun_for, hand_at, turn_on, told_of}
use Rattle.fj_meaning_turns.specs.Serving.{over_bays}
use Rattle.fj_meaning_turns.specs.Inside.{waited_at, does}
use Rattle.fj_meaning_turns.specs.Passing.{told_at, knows_at}
use Rattle.fj_meaning_turns.proofs.Awaited.{bump_more, own_more, own_awaited, transfers_more, transfers_told}
use Rattle.fj_meaning_turns.proofs.Slots.{same_some, set_found}
use Rattle.fj_meaning_turns.proofs.Ties.{Ties, more, told_found, sent_found, log_found, settle_ties}
use Rattle.fj_meaning_turns.proofs.Tying.{tell_ties}
use Rattle.fj_meaning_turns.proofs.EachKind.{Housed}
use Rattle.fj_meaning_turns.proofs.Reaching.{waited_is, waits_at, answer_of}
use Rattle.fj_meaning_turns.proofs.Statements.{step_is, told_keeps}
use Rattle.fj_meaning_turns.proofs.Printing.{silent_quiet, does_quiet, waits_silent}
use Rattle.fj_meaning_turns.proofs.Stages.{tells_then, Onward, Awaited, IsAllowed, AtStage, TurnComes, Leaves, step_output, walk_on, act_comes, act_leaves}

module _ {E J A : Type 0} (m : Meaning E J A Bay Job Answer) where
  -- ---- it waits for transfers

  -- all that it waits for is known: it tells them, and acts
  first : (st : Stated) (p : Desked) (r : Run) (qs : List (PlainSlot Bay Job)) → Ties m r qs p → unsettled (waited_now st r) r.book ≡ None → Onward m r.variables st p (with_tells st (waited_at st p) r) qs (does r.variables st p)
  first st p r qs t none =
      let told : List Entry = waited_at st p in
      let new : Core = told_core r.variables st.0.line told p.core in
      let t2 = tell_ties m st told r qs p t in
      record {
        now = record { core = new; desks = p.desks };
        ties = t2;
        jobs = 0;
        walk = refl;
        own = λ j low slot job core onward e. absurd (omega (arith, low));
        transfers = transfers_told m st p r qs t none;
        from = new;
        book = ap (λ k. k.book) t2.core;
        keeps = inl (told_keeps r.variables st told p.core (subst (λ k. Housed k.units) t.core t.housed));
        from_tells = refl;
        tells = ap (λ k. k.tells) t2.core;
        output = ap (λ k. k.output) t.core;
        quiet = does_quiet r.variables st p;
      }

  tell_is : (st : Stated) (p : Desked) (r : Run) (qs : List (PlainSlot Bay Job)) → Ties m r qs p → unsettled (waited_now st r) r.book ≡ None
      → turn_tell st (waited_now st r) r ≡ turn_act st (does r.variables st p) (with_tells st (waited_at st p) r)
  tell_is st p r qs t e =
      ap (λ es. turn_tell st es r) (waited_is m st r qs p t e)
      ∙ ap (λ k. turn_act st (doing_told r.variables st (waited_at st p) k) (with_tells st (waited_at st p) r)) t.core

  wait_comes : (st : Stated) (p : Desked) (r : Run) (qs : List (PlainSlot Bay Job)) → Ties m r qs p → IsAllowed m r.variables st p → r.ending ≡ None
      → (o : Option ℕ) → unsettled (waited_now st r) r.book ≡ o → TurnComes m r.variables st p r.rest qs (wait_by st (waited_now st r) o r)
  wait_comes st p r qs t allowed none None e =
      subst (TurnComes m r.variables st p r.rest qs) (sym (tell_is st p r qs t e))
      (act_comes m st p (with_tells st (waited_at st p) r) qs (does r.variables st p) (first st p r qs t e) allowed none)
  wait_comes st p r qs t allowed none (Some slot) e =
      let found = waits_at m (waited_now st r) r qs p slot t e in
      let answer = answer_of m found.0 found.2 in (
        found.0,
        found.1,
        answer.0,
        answer.1,
        record {
          stands = (settle_ties m Waiting r qs p slot found.0 answer.0 t found.1 answer.1 found.2, allowed);
          rest_same = refl;
          variables_same = refl;
          going = none;
        },
      )

  wait_leaves : (st : Stated) (p : Desked) (r : Run) (qs : List (PlainSlot Bay Job)) → Ties m r qs p → IsAllowed m r.variables st p
      → (o : Option ℕ) → unsettled (waited_now st r) r.book ≡ o → Leaves m r.variables st p (wait_by st (waited_now st r) o r)
  wait_leaves st p r qs t allowed None e =
      subst (Leaves m r.variables st p) (sym (tell_is st p r qs t e))
      (act_leaves m st p (with_tells st (waited_at st p) r) qs (does r.variables st p) (first st p r qs t e) allowed)
  wait_leaves st p r qs t allowed (Some slot) e =
      ap (λ k. k.output) t.core
      ∙ sym (step_output r.variables st p 0 p.desks (does r.variables st p) p.core.output allowed refl (waits_silent r.variables st p _ _ r.book slot e))

  -- ---- it waits for its own job

  own_comes : (st : Stated) (p : Desked) (r : Run) (qs : List (PlainSlot Bay Job)) (slot number : ℕ) (next : Outcome → Doing)
      → Awaited m r.variables st p r qs slot number next → IsAllowed m r.variables st p → r.ending ≡ None
      → TurnComes m r.variables st p r.rest qs (settles slot (Awaiting slot number next) r)
  own_comes st p r qs slot number next w allowed none =
      let at = slice_get_in qs slot (subst (λ n. slot < n) (sym w.ties.slots) w.inside) in told at.0 at.1
    where
      told : (q : PlainSlot Bay Job) → slice_get qs slot ≡ Some q → TurnComes m r.variables st p r.rest qs (settles slot (Awaiting slot number next) r)
      told q at = (
        q,
        at,
        answer.0,
        answer.1,
        record {
          stands = by (number == get_or r.told slot 0) refl;
          rest_same = refl;
          variables_same = refl;
          going = none;
        },
      )
        where
          was : get_or r.told slot 0 ≡ q.told
          was = told_found m r qs w.now slot q w.ties at

          less : q.told < length q.jobs
          less = omega (arith, was, w.untold, w.submitted, sent_found m r qs w.now slot q w.ties at)

          answer : (o : Outcome) × (outcome (over_bays m) q.start q.jobs q.told ≡ Some o)
          answer = answer_of m q less

          run : Run
          run = told_of (record r { stage = Awaiting slot number next; due = slot }) answer.0

          ties : Ties m run (set qs slot (more q)) w.now
          ties = settle_ties m (Awaiting slot number next) r qs w.now slot q answer.0 w.ties at answer.1 less

          stage_is : (b : Bool) → (number == get_or r.told slot 0) ≡ b → run.stage ≡ (if b then Acting (next answer.0) else Awaiting slot number next)
          stage_is b e =
              ap (λ x. if x && (number == get_or r.told slot 0) then Acting (next answer.0) else Awaiting slot number next) (eq-eqb slot slot refl)
              ∙ ap (λ x. if x then Acting (next answer.0) else Awaiting slot number next) e

          -- its job is the one that was told
          own : (number == get_or r.told slot 0) ≡ true → answer.0 ≡ desks.outcome w.at slot w.job
          own e =
              let same : number ≡ q.told = eqb-true number (get_or r.told slot 0) e ∙ was in
              same_some (sym answer.1 ∙ sym (log_found m r qs w.now slot q.told q w.ties at) ∙ ap (log_at (slice_get w.now.desks slot)) (sym same) ∙ w.logged)

          behind : (number == get_or r.told slot 0) ≡ true → log_length (slice_get w.at slot) < get_or run.told slot 0
          behind e =
              let same = eqb-true number (get_or r.told slot 0) e in
              let now = told_found m run (set qs slot (more q)) w.now slot (more q) ties (set_found qs slot (more q) q at) in
              let here = w.number_is in
              omega (arith, same, now, here, was)

          by : (b : Bool) → (number == get_or r.told slot 0) ≡ b → AtStage m r.variables st p run (set qs slot (more q)) run.stage
          by true e =
              subst (AtStage m r.variables st p run (set qs slot (more q))) (sym (stage_is true e)) (
                record {
                  now = w.now;
                  ties = ties;
                  jobs = suc w.jobs;
                  walk = walk_on w.jobs p.desks w.at (does r.variables st p) (awaits slot w.job w.now.core next) w.walk
                      ∙ ap (λ ds. (ds, next (desks.outcome w.at slot w.job))) (sym w.carried) ∙ ap (λ o. (w.now.desks, next o)) (sym (own e));
                  own = own_awaited r.variables st p w.jobs run.told w.at slot w.job w.now.core next w.walk (behind e) (own_more r.variables st p w.jobs r.told run.told (bump_more r.told slot) w.own);
                  transfers = transfers_more r.variables st p r.told run.told (bump_more r.told slot) w.transfers;
                  from = w.from;
                  book = w.book;
                  keeps = inl (w.keeps answer.0);
                  from_tells = w.from_tells;
                  tells = w.tells;
                  output = w.output;
                  quiet = silent_quiet p.core.output (next answer.0) (w.silent answer.0);
                },
                allowed,
              )
          by false e =
              subst (AtStage m r.variables st p run (set qs slot (more q))) (sym (stage_is false e)) (
                record {
                  now = w.now;
                  ties = ties;
                  jobs = w.jobs;
                  at = w.at;
                  job = w.job;
                  walk = w.walk;
                  own = own_more r.variables st p w.jobs r.told run.told (bump_more r.told slot) w.own;
                  transfers = transfers_more r.variables st p r.told run.told (bump_more r.told slot) w.transfers;
                  number_is = w.number_is;
                  carried = w.carried;
                  logged = w.logged;
                  inside = w.inside;
                  untold = omega (arith, w.untold, was, other, told_found m run (set qs slot (more q)) w.now slot (more q) ties (set_found qs slot (more q) q at));
                  submitted = w.submitted;
                  from = w.from;
                  book = w.book;
                  keeps = w.keeps;
                  from_tells = w.from_tells;
                  tells = w.tells;
                  output = w.output;
                  silent = w.silent;
                },
                allowed,
              )
            where
              other : q.told < number
              other = below (λ a. let z : true ≡ false = sym (eq-eqb number (get_or r.told slot 0) (a ∙ sym was)) ∙ e in cc)
                where
                  below : (number ≡ q.told → ⊥) → q.told < number
                  below ne = elim (eqb_tells number q.told) [ inl a ↦ absurd (ne a.1) | inr a ↦ omega (arith, a.1, w.untold, was) ]

  now_told : (st : Stated) (p : Desked) (r : Run) (qs : List (PlainSlot Bay Job)) → Ties m r qs p → unsettled (waited_now st r) r.book ≡ None
      → r.core.tells ++ map (tell_of st.0.line) (waited_now st r) ≡ p.core.tells ++ map (tell_of st.0.line) (waited_at st p)
  now_told st p r qs t e = ap (λ k. k.tells ++ map (tell_of st.0.line) (waited_now st r)) t.core ∙ ap (λ es. p.core.tells ++ map (tell_of st.0.line) es) (waited_is m st r qs p t e)

  -- ---- each stage, of a statement that has begun

  start_comes : (st : Stated) (p : Desked) (r : Run) (qs : List (PlainSlot Bay Job)) → Ties m r qs p → r.ending ≡ None → (o : Option Rule) → rule_of r.variables st p.core ≡ o
      → TurnComes m r.variables st p r.rest qs (start_by st o r)
  start_comes st p r qs t none (Some rule) e = record {
    ended = ap (λ s. s.1) (step_is r.variables st p ∙ ap (goes_on st.1 r.variables st.0.line st.0.what p) e);
    some = refl;
    rest_same = refl;
  }
  start_comes st p r qs t none None e = wait_comes st p r qs t e none (unsettled (waited_now st r) r.book) refl

  start_leaves : (st : Stated) (p : Desked) (r : Run) (qs : List (PlainSlot Bay Job)) → Ties m r qs p → (o : Option Rule) → rule_of r.variables st p.core ≡ o → Leaves m r.variables st p (start_by st o r)
  start_leaves st p r qs t (Some rule) e =
      ap (λ k. k.output) t.core ∙ sym (ap (λ s. s.0.core.output) (step_is r.variables st p ∙ ap (goes_on st.1 r.variables st.0.line st.0.what p) e))
  start_leaves st p r qs t None e = wait_leaves st p r qs t e (unsettled (waited_now st r) r.book) refl

  pub stage_comes : (st : Stated) (p : Desked) (r : Run) (qs : List (PlainSlot Bay Job)) → r.ending ≡ None → (stage : Stage) → AtStage m r.variables st p r qs stage
      → TurnComes m r.variables st p r.rest qs (turn_on st stage r)
  stage_comes st p r qs none Start t = start_comes st p r qs t none (rule_of r.variables st r.core) (sym (ap (rule_of r.variables st) t.core))
  stage_comes st p r qs none Waiting (t, allowed) = wait_comes st p r qs t allowed none (unsettled (waited_now st r) r.book) refl
  stage_comes st p r qs none (Acting d) (w, allowed) = act_comes m st p r qs d w allowed none
  stage_comes st p r qs none (Awaiting slot number next) (w, allowed) = own_comes st p r qs slot number next w allowed none

  pub stage_leaves : (st : Stated) (p : Desked) (r : Run) (qs : List (PlainSlot Bay Job)) → (stage : Stage) → AtStage m r.variables st p r qs stage → Leaves m r.variables st p (turn_on st stage r)
  stage_leaves st p r qs Start t = start_leaves st p r qs t (rule_of r.variables st r.core) (sym (ap (rule_of r.variables st) t.core))
  stage_leaves st p r qs Waiting (t, allowed) = wait_leaves st p r qs t allowed (unsettled (waited_now st r) r.book) refl
  stage_leaves st p r qs (Acting d) (w, allowed) = act_leaves m st p r qs d w allowed
  stage_leaves st p r qs (Awaiting slot number next) (w, allowed) =
      w.output ∙ sym (step_output r.variables st p w.jobs w.at (awaits slot w.job w.now.core next) p.core.output allowed w.walk (ap (λ k. k.output) (sym w.ties.core) ∙ w.output, w.silent))

  -- the tells once it knows the answers of those that it waits for
  pub stage_tells : (variables : List Variable) (first st : Stated) (p : Desked) (r : Run) (qs : List (PlainSlot Bay Job)) → (stage : Stage) → AtStage m variables st p r qs stage → hand_at first stage r ≡ st
      → knows_at first stage r → told_at first stage r ≡ tells_then m variables st p
  stage_tells variables first st p r qs Start t h e = by st h (now_told st p r qs t)
    where
      by : (y : Stated) → begun_for r first ≡ y → (unsettled (waited_now y r) r.book ≡ None → r.core.tells ++ map (tell_of y.0.line) (waited_now y r) ≡ tells_then m variables st p)
          → r.core.tells ++ map (tell_of first.0.line) (waited_now (begun_for r first) r) ≡ tells_then m variables st p
      by y q f = subst (λ (z : Stated). unsettled (waited_now z r) r.book ≡ None → r.core.tells ++ map (tell_of z.0.line) (waited_now z r) ≡ tells_then m variables st p) (sym q) f e
  stage_tells variables first st p r qs Waiting (t, allowed) h e =
      subst (λ (z : Stated). unsettled (waited_now z r) r.book ≡ None → r.core.tells ++ map (tell_of z.0.line) (waited_now z r) ≡ tells_then m variables st p) (sym h) (now_told st p r qs t) e
  stage_tells variables first st p r qs (Acting d) (w, allowed) h e = w.tells
  stage_tells variables first st p r qs (Awaiting slot number next) (w, allowed) h e = w.tells
