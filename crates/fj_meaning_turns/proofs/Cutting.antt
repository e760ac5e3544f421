-- The execution cut where a stop is told.
use Rattle.std.proofs.Common.{◌≡◌, ◌⊎◌, ℕ, zero, suc, List, take, get_or, Some, None, slice_get, refl, sym, ap, ◌∙◌, subst, inl, inr, arith}
use Rattle.std.proofs.lemmas.Option.{slice_get_within}
use Rattle.fj_statement.specs.declared.deck.Variable.{Variable}
use Rattle.fj_slot.specs.Serving.{Meaning}
use Rattle.fj_world.specs.declared.ask.Ask.TheVariants.{Settle, Finished}
use Rattle.fj_world.specs.Conduct.{Conduct}
use Rattle.fj_world.specs.Plain.{Plain, after, next, served}
use Rattle.fj_world.proofs.Places.{slice_get_in}
use Rattle.fj_bay.specs.Bay.{Bay}
use Rattle.fj_bay.specs.Jobs.{Job, Answer}
use Rattle.fj_meaning.specs.Statement.{Stated}
use Rattle.fj_meaning_jobs.specs.Desks.{Desk, carry, log_length}
use Rattle.fj_meaning_jobs.specs.Desks as desks
use Rattle.fj_meaning_jobs.specs.Doing.{Doing, finishes, gives, awaits, Desked, acted, given}
use Rattle.fj_meaning_jobs.specs.Desking.{completed, goes_on, desk_step, fresh}
use Rattle.fj_meaning_jobs.specs.Giving.{carry_all}
use Rattle.fj_meaning_turns.specs.Run.{Run}
use Rattle.fj_meaning_turns.specs.Turns.{rule_of}
use Rattle.fj_meaning_turns.specs.Serving.{over_bays, Shows, run_conduct, desks_of, begins}
use Rattle.fj_meaning_turns.specs.Inside.{does, jobs_of, walked}
use Rattle.fj_meaning_turns.specs.Standing.{Along, AwaitsJob, Asks, StandsIn}
use Rattle.fj_meaning_turns.specs.Cutting.{StopAt, stands, EachEntry, CutAtStop, WorldIsCut}
use Rattle.fj_meaning_turns.proofs.Slots.{get_mapped}
use Rattle.fj_meaning_turns.proofs.Acted.{walked_more}
use Rattle.fj_meaning_turns.proofs.Statements.{acts_are, step_is}
use Rattle.fj_meaning_turns.proofs.Decks.{runner_is_plain}
use Rattle.fj_meaning_turns.proofs.Finishing.{fits_hold}

-- ---- the jobs of a statement

pub walked_given : (k : ℕ) (ds : List Desk) (d : Doing) → (walked k ds d).0 ≡ carry_all ds (take k (given ds d))
walked_given zero ds d = refl
walked_given (suc k) ds (finishes core condition) = refl
walked_given (suc k) ds (gives slot job core next) = walked_given k (carry ds slot job) (next (log_length (slice_get ds slot)))
walked_given (suc k) ds (awaits slot job core next) = walked_given k (carry ds slot job) (next (desks.outcome ds slot job))

acted_given : (ds : List Desk) (d : Doing) → (acted ds d).0.desks ≡ carry_all ds (given ds d)
acted_given ds (finishes core condition) = refl
acted_given ds (gives slot job core next) = acted_given (carry ds slot job) (next (log_length (slice_get ds slot)))
acted_given ds (awaits slot job core next) = acted_given (carry ds slot job) (next (desks.outcome ds slot job))

-- a statement that is not prohibited gives all its jobs
pub step_given : (variables : List Variable) (st : Stated) (p : Desked) → rule_of variables st p.core ≡ None → (desk_step variables st p).0.desks ≡ carry_all p.desks (jobs_of variables st p)
step_given variables st p allowed =
    ap (λ d. d.0.desks) (step_is variables st p) ∙ ap (λ o. (goes_on st.1 variables st.0.line st.0.what p o).0.desks) allowed
    ∙ ap (λ d. (completed variables st.0.line st.0.what d).0.desks) (sym (acts_are variables st p))
    ∙ acted_given p.desks (does variables st p)

pub own_given : (variables : List Variable) (st : Stated) (before : Desked) (slot : ℕ) (run : Run) (ds : List Desk) → (a : AwaitsJob variables st before slot run ds) → ds ≡ carry_all before.desks (take (suc a.jobs) (jobs_of variables st before))
own_given variables st before slot run ds a =
    let w = walked a.jobs before.desks (does variables st before) in
    a.desks_are ∙ sym (ap (λ d. (walked 1 w.0 d).0) a.awaited) ∙ sym (ap (λ z. z.0) (walked_more a.jobs before.desks (does variables st before)))
    ∙ walked_given (suc a.jobs) before.desks (does variables st before)

module _ {E J A S : Type 0} (m : Meaning E J A Bay Job Answer) (s : Shows S) where
  abbrev c : Conduct S Job Answer
  c = run_conduct s

  stop_at : (variables : List Variable) (deck : List Stated) (first : Desked) (slot : ℕ) (x : Plain Bay c) → StandsIn m s variables deck first x → x.hand ≡ Settle slot → StopAt variables deck first slot x.script (desks_of m x.slots)
  stop_at variables deck first slot x t h =
      elim (subst (λ a. Asks variables t.statement t.before a x.script (desks_of m x.slots)) h t.inside.asks) [
        | inl w ↦ record {
          index = t.index;
          statement = t.statement;
          before = t.before;
          reached = t.reached;
          rest = t.rest;
          allowed = t.allowed;
          learnt = inl w;
          jobs = 0;
          so_far = w.desks_are;
          whole = step_given variables t.statement t.before t.allowed;
        }
        | inr a ↦ record {
          index = t.index;
          statement = t.statement;
          before = t.before;
          reached = t.reached;
          rest = t.rest;
          allowed = t.allowed;
          learnt = inr a;
          jobs = suc a.jobs;
          so_far = own_given variables t.statement t.before slot x.script (desks_of m x.slots) a;
          whole = step_given variables t.statement t.before t.allowed;
        }
      ]

  -- ---- after any number of entries

  finished_on : (x : Plain Bay c) → x.hand ≡ Finished → (next (over_bays m) c x).hand ≡ Finished
  finished_on x h = let same : next (over_bays m) c x ≡ x = ap (λ a. served (over_bays m) c a x) h in ap (λ k. k.hand) same ∙ h

  along_or : (P : Plain Bay c → Type 0) (n k : ℕ) (x : Plain Bay c) → Along (over_bays m) c P k x → (after (over_bays m) c k x).hand ≡ Finished → ((after (over_bays m) c n x).hand ≡ Finished) ⊎ P (after (over_bays m) c n x)
  along_or P zero zero x a h = inl h
  along_or P zero (suc k) x a h = inr a.0
  along_or P (suc n) zero x a h = along_or P n zero (next (over_bays m) c x) tt (finished_on x h)
  along_or P (suc n) (suc k) x a h = along_or P n k (next (over_bays m) c x) a.1 h

  pub each_entry : EachEntry m s
  each_entry variables deck files n =
      let r = (runner_is_plain m s variables deck files).reaches in
      along_or (StandsIn m s variables deck (fresh variables files)) n r.0 (begins m s variables deck files) r.2 (ap (λ k. k.hand) r.1)

  -- where it awaits an answer
  awaits_inside : (variables : List Variable) (deck : List Stated) (first : Desked) (slot : ℕ) (x : Plain Bay c) → (x.hand ≡ Finished) ⊎ StandsIn m s variables deck first x → x.hand ≡ Settle slot → StandsIn m s variables deck first x
  awaits_inside variables deck first slot x (inl over) h = absurd (let z : Settle slot ≡ Finished = sym h ∙ over in cc)
  awaits_inside variables deck first slot x (inr t) h = t

  pub cut_at_stop : CutAtStop m s
  cut_at_stop variables deck files n slot w fits h =
      let x : Plain Bay c = stands m s variables deck files n in
      record {
        stop = stop_at variables deck (fresh variables files) slot x (awaits_inside variables deck (fresh variables files) slot x (each_entry variables deck files n) h) h;
        held = fits_hold m s x w fits;
      }

  pub world_is_cut : WorldIsCut m s
  world_is_cut variables deck files n w run fits is tells =
      let x : Plain Bay c = stands m s variables deck files n in
      let h = fits.stop is in
      let t = awaits_inside variables deck (fresh variables files) h.slot x (each_entry variables deck files n) h.hand in
      let run_is : run ≡ x.script = (let e : Some run ≡ Some x.script = sym tells ∙ h.state in cc) in
      record {
        slot = h.slot;
        desks = desks_of m x.slots;
        stop = subst (λ r. StopAt variables deck (fresh variables files) h.slot r (desks_of m x.slots)) (sym run_is) (stop_at variables deck (fresh variables files) h.slot x t h.hand);
        held = fits_hold m s x w fits;
        halted = λ l e.
            let at = slice_get_in x.slots h.slot (omega (arith, slice_get_within w.rack.slots h.slot l e, fits.same_slots)) in
            let stopped = h.halted at.0 l at.1 e in
            let told : get_or run.told h.slot 0 ≡ at.0.told = ap (λ r. get_or r.told h.slot 0) run_is ∙ ap (λ l. get_or l h.slot 0) t.inside.told ∙ get_mapped (λ q. q.told) x.slots h.slot at.0 at.1 in
            (stopped.0, omega (arith, stopped.1, stopped.2, told));
      }
