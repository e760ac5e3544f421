-- Whole decks over desks, and their results.
use Rattle.std.proofs.Common.{◌≡◌, ℕ, zero, suc, ◌<◌, List, [], ◌∷◌, replicate, Option, Some, None, slice_get, refl, sym, ap, ◌∙◌, subst, arith}
use Rattle.fj_bay.specs.Bay.{Bay}
use Rattle.fj_statement.specs.declared.deck.Variable.{Variable}
use Rattle.fj_meaning.specs.State.{State, Files, start, files_closed}
use Rattle.fj_meaning.specs.State as plain
use Rattle.fj_meaning.specs.Statement.{Stated, Ending, Ran, begins, begun_in, executed, step, result_of}
use Rattle.fj_meaning_jobs.specs.Core.{Connected}
use Rattle.fj_meaning_jobs.specs.Desks.{Desk}
use Rattle.fj_meaning_jobs.specs.Doing.{Desked}
use Rattle.fj_meaning_jobs.specs.Desking.{DesksRan, begun_at, over_desks, desk_step, fresh, connection_at, left_by, all_left, desk_result}
use Rattle.fj_meaning_jobs.specs.Forgetting.{Forgets, bay_at}
use Rattle.fj_meaning_jobs.proofs.Apart.{Each}
use Rattle.fj_meaning_jobs.proofs.Seen.{Seen}
use Rattle.fj_meaning_jobs.proofs.Tied.{Tied}
use Rattle.fj_meaning_jobs.proofs.Steps.{Caused, step_tied}

-- ---- the start

get_replicated : {X : Type 0} → (n : ℕ) (x : X) (k : ℕ) → k < n → slice_get (replicate n x) k ≡ Some x
get_replicated zero x k h = absurd (omega (arith, h))
get_replicated (suc n) x zero h = refl
get_replicated (suc n) x (suc k) h = get_replicated n x k (omega (arith, h))

pub start_tied : (variables : List Variable) (files : Files) → Tied (fresh variables files) (start variables files)
start_tied variables files = record {
  same = record { vars = refl; book = refl; units = tt; files = refl; output = refl; next = refl; new_unit = refl; tells = refl };
  slots = record { apart = tt; idle = λ k l d. ap bay_at (get_replicated 16 fresh_desk k l); sixteen = refl; placed = tt };
  numbers = tt;
}
  where
    fresh_desk : Desk
    fresh_desk = record { bay = record { connection = None; halt = None }; log = [] }

-- a statement begins alike
pub begun_same : (p : Desked) (s : State) (st : Stated) → Tied p s → begun_at p st ≡ begun_in s st
begun_same p s st t = ap (λ v. begins v p.core.new_unit st) t.same.vars ∙ ap (λ n. begins s.vars n st) t.same.new_unit

-- ---- a deck, where something sound is kept by each statement by which halted units have a pending transfer that tells of it

module _ (Sound : State → Type 0) (caused : (s : State) → Sound s → Each (Caused s.book) s.units) (kept : (variables : List Variable) (st : Stated) (s : State) → Sound s → Sound (step variables st s).0) where
  module _ (variables : List Variable) (st : Stated) (p : Desked) (s : State) (t : Tied p s) (h : Sound s) where
    abbrev pub on_desks : Desked × Option Ending
    on_desks = desk_step variables (begun_at p st) p

    abbrev pub meant : State × Option Ending
    meant = step variables (begun_in s st) s

    pub both : (on_desks.1 ≡ meant.1) × Tied on_desks.0 meant.0
    both = subst (λ y. ((desk_step variables y p).1 ≡ meant.1) × Tied (desk_step variables y p).0 meant.0) (sym (begun_same p s st t)) (step_tied variables (begun_in s st) p s t (caused s h))

    pub after : Sound meant.0
    after = kept variables (begun_in s st) s h

  deck_forgets : (variables : List Variable) (sts : List Stated) (p : Desked) (s : State) → Tied p s → Sound s → Forgets (over_desks variables sts p) (executed variables sts s)
  deck_forgets variables [] p s t h = record { ending = refl; same = t.same }
  deck_forgets variables (st ∷ more) p s t h =
      let done = both variables st p s t h in
      by d.1 e.1 done.0 done.1 (deck_forgets variables more d.0 e.0 done.1 (after variables st p s t h))
    where
      d : Desked × Option Ending
      d = on_desks variables st p s t h

      e : State × Option Ending
      e = meant variables st p s t h

      by : (a b : Option Ending) → a ≡ b → Tied d.0 e.0 → Forgets (over_desks variables more d.0) (executed variables more e.0)
          → Forgets (elim a as (λ _. DesksRan) [ None ↦ over_desks variables more d.0 | Some o ↦ record { desked = d.0; ending = Some o } ])
          (elim b as (λ _. Ran) [ None ↦ executed variables more e.0 | Some o ↦ record { state = e.0; ending = Some o } ])
      by None None q u f = f
      by None (Some o) q u f = cc
      by (Some o) None q u f = cc
      by (Some o) (Some k) q u f = record { ending = q; same = u.same }

  -- what is reached, too where a statement ended the deck
  pub reached_tied : (variables : List Variable) (sts : List Stated) (p : Desked) (s : State) → Tied p s → Sound s → Tied (over_desks variables sts p).desked (executed variables sts s).state × Sound (executed variables sts s).state
  reached_tied variables [] p s t h = (t, h)
  reached_tied variables (st ∷ more) p s t h =
      let done = both variables st p s t h in
      let sound = after variables st p s t h in
      by d.1 e.1 done.0 done.1 sound (reached_tied variables more d.0 e.0 done.1 sound)
    where
      d : Desked × Option Ending
      d = on_desks variables st p s t h

      e : State × Option Ending
      e = meant variables st p s t h

      by : (a b : Option Ending) → a ≡ b → Tied d.0 e.0 → Sound e.0
          → Tied (over_desks variables more d.0).desked (executed variables more e.0).state × Sound (executed variables more e.0).state
          → (let m : DesksRan = elim a as (λ _. DesksRan) [ None ↦ over_desks variables more d.0 | Some o ↦ record { desked = d.0; ending = Some o } ] in
          let n : Ran = elim b as (λ _. Ran) [ None ↦ executed variables more e.0 | Some o ↦ record { state = e.0; ending = Some o } ] in Tied m.desked n.state × Sound n.state)
      by None None q u v f = f
      by None (Some o) q u v f = cc
      by (Some o) None q u v f = cc
      by (Some o) (Some k) q u v f = (u, v)

  pub slots_forgotten : (variables : List Variable) (sts : List Stated) (files : Files) → Sound (start variables files) → Forgets (over_desks variables sts (fresh variables files)) (executed variables sts (start variables files))
  slots_forgotten variables sts files h = deck_forgets variables sts (fresh variables files) (start variables files) (start_tied variables files) h

-- ---- results

left_same : (desks : List Desk) (us : List Connected) (vs : List plain.Unit) (files : Files) → Seen desks us vs → all_left desks us files ≡ files_closed vs files
left_same desks [] [] files b = refl
left_same desks [] (v ∷ vs) files b = absurd b
left_same desks (u ∷ us) [] files b = absurd b
left_same desks (u ∷ us) (v ∷ vs) files b =
    ap (λ o. all_left desks us (left_by o files)) (by (slice_get desks u.slot) b.0.bay) ∙ left_same desks us vs (plain.left v.connection (plain.keeps v) files) b.1
  where
    by : (o : Option Desk) → bay_at o ≡ Some (record { connection = Some v.connection; halt = v.halt }) → connection_at o ≡ Some v.connection
    by None e = cc
    by (Some d) e = let same : d.bay ≡ record { connection = Some v.connection; halt = v.halt } = cc in ap (λ (x : Bay). x.connection) same

pub results_same : (ran : DesksRan) (meant : Ran) → Forgets ran meant → desk_result ran ≡ result_of meant
results_same ran meant h =
    ap (λ e. record { ending = e; output = ran.desked.core.output; tells = ran.desked.core.tells; vars = ran.desked.core.vars; files = all_left ran.desked.desks ran.desked.core.units ran.desked.core.files }) h.ending
    ∙ ap (λ o. record { ending = meant.ending; output = o; tells = ran.desked.core.tells; vars = ran.desked.core.vars; files = all_left ran.desked.desks ran.desked.core.units ran.desked.core.files }) h.same.output
    ∙ ap (λ t. record { ending = meant.ending; output = meant.state.output; tells = t; vars = ran.desked.core.vars; files = all_left ran.desked.desks ran.desked.core.units ran.desked.core.files }) h.same.tells
    ∙ ap (λ v. record { ending = meant.ending; output = meant.state.output; tells = meant.state.tells; vars = v; files = all_left ran.desked.desks ran.desked.core.units ran.desked.core.files }) h.same.vars
    ∙ ap (λ f. record { ending = meant.ending; output = meant.state.output; tells = meant.state.tells; vars = meant.state.vars; files = f })
    (ap (all_left ran.desked.desks ran.desked.core.units) h.same.files ∙ left_same ran.desked.desks ran.desked.core.units meant.state.units meant.state.files h.same.units)
