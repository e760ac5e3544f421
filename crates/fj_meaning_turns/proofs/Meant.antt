-- What runs leave and where they are cut, in the words of what the deck means.
use Rattle.std.proofs.Common.{◌≡◌, ℕ, zero, suc, List, [], ◌∷◌, Option, Some, None, refl, sym, ap, ◌∙◌, subst}
use Rattle.fj_statement.specs.declared.deck.Variable.{Variable}
use Rattle.fj_slot.specs.Serving.{Meaning}
use Rattle.fj_bay.specs.Bay.{Bay}
use Rattle.fj_bay.specs.Jobs.{Job, Answer}
use Rattle.fj_meaning.specs.State.{State, Files, start}
use Rattle.fj_meaning.specs.Statement.{Stated, Ending, Ran, begun_in, executed, step, cut}
use Rattle.fj_meaning.specs.Telling.{waited_in}
use Rattle.fj_meaning.proofs.Sound.{Sound, sound_start}
use Rattle.fj_meaning.proofs.Reached.{sound_step}
use Rattle.fj_meaning_jobs.specs.Doing.{Desked}
use Rattle.fj_meaning_jobs.specs.Desking.{DesksRan, begun_at, over_desks, desk_step, fresh}
use Rattle.fj_meaning_jobs.specs.Forgetting.{Forgets}
use Rattle.fj_meaning_jobs.proofs.Forgetting.{begun_same, start_tied, results_same}
use Rattle.fj_meaning_jobs.proofs.SoundStates.{sound_caused, slots_forgotten}
use Rattle.fj_meaning_jobs.proofs.Steps.{step_tied}
use Rattle.fj_meaning_jobs.proofs.Tied.{Tied}
use Rattle.fj_meaning_turns.specs.Serving.{Shows}
use Rattle.fj_meaning_turns.specs.Inside.{cut_desks}
use Rattle.fj_meaning_turns.specs.Meant.{LeavesResult, CutsAgree}
use Rattle.fj_meaning_turns.proofs.Finishing.{executes_decks}

pub leaves_result : {E J A S : Type 0} (m : Meaning E J A Bay Job Answer) (s : Shows S) → LeavesResult m s
leaves_result m s variables deck files script rack run alone going is =
    let came = executes_decks m s variables deck files script rack run alone going is in
    record { desks = ran.desked.desks; held = came.desks; same = same came.core came.ending; result = results_same ended meant (same came.core came.ending) }
  where
    ran : DesksRan
    ran = over_desks variables deck (fresh variables files)

    meant : Ran
    meant = executed variables deck (start variables files)

    ended : DesksRan
    ended = record { desked = record { core = run.core; desks = ran.desked.desks }; ending = run.ending }

    same : run.core ≡ ran.desked.core → run.ending ≡ ran.ending → Forgets ended meant
    same core ending =
        subst (λ c. Forgets (record { desked = record { core = c; desks = ran.desked.desks }; ending = run.ending }) meant) (sym core)
        (subst (λ e. Forgets (record { desked = ran.desked; ending = e }) meant) (sym ending) (slots_forgotten variables deck files))

-- a cut over desks, and that of what the deck means
pub record CutTied (variables : List Variable) (deck : List Stated) (index : ℕ) (s : State) (statement : Stated) (before : Desked) : Type 0 where
  pub state : State
  pub cut_is : cut variables index deck s ≡ Some (statement, state)
  pub tied : Tied before state
  -- and so it is behind the statement, with the same ending
  pub ending : (desk_step variables statement before).1 ≡ (step variables statement state).1
  pub behind : Tied (desk_step variables statement before).0 (step variables statement state).0

cut_on : (variables : List Variable) (index : ℕ) (st : Stated) (more : List Stated) (s : State) → (step variables (begun_in s st) s).1 ≡ None → cut variables (suc index) (st ∷ more) s ≡ cut variables index more (step variables (begun_in s st) s).0
cut_on variables index st more s e =
    ap (λ o. elim o as (λ _. Option (Stated × State)) [ None ↦ cut variables index more (step variables (begun_in s st) s).0 | Some x ↦ None ]) e

cut_tied : (variables : List Variable) (deck : List Stated) (index : ℕ) (p : Desked) (s : State) (statement : Stated) (before : Desked) → Tied p s → Sound s
    → cut_desks variables index deck p ≡ Some (statement, before) → CutTied variables deck index s statement before
cut_tied variables [] index p s statement before t h e = cc
cut_tied variables (st ∷ more) zero p s statement before t h e =
    let same : begun_in s st ≡ statement = sym (begun_same p s st t) ∙ ap (λ (o : Option (Stated × Desked)). elim o as (λ _. Stated) [ None ↦ st | Some x ↦ x.0 ]) e in
    let here : p ≡ before = ap (λ (o : Option (Stated × Desked)). elim o as (λ _. Desked) [ None ↦ p | Some x ↦ x.1 ]) e in
    let tied = subst (λ q. Tied q s) here t in
    let done = step_tied variables statement before s tied (sound_caused s h) in
    record { state = s; cut_is = ap (λ x. Some (x, s)) same; tied = tied; ending = done.0; behind = done.1 }
cut_tied variables (st ∷ more) (suc index) p s statement before t h e =
    let done = subst (λ y. ((desk_step variables y p).1 ≡ (step variables (begun_in s st) s).1) × Tied (desk_step variables y p).0 (step variables (begun_in s st) s).0) (sym (begun_same p s st t))
    (step_tied variables (begun_in s st) p s t (sound_caused s h)) in
    by (desk_step variables (begun_at p st) p).1 refl (λ f. cut_tied variables more index (desk_step variables (begun_at p st) p).0 (step variables (begun_in s st) s).0 statement before done.1 (sound_step variables (begun_in s st) s h) f) done.0
  where
    by : (o : Option Ending) → (desk_step variables (begun_at p st) p).1 ≡ o → (cut_desks variables index more (desk_step variables (begun_at p st) p).0 ≡ Some (statement, before) → CutTied variables more index (step variables (begun_in s st) s).0 statement before)
        → (desk_step variables (begun_at p st) p).1 ≡ (step variables (begun_in s st) s).1 → CutTied variables (st ∷ more) (suc index) s statement before
    by (Some x) f later same =
        absurd (let z : None ≡ Some (statement, before) = sym (ap (λ o. elim o as (λ _. Option (Stated × Desked)) [ None ↦ cut_desks variables index more (desk_step variables (begun_at p st) p).0 | Some y ↦ None ]) f) ∙ e in cc)
    by None f later same =
        let tied = later (sym (ap (λ o. elim o as (λ _. Option (Stated × Desked)) [ None ↦ cut_desks variables index more (desk_step variables (begun_at p st) p).0 | Some y ↦ None ]) f) ∙ e) in
        record { state = tied.state; cut_is = cut_on variables index st more s (sym same ∙ f) ∙ tied.cut_is; tied = tied.tied; ending = tied.ending; behind = tied.behind }

-- the cut of a deck from its start
pub cut_of_deck : (variables : List Variable) (deck : List Stated) (files : Files) (index : ℕ) (statement : Stated) (before : Desked) → cut_desks variables index deck (fresh variables files) ≡ Some (statement, before)
    → CutTied variables deck index (start variables files) statement before
cut_of_deck variables deck files index statement before e =
    cut_tied variables deck index (fresh variables files) (start variables files) statement before (start_tied variables files) (sound_start variables files) e

pub cuts_agree : CutsAgree
cuts_agree variables deck files index statement before e =
    let it = cut_of_deck variables deck files index statement before e in
    record {
      state = it.state;
      cut_is = it.cut_is;
      same = it.tied.same;
      waited_is = ap (λ es. waited_in es before.core.vars statement.0.what) it.tied.same.book ∙ ap (λ vs. waited_in it.state.book vs statement.0.what) it.tied.same.vars;
      output = it.behind.same.output;
    }
