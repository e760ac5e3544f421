-- Where a deck ended, the runner served alone has the statement at hand at which it ended.
use Rattle.std.proofs.Common.{◌≡◌, ℕ, zero, suc, true, false, List, [], ◌∷◌, Option, Some, None, refl, sym, ap, ◌∙◌, subst, inl, inr}
use Rattle.std.specs.Prelude.{IsSome}
use Rattle.fj_statement.specs.declared.deck.Variable.{Variable}
use Rattle.fj_slot.specs.Serving.{Meaning}
use Rattle.fj_world.specs.declared.ask.Ask.TheVariants.{Finished}
use Rattle.fj_world.specs.Conduct.{Conduct}
use Rattle.fj_world.specs.Losing.{before_ask}
use Rattle.fj_world.specs.Plain.{Plain, after}
use Rattle.fj_bay.specs.Bay.{Bay}
use Rattle.fj_bay.specs.Jobs.{Job, Answer}
use Rattle.fj_meaning.specs.State.{State, Files, start}
use Rattle.fj_meaning.specs.Statement.{Stated, Ending, Ran, begun_in, step, executed, cut}
use Rattle.fj_meaning_jobs.specs.Desking.{fresh}
use Rattle.fj_meaning_turns.specs.Run.{Run}
use Rattle.fj_meaning_turns.specs.Serving.{over_bays, Shows, run_conduct, first_run, fresh_slots, begins}
use Rattle.fj_meaning_turns.specs.Passing.{EndsAt, RunsEnd}
use Rattle.fj_meaning_turns.proofs.Slots.{same_some}
use Rattle.fj_meaning_turns.proofs.Finishing.{asks_no_more}
use Rattle.fj_meaning_turns.proofs.Meant.{cut_of_deck}
use Rattle.fj_meaning_turns.proofs.Passed.{EndedAt, Over}
use Rattle.fj_meaning_turns.proofs.Before.{over_at, fares_after}

-- where the statement just behind a cut ends the execution, that is what it comes to
ends_executed : (variables : List Variable) (index : ℕ) (deck : List Stated) (s : State) (st : Stated) (at : State) → cut variables index deck s ≡ Some (st, at) → IsSome (step variables st at).1
    → executed variables deck s ≡ record { state = (step variables st at).0; ending = (step variables st at).1 }
ends_executed variables index [] s st at e some = cc
ends_executed variables zero (x ∷ deck) s st at e some =
    ap (λ (z : Stated × State). elim (step variables z.0 z.1).1 as (λ _. Ran) [ None ↦ executed variables deck (step variables z.0 z.1).0 | Some y ↦ record { state = (step variables z.0 z.1).0; ending = Some y } ]) same
    ∙ here (step variables st at).1 refl some
  where
    same : ◌≡◌ {A = Stated × State} (begun_in s x, s) (st, at)
    same = same_some e

    here : (o : Option Ending) → (step variables st at).1 ≡ o → IsSome o → (elim (step variables st at).1 as (λ _. Ran) [ None ↦ executed variables deck (step variables st at).0 | Some y ↦ record { state = (step variables st at).0; ending = Some y } ]) ≡ record { state = (step variables st at).0; ending = (step variables st at).1 }
    here None f none = cc
    here (Some ending) f none =
        ap (λ o. elim o as (λ _. Ran) [ None ↦ executed variables deck (step variables st at).0 | Some y ↦ record { state = (step variables st at).0; ending = Some y } ]) f
        ∙ ap (λ o. record { state = (step variables st at).0; ending = o }) (sym f)
ends_executed variables (suc index) (x ∷ deck) s st at e some =
    by (step variables (begun_in s x) s).1 refl (λ f. ends_executed variables index deck (step variables (begun_in s x) s).0 st at f some)
  where
    by : (o : Option Ending) → (step variables (begun_in s x) s).1 ≡ o
        → (cut variables index deck (step variables (begun_in s x) s).0 ≡ Some (st, at) → executed variables deck (step variables (begun_in s x) s).0 ≡ record { state = (step variables st at).0; ending = (step variables st at).1 })
        → executed variables (x ∷ deck) s ≡ record { state = (step variables st at).0; ending = (step variables st at).1 }
    by None f later =
        ap (λ o. elim o as (λ _. Ran) [ None ↦ executed variables deck (step variables (begun_in s x) s).0 | Some y ↦ record { state = (step variables (begun_in s x) s).0; ending = Some y } ]) f
        ∙ later (sym (ap (λ o. elim o as (λ _. Option (Stated × State)) [ None ↦ cut variables index deck (step variables (begun_in s x) s).0 | Some y ↦ None ]) f) ∙ e)
    by (Some ending) f later =
        absurd (let z : None ≡ Some (st, at) = sym (ap (λ o. elim o as (λ _. Option (Stated × State)) [ None ↦ cut variables index deck (step variables (begun_in s x) s).0 | Some y ↦ None ]) f) ∙ e in cc)

module _ {E J A S : Type 0} (m : Meaning E J A Bay Job Answer) (s : Shows S) where
  abbrev c : Conduct S Job Answer
  c = run_conduct s

  ends_at : (variables : List Variable) (deck : List Stated) (files : Files) (run : Run) → EndedAt m variables deck (fresh variables files) run → IsSome run.ending → EndsAt variables deck files run
  ends_at variables deck files run x some =
      let it = cut_of_deck variables deck files x.index x.statement x.before x.reached in
      let ends = subst IsSome (sym x.ended ∙ it.ending) some in
      record {
        index = x.index;
        statement = x.statement;
        before = it.state;
        reached = it.cut_is;
        rest = x.place;
        executed_is = ends_executed variables x.index deck (start variables files) x.statement it.state it.cut_is ends;
        ends = ends;
      }

  pub runs_end : RunsEnd m s
  runs_end variables deck files script rack run alone going is some =
      let at : Plain Bay c = after (over_bays m) c alone.entries (begins m s variables deck files) in
      let shows = alone.fits.script going in
      let done : at.hand ≡ Finished = asks_no_more (over_bays m) c at.hand shows.1 in
      let over : Over m variables deck (fresh variables files) at.script =
      over_at m s variables deck (fresh variables files) at (before_ask (over_bays m) c alone.entries (first_run variables deck files) fresh_slots) (fares_after m s variables deck files alone.entries) done in
      let run_is : run ≡ at.script = same_some (sym is ∙ shows.0) in
      by (subst (Over m variables deck (fresh variables files)) (sym run_is) over)
    where
      by : Over m variables deck (fresh variables files) run → EndsAt variables deck files run
      by (inl (left, none)) = absurd (let z : false ≡ true = subst IsSome none some in cc)
      by (inr x) = ends_at variables deck files run x some
