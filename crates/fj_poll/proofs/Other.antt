-- What stretches come to is not about the script that shows the run.
use Rattle.std.proofs.Common.{◌≡◌, ℕ, zero, suc, List, ◌++◌, Option, Some, None, slice_get, refl, sym, ap, ◌∙◌}
use Rattle.fj_slot.specs.Serving.{Meaning}
use Rattle.fj_slot.specs.Sound.{outcome}
use Rattle.fj_world.specs.declared.ask.Ask.{Ask}
use Rattle.fj_world.specs.declared.ask.Ask.TheVariants.{Submit, Settle, Finished}
use Rattle.fj_world.specs.Losing.{given_number, given_reply, given_outcome, answered, HasAsked}
use Rattle.fj_world.specs.Plain.{Plain, PlainSlot, asked_next, submitted_to, told_from, settled_from, served, next, after}
use Rattle.fj_bay.specs.Bay.{Bay}
use Rattle.fj_bay.specs.Jobs.{Job, Answer}
use Rattle.fj_meaning.specs.Statement.{Stated}
use Rattle.fj_meaning_jobs.specs.Desks.{Outcome}
use Rattle.fj_meaning_turns.specs.Passing.{passes}
use Rattle.fj_meaning_turns.specs.Run.{Run}
use Rattle.fj_meaning_turns.specs.Serving.{over_bays, Shows, run_conduct}
use Rattle.fj_meaning_looks.specs.Stretches.{with_rest, runs, before, Joins, Between}

module _ {E J A S S' : Type 0} (m : Meaning E J A Bay Job Answer) (s : Shows S) (s' : Shows S') where
  abbrev other : Plain Bay (run_conduct s) → Plain Bay (run_conduct s')
  other x = record { script = x.script; hand = x.hand; slots = x.slots }

  other_served : (ask : Ask Job) (x : Plain Bay (run_conduct s)) → other (served (over_bays m) (run_conduct s) ask x) ≡ served (over_bays m) (run_conduct s') ask (other x)
  other_served Finished x = refl
  other_served (Submit slot job) x = by (slice_get x.slots slot)
    where
      by : (o : Option (PlainSlot Bay Job)) → other (submitted_to (over_bays m) (run_conduct s) o slot job x) ≡ submitted_to (over_bays m) (run_conduct s') o slot job (other x)
      by None = refl
      by (Some q) = refl
  other_served (Settle slot) x = by (slice_get x.slots slot)
    where
      told : (o : Option Outcome) (q : PlainSlot Bay Job) → other (told_from (over_bays m) (run_conduct s) o q slot x) ≡ told_from (over_bays m) (run_conduct s') o q slot (other x)
      told None q = refl
      told (Some o) q = refl

      by : (o : Option (PlainSlot Bay Job)) → other (settled_from (over_bays m) (run_conduct s) o slot x) ≡ settled_from (over_bays m) (run_conduct s') o slot (other x)
      by None = refl
      by (Some q) = told (outcome (over_bays m) q.start q.jobs q.told) q

  other_after : (n : ℕ) (x : Plain Bay (run_conduct s)) → other (after (over_bays m) (run_conduct s) n x) ≡ after (over_bays m) (run_conduct s') n (other x)
  other_after zero x = refl
  other_after (suc n) x = other_after n (next (over_bays m) (run_conduct s) x) ∙ ap (after (over_bays m) (run_conduct s') n) (other_served x.hand x)

  other_answered : (ask : Ask Job) (x : Plain Bay (run_conduct s)) → answered (over_bays m) (run_conduct s) ask x ≡ answered (over_bays m) (run_conduct s') ask (other x)
  other_answered Finished x = refl
  other_answered (Submit slot job) x = by (slice_get x.slots slot)
    where
      by : (o : Option (PlainSlot Bay Job)) → given_number (over_bays m) (run_conduct s) o slot job x ≡ given_number (over_bays m) (run_conduct s') o slot job (other x)
      by None = refl
      by (Some q) = refl
  other_answered (Settle slot) x = by (slice_get x.slots slot)
    where
      told : (o : Option Outcome) (q : PlainSlot Bay Job) → given_reply (over_bays m) (run_conduct s) o q slot x ≡ given_reply (over_bays m) (run_conduct s') o q slot (other x)
      told None q = refl
      told (Some o) q = refl

      by : (o : Option (PlainSlot Bay Job)) → given_outcome (over_bays m) (run_conduct s) o slot x ≡ given_outcome (over_bays m) (run_conduct s') o slot (other x)
      by None = refl
      by (Some q) = told (outcome (over_bays m) q.start q.jobs q.told) q

  other_runs : (n : ℕ) (r : Run) (qs : List (PlainSlot Bay Job)) → other (runs m s n r qs) ≡ runs m s' n r qs
  other_runs n r qs = other_after n (asked_next (over_bays m) (run_conduct s) r qs)

  other_before : (n : ℕ) (r : Run) (qs : List (PlainSlot Bay Job)) → before m s n r qs ≡ before m s' n r qs
  other_before zero r qs = refl
  other_before (suc n) r qs =
      let x : Plain Bay (run_conduct s) = runs m s n r qs in
      other_answered x.hand x ∙ ap (λ (y : Plain Bay (run_conduct s')). answered (over_bays m) (run_conduct s') y.hand y) (other_runs n r qs)

  other_asked : (n : ℕ) (r : Run) (qs : List (PlainSlot Bay Job)) → HasAsked (over_bays m) (run_conduct s) n r qs → HasAsked (over_bays m) (run_conduct s') n r qs
  other_asked zero r qs h = h
  other_asked (suc n) r qs h = λ e. h (ap (λ (y : Plain Bay (run_conduct s')). y.hand) (other_runs n r qs) ∙ e)

  other_joins : (n : ℕ) (r : Run) (qs : List (PlainSlot Bay Job)) (r' : Run) (qs' : List (PlainSlot Bay Job)) → Joins m s n r qs r' qs' → Joins m s' n r qs r' qs'
  other_joins n r qs r' qs' j = record {
    asks = sym (other_runs n r qs) ∙ ap other j.asks;
    has_asked = other_asked n r qs j.has_asked;
    count = j.count;
    passed = ap (λ (b : Run × List (PlainSlot Bay Job)). passes j.count b.0) (sym (other_before n r qs)) ∙ j.passed;
    slots = ap (λ (b : Run × List (PlainSlot Bay Job)). b.1) (sym (other_before n r qs)) ∙ j.slots;
  }

  pub other_between : (first : Run) (qs0 : List (PlainSlot Bay Job)) (deck : List Stated) (r : Run) (qs : List (PlainSlot Bay Job)) → Between m s first qs0 deck r qs → Between m s' first qs0 deck r qs
  other_between first qs0 deck r qs b = record {
    front = b.front;
    whole = b.whole;
    entries = b.entries;
    gone = λ behind. other_joins b.entries (with_rest (b.front ++ behind) first) qs0 (with_rest behind r) qs (b.gone behind);
  }
