-- A run between two stretches stands at a statement of the deck.
use Rattle.std.proofs.Common.{◌≡◌, ℕ, List, [], Some, sym, subst}
use Rattle.fj_statement.specs.declared.deck.Variable.{Variable}
use Rattle.fj_slot.specs.Serving.{Meaning}
use Rattle.fj_world.specs.Losing.{HasAsked}
use Rattle.fj_world.specs.Plain.{PlainSlot}
use Rattle.fj_bay.specs.Bay.{Bay}
use Rattle.fj_bay.specs.Jobs.{Job, Answer}
use Rattle.fj_meaning.specs.State.{Files}
use Rattle.fj_meaning.specs.Statement.{Stated}
use Rattle.fj_meaning_jobs.specs.Desking.{fresh}
use Rattle.fj_meaning_turns.specs.Passing.{passes}
use Rattle.fj_meaning_turns.specs.Run.{Run}
use Rattle.fj_meaning_turns.specs.Serving.{over_bays, Shows, run_conduct, first_run, fresh_slots}
use Rattle.fj_meaning_turns.proofs.Passed.{At}
use Rattle.fj_meaning_looks.specs.Stretches.{with_rest, before, Joins, Between}
use Rattle.fj_job.proofs.Learning.{at_before}
use Rattle.fj_job.proofs.Passes.{EndsSo, passes_on}

module _ {E J A S : Type 0} (m : Meaning E J A Bay Job Answer) (s : Shows S) (variables : List Variable) (deck : List Stated) (files : Files) (so : EndsSo deck) (some : deck ≡ [] → ⊥) where
  -- it comes to a run by passing statements, from before an ask of that of the deck
  pub comes_at : (n count : ℕ) (r : Run) (qs : List (PlainSlot Bay Job)) → HasAsked (over_bays m) (run_conduct s) n (first_run variables deck files) fresh_slots
      → passes count (before m s n (first_run variables deck files) fresh_slots).0 ≡ Some r → (before m s n (first_run variables deck files) fresh_slots).1 ≡ qs → At m variables deck (fresh variables files) r qs
  comes_at n count r qs asked passed slots =
      let b : Run × List (PlainSlot Bay Job) = before m s n (first_run variables deck files) fresh_slots in
      subst (λ l. At m variables deck (fresh variables files) r l) slots (passes_on m variables deck (fresh variables files) so count b.0 r b.1 (at_before m s variables deck files so some n asked) passed)

  pub between_at : (origin : List Stated) (r : Run) (qs : List (PlainSlot Bay Job)) → Between m s (first_run variables origin files) fresh_slots deck r qs → At m variables deck (fresh variables files) r qs
  between_at origin r qs b =
      let j : Joins m s b.entries (first_run variables deck files) fresh_slots r qs =
      subst (λ l. Joins m s b.entries (with_rest l (first_run variables origin files)) fresh_slots r qs) (sym b.whole) (b.gone r.rest) in
      comes_at b.entries j.count r qs j.has_asked j.passed j.slots
