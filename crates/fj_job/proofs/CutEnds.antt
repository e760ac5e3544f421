-- Where a run was not cut and its deck ended: the statement at hand is the one at which it ended.
use Rattle.std.proofs.Common.{◌≡◌, ℕ, Bool, false, cond, List, ◌++◌, length, Option, Some, None, IsSome, refl, sym, ap, ◌∙◌, subst, inl}
use Rattle.std.specs.Option.{option_map}
use Rattle.fj_outside.specs.Holdings.{Holdings}
use Rattle.fj_outside.specs.declared.outside.FileStore.{Ghosts}
use Rattle.fj_statement.specs.declared.deck.Deck.{Deck}
use Rattle.fj_slot.specs.Serving.{Meaning}
use Rattle.fj_world.specs.Alone.{ServedAlone}
use Rattle.fj_world.specs.Rack.{Rack}
use Rattle.fj_bay.specs.Bay.{Bay}
use Rattle.fj_bay.specs.Jobs.{Job, Answer}
use Rattle.fj_meaning.specs.State.{Files, all_closed}
use Rattle.fj_meaning.specs.Statement.{stated, Ran, Ending, plain_execution}
use Rattle.fj_meaning_turns.specs.Run.{Run}
use Rattle.fj_meaning_turns.specs.Serving.{over_bays, Shows, run_conduct, begins}
use Rattle.fj_meaning_turns.specs.Passing.{EndsAt}
use Rattle.fj_meaning_turns.proofs.Ended.{runs_end}
use Rattle.fj_run_pending.specs.Plain.{tells_of}
use Rattle.fj_run_items.specs.Handing.{whole_records}
use Rattle.fj_run_script.specs.Machine.{rest_of, run_of, ending_of}
use Rattle.fj_run_script.specs.declared.ending.Ending.{Ending as Code}
use Rattle.fj_run_script.specs.declared.machine.Machine.{Machine}
use Rattle.fj_job.specs.Cut.{Carried, ComesTo}
use Rattle.fj_job.specs.Cutting.{HoldsFiles, IsExact, EndsHere}
use Rattle.fj_job.proofs.Cut.{left_behind, shown}
use Rattle.fj_job.proofs.CutTexts.{at_hand}
use Rattle.fj_job.proofs.Executed.{rest_is, parts}

module _ {F : Type 0} {ghosts : Ghosts F} (deck : Deck) (files : Files) (m : Machine F ghosts) where
  ends_here : (run : Run) → EndsAt deck.variables (stated deck.statements) files run → run.rest ≡ rest_of m → m.deck ≡ deck → EndsHere deck files m
  ends_here run x rest same =
      let comes : ComesTo deck files = record { index = x.index; statement = x.statement; before = x.before; there = x.reached } in
      record {
        comes = comes;
        ends = x.ends;
        at = at_hand deck files comes m.at.place (left_behind deck m same ∙ ap length (sym rest) ∙ x.rest);
        place = ap length (sym rest) ∙ x.rest;
        output = ap (λ (r : Ran). r.state.output) x.executed_is;
        tells = ap (λ (r : Ran). r.state.tells) x.executed_is;
        files_are = ap (λ (r : Ran). (all_closed r.state).files) x.executed_is;
      }

ending_some : (o : Option Code) (e : Code) (p : Option Ending) → o ≡ Some e → p ≡ option_map ending_of o → IsSome p
ending_some o e p is same = subst IsSome (sym (same ∙ ap (option_map ending_of) is)) refl

-- a script that was served and is not over
pub has_ended : {E J A S F : Type 0} {ghosts : Ghosts F} (meaning : Meaning E J A Bay Job Answer) (s : Shows S) (told : F → Bool) (bytes : F → List ℕ) (deck : Deck) (files left : Files)
    (m : Machine F ghosts) (rack : Rack E J A) (script : S) (b : Bool)
    → ServedAlone (over_bays meaning) (run_conduct s) (begins meaning s deck.variables (stated deck.statements) files) script rack → s.over script ≡ false
    → s.state script ≡ cond b (run_of told bytes left m) None → m.deck ≡ deck → (e : Code) → m.state.ending ≡ Some e → EndsHere deck files m
has_ended meaning s told bytes deck files left m rack script b alone going state same e ends =
    let known = (alone.fits.script going).0 in
    let is : run_of told bytes left m ≡ Some _ = shown b (run_of told bytes left m) _ (sym state ∙ known) in
    let both = parts told bytes left m _ is in
    ends_here deck files m _ (runs_end meaning s deck.variables (stated deck.statements) files script rack _ alone going known (ending_some m.state.ending e _ ends both.1))
    (rest_is told bytes left m _ is) same

-- what is told and written there is exact, where the machine came to what executing the deck does
pub ended_exact : {E J A F : Type 0} {ghosts : Ghosts F} (meaning : Meaning E J A Bay Job Answer) (rack : Rack E J A) (held : Holdings) (before now : ℕ) (Tells : Type 0) (old new : List ℕ)
    (deck : Deck) (files : Files) (m : Machine F ghosts) (e : EndsHere deck files m) → HoldsFiles meaning rack held before now deck files e.comes Carried m
    → (plain_execution deck.variables deck.statements files).output ≡ m.state.core.output → (plain_execution deck.variables deck.statements files).tells ≡ tells_of m.state.core.tells
    → (Tells → new ≡ old ++ whole_records m.state.core.output) → IsExact meaning rack held before now Tells old new deck files e.comes m
ended_exact meaning rack held before now Tells old new deck files m e holds output tells taken =
    record { reach = Carried; may = e.ends; output = sym output ∙ e.output; tells = sym tells ∙ e.tells; taken = taken; files_are = holds; cause = inl refl }
