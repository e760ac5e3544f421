-- A runner that was served until it asked nothing more.
use Rattle.std.proofs.Common.{◌≡◌, ℕ, Bool, true, false, cond, List, Option, Some, None, sym, ◌∙◌}
use Rattle.fj_outside.specs.declared.outside.FileStore.{Ghosts}
use Rattle.fj_statement.specs.declared.deck.Deck.{Deck}
use Rattle.fj_slot.specs.Serving.{Meaning}
use Rattle.fj_bay.specs.Bay.{Bay}
use Rattle.fj_bay.specs.Jobs.{Job, Answer}
use Rattle.fj_meaning.specs.State.{Files}
use Rattle.fj_meaning.specs.Statement.{stated}
use Rattle.fj_world.specs.Alone.{ServedAlone}
use Rattle.fj_world.specs.Rack.{Rack}
use Rattle.fj_meaning_turns.specs.Run.{Run}
use Rattle.fj_meaning_turns.specs.Serving.{over_bays, Shows, run_conduct, begins}
use Rattle.fj_world.specs.Losing.{SlotsHold}
use Rattle.fj_meaning_turns.specs.Cutting.{stands}
use Rattle.fj_meaning_turns.proofs.Finishing.{asks_no_more}
use Rattle.fj_meaning_turns.proofs.Meant.{leaves_result}
use Rattle.fj_meaning_cut.proofs.Given.{each_end_given}
use Rattle.fj_run_end.proofs.Ended.{ends_with_units}
use Rattle.fj_run_script.specs.Machine.{run_of}
use Rattle.fj_run_script.specs.declared.machine.Machine.{Machine}
use Rattle.fj_job.specs.Carrying.{HasRun}
use Rattle.fj_job.proofs.Giving.{given_at}

-- what is shown where a disk tells
shown : (b : Bool) (o : Option Run) (r : Run) → cond b o None ≡ Some r → o ≡ Some r
shown true o r e = e
shown false o r e = cc

pub showing : (b : Bool) (o : Option Run) (r : Run) → b ≡ true → o ≡ Some r → cond b o None ≡ Some r
showing true o r on e = e
showing false o r on e = cc

-- a script that is not over has come to what the deck leaves
pub has_run : {E J A S F : Type 0} {ghosts : Ghosts F} (meaning : Meaning E J A Bay Job Answer) (s : Shows S) (told : F → Bool) (bytes : F → List ℕ) (deck : Deck) (files left : Files)
    (m : Machine F ghosts) (rack : Rack E J A) (script : S) (b : Bool)
    → ServedAlone (over_bays meaning) (run_conduct s) (begins meaning s deck.variables (stated deck.statements) files) script rack → s.over script ≡ false
    → s.state script ≡ cond b (run_of told bytes left m) None → HasRun meaning told bytes deck files left m rack
has_run meaning s told bytes deck files left m rack script b alone going state =
    let known = (alone.fits.script going).0 in
    record {
      run = _;
      is = shown b (run_of told bytes left m) _ (sym state ∙ known);
      leaves = leaves_result meaning s deck.variables (stated deck.statements) files script rack _ alone going known;
      given = λ some.
          let w = each_end_given meaning s deck.variables (stated deck.statements) files alone.entries (asks_no_more (over_bays meaning) (run_conduct s) _ (alone.fits.script going).1) some in
          let slots : SlotsHold (over_bays meaning) (stands meaning s deck.variables (stated deck.statements) files alone.entries).slots rack =
          record { same = alone.fits.same_slots; each = λ at q l a b. (alone.fits.slots at q l a b).sound; done = λ at q l a b. (alone.fits.slots at q l a b).done } in
          record { index = w.index; rest = w.rest; within = w.within; given = given_at meaning rack deck.variables (stated deck.statements) files _ _ slots w w.index w.rest w.within };
      units = λ some. ends_with_units meaning s deck.variables (stated deck.statements) files script rack _ alone going known some;
    }
