-- Served alone, the runner comes to the execution over desks.
use Rattle.std.specs.Prelude.{◌≡◌, List}
use Rattle.fj_statement.specs.declared.deck.Variable.{Variable}
use Rattle.fj_slot.specs.Serving.{Meaning}
use Rattle.fj_world.specs.declared.ask.Ask.TheVariants.{Finished}
use Rattle.fj_world.specs.Plain.{Plain, PlainSlot}
use Rattle.fj_bay.specs.Bay.{Bay}
use Rattle.fj_bay.specs.Jobs.{Job, Answer}
use Rattle.fj_meaning.specs.State.{Files}
use Rattle.fj_meaning.specs.Statement.{Stated}
use Rattle.fj_meaning_jobs.specs.Desking.{DesksRan, over_desks, fresh}
use Rattle.fj_meaning_turns.specs.Run.{Run}
use Rattle.fj_meaning_turns.specs.Serving.{over_bays, Shows, run_conduct, desks_of, begins}
use Rattle.fj_meaning_turns.specs.Standing.{Reaches, StandsIn}

module _ {E J A S : Type 0} (m : Meaning E J A Bay Job Answer) (s : Shows S) where
  -- served alone it comes to its end, by states that have the property, and then it and its slots hold what the execution came to
  pub record ComesTo (P : Plain Bay (run_conduct s) → Type 0) (ran : DesksRan) (x : Plain Bay (run_conduct s)) : Type 0 where
    pub run : Run
    pub slots : List (PlainSlot Bay Job)
    pub core : run.core ≡ ran.desked.core
    pub desks : desks_of m slots ≡ ran.desked.desks
    pub ending : run.ending ≡ ran.ending
    pub reaches : Reaches (over_bays m) (run_conduct s) P x (record { script = run; hand = Finished; slots = slots })

  -- for every deck; each state on the way stands inside a statement
  abbrev pub RunnerIsPlain : Type 0
  RunnerIsPlain = (variables : List Variable) (deck : List Stated) (files : Files) →
      ComesTo (StandsIn m s variables deck (fresh variables files)) (over_desks variables deck (fresh variables files)) (begins m s variables deck files)
