-- A runner that stops where the statement at hand looks at what was done so far: it finishes there, and nothing of the statement is done.
use Rattle.std.specs.Prelude.{Bool, List, [], ◌∷◌, is_some, if◌then◌else◌}
use Rattle.fj_world.specs.declared.ask.Ask.TheVariants.{Finished}
use Rattle.fj_world.specs.Conduct.{Conduct}
use Rattle.fj_bay.specs.Jobs.{Job, Answer}
use Rattle.fj_meaning.specs.Statement.{Stated}
use Rattle.fj_meaning_turns.specs.Run.{Run, Stage, Start, Waiting, Acting, Awaiting}
use Rattle.fj_meaning_turns.specs.Turns.{Turn, Pauses, Passes, Stops, turn_start, turn, Asked}
use Rattle.fj_meaning_turns.specs.Serving.{Shows, run_conduct}

module _ (looks : Stated → Run → Bool) where
  -- statements are executed until one asks or looks
  abbrev pub goes_until : List Stated → Run → Asked
  goes_until [] r = record { ask = Finished; run = record r { rest = [] } }
  goes_until (st ∷ rest) r =
      if looks st (record r { rest = st ∷ rest }) then record { ask = Finished; run = record r { rest = st ∷ rest } } else
      elim (turn_start st (record r { rest = st ∷ rest })) as (λ _. Asked) [
        | Pauses ask run ↦ record { ask = ask; run = run }
        | Passes run ↦ goes_until rest run
        | Stops run ↦ record { ask = Finished; run = run }
      ]

  abbrev pub turn_until : List Stated → Turn → Asked
  turn_until rest (Pauses ask run) = record { ask = ask; run = run }
  turn_until rest (Passes run) = goes_until rest run
  turn_until rest (Stops run) = record { ask = Finished; run = run }

  -- a statement that has begun goes on
  abbrev pub on_until : List Stated → Run → Asked
  on_until [] r = record { ask = Finished; run = r }
  on_until (st ∷ rest) r = turn_until rest (turn st r.stage r)

  abbrev pub stage_until : Stage → Run → Asked
  stage_until Start r = goes_until r.rest r
  stage_until Waiting r = on_until r.rest r
  stage_until (Acting does) r = on_until r.rest r
  stage_until (Awaiting slot number next) r = on_until r.rest r

  abbrev pub asked_until : Run → Asked
  asked_until r = if is_some r.ending then record { ask = Finished; run = r } else stage_until r.stage r

-- the runner's conduct, with other asks
abbrev pub asks_by : {S : Type 0} → Shows S → (Run → Asked) → Conduct S Job Answer
asks_by s by = record (run_conduct s) { ask = λ r. (by r).ask; asked = λ r. (by r).run }

abbrev pub stretch_conduct : {S : Type 0} → (Stated → Run → Bool) → Shows S → Conduct S Job Answer
stretch_conduct looks s = asks_by s (asked_until looks)
