-- Worked cases: the runner served alone over bays.
use Rattle.std.specs.Prelude.{◌≡◌, pos, negsuc, false, List, [], ◌∷◌, Some, None}
use Rattle.fj_value.specs.declared.value.Value.TheVariants.{Undefined}
use Rattle.fj_value.specs.declared.condition.Condition.TheVariants.{EndOfFile}
use Rattle.fj_statement.specs.declared.deck.Variable.{Variable}
use Rattle.fj_world.specs.Conduct.{Idle}
use Rattle.fj_world.specs.Plain.{Plain, after}
use Rattle.fj_bay.specs.Bay.{Bay}
use Rattle.fj_meaning.specs.State.{Files}
use Rattle.fj_meaning.specs.Statement.{Stated, ended, Result}
use Rattle.fj_meaning.specs.DeckWords.{integers, at, two_lines, r, lines_from, wait, «end», four_reads}
use Rattle.fj_meaning.specs.Cases.{Comes, int, told}
use Rattle.fj_meaning_jobs.specs.Desking.{desk_result}
use Rattle.fj_meaning_turns.specs.Run.{Run}
use Rattle.fj_meaning_turns.specs.Serving.{over_bays, Shows, run_conduct, desks_of, begins}
use Rattle.fj_meaning_turns.specs.Laws.{plain_bays}

-- a runner that is its own plain data
abbrev pub plain_runs : Shows Run
plain_runs = record { left = λ r. 0; uses = λ r. 0; owed = λ r slot. 0; due = λ r. Idle; over = λ r. false; stopped = λ r. false; leads = λ r r'. Unit {0}; state = λ r. Some r }

-- what so many entries come to
abbrev pub came_to : Plain Bay (run_conduct plain_runs) → Result
came_to x = desk_result (record { desked = record { core = x.script.core; desks = desks_of plain_bays x.slots }; ending = x.script.ending })

abbrev pub served_alone : List Variable → List Stated → Files → Result
served_alone variables deck files = came_to (after (over_bays plain_bays) (run_conduct plain_runs) 20 (begins plain_bays plain_runs variables deck files))

-- a transfer behind an end of file is skipped, and a wait for it waits for all of the unit
abbrev pub SkippedTellTheirCauseAlone : Type 0
SkippedTellTheirCauseAlone = let result = served_alone (integers 5) (lines_from 2 (four_reads (wait (Some (pos 4)) (Some (at 4)) ∷ «end» ∷ []))) two_lines in
    Comes result ended (int (pos 1) ∷ int (pos 2) ∷ Undefined ∷ Undefined ∷ int (negsuc 0) ∷ [])
    × (result.tells ≡ told 7 1 ∷ told 7 2 ∷ record (told 7 3) { condition = EndOfFile } ∷ record (told 7 4) { condition = EndOfFile } ∷ [])
    × (result.files r ≡ Some (49 ∷ 10 ∷ 50 ∷ 10 ∷ []))

-- a transfer that was fine is told alone, and ends no halt
abbrev pub FineEndsNoHaltAlone : Type 0
FineEndsNoHaltAlone = let result = served_alone (integers 5) (lines_from 2 (four_reads (wait (Some (pos 1)) (Some (at 4)) ∷ wait None (Some (at 4)) ∷ «end» ∷ []))) two_lines in
    Comes result ended (int (pos 1) ∷ int (pos 2) ∷ Undefined ∷ Undefined ∷ int (negsuc 0) ∷ [])
    × (result.tells ≡ told 7 1 ∷ told 8 2 ∷ record (told 8 3) { condition = EndOfFile } ∷ record (told 8 4) { condition = EndOfFile } ∷ [])
