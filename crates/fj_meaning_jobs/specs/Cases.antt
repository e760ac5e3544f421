-- Worked cases: decks over desks, with the answers of the jobs that each slot was given.
use Rattle.std.specs.Prelude.{◌≡◌, ℕ, pos, negsuc, true, false, List, [], ◌∷◌, map, codes, Option, Some, None, slice_get}
use Rattle.fj_value.specs.declared.value.Value.TheVariants.{Int, Undefined}
use Rattle.fj_value.specs.declared.condition.Condition.TheVariants.{Fine, EndOfFile}
use Rattle.fj_modes.specs.declared.motion.Motion.TheVariants.{Rewind}
use Rattle.fj_modes.specs.declared.asked.Question.TheVariants.{Size, Opened}
use Rattle.fj_statement.specs.declared.unit.Subject.TheVariants as subject
use Rattle.fj_statement.specs.declared.unit.UnitRef.TheVariants as unit
use Rattle.fj_value.specs.declared.kind.Kind.TheVariants.{Int4}
use Rattle.fj_statement.specs.declared.deck.Variable.{Variable}
use Rattle.fj_statement.specs.declared.statement.Control.TheVariants.{Listed}
use Rattle.fj_statement.specs.declared.statement.Statement.TheVariants as statement
use Rattle.fj_bay.specs.Jobs.{Answer, done, skipped}
use Rattle.fj_meaning.specs.State.{Files}
use Rattle.fj_meaning.specs.Statement.{Stated, ended, error_stop}
use Rattle.fj_meaning.specs.Cases.{Comes}
use Rattle.fj_meaning.specs.DeckWords.{integers, at, var, whole, two_lines, no_files, lines_from, opening, replacing, replacing_later, plain_open, wait, «end», motion, assign, close, transfer, i_transfer, now, later, by_i, bare, three_reads_told, four_reads}
use Rattle.fj_meaning_jobs.specs.Desks.{Desk}
use Rattle.fj_meaning_jobs.specs.Desking.{DesksRan, over_desks, fresh, desk_result}

abbrev pub ran : List Variable → List Stated → Files → DesksRan
ran variables sts files = over_desks variables sts (fresh variables files)

abbrev pub answers_of : Option Desk → List Answer
answers_of None = []
answers_of (Some d) = map (λ o. o.1) d.log

-- the answers of the jobs of a slot, in the order in which it was given them
abbrev pub answers_at : DesksRan → ℕ → List Answer
answers_at it slot = answers_of (slice_get it.desked.desks slot)

-- three pending READs of two records: the connection comes, three transfers, the halt ends with the wait, and the connection goes
abbrev pub ReadsPastTheEnd : Type 0
ReadsPastTheEnd = let it = ran (integers 4) three_reads_told two_lines in
    Comes (desk_result it) ended (Int (pos 1) ∷ Int (pos 2) ∷ Undefined ∷ Int (negsuc 0) ∷ [])
    × (answers_at it 0 ≡ done Fine ∷ done Fine ∷ done Fine ∷ done EndOfFile ∷ done Fine ∷ done Fine ∷ []) × (answers_at it 1 ≡ [])

-- a fourth one is skipped
abbrev pub SkipsBehindTheEnd : Type 0
SkipsBehindTheEnd = let it = ran (integers 5) (lines_from 2 (four_reads (wait (Some (pos 4)) (Some (at 4)) ∷ «end» ∷ []))) two_lines in
    Comes (desk_result it) ended (Int (pos 1) ∷ Int (pos 2) ∷ Undefined ∷ Undefined ∷ Int (negsuc 0) ∷ [])
    × (answers_at it 0 ≡ done Fine ∷ done Fine ∷ done Fine ∷ done EndOfFile ∷ skipped EndOfFile ∷ done Fine ∷ done Fine ∷ [])

-- a READ at once that meets the end of the file ends the halt that it set
abbrev pub EndsItsHalt : Type 0
EndsItsHalt = let it = ran (integers 2) (lines_from 2 (opening 10 (replacing (codes "W")) None ∷ by_i 1 (now (record (i_transfer true 10 1 (var 0)) { iostat = Some (at 1) })) ∷ motion Rewind 10 ∷ «end» ∷ [])) no_files in
    Comes (desk_result it) ended (Undefined ∷ Int (negsuc 0) ∷ [])
    × (answers_at it 0 ≡ done Fine ∷ done EndOfFile ∷ done Fine ∷ done Fine ∷ done Fine ∷ [])

-- a unit takes the lowest free slot: another file on the unit, too, which first gives its slot back
abbrev pub LowestFreeSlots : Type 0
LowestFreeSlots = let it = ran [] (lines_from 1 (opening 10 (replacing (codes "A")) None ∷ opening 11 (replacing (codes "B")) None ∷ opening 12 (replacing (codes "C")) None ∷ close 10 None
    ∷ opening 12 (replacing (codes "D")) None ∷ opening 13 (replacing (codes "E")) None ∷ «end» ∷ [])) no_files in
    Comes (desk_result it) ended []
    × (answers_at it 0 ≡ done Fine ∷ done Fine ∷ done Fine ∷ done Fine ∷ []) × (answers_at it 1 ≡ done Fine ∷ done Fine ∷ [])
    × (answers_at it 2 ≡ done Fine ∷ done Fine ∷ done Fine ∷ done Fine ∷ [])

-- the modes of the connected file change by a job, and a look is one; a question of the unit alone is none
abbrev pub ChangesAndLooks : Type 0
ChangesAndLooks = let it = ran (integers 1) (lines_from 2 (opening 10 (replacing (codes "A")) None ∷ opening 10 (record plain_open { blank_zero = Some true }) None
    ∷ bare (statement.Inquire (subject.Unit (unit.Number 10)) (record { what = Size; place = at 0; kind = Int4 } ∷ []) None None None)
    ∷ bare (statement.Inquire (subject.Unit (unit.Number 10)) (record { what = Opened; place = at 0; kind = Int4 } ∷ []) None None None) ∷ [])) no_files in
    answers_at it 0 ≡ done Fine ∷ done Fine ∷ done Fine ∷ []

-- after an error stop the pending WRITEs are in the file, and no job took the connection out
abbrev pub StopsWithPending : Type 0
StopsWithPending = let it = ran (integers 2) (lines_from 2 (assign 0 (whole (pos 8)) ∷ opening 11 (replacing_later (codes "W")) None
    ∷ by_i 2 (later (i_transfer false 11 2 (var 0))) ∷ by_i 2 (later (i_transfer false 11 2 (var 0))) ∷ bare (now (transfer true 10 Listed (var 1 ∷ []))) ∷ «end» ∷ [])) no_files in
    Comes (desk_result it) (error_stop 6 (pos 1)) (Int (pos 8) ∷ Undefined ∷ []) × ((desk_result it).files (codes "W") ≡ Some (32 ∷ 56 ∷ 10 ∷ 32 ∷ 56 ∷ 10 ∷ []))
    × (answers_at it 0 ≡ done Fine ∷ done Fine ∷ done Fine ∷ [])
