-- Worked cases: the order in which a statement goes, in decks whose results are computed. Other decks with their answers are in fj_cases.
use Rattle.std.specs.Prelude.{◌≡◌, ℕ, ℤ, pos, negsuc, Bool, true, false, List, [], ◌∷◌, Option, Some, None, map, codes}
use Rattle.fj_value.specs.declared.value.Value.{Value}
use Rattle.fj_value.specs.declared.value.Value.TheVariants.{Int, Log, Undefined, Chars}
use Rattle.fj_value.specs.declared.kind.Kind.TheVariants as kind
use Rattle.fj_value.specs.declared.condition.Rule.TheVariants.{P1}
use Rattle.fj_value.specs.declared.condition.Condition.TheVariants.{Fine, EndOfFile, EndOfRecord}
use Rattle.fj_modes.specs.declared.specifiers.FileStatus.TheVariants.{Scratch}
use Rattle.fj_modes.specs.declared.specifiers.Access.TheVariants.{Direct}
use Rattle.fj_modes.specs.declared.specifiers.Action.TheVariants as action
use Rattle.fj_modes.specs.declared.motion.Motion.TheVariants.{Rewind, Flush}
use Rattle.fj_modes.specs.declared.asked.Question.TheVariants.{Opened, Pending}
use Rattle.fj_statement.specs.declared.statement.Control.TheVariants.{Unformatted}
use Rattle.fj_statement.specs.declared.statement.Statement.{Statement}
use Rattle.fj_statement.specs.declared.statement.Statement.TheVariants as statement
use Rattle.fj_meaning.specs.State.{Files, Tell}
use Rattle.fj_meaning.specs.Statement.{execution, ended, error_stop, prohibition, Ending, Result}
use Rattle.fj_meaning.specs.DeckWords.{scalar, integers, at, var, whole, two_lines, no_files, file, lines_from, Written, opening, replacing, old_later, plain_open, number_operand, wait, «end», assign, transfer, i_transfer, a_transfer, slash_transfer, now, later, by_i, by_a, by_slash, bare, four_reads, read_later}
use Rattle.fj_list.specs.ListText.{text_of}
use Rattle.fj_statement.specs.declared.unit.InternalFile.{InternalFile}
use Rattle.fj_statement.specs.declared.unit.InternalFile.TheVariants.{One}
use Rattle.fj_statement.specs.declared.unit.Subject.TheVariants as subject
use Rattle.fj_statement.specs.declared.unit.UnitRef.TheVariants as unit
use Rattle.fj_statement.specs.declared.statement.Transfer.{Transfer}

-- an ending, and the variables, each a scalar
abbrev pub Comes : Result → Ending → List Value → Type 0
Comes result ending values = (result.ending ≡ Some ending) × (result.vars ≡ map (λ v. v ∷ []) values)

abbrev pub int : ℤ → Value
int n = Int n

abbrev pub told : ℕ → ℕ → Tell
told line id = record { line = line; unit = 10; id = id; condition = Fine }

-- where the end of the file was told
abbrev pub at_end : ℕ → ℕ → Tell
at_end line id = record (told line id) { condition = EndOfFile }

abbrev pub in_part : Transfer → Transfer
in_part t = record t { advance = Some false }

-- a transfer behind an end of file is skipped and tells its cause, and a wait for it waits for all of the unit
abbrev pub SkippedTellTheirCause : Type 0
SkippedTellTheirCause = let result = execution (integers 5) (lines_from 2 (four_reads (wait (Some (pos 4)) (Some (at 4)) ∷ «end» ∷ []))) two_lines in
    Comes result ended (int (pos 1) ∷ int (pos 2) ∷ Undefined ∷ Undefined ∷ int (negsuc 0) ∷ [])

-- end-of-record halts nothing: the next READ is carried out, and a wait for the first one does not wait for it
abbrev pub EndOfRecordHaltsNothing : Type 0
EndOfRecordHaltsNothing = let result = execution (scalar (kind.Chars 5) ∷ scalar (kind.Chars 2) ∷ scalar kind.Int4 ∷ []) (lines_from 4 (opening 10 (old_later (codes "T")) None
    ∷ by_a (Some 5) (later (in_part (a_transfer true 10 (Some 5) (var 0)))) ∷ by_a (Some 2) (later (a_transfer true 10 (Some 2) (var 1)))
    ∷ wait (Some (pos 1)) (Some (at 2)) ∷ wait None None ∷ «end» ∷ [])) (file (codes "T") (text_of (codes "abc" ∷ codes "de" ∷ []))) in
    Comes result ended (Chars (codes "abc  ") ∷ Chars (codes "de") ∷ int (negsuc 1) ∷ []) × (result.tells ≡ record (told 7 1) { condition = EndOfRecord } ∷ told 8 2 ∷ [])

-- a READ before which the end of the file is told reads nothing: its item and SIZE= are undefined
abbrev pub NothingIsRead : Type 0
NothingIsRead = let result = execution (integers 4) (lines_from 2 (assign 1 (whole (pos 7)) ∷ assign 2 (whole (pos 8)) ∷ opening 10 (old_later (codes "E")) None ∷ read_later 10 1 0
    ∷ by_i 1 (now (record (in_part (i_transfer true 10 1 (var 1))) { size = Some (at 2); iostat = Some (at 3) })) ∷ «end» ∷ [])) (file (codes "E") []) in
    Comes result ended (Undefined ∷ Undefined ∷ Undefined ∷ int (negsuc 0) ∷ []) × (result.tells ≡ at_end 6 1 ∷ [])

-- a READ that does not fit leaves its item and SIZE= undefined, and what ID= names as it was
abbrev pub RefusedReadsNothing : Type 0
RefusedReadsNothing = Comes (execution (integers 4) (lines_from 2 (assign 0 (whole (pos 7)) ∷ assign 1 (whole (pos 8)) ∷ assign 2 (whole (pos 9)) ∷ opening 10 (record plain_open { file = Some (codes "X") }) None
    ∷ by_i 1 (later (record (in_part (i_transfer true 10 1 (var 0))) { size = Some (at 1); id = Some (at 2); iostat = Some (at 3) })) ∷ «end» ∷ [])) (file (codes "X") (text_of (codes "1" ∷ []))))
    ended (Undefined ∷ Undefined ∷ int (pos 9) ∷ int (pos 2) ∷ [])

abbrev pub five : ℕ → ℕ → Transfer
five number status = record (transfer false number Unformatted (whole (pos 5) ∷ [])) { iostat = Some (at status) }

-- whether the unit is connected is tested first, then whether it is open for ASYNCHRONOUS='YES', then the form, then ACTION=
abbrev pub TestsAreInOrder : Type 0
TestsAreInOrder = Comes (execution (integers 4) (lines_from 2 (opening 10 (record plain_open { file = Some (codes "X"); action = Some action.Read }) None
    ∷ bare (later (five 11 0)) ∷ bare (later (five 10 1)) ∷ bare (now (five 10 2)) ∷ by_i 1 (now (record (i_transfer false 10 1 (whole (pos 5))) { iostat = Some (at 3) })) ∷ «end» ∷ [])) (file (codes "X") []))
    ended (int (pos 1) ∷ int (pos 2) ∷ int (pos 16) ∷ int (pos 10) ∷ [])

-- what is pending is told before these tests: first the end of the file, and then that the form does not fit
abbrev pub TellsComeBeforeTests : Type 0
TellsComeBeforeTests = let result = execution (integers 3) (lines_from 2 (opening 10 (old_later (codes "E")) None ∷ read_later 10 1 0 ∷ bare (now (five 10 1)) ∷ bare (now (five 10 2)) ∷ «end» ∷ [])) (file (codes "E") []) in
    Comes result ended (Undefined ∷ int (negsuc 0) ∷ int (pos 16) ∷ []) × (result.tells ≡ at_end 4 1 ∷ [])

-- and prohibitions before both: the item of a pending READ may not be written, neither to its unit nor to one that is not connected
abbrev pub ProhibitionsComeFirst : Type 0
ProhibitionsComeFirst =
    let result = λ (number : ℕ). execution (integers 1) (lines_from 2 (opening 10 (old_later (codes "R")) None ∷ read_later 10 1 0 ∷ by_i 1 (now (i_transfer false number 1 (var 0))) ∷ «end» ∷ [])) two_lines in
    Comes (result 10) (prohibition 4 P1) (Undefined ∷ []) × ((result 10).tells ≡ []) × Comes (result 11) (prohibition 4 P1) (Undefined ∷ [])

-- where nothing catches a condition, the item is undefined and what was told is told all the same
abbrev pub DefinitionsComeFirst : Type 0
DefinitionsComeFirst = Comes (execution (integers 1) (lines_from 2 (assign 0 (whole (pos 7)) ∷ opening 10 (record plain_open { file = Some (codes "X") }) None ∷ by_i 1 (now (i_transfer true 10 1 (var 0))) ∷ «end» ∷ []))
    (file (codes "X") (text_of (codes "x" ∷ [])))) (error_stop 4 (pos 13)) (Undefined ∷ [])

-- OPEN of another file: one that may not be opened so (3), and then one that another unit has (7); in both the first file stays connected
abbrev pub OpenTestsAreInOrder : Type 0
OpenTestsAreInOrder = let result = execution (integers 3) (lines_from 2 (opening 10 (replacing (codes "X")) None ∷ opening 11 (replacing (codes "Y")) None
    ∷ opening 10 (record plain_open { file = Some (codes "Y"); access = Some Direct }) (Some (at 0)) ∷ opening 10 (record plain_open { file = Some (codes "Y") }) (Some (at 1))
    ∷ by_i 1 (now (record (i_transfer false 10 1 (whole (pos 5))) { iostat = Some (at 2) })) ∷ «end» ∷ [])) no_files in
    Comes result ended (int (pos 3) ∷ int (pos 7) ∷ int (pos 0) ∷ []) × (result.files (codes "X") ≡ Some (text_of (codes "5" ∷ [])))

-- a unit whose scratch file CLOSE was to keep (4) stays connected; on one that is not connected CLOSE does nothing, and a motion is
-- condition 1
abbrev pub CloseThatErrs : Type 0
CloseThatErrs = Comes (execution (integers 5) (lines_from 2 (opening 10 (record plain_open { status = Some Scratch }) None ∷ bare (statement.CloseUnit (unit.Number 10) (Some true) (Some (at 0)))
    ∷ by_i 1 (now (record (i_transfer false 10 1 (whole (pos 5))) { iostat = Some (at 1) })) ∷ bare (statement.CloseUnit (unit.Number 11) None (Some (at 2)))
    ∷ bare (statement.Move Rewind (unit.Number 11) (Some (at 3))) ∷ bare (statement.Move Flush (unit.Number 11) (Some (at 4))) ∷ «end» ∷ [])) no_files)
    ended (int (pos 4) ∷ int (pos 0) ∷ int (pos 0) ∷ int (pos 1) ∷ int (pos 1) ∷ [])

-- ---- INQUIRE, where it was looked at whether the transfers that it asks about are done

-- PENDING= and OPENED= of unit 10, on which two READs are pending
abbrev pub asks : Option ℤ → Bool → Written
asks id is_done = bare (statement.Inquire (subject.Unit (unit.Number 10))
    (record { what = Pending; place = at 2; kind = kind.Logical } ∷ record { what = Opened; place = at 3; kind = kind.Logical } ∷ []) (number_operand id) (Some (at 4)) (Some is_done))

abbrev pub asked : Option ℤ → Bool → Files → Result
asked id is_done files = execution (scalar kind.Int4 ∷ scalar kind.Int4 ∷ scalar kind.Logical ∷ scalar kind.Logical ∷ scalar kind.Int4 ∷ [])
    (lines_from 4 (opening 10 (old_later (codes "R")) None ∷ read_later 10 1 0 ∷ read_later 10 1 1 ∷ asks id is_done ∷ «end» ∷ [])) files

-- it waits for a transfer that is done, or for all of the unit, and tells it: that one is pending no more. It does not wait for one that is not done
abbrev pub DoneAreTold : Type 0
DoneAreTold = let one = asked (Some (pos 1)) true two_lines in let all = asked None true two_lines in let none = asked (Some (pos 1)) false two_lines in
    Comes one ended (int (pos 1) ∷ int (pos 2) ∷ Log false ∷ Log true ∷ int (pos 0) ∷ []) × (one.tells ≡ told 7 1 ∷ told 8 2 ∷ [])
    × Comes all ended (int (pos 1) ∷ int (pos 2) ∷ Log false ∷ Log true ∷ int (pos 0) ∷ []) × (all.tells ≡ told 7 1 ∷ told 7 2 ∷ [])
    × Comes none ended (int (pos 1) ∷ int (pos 2) ∷ Log true ∷ Log true ∷ int (pos 0) ∷ []) × (none.tells ≡ told 8 1 ∷ told 8 2 ∷ [])

-- where it tells the end of the file, as WAIT does for all of the unit, PENDING= is false, and nothing else is answered
abbrev pub ToldBeforeAnswers : Type 0
ToldBeforeAnswers = let one = asked (Some (pos 1)) true (file (codes "R") []) in let none = asked (Some (pos 1)) false (file (codes "R") []) in
    Comes one ended (Undefined ∷ Undefined ∷ Log false ∷ Undefined ∷ int (negsuc 0) ∷ []) × (one.tells ≡ at_end 7 1 ∷ at_end 7 2 ∷ [])
    × Comes none (error_stop 8 (negsuc 0)) (Undefined ∷ Undefined ∷ Log true ∷ Log true ∷ int (pos 0) ∷ []) × (none.tells ≡ at_end 8 1 ∷ at_end 8 2 ∷ [])

-- ---- on an internal file

abbrev pub on_file : InternalFile → Transfer → Statement
on_file f t = now (record t { unit = unit.Internal f })

-- a WRITE fills a scalar up with blanks, and a READ takes its value from there
abbrev pub WrittenAndReadInside : Type 0
WrittenAndReadInside = Comes (execution (scalar (kind.Chars 5) ∷ scalar kind.Int4 ∷ []) (lines_from 3 (by_i 3 (on_file (One (at 0)) (i_transfer false 0 3 (whole (pos 42))))
    ∷ by_i 4 (on_file (One (at 0)) (i_transfer true 0 4 (var 1))) ∷ «end» ∷ [])) no_files)
    ended (Chars (codes " 42  ") ∷ int (pos 42) ∷ [])

-- more records than elements (31) leave the elements, and so does a record longer than they are (15)
abbrev pub ElementsAreLeft : Type 0
ElementsAreLeft = Comes (execution (scalar (kind.Chars 2) ∷ integers 2) (lines_from 3 (by_i 2 (on_file (One (at 0)) (i_transfer false 0 2 (whole (pos 7))))
    ∷ by_slash 1 (on_file (One (at 0)) (record (slash_transfer 0 1 (whole (pos 8))) { iostat = Some (at 1) }))
    ∷ by_i 3 (on_file (One (at 0)) (record (i_transfer false 0 3 (whole (pos 9))) { iostat = Some (at 2) })) ∷ «end» ∷ [])) no_files)
    ended (Chars (codes " 7") ∷ int (pos 31) ∷ int (pos 15) ∷ [])
