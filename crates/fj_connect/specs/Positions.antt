-- What ends an open record, and BACKSPACE, REWIND and ENDFILE (ISO/IEC 1539-1:2004, 9.7).
use Rattle.std.specs.Prelude.{ℕ, Bool, true, false, ◌&&◌, ◌||◌, not, [], ◌∷◌, Option, Some, None, is_none, unwrap_or, if◌then◌else◌}
use Rattle.std.specs.Option.{option_or}
use Rattle.fj_value.specs.declared.condition.Condition.{Condition}
use Rattle.fj_value.specs.declared.condition.Condition.TheVariants.{Fine, Error}
use Rattle.fj_modes.specs.declared.specifiers.Access.TheVariants.{Direct, Stream}
use Rattle.fj_modes.specs.declared.specifiers.Action.TheVariants.{Read}
use Rattle.fj_modes.specs.Words.{same_access, same_action}
use Rattle.fj_seqrec.specs.Lines.{last_line_start}
use Rattle.fj_unfrec.specs.Reading.{frame_start}
use Rattle.fj_connect.specs.Spot.{is_reading, is_writing}
use Rattle.fj_connect.specs.Connection.{Connection, bytes_before, between, past_end, with_records}
use Rattle.fj_modes.specs.declared.modes.Modes.{Modes}
use Rattle.fj_connect.specs.declared.spot.Spot.{Spot}
use Rattle.fj_connect.specs.declared.spot.Positioning.{Positioning}
use Rattle.fj_connect.specs.declared.spot.Positioning.TheVariants.{Backspace, Rewind, Endfile}

-- an open record gets the line feed that it lacks
abbrev pub ended : Connection → Connection
ended c = if is_writing c.spot.within then with_records c (10 ∷ []) else c

-- where the record before the position begins; none where unformatted bytes end with no whole frame
abbrev pub record_before : Connection → Option ℕ
record_before c = if c.modes.formatted then Some (last_line_start (bytes_before c)) else frame_start (bytes_before c)

-- where BACKSPACE goes: from behind the endfile record to before it, from inside a record to its start, and else before the
-- record that stands before the position (9.7.1)
abbrev pub place_back : Connection → ℕ
place_back c =
    if c.spot.after_end then c.spot.at
    else (if is_reading c.spot.within then c.spot.start else unwrap_or (record_before c) c.spot.at)

abbrev pub backspaced : Connection → Connection
backspaced c = between c (place_back c)

-- ENDFILE cuts the file at the position; in sequential access it writes an endfile record there, and is behind it (9.7.2)
abbrev pub cut_off : Connection → Connection
cut_off c = past_end (record c { bytes = bytes_before c })

-- REWIND goes to the initial point (9.7.3)
abbrev pub rewound : Connection → Connection
rewound c = between c 0

abbrev pub positioned : Connection → Positioning → Connection
positioned c Backspace = backspaced c
positioned c Rewind = rewound c
positioned c Endfile = cut_off c

abbrev pub is_backspace : Positioning → Bool
is_backspace Backspace = true
is_backspace Rewind = false
is_backspace Endfile = false

abbrev pub is_endfile : Positioning → Bool
is_endfile Backspace = false
is_endfile Rewind = false
is_endfile Endfile = true

-- direct access has no motion, and an unformatted stream no BACKSPACE
abbrev pub has_no_motion : Modes → Positioning → Bool
has_no_motion modes how =
    same_access modes.access Direct || (is_backspace how && same_access modes.access Stream && not modes.formatted)

-- BACKSPACE looks for the frame before the position, and there is none
abbrev pub lacks_frame : Connection → Bool
lacks_frame c = is_none (record_before c) && not c.spot.after_end && not (is_reading c.spot.within)

-- the error that a motion meets, whatever the bytes of the file are: the first of these
abbrev pub known_error : Modes → Spot → Positioning → Option ℕ
known_error modes spot how =
    if has_no_motion modes how then Some 28
    else (if is_endfile how && same_action modes.action Read then Some 10
    else (if is_endfile how && spot.after_end then Some 20 else None))

-- the error of a motion: that, or no record to go back to
abbrev pub motion_error : Connection → Positioning → Option ℕ
motion_error c how =
    option_or (known_error c.modes c.spot how) (if is_backspace how && lacks_frame c then Some 18 else None)

-- in error nothing changes; else an open record is ended, and then the position moves
abbrev pub moved_unless : Option ℕ → Connection → Positioning → Connection × Condition
moved_unless (Some error) c how = (c, Error error)
moved_unless None c how = (positioned (ended c) how, Fine)

abbrev pub moved : Connection → Positioning → Connection × Condition
moved c how = moved_unless (motion_error c how) c how
