-- OPEN, CLOSE and the motions (ISO/IEC 1539-1:2004, 9.4.5, 9.4.6, 9.7, 9.8).
use Rattle.std.specs.Prelude.{ℕ, ◌==◌, ◌&&◌, not, nat_lt, unwrap_or, codes, Bool, true, false, List, ◌++◌, length, Option, Some, None, if◌then◌else◌, Result, Ok, Err}
use Rattle.std.specs.Fmt.{decimal, signed_decimal}
use Rattle.std.specs.List.{list_any}
use Rattle.std.specs.Str.{bytes_eq}
use Rattle.fj_value.specs.declared.condition.Condition.{Condition}
use Rattle.fj_value.specs.declared.condition.Condition.TheVariants.{Fine, Error}
use Rattle.fj_modes.specs.Modes.{settled}
use Rattle.fj_modes.specs.Modes as mode
use Rattle.fj_modes.specs.Words.{given_and, is_scratch}
use Rattle.fj_modes.specs.declared.modes.Modes.{Modes}
use Rattle.fj_modes.specs.declared.specifiers.OpenSpec.{OpenSpec}
use Rattle.fj_modes.specs.declared.motion.Motion.{Motion}
use Rattle.fj_modes.specs.declared.motion.Motion.TheVariants as motion
use Rattle.fj_connect.specs.declared.spot.Positioning.TheVariants as positioning
use Rattle.fj_connect.specs.Connection.{Connection}
use Rattle.fj_connect.specs.Opening.{opened_file}
use Rattle.fj_connect.specs.Positions.{moved}
use Rattle.fj_statement.specs.declared.unit.UnitRef.{UnitRef}
use Rattle.fj_statement.specs.Units.{is_outside, number_from_code}
use Rattle.fj_meaning.specs.State.{State, without_file, Unit, inserted, disconnected, keeps, with_connection}

-- ---- OPEN

-- the file: FILE=, a scratch file by the unit, or by default `fort.` and the unit (own)
abbrev pub file_due : OpenSpec → ℕ → List ℕ
file_due spec number = if given_and is_scratch spec.status then codes "SCRATCH." ++ signed_decimal (number_from_code number)
    else unwrap_or spec.file (codes "fort." ++ decimal number)

-- the statement keeps the file: it names none and asks for no scratch file, or it names the connected one
abbrev pub keeps_name : List ℕ → OpenSpec → Option (List ℕ) → Bool
keeps_name connected spec None = not (given_and is_scratch spec.status)
keeps_name connected spec (Some name) = bytes_eq name connected

abbrev pub keeps_file : Unit → OpenSpec → Option (List ℕ) → Bool
keeps_file u spec name = keeps_name u.connection.name spec name

-- the modes that may differ change, or nothing does (8)
abbrev pub with_modes : State → Unit → Result Modes Condition → State × Condition
with_modes s u (Err condition) = (s, condition)
with_modes s u (Ok modes) = (with_connection s u (record u.connection { modes = modes }), Fine)

-- the file is connected to another unit
abbrev pub is_taken : State → ℕ → List ℕ → Bool
is_taken s number name = list_any (λ (u : Unit). not (u.number == number) && bytes_eq u.connection.name name) s.units

-- how many units are connected at the most (own)
abbrev pub most_units : ℕ
most_units = 16

-- the connection takes its file from the others
abbrev pub with_opened : State → ℕ → Result Connection Condition → State × Condition
with_opened s number (Err condition) = (s, condition)
with_opened s number (Ok c) =
    (record s { units = inserted (record { number = number; connection = c; halt = None }) s.units; files = without_file c.name s.files }, Fine)

-- a new connection, in order: too many units (9), no such file (5), one that is there (6), one that is too long (27)
abbrev pub connects : State → ℕ → OpenSpec → Modes → State × Condition
connects s number spec modes = if nat_lt (length s.units) most_units
    then with_opened s number (opened_file (s.files (file_due spec number)) (file_due spec number) spec modes)
    else (s, Error 9)

-- the file that the unit is connected to is closed first, as by CLOSE without specifiers
abbrev pub without_old : State → Option Unit → State
without_old s None = s
without_old s (Some u) = disconnected s u (keeps u)

-- another file: 3, then 7, and only then is the old file closed
abbrev pub opens_with : State → ℕ → OpenSpec → Option Unit → Result Modes Condition → State × Condition
opens_with s number spec old (Err condition) = (s, condition)
opens_with s number spec old (Ok modes) = if is_taken s number (file_due spec number) then (s, Error 7)
    else connects (without_old s old) number spec modes

abbrev pub opens : State → ℕ → OpenSpec → Option Unit → State × Condition
opens s number spec None = opens_with s number spec None (settled spec)
opens s number spec (Some u) = if keeps_file u spec spec.file then with_modes s u (mode.changed u.connection.modes spec)
    else opens_with s number spec (Some u) (settled spec)

-- a unit that is not connected is not connected either where its number is not one from 0 to 2,147,483,647 (3)
abbrev pub opens_unit : State → UnitRef → ℕ → OpenSpec → Option Unit → State × Condition
opens_unit s u number spec None = if is_outside u then (s, Error 3) else opens s number spec None
opens_unit s u number spec (Some old) = opens s number spec (Some old)

-- ---- CLOSE

-- a scratch file cannot be kept (4), and the unit stays connected then
abbrev pub closes : State → Option Bool → Option Unit → State × Condition
closes s keep None = (s, Fine)
closes s keep (Some u) = if unwrap_or keep false && u.connection.modes.scratch then (s, Error 4)
    else (disconnected s u (unwrap_or keep (keeps u)), Fine)

-- where a condition of a transfer was told the file is closed all the same, a scratch file without being kept
abbrev pub closes_anyway : State → Option Bool → Option Unit → State
closes_anyway s keep None = s
closes_anyway s keep (Some u) = disconnected s u (keeps u && unwrap_or keep true)

-- ---- BACKSPACE, REWIND, ENDFILE, FLUSH

abbrev pub with_move : State → Unit → Connection × Condition → State × Condition
with_move s u done = (with_connection s u done.0, done.1)

abbrev pub moves : State → Motion → Option Unit → State × Condition
moves s how None = (s, Error 1)
moves s motion.Flush (Some u) = (s, Fine)
moves s motion.Backspace (Some u) = with_move s u (moved u.connection positioning.Backspace)
moves s motion.Rewind (Some u) = with_move s u (moved u.connection positioning.Rewind)
moves s motion.Endfile (Some u) = with_move s u (moved u.connection positioning.Endfile)
