-- What each kind of statement does itself, by jobs at the slots of units (ISO/IEC 1539-1:2004, 9.4.5, 9.4.6, 9.5, 9.7 to 9.9).
use Rattle.std.specs.Prelude.{ℕ, zero, suc, ℤ, pos, ◌+◌, ◌==◌, ◌&&◌, ◌++◌, not, unwrap_or, Bool, true, false, List, [], ◌∷◌, Option, Some, None, option_map, option_and_then, if◌then◌else◌, Result, Ok, Err}
use Rattle.std.specs.List.{list_any}
use Rattle.std.specs.Str.{bytes_eq}
use Rattle.fj_value.specs.declared.condition.Condition.{Condition}
use Rattle.fj_value.specs.declared.condition.Condition.TheVariants.{Fine, Error}
use Rattle.fj_modes.specs.Modes.{settled}
use Rattle.fj_modes.specs.Modes as mode
use Rattle.fj_modes.specs.declared.modes.Modes.{Modes}
use Rattle.fj_modes.specs.declared.specifiers.OpenSpec.{OpenSpec}
use Rattle.fj_modes.specs.declared.asked.Question.{Question}
use Rattle.fj_modes.specs.declared.asked.Question.TheVariants as question
use Rattle.fj_modes.specs.declared.asked.Wanted.{Wanted}
use Rattle.fj_modes.specs.declared.motion.Motion.{Motion}
use Rattle.fj_modes.specs.declared.motion.Motion.TheVariants as motion
use Rattle.fj_statement.specs.declared.unit.InternalFile.{InternalFile}
use Rattle.fj_statement.specs.declared.unit.UnitRef.{UnitRef}
use Rattle.fj_statement.specs.declared.unit.UnitRef.TheVariants as unit
use Rattle.fj_statement.specs.Units.{is_outside}
use Rattle.fj_moved.specs.declared.moved.Moved.{Moved}
use Rattle.fj_control.specs.Steps.{Given}
use Rattle.fj_connect.specs.Connection.{Connection}
use Rattle.fj_connect.specs.Opening.{opened_file}
use Rattle.fj_connect.specs.declared.spot.Positioning.TheVariants as positioning
use Rattle.fj_statement.specs.declared.deck.Variable.{Variable}
use Rattle.fj_statement.specs.declared.statement.Statement.{Statement}
use Rattle.fj_statement.specs.declared.statement.Statement.TheVariants as statement
use Rattle.fj_statement.specs.declared.statement.Transfer.{Transfer}
use Rattle.fj_bay.specs.Halt.{halts}
use Rattle.fj_bay.specs.Jobs.{items_for, Moving, Looked, Job, attach, detach, move, go, change, flush, look, resume}
use Rattle.fj_store.specs.Variables.{Variables, moved_of}
use Rattle.fj_meaning.specs.Items.{given_back, cell_at, operand_places, value_of}
use Rattle.fj_meaning.specs.Needs.{number_of, number_given, unit_about}
use Rattle.fj_meaning.specs.State.{Files, with_file, without_file}
use Rattle.fj_meaning.specs.Telling.{is_asynchronous}
use Rattle.fj_meaning.specs.Transfers.{inside, moved_in, spec_in, layout_of, refusal, without_values, with_cells, with_number, held_places, star_printed}
use Rattle.fj_meaning.specs.Connecting.{file_due, keeps_name}
use Rattle.fj_meaning.specs.Inquiring.{About, inquired, none_pending}
use Rattle.fj_meaning.specs.Statement.{assigned, has_pending, about_other, about_connected, file_asked}
use Rattle.fj_meaning_jobs.specs.Core.{Core, Pending, Connected, connected_at, unit_named, with_connected, inserted, without_connected, pending_holders}
use Rattle.fj_meaning_jobs.specs.Desks.{Outcome, cells_in, count_in, connection_in, look_in, condition_in, most_slots}
use Rattle.fj_meaning_jobs.specs.Doing.{Doing, finishes, gives, awaits}

-- ---- READ and WRITE

abbrev pub moving_of : (ℕ → List Given) → List Variable → ℕ → ℕ → Variables → Transfer → Moved → Moving
moving_of control variables line tag vars t moved = record {
  stmt = line;
  tag = tag;
  spec = spec_in variables vars t moved.cells;
  control = control (items_for t.input moved);
  moved = moved;
  size = option_map (λ place. moved_of (cell_at variables vars place ∷ [])) t.size;
  count = None;
}

abbrev pub pending_of : List Variable → Core → Transfer → Connected → ℕ → Pending
pending_of variables core t u number =
    record { id = core.next; unit = u.number; input = t.input; places = held_places variables t; size = t.size; slot = u.slot; number = number }

-- the items of an input are out of the variables
abbrev pub with_items_out : List Variable → Core → Transfer → Moved → Core
with_items_out variables core t moved = record core { vars = without_values variables t moved core.vars }

-- it is pending under the next identifier, which ID= gets
abbrev pub with_pending : List Variable → Core → Transfer → Moved → Connected → ℕ → Core
with_pending variables core t moved u number = record core {
  vars = with_number variables t.id (pos core.next) (without_values variables t moved core.vars);
  book = core.book ++ pending_of variables core t u number ∷ [];
  next = core.next + 1;
}

-- a halt that a transfer set ends with it, where it is not pending
abbrev pub finishes_behind : Connected → Core → Condition → Doing
finishes_behind u core condition = if halts condition then gives u.slot resume core (λ number. finishes core condition) else finishes core condition

abbrev pub carried_out : List Variable → Core → Transfer → Moved → Connected → Outcome → Doing
carried_out variables core t moved u o =
    finishes_behind u (record core { vars = with_cells variables t (cells_in o.0) (count_in o.0) (without_values variables t moved core.vars) }) (condition_in o.1)

abbrev pub transferred : (ℕ → List Given) → List Variable → ℕ → Core → Transfer → Moved → Connected → Doing
transferred control variables line core t moved u =
    if is_asynchronous t
    then gives u.slot (move (moving_of control variables line core.next core.vars t moved)) (with_items_out variables core t moved)
    (λ number. finishes (with_pending variables core t moved u number) Fine)
    else awaits u.slot (move (moving_of control variables line 0 core.vars t moved)) (with_items_out variables core t moved) (carried_out variables core t moved u)

abbrev pub refused : List Variable → Core → Transfer → Moved → Condition → Doing
refused variables core t moved condition = finishes (with_items_out variables core t moved) condition

abbrev pub unless_refused : (ℕ → List Given) → List Variable → ℕ → Core → Transfer → Moved → Connected → Condition → Doing
unless_refused control variables line core t moved u Fine = transferred control variables line core t moved u
unless_refused control variables line core t moved u condition = refused variables core t moved condition

abbrev pub on_unit : (ℕ → List Given) → List Variable → ℕ → Core → Transfer → Moved → Option Connected → Doing
on_unit control variables line core t moved None = refused variables core t moved (Error 1)
on_unit control variables line core t moved (Some u) = unless_refused control variables line core t moved u (refusal u.modes t (layout_of variables moved.cells t.control))

-- on `*` no job is needed
abbrev pub on_star : (ℕ → List Given) → List Variable → Core → Transfer → Moved → Doing
on_star control variables core t moved =
    let p = star_printed control core.output t moved (spec_in variables core.vars t moved.cells) in finishes (record core { output = p.0 }) p.1

-- and on an internal file neither
abbrev pub on_file : (ℕ → List Given) → List Variable → Core → Transfer → Moved → InternalFile → Doing
on_file control variables core t moved file = let done = inside control variables core.vars t moved file in finishes (record core { vars = done.0 }) done.1

abbrev pub transfer_at : (ℕ → List Given) → List Variable → ℕ → Core → Transfer → Moved → UnitRef → Doing
transfer_at control variables line core t moved unit.Star = on_star control variables core t moved
transfer_at control variables line core t moved (unit.Internal file) = on_file control variables core t moved file
transfer_at control variables line core t moved u = on_unit control variables line core t moved (option_and_then (connected_at core.units) (number_of u))

-- ---- CLOSE

-- without STATUS= a scratch file is removed, and any other is kept
abbrev pub keeps : Connected → Bool
keeps u = not u.modes.scratch

-- the file of a connection that went out of its bay is among the others, or is removed
abbrev pub left : List ℕ → Option Connection → Bool → Files → Files
left name None keep files = files
left name (Some c) keep files = if keep then with_file name c.bytes files else without_file name files

abbrev pub disconnected : Core → Connected → Bool → Outcome → Core
disconnected core u keep o = record core { units = without_connected u.number core.units; files = left u.name (connection_in o.0) keep core.files }

-- the connection of the unit came out of its bay
abbrev pub came_out : Connected → Outcome → Bool
came_out u o = unwrap_or (option_map (λ (c : Connection). bytes_eq c.name u.name) (connection_in o.0)) false

-- a unit whose connection does not come out counts as not connected (1)
abbrev pub once_out : Core → Connected → Bool → (Core → Doing) → Outcome → Doing
once_out core u keep next o = if came_out u o then next (disconnected core u keep o) else finishes core (Error 1)

abbrev pub detaches : Core → Connected → Bool → (Core → Doing) → Doing
detaches core u keep next = awaits u.slot (detach None) core (once_out core u keep next)

-- a scratch file cannot be kept (4)
abbrev pub closes : Core → Option Bool → Option Connected → Doing
closes core keep None = finishes core Fine
closes core keep (Some u) = if unwrap_or keep false && u.modes.scratch then finishes core (Error 4)
    else detaches core u (unwrap_or keep (keeps u)) (λ new. finishes new Fine)

-- where a condition of a transfer was told
abbrev pub closes_anyway : Core → Option Bool → Condition → Option Connected → Doing
closes_anyway core keep condition None = finishes core condition
closes_anyway core keep condition (Some u) = detaches core u (keeps u && unwrap_or keep true) (λ new. finishes new condition)

-- END closes unit after unit
abbrev pub all_closed : List Connected → Core → Condition → Doing
all_closed [] core condition = finishes core condition
all_closed (u ∷ us) core condition = detaches core u (keeps u) (λ new. all_closed us new condition)

-- ---- OPEN

-- the lowest of so many slots from this one on that no unit has
abbrev pub free_from : List Connected → ℕ → ℕ → Option ℕ
free_from units slot zero = None
free_from units slot (suc n) = if list_any (λ (u : Connected). u.slot == slot) units then free_from units (slot + 1) n else Some slot

-- the modes that may differ change, or nothing does (8)
abbrev pub changes : Core → Connected → Result Modes Condition → Doing
changes core u (Err condition) = finishes core condition
changes core u (Ok modes) = awaits u.slot (change modes.edit) core (λ o. finishes (record core { units = with_connected (record u { modes = modes }) core.units }) (condition_in o.1))

-- the file is connected to another unit
abbrev pub is_taken : Core → ℕ → List ℕ → Bool
is_taken core number name = list_any (λ (u : Connected). not (u.number == number) && bytes_eq u.name name) core.units

-- the connection takes its file from the others
abbrev pub attaches : Core → ℕ → ℕ → Result Connection Condition → Doing
attaches core number slot (Err condition) = finishes core condition
attaches core number slot (Ok c) =
    let new = record core { files = without_file c.name core.files } in
    awaits slot (attach (Some c)) new (λ o. finishes (record new { units = inserted (record { number = number; slot = slot; name = c.name; modes = c.modes }) core.units }) (condition_in o.1))

-- a new connection, at the lowest free slot: there is none (9), no such file (5), one that is there (6), one that is too long (27)
abbrev pub connects_at : ℕ → OpenSpec → Modes → Core → Option ℕ → Doing
connects_at number spec modes core None = finishes core (Error 9)
connects_at number spec modes core (Some slot) = attaches core number slot (opened_file (core.files (file_due spec number)) (file_due spec number) spec modes)

abbrev pub connects : ℕ → OpenSpec → Modes → Core → Doing
connects number spec modes core = connects_at number spec modes core (free_from core.units 0 most_slots)

-- the file that the unit is connected to is closed first
abbrev pub closes_first : Core → Option Connected → (Core → Doing) → Doing
closes_first core None next = next core
closes_first core (Some u) next = detaches core u (keeps u) next

-- another file: 3, then 7, and only then is the old file closed
abbrev pub opens_with : Core → ℕ → OpenSpec → Option Connected → Result Modes Condition → Doing
opens_with core number spec old (Err condition) = finishes core condition
opens_with core number spec old (Ok modes) = if is_taken core number (file_due spec number) then finishes core (Error 7)
    else closes_first core old (connects number spec modes)

abbrev pub opens : Core → ℕ → OpenSpec → Option Connected → Doing
opens core number spec None = opens_with core number spec None (settled spec)
opens core number spec (Some u) = if keeps_name u.name spec spec.file then changes core u (mode.changed u.modes spec)
    else opens_with core number spec (Some u) (settled spec)

-- a unit that is not connected is not connected either where its number is not one from 0 to 2,147,483,647 (3)
abbrev pub opens_unit : Core → UnitRef → ℕ → OpenSpec → Option Connected → Doing
opens_unit core u number spec None = if is_outside u then finishes core (Error 3) else opens core number spec None
opens_unit core u number spec (Some old) = opens core number spec (Some old)

-- ---- BACKSPACE, REWIND, ENDFILE, FLUSH

abbrev pub job_of : Motion → Job
job_of motion.Flush = flush
job_of motion.Backspace = go positioning.Backspace
job_of motion.Rewind = go positioning.Rewind
job_of motion.Endfile = go positioning.Endfile

abbrev pub moves : Core → Motion → Option Connected → Doing
moves core how None = finishes core (Error 1)
moves core how (Some u) = awaits u.slot (job_of how) core (λ o. finishes core (condition_in o.1))

-- ---- INQUIRE

-- what only the connection knows
abbrev pub asks_connection : Question → Bool
asks_connection question.Nextrec = true
asks_connection question.Pos = true
asks_connection question.Size = true
asks_connection _ = false

abbrev pub answers : List Variable → Core → About → List Wanted → Doing
answers variables core about asked = finishes (record core { vars = given_back variables (inquired about asked) core.vars }) Fine

abbrev pub about_unit : Core → Option ℕ → Option (List ℕ) → Option ℤ → Connected → Option Looked → About
about_unit core number file id u looked = about_connected u.number file u.name u.modes looked (has_pending (pending_holders core.book) number id)

abbrev pub inquires : List Variable → Core → Option ℕ → Option (List ℕ) → List Wanted → Option ℤ → Option Connected → Doing
inquires variables core number file asked id None = answers variables core (about_other core.files file) asked
inquires variables core number file asked id (Some u) =
    if list_any (λ (w : Wanted). asks_connection w.what) asked
    then awaits u.slot (look None) core (λ o. answers variables core (about_unit core number file id u (look_in o.0)) asked)
    else answers variables core (about_unit core number file id u None) asked

-- ---- each kind of statement

abbrev pub if_numbered : Core → Option ℕ → (ℕ → Doing) → Doing
if_numbered core None next = finishes core (Error 1)
if_numbered core (Some n) next = next n

abbrev pub unit_at : Core → Option ℕ → Option Connected
unit_at core number = option_and_then (connected_at core.units) number

abbrev pub own : (ℕ → List Given) → List Variable → ℕ → Core → Statement → Doing
own control variables line core (statement.Assign to from) =
    finishes (record core { vars = assigned variables (operand_places variables to) (value_of core.vars from) core.vars }) Fine
own control variables line core (statement.OpenUnit u spec iostat) = if_numbered core (number_of u) (λ n. opens_unit core u n spec (connected_at core.units n))
own control variables line core (statement.CloseUnit u keep iostat) = closes core keep (unit_at core (number_of u))
own control variables line core (statement.WaitFor u id iostat) = finishes core Fine
own control variables line core (statement.Move how u iostat) = moves core how (unit_at core (number_of u))
own control variables line core (statement.Inquire subject asked id iostat _) =
    let number = unit_about (unit_named core.units) subject in inquires variables core number (file_asked subject) asked (number_given core.vars id) (unit_at core number)
own control variables line core (statement.Transfer t) = transfer_at control variables line core t (moved_in variables core.vars t) t.unit
own control variables line core statement.End = all_closed core.units core Fine

-- what is done in its place where a condition of a transfer was told
abbrev pub instead : List Variable → Core → Statement → Condition → Doing
instead variables core (statement.CloseUnit u keep iostat) condition = closes_anyway core keep condition (unit_at core (number_of u))
instead variables core (statement.Inquire subject asked id iostat _) condition = finishes (record core { vars = given_back variables (none_pending asked) core.vars }) condition
instead variables core (statement.Transfer t) condition = finishes (with_items_out variables core t (moved_in variables core.vars t)) condition
instead variables core statement.End condition = all_closed core.units core condition
instead variables core _ condition = finishes core condition

abbrev pub doing : (ℕ → List Given) → List Variable → ℕ → Core → Statement → Condition → Doing
doing control variables line core st Fine = own control variables line core st
doing control variables line core st condition = instead variables core st condition
