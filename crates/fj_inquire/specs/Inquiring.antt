-- The answers of INQUIRE (ISO/IEC 1539-1:2004, 9.9.1).
use Rattle.std.specs.Prelude.{ℕ, ℤ, pos, negsuc, ◌+◌, not, codes, Bool, true, false, List, map, Option, Some, None, if◌then◌else◌}
use Rattle.std.specs.Option.{option_map_or}
use Rattle.fj_value.specs.declared.kind.Kind.{Kind}
use Rattle.fj_value.specs.declared.value.Cell.{Cell}
use Rattle.fj_value.specs.declared.value.Value.{Value}
use Rattle.fj_value.specs.declared.value.Value.TheVariants.{Undefined, Log}
use Rattle.fj_modes.specs.declared.modes.Modes.{Modes}
use Rattle.fj_modes.specs.declared.specifiers.Access.TheVariants.{Direct, Stream}
use Rattle.fj_modes.specs.declared.asked.Question.{Question}
use Rattle.fj_modes.specs.declared.asked.Question.TheVariants as question
use Rattle.fj_modes.specs.declared.asked.Wanted.{Wanted}
use Rattle.fj_modes.specs.ModeWords.{access_word, action_word, delim_word, form_word, blank_word, decimal_word, sign_word, answer_word}
use Rattle.fj_modes.specs.Words.{same_access}
use Rattle.fj_connect.specs.declared.spot.Look.{Look}
use Rattle.fj_inquire.specs.declared.connected.Connected.{Connected}
use Rattle.fj_inquire.specs.Values.{number_for, word_for}

-- what is asked about: a connection, by its unit, what it is, a look at it behind the pending transfers of the unit, and whether
-- the transfer in question is pending; a unit with no connection; or a file with none, by its name and whether it is there
pub data About : Type 0 where
  connection : ℤ → Connected → Option Look → Bool → About
  unit : About
  file : List ℕ → Bool → About

-- an answer: a truth value, a number, or a word; or there is none, and the variable becomes undefined
pub data Answer : Type 0 where
  truth : Bool → Answer
  number : ℤ → Answer
  word : List ℕ → Answer
  nothing : Answer

-- the word of what cannot be told
abbrev pub undefined : Answer
undefined = word (codes "UNDEFINED")

-- a mode of formatted editing; an unformatted connection has none
abbrev pub edit_word : Modes → List ℕ → Answer
edit_word m w = if m.formatted then word w else undefined

abbrev pub looked : Option Look → (Look → Answer) → Answer
looked look answer = option_map_or answer look nothing

-- RECL=: a stream has none
abbrev pub record_length : Modes → Answer
record_length m = if same_access m.access Stream then nothing else number (pos m.recl)

-- NEXTREC=, of direct access: the number behind that of the last record
abbrev pub next_record : Modes → Option Look → Answer
next_record m look = if same_access m.access Direct then looked look (λ l. number (pos l.spot.next_number)) else nothing

-- POS=, of stream access: bytes are counted from 1
abbrev pub position : Modes → Option Look → Answer
position m look = if same_access m.access Stream then looked look (λ l. number (pos (l.spot.at + 1))) else nothing

-- SIZE=, in bytes
abbrev pub size : Option Look → Answer
size look = looked look (λ l. number (pos l.size))

-- of a connection
abbrev pub connected_answer : ℤ → Connected → Option Look → Bool → Question → Answer
connected_answer u c look pending question.Exist = truth true
connected_answer u c look pending question.Opened = truth true
connected_answer u c look pending question.Number = number u
connected_answer u c look pending question.Named = truth (not c.modes.scratch)
connected_answer u c look pending question.Name = if c.modes.scratch then nothing else word c.name
connected_answer u c look pending question.Access = word (access_word c.modes.access)
connected_answer u c look pending question.Form = word (form_word c.modes.formatted)
connected_answer u c look pending question.Recl = record_length c.modes
connected_answer u c look pending question.Nextrec = next_record c.modes look
connected_answer u c look pending question.Pos = position c.modes look
connected_answer u c look pending question.Size = size look
connected_answer u c look pending question.Blank = edit_word c.modes (blank_word c.modes.edit.blank_zero)
connected_answer u c look pending question.Delim = edit_word c.modes (delim_word c.modes.edit.delim)
connected_answer u c look pending question.Pad = edit_word c.modes (answer_word c.modes.edit.pad)
connected_answer u c look pending question.Decimal = edit_word c.modes (decimal_word c.modes.edit.comma)
connected_answer u c look pending question.Sign = edit_word c.modes (sign_word c.modes.edit.plus)
connected_answer u c look pending question.Action = word (action_word c.modes.action)
connected_answer u c look pending question.Asynchronous = word (answer_word c.modes.asynchronous)
connected_answer u c look pending question.Pending = truth pending

-- of a unit that is not connected; each unit exists
abbrev pub unit_answer : Question → Answer
unit_answer question.Exist = truth true
unit_answer question.Opened = truth false
unit_answer question.Number = number (negsuc 0)
unit_answer question.Named = truth false
unit_answer question.Name = nothing
unit_answer question.Recl = nothing
unit_answer question.Nextrec = nothing
unit_answer question.Pos = nothing
unit_answer question.Size = number (negsuc 0)
unit_answer question.Pending = truth false
unit_answer _ = undefined

-- of a file that is not connected: it has a name, and is there or not; else as of a unit
abbrev pub file_answer : List ℕ → Bool → Question → Answer
file_answer name exists question.Exist = truth exists
file_answer name exists question.Named = truth true
file_answer name exists question.Name = word name
file_answer name exists q = unit_answer q

abbrev pub answer_to : About → Question → Answer
answer_to (connection u c look pending) q = connected_answer u c look pending q
answer_to unit q = unit_answer q
answer_to (file name exists) q = file_answer name exists q

abbrev pub value_for : Kind → Answer → Value
value_for kind (truth b) = Log b
value_for kind (number n) = number_for kind n
value_for kind (word cs) = word_for kind cs
value_for kind nothing = Undefined

-- one cell for each question, in order
abbrev pub inquired : About → List Wanted → List Cell
inquired about asked = map (λ (w : Wanted). record { place = w.place; kind = w.kind; value = value_for w.kind (answer_to about w.what) }) asked

-- INQUIRE by unit, which is connected or not
abbrev pub about_unit : ℤ → Option Connected → Option Look → Bool → About
about_unit u (Some c) look pending = connection u c look pending
about_unit u None look pending = unit

-- INQUIRE by file, which is connected to a unit or not
abbrev pub about_file : List ℕ → Bool → Option (ℤ × Connected) → Option Look → Bool → About
about_file name exists (Some (u, c)) look pending = connection u c look pending
about_file name exists None look pending = file name exists
