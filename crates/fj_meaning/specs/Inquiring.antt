-- The answers of INQUIRE (ISO/IEC 1539-1:2004, 9.9.1).
use Rattle.std.specs.Prelude.{ℕ, ℤ, pos, negsuc, ◌+◌, not, codes, Bool, true, false, List, ◌++◌, map, filter, Option, Some, None, is_some, if◌then◌else◌, take, replicate}
use Rattle.std.specs.Option.{option_map_or}
use Rattle.fj_value.specs.declared.kind.Kind.{Kind}
use Rattle.fj_value.specs.declared.kind.Kind.TheVariants.{Chars}
use Rattle.fj_value.specs.declared.value.Cell.{Cell}
use Rattle.fj_value.specs.declared.value.Value.{Value}
use Rattle.fj_value.specs.declared.value.Value.TheVariants.{Undefined, Log, Chars as Text}
use Rattle.fj_value.specs.declared.edit.Delim.{Delim}
use Rattle.fj_value.specs.declared.edit.Delim.TheVariants.{Plain, Apostrophe, Quote}
use Rattle.fj_modes.specs.declared.modes.Modes.{Modes}
use Rattle.fj_modes.specs.declared.specifiers.Access.{Access}
use Rattle.fj_modes.specs.declared.specifiers.Access.TheVariants.{Sequential, Direct, Stream}
use Rattle.fj_modes.specs.declared.specifiers.Action.{Action}
use Rattle.fj_modes.specs.declared.specifiers.Action.TheVariants.{Read, Write, ReadWrite}
use Rattle.fj_modes.specs.declared.asked.Question.{Question}
use Rattle.fj_modes.specs.declared.asked.Question.TheVariants as question
use Rattle.fj_modes.specs.declared.asked.Wanted.{Wanted}
use Rattle.fj_statement.specs.Units.{number_from_code}
use Rattle.fj_bay.specs.Jobs.{Looked}
use Rattle.fj_meaning.specs.Items.{number_for}

-- what is asked about: a unit or a file, connected or not
pub record About : Type 0 where
  -- the code of the unit's number, where one is asked about or the file is connected
  pub unit : Option ℕ
  -- the file that is asked about, and whether it is there
  pub file : Option (List ℕ)
  pub exists : Bool
  -- of a connected unit or file, its name and modes, and a look at it behind its pending transfers
  pub name : Option (List ℕ)
  pub modes : Option Modes
  pub look : Option Looked
  pub pending : Bool

-- an answer: a truth value, a number, or a word; or there is none, and the variable becomes undefined
pub data Answer : Type 0 where
  truth : Bool → Answer
  number : ℤ → Answer
  word : List ℕ → Answer
  nothing : Answer

abbrev pub yes_no : Bool → List ℕ
yes_no b = if b then codes "YES" else codes "NO"

abbrev pub access_word : Access → List ℕ
access_word Sequential = codes "SEQUENTIAL"
access_word Direct = codes "DIRECT"
access_word Stream = codes "STREAM"

abbrev pub action_word : Action → List ℕ
action_word Read = codes "READ"
action_word Write = codes "WRITE"
action_word ReadWrite = codes "READWRITE"

abbrev pub delim_word : Delim → List ℕ
delim_word Plain = codes "NONE"
delim_word Apostrophe = codes "APOSTROPHE"
delim_word Quote = codes "QUOTE"

-- a mode of formatted editing; an unformatted connection has none
abbrev pub edit_word : Modes → List ℕ → Answer
edit_word m w = word (if m.formatted then w else codes "UNDEFINED")

abbrev pub is_direct : Access → Bool
is_direct Direct = true
is_direct _ = false

abbrev pub is_stream : Access → Bool
is_stream Stream = true
is_stream _ = false

abbrev pub looked : Option Looked → (Looked → Answer) → Answer
looked None answer = nothing
looked (Some look) answer = answer look

-- of a connected unit or file
abbrev pub connected_answer : About → Modes → Question → Answer
connected_answer a m question.Exist = truth true
connected_answer a m question.Opened = truth true
connected_answer a m question.Number = option_map_or (λ n. number (number_from_code n)) a.unit nothing
connected_answer a m question.Named = truth (not m.scratch)
connected_answer a m question.Name = if m.scratch then nothing else option_map_or word a.name nothing
connected_answer a m question.Access = word (access_word m.access)
connected_answer a m question.Form = word (if m.formatted then codes "FORMATTED" else codes "UNFORMATTED")
connected_answer a m question.Recl = if is_stream m.access then nothing else number (pos m.recl)
connected_answer a m question.Nextrec = if is_direct m.access then looked a.look (λ l. number (pos l.spot.next_number)) else nothing
connected_answer a m question.Pos = if is_stream m.access then looked a.look (λ l. number (pos (l.spot.at + 1))) else nothing
connected_answer a m question.Size = looked a.look (λ l. number (pos l.size))
connected_answer a m question.Blank = edit_word m (if m.edit.blank_zero then codes "ZERO" else codes "NULL")
connected_answer a m question.Delim = edit_word m (delim_word m.edit.delim)
connected_answer a m question.Pad = edit_word m (yes_no m.edit.pad)
connected_answer a m question.Decimal = edit_word m (if m.edit.comma then codes "COMMA" else codes "POINT")
connected_answer a m question.Sign = edit_word m (if m.edit.plus then codes "PLUS" else codes "SUPPRESS")
connected_answer a m question.Action = word (action_word m.action)
connected_answer a m question.Asynchronous = word (yes_no m.asynchronous)
connected_answer a m question.Pending = truth a.pending

-- of a unit or file that is not connected
abbrev pub other_answer : About → Question → Answer
other_answer a question.Exist = truth (if is_some a.file then a.exists else true)
other_answer a question.Opened = truth false
other_answer a question.Number = number (negsuc 0)
other_answer a question.Named = truth (is_some a.file)
other_answer a question.Name = option_map_or word a.file nothing
other_answer a question.Recl = nothing
other_answer a question.Nextrec = nothing
other_answer a question.Pos = nothing
other_answer a question.Size = number (negsuc 0)
other_answer a question.Pending = truth false
other_answer a _ = word (codes "UNDEFINED")

abbrev pub answer_to : About → Question → Answer
answer_to a q = option_map_or (λ m. connected_answer a m q) a.modes (other_answer a q)

-- words are set as by assignment: cut, or filled up with blanks
abbrev pub fitted : Kind → List ℕ → Value
fitted (Chars n) cs = Text (take n (cs ++ replicate n 32))
fitted kind cs = Undefined

abbrev pub value_for : Kind → Answer → Value
value_for kind (truth b) = Log b
value_for kind (number n) = number_for kind n
value_for kind (word cs) = fitted kind cs
value_for kind nothing = Undefined

abbrev pub asks_pending : Question → Bool
asks_pending question.Pending = true
asks_pending _ = false

-- PENDING= where no transfer that is asked about is pending, and no other answer
abbrev pub none_pending : List Wanted → List Cell
none_pending asked = map (λ (w : Wanted). record { place = w.place; kind = w.kind; value = Log false }) (filter (λ w. asks_pending w.what) asked)

-- one cell for each question, in order
abbrev pub inquired : About → List Wanted → List Cell
inquired a asked = map (λ (w : Wanted). record { place = w.place; kind = w.kind; value = value_for w.kind (answer_to a w.what) }) asked
