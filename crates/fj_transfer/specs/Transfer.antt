-- A READ or WRITE on a connection, whole (ISO/IEC 1539-1:2004, 9.5).
use Rattle.std.specs.Prelude.{ℕ, ℤ, pos, negsuc, ◌+◌, ◌-◌, ◌==◌, ◌&&◌, ◌||◌, not, nat_lt, Bool, true, false, List, [], ◌∷◌, ◌++◌, length, take, drop, sum_by, Option, Some, None, is_some, if◌then◌else◌, Result, Ok, Err}
use Rattle.std.specs.List.{flat_map}
use Rattle.fj_value.specs.declared.edit.EditModes.{EditModes}
use Rattle.fj_value.specs.declared.value.Cell.{Cell}
use Rattle.fj_value.specs.declared.condition.Condition.{Condition}
use Rattle.fj_value.specs.declared.condition.Condition.TheVariants.{Fine, EndOfFile, EndOfRecord, Error}
use Rattle.fj_modes.specs.declared.modes.Modes.{Modes}
use Rattle.fj_modes.specs.declared.specifiers.Access.{Access}
use Rattle.fj_modes.specs.declared.specifiers.Access.TheVariants.{Sequential, Direct, Stream}
use Rattle.fj_modes.specs.declared.specifiers.Action.{Action}
use Rattle.fj_modes.specs.declared.specifiers.Action.TheVariants as action
use Rattle.fj_seqrec.specs.Lines.{lines}
use Rattle.fj_unfrec.specs.Frames.{frame}
use Rattle.fj_unfrec.specs.Stored.{stored, stored_width, value_of}
use Rattle.fj_byterec.specs.Pieces.{piece, bytes_from}
use Rattle.fj_moved.specs.declared.moved.Moved.{Moved}
use Rattle.fj_list.specs.ListInput.{Outcome, list_input}
use Rattle.fj_moved.specs.Cells.{with_value, kind_at}
use Rattle.fj_list.specs.ListText.{text_of}
pub use Rattle.fj_moved.specs.Load.{with_undefined}
use Rattle.fj_moved.specs.Moved.{value_at}
use Rattle.fj_control.specs.Steps.{Given}
use Rattle.fj_transfer.specs.Change.{changed}
use Rattle.fj_transfer.specs.declared.transfer.TransferSpec.{TransferSpec}
use Rattle.fj_transfer.specs.declared.transfer.Layout.{Layout}
use Rattle.fj_transfer.specs.declared.transfer.Layout.TheVariants.{Unformatted, Explicit, Listed, Group}
use Rattle.fj_modes.specs.Words.{same_access}
use Rattle.fj_connect.specs.Connection.{Connection, bytes_behind, rest_of_record, past_record, past_end, between, at_number, begun, missing_feed, with_records, with_open_record, with_frame, with_direct, with_bytes}
use Rattle.fj_connect.specs.Spot.{is_reading}
use Rattle.fj_modes.specs.Limits.{longest_file}
use Rattle.fj_connect.specs.Positions.{ended}
use Rattle.fj_transfer.specs.AtHand.{AtHand, behind, first_record}
use Rattle.fj_transfer.specs.Input.{Ended, explicit_input, left_at}
use Rattle.fj_transfer.specs.Printing.{Printed, printed, open_count, control_of}
use Rattle.fj_namelist.specs.GroupInput.{group_input}

-- What a transfer comes to: the connection then, the cells, how many characters data edit descriptors took (SIZE=), and the
-- condition.
pub record Done : Type 0 where
  pub connection : Connection
  pub cells : List Cell
  pub count : Option ℕ
  pub condition : Condition

-- ---- what does not go together with the connection

abbrev pub is_formatted : Layout → Bool
is_formatted Unformatted = false
is_formatted (Explicit f) = true
is_formatted Listed = true
is_formatted (Group name members) = true

abbrev pub is_explicit : Layout → Bool
is_explicit (Explicit f) = true
is_explicit _ = false

abbrev pub differ : Bool → Bool → Bool
differ a b = if a then not b else b

-- what direct access has no use for: ADVANCE= and formats that are not explicit
abbrev pub needs_sequence : Layout → Bool → Bool
needs_sequence layout names_advance = names_advance || (is_formatted layout && not (is_explicit layout))

-- formatted on an unformatted connection or the reverse, REC= and direct access one without the other, POS= without stream
-- access, what direct access has no use for (9.5.1)
abbrev pub is_unfit : Modes → Layout → Bool → Bool → Bool → Bool
is_unfit modes layout names_advance names_rec names_pos =
    differ modes.formatted (is_formatted layout)
    || differ names_rec (same_access modes.access Direct)
    || (names_pos && not (same_access modes.access Stream))
    || (same_access modes.access Direct && needs_sequence layout names_advance)

-- ACTION= does not allow the direction
abbrev pub is_forbidden : Action → Bool → Bool
is_forbidden action.Read input = not input
is_forbidden action.Write input = input
is_forbidden action.ReadWrite input = false

abbrev pub unfitness : Modes → Layout → Bool → Bool → Bool → Bool → Condition
unfitness modes layout input names_advance names_rec names_pos =
    if is_unfit modes layout names_advance names_rec names_pos then Error 16
    else (if is_forbidden modes.action input then Error 10 else Fine)

abbrev pub unfit : Modes → TransferSpec → Condition
unfit modes spec = unfitness modes spec.layout spec.input (is_explicit spec.layout && not spec.advance) (is_some spec.rec) (is_some spec.pos)

-- ---- where a transfer begins

-- POS= counts bytes from 1, and names one of the file or the place behind the last; a record begins there
abbrev pub at_byte : Connection → ℤ → Result Connection Condition
at_byte c (negsuc n) = Err (Error 21)
at_byte c (pos n) = if (n == 0) || nat_lt (length c.bytes + 1) n then Err (Error 21) else Ok (between c (n - 1))

-- REC= counts records from 1
abbrev pub at_record : Connection → ℤ → Result Connection Condition
at_record c (negsuc n) = Err (Error 21)
at_record c (pos n) = if n == 0 then Err (Error 21) else Ok (record c { spot = record c.spot { next_number = n } })

abbrev pub placed : Connection → Option ℤ → Option ℤ → Result Connection Condition
placed c (Some n) byte = at_record c n
placed c None (Some n) = at_byte c n
placed c None None = Ok c

-- behind the endfile record nothing is transferred (20)
abbrev pub begins_at : TransferSpec → Connection → Result Connection Condition
begins_at spec c = if c.spot.after_end then Err (Error 20) else placed c spec.rec spec.pos

-- ---- how a transfer ends

-- without a count for SIZE=
abbrev pub told_with : Connection → List Cell → Condition → Done
told_with c cells condition = record { connection = c; cells = cells; count = None; condition = condition }

-- an error leaves the connection as it was before the statement, and what was to be read is undefined
abbrev pub in_error : Connection → Bool → List Cell → Condition → Done
in_error old input cells condition = told_with old (if input then with_undefined cells else cells) condition

-- what an input leaves, by its condition: the connection as it was, where the end of the file leaves it, where end-of-record
-- leaves it, and where it ends else
pub record Ways : Type 0 where
  pub old : Connection
  pub end_of_file : Connection
  pub end_of_record : Connection
  pub fine : Connection

abbrev pub input_done : Ways → List Cell → Option ℕ → Condition → Done
input_done ways cells count Fine = record { connection = ways.fine; cells = cells; count = count; condition = Fine }
input_done ways cells count EndOfRecord = record { connection = ways.end_of_record; cells = cells; count = count; condition = EndOfRecord }
input_done ways cells count EndOfFile = told_with ways.end_of_file (with_undefined cells) EndOfFile
input_done ways cells count (Error n) = in_error ways.old true cells (Error n)

-- an output leaves a file within its limit, in which a record that stays open has room for its line feed (25)
abbrev pub output_done : Connection → List Cell → Connection → ℕ → Done
output_done old cells new feed = if nat_lt longest_file (length new.bytes + feed) then in_error old false cells (Error 25)
    else told_with new cells Fine

-- ---- formatted input

-- no record was there to begin in
abbrev pub unread : Connection → Connection → Ways
unread old c = record { old = old; end_of_file = past_end c; end_of_record = old; fine = old }

-- under an explicit format, from the first record on; the end of the file leaves the connection behind its last record
abbrev pub explicit_ended : Connection → Connection → Bool → Ended → Done
explicit_ended old c advance e =
    input_done (record { old = old; end_of_file = past_end c; end_of_record = behind e.progress.hand; fine = left_at advance e.progress }) e.progress.cells (Some e.progress.count) e.condition

abbrev pub explicit_read : Connection → Connection → Bool → EditModes → (ℕ → List Given) → Moved → Result AtHand Condition → Done
explicit_read old c advance modes control moved (Err condition) =
    input_done (unread old c) moved.cells None condition
explicit_read old c advance modes control moved (Ok hand) =
    explicit_ended old c advance (explicit_input advance modes (control (length moved.order)) moved.order (record { hand = hand; at = 0; cells = moved.cells; count = 0 }))

-- list-directed and namelist input: the records from the position on up to one that is too long, the rest of the record at hand
-- first, and what stands behind them
abbrev pub up_to_excess : ℕ → List (List ℕ) → List (List ℕ)
up_to_excess limit [] = []
up_to_excess limit (line ∷ more) = if nat_lt limit (length line) then [] else line ∷ up_to_excess limit more

abbrev pub behind_them : ℕ → List (List ℕ) → Condition
behind_them limit [] = EndOfFile
behind_them limit (line ∷ more) = if nat_lt limit (length line) then Error 15 else behind_them limit more

-- the rest of the record at hand is too long with what was read of it
abbrev pub rest_exceeds : Connection → Bool
rest_exceeds c = nat_lt c.modes.recl (begun c + length (rest_of_record c))

abbrev pub records_to_come : Connection → List (List ℕ)
records_to_come c =
    if is_reading c.spot.within then (if rest_exceeds c then [] else rest_of_record c ∷ up_to_excess c.modes.recl (lines (bytes_behind (past_record c))))
    else up_to_excess c.modes.recl (lines (bytes_behind c))

abbrev pub condition_to_come : Connection → Condition
condition_to_come c =
    if is_reading c.spot.within then (if rest_exceeds c then Error 15 else behind_them c.modes.recl (lines (bytes_behind (past_record c))))
    else behind_them c.modes.recl (lines (bytes_behind c))

-- so many records further
abbrev pub past_records : List (List ℕ) → Connection → Connection
past_records [] c = c
past_records (line ∷ more) c = past_records more (past_record c)

-- the records that were looked at are those that are not left
abbrev pub records_read : Connection → Connection → List Cell → Outcome → Done
records_read old c cells o =
    input_done (record { old = old; end_of_file = past_end c; end_of_record = old; fine = past_records (drop (length o.left) (records_to_come c)) c }) o.cells None o.condition

-- ---- unformatted input

-- values one after another out of bytes
abbrev pub values_from : List Cell → List ℕ → List ℕ → List Cell
values_from cells [] bytes = cells
values_from cells (at ∷ order) bytes =
    let width = stored_width (kind_at cells at) in
    values_from (with_value cells at (value_of (kind_at cells at) (take width bytes))) order (drop width bytes)

-- how many bytes the values of items take
abbrev pub widths : List Cell → List ℕ → ℕ
widths cells order = sum_by (λ at. stored_width (kind_at cells at)) order

abbrev pub bytes_needed : Moved → ℕ
bytes_needed moved = widths moved.cells moved.order

-- a record has as many bytes as the items need, or more (19)
abbrev pub body_read : Connection → Moved → List ℕ → Connection → Done
body_read old moved body new = if nat_lt (length body) (bytes_needed moved) then in_error old true moved.cells (Error 19)
    else told_with new (values_from moved.cells moved.order body) Fine

-- sequential: the record's frame has to be whole (18), and its body within the limit (15)
abbrev pub frame_read : Connection → Connection → Moved → Option (List ℕ × List ℕ) → Done
frame_read old c moved None = in_error old true moved.cells (Error 18)
frame_read old c moved (Some (body, behind_it)) = if nat_lt c.modes.recl (length body) then in_error old true moved.cells (Error 15)
    else body_read old moved body (between c (length c.bytes - length behind_it))

abbrev pub sequential_read : Connection → Connection → Moved → Done
sequential_read old c moved = if length (bytes_behind c) == 0
    then told_with (past_end c) (with_undefined moved.cells) EndOfFile
    else frame_read old c moved (frame (bytes_behind c))

-- direct: the record has to be there (17)
abbrev pub piece_read : Connection → Connection → ℕ → Moved → Option (List ℕ) → Done
piece_read old c number moved None = in_error old true moved.cells (Error 17)
piece_read old c number moved (Some body) = body_read old moved body (at_number c number)

abbrev pub direct_read : Connection → Connection → ℕ → Moved → Done
direct_read old c number moved = piece_read old c number moved (piece c.bytes c.modes.recl number)

-- stream: fewer bytes than the items need are the end of the file, with the position as before the statement
abbrev pub bytes_read : Connection → Connection → ℕ → Moved → Option (List ℕ) → Done
bytes_read old c place moved None = told_with old (with_undefined moved.cells) EndOfFile
bytes_read old c place moved (Some bytes) = told_with (between c (place + length bytes)) (values_from moved.cells moved.order bytes) Fine

abbrev pub stream_read : Connection → Connection → ℕ → Moved → Done
stream_read old c place moved = bytes_read old c place moved (bytes_from c.bytes place (bytes_needed moved))

abbrev pub unformatted_read : Access → Connection → Connection → Moved → Done
unformatted_read Sequential old c moved = sequential_read old c moved
unformatted_read Direct old c moved = direct_read old c c.spot.next_number moved
unformatted_read Stream old c moved = stream_read old c c.spot.at moved

-- input from the place where it begins
abbrev pub read_by : Layout → (ℕ → List Given) → Connection → Connection → TransferSpec → EditModes → Moved → Done
read_by Unformatted control old c spec modes moved = unformatted_read c.modes.access old c moved
read_by (Explicit f) control old c spec modes moved = explicit_read old c spec.advance modes control moved (first_record c)
read_by Listed control old c spec modes moved = records_read old c moved.cells (list_input modes.comma (records_to_come c) (condition_to_come c) moved.cells moved.order)
read_by (Group name members) control old c spec modes moved = records_read old c moved.cells (group_input modes.comma (records_to_come c) (condition_to_come c) name members moved.cells)

-- ---- output

-- the bytes of the values, in their order
abbrev pub bytes_of : List Cell → List ℕ → List ℕ
bytes_of cells order = flat_map (λ at. stored (kind_at cells at) (value_at cells at)) order

abbrev pub body_of : Moved → List ℕ
body_of moved = bytes_of moved.cells moved.order

-- sequential: one record, the last of the file
abbrev pub sequential_written : Connection → Connection → List Cell → List ℕ → Done
sequential_written old c cells body = if nat_lt c.modes.recl (length body) then in_error old false cells (Error 15)
    else output_done old cells (with_frame c body) 0

-- direct: the record of a number
abbrev pub direct_written : Connection → Connection → ℕ → List Cell → List ℕ → Done
direct_written old c number cells body = if nat_lt c.modes.recl (length body) then in_error old false cells (Error 15)
    else output_done old cells (with_direct c number body 0) 0

-- stream: bytes over those at the position
abbrev pub stream_written : Connection → Connection → List Cell → List ℕ → Done
stream_written old c cells body = output_done old cells (with_bytes c body) 0

abbrev pub unformatted_written : Access → Connection → Connection → Moved → Done
unformatted_written Sequential old c moved = sequential_written old c moved.cells (body_of moved)
unformatted_written Direct old c moved = direct_written old c c.spot.next_number moved.cells (body_of moved)
unformatted_written Stream old c moved = stream_written old c moved.cells (body_of moved)

-- records of direct access one after another, filled up with blanks
abbrev pub with_pieces : List (List ℕ) → Connection → Connection
with_pieces [] c = c
with_pieces (text ∷ more) c = with_pieces more (with_direct c c.spot.next_number text 32)

abbrev pub pieces_written : Connection → Connection → List Cell → Result Printed Condition → Done
pieces_written old c cells (Err condition) = in_error old false cells condition
pieces_written old c cells (Ok p) = output_done old cells (with_pieces p.records c) 0

-- a text as the last of the file, of which the last record may stay open
abbrev pub with_text : Connection → Bool → List ℕ → ℕ → Connection
with_text c true text count = with_records c text
with_text c false text count = with_open_record c text count

abbrev pub text_written : Connection → Connection → Bool → List Cell → List ℕ → ℕ → Done
text_written old c ends cells text count = output_done old cells (with_text c ends text count) (if ends then 0 else 1)

-- records as the last of the file, behind the line feed that they may need
abbrev pub lines_written : Connection → Connection → List ℕ → Bool → List Cell → Result Printed Condition → Done
lines_written old c feed ends cells (Err condition) = in_error old false cells condition
lines_written old c feed ends cells (Ok p) = text_written old c ends cells (feed ++ (text_of p.records ++ p.«open»)) (open_count (begun c) p)

-- the last record ends, unless ADVANCE='NO' leaves it open
abbrev pub ends_record : TransferSpec → Bool
ends_record spec = spec.advance || not (is_explicit spec.layout)

abbrev pub records_written : Connection → Connection → TransferSpec → List Cell → Result Printed Condition → Done
records_written old c spec cells printed =
    if same_access c.modes.access Direct then pieces_written old c cells printed
    else lines_written old c (if is_some spec.pos then [] else missing_feed c) (ends_record spec) cells printed

-- output at the place where it begins
abbrev pub written_by : Layout → (ℕ → List Given) → Connection → Connection → TransferSpec → EditModes → Moved → Done
written_by Unformatted control old c spec modes moved = unformatted_written c.modes.access old c moved
written_by _ control old c spec modes moved = records_written old c spec moved.cells (printed c.modes.recl (begun c) spec control modes moved)

-- ---- the statement

abbrev pub from_place : (ℕ → List Given) → Connection → TransferSpec → Moved → Result Connection Condition → Done
from_place control old spec moved (Err condition) = in_error old spec.input moved.cells condition
from_place control old spec moved (Ok c) =
    let modes = changed spec.edit c.modes.edit in
    if spec.input then read_by spec.layout control old c spec modes moved else written_by spec.layout control old c spec modes moved

-- a READ first ends a record that output left open
abbrev pub if_fit : (ℕ → List Given) → Connection → TransferSpec → Moved → Condition → Done
if_fit control c spec moved Fine = from_place control c spec moved (begins_at spec (if spec.input then ended c else c))
if_fit control c spec moved condition = in_error c spec.input moved.cells condition

-- the same by what format control gives for so many items
unfoldable pub transfer_by : (ℕ → List Given) → Connection → TransferSpec → Moved → Done
transfer_by control c spec moved = if_fit control c spec moved (unfit c.modes spec)

abbrev pub transfer : Connection → TransferSpec → Moved → Done
transfer c spec moved = transfer_by (control_of spec.layout) c spec moved
