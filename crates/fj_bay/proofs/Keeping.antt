-- A transfer and a motion leave the connection under its name, with its modes.
use Rattle.std.proofs.Common.{◌≡◌, ℕ, ℤ, pos, negsuc, ◌+◌, ◌-◌, ◌==◌, Bool, true, false, List, [], ◌∷◌, length, Option, Some, None, Result, Ok, Err, refl, ◌∙◌, if◌then◌else◌, ◌||◌, nat_lt, drop, replicate, ◌++◌}
use Rattle.std.specs.Prelude.{IfOk, is_some}
use Rattle.fj_value.specs.declared.edit.EditModes.{EditModes}
use Rattle.fj_value.specs.declared.value.Cell.{Cell}
use Rattle.fj_value.specs.declared.value.Value.{Value}
use Rattle.fj_value.specs.declared.value.Value.TheVariants.{Undefined}
use Rattle.fj_value.specs.declared.condition.Condition.{Condition}
use Rattle.fj_value.specs.declared.condition.Condition.TheVariants.{Fine, EndOfFile, EndOfRecord, Error}
use Rattle.fj_modes.specs.declared.specifiers.Access.{Access}
use Rattle.fj_modes.specs.declared.specifiers.Access.TheVariants.{Sequential, Direct, Stream}
use Rattle.fj_modes.specs.Words.{same_access}
use Rattle.fj_modes.specs.Limits.{longest_file}
use Rattle.fj_moved.specs.declared.moved.Moved.{Moved}
use Rattle.fj_list.specs.ListInput.{Outcome, list_input}
use Rattle.fj_moved.specs.Cells.{kind_at, with_value}
use Rattle.fj_edit_in.specs.InputField.{input_field}
use Rattle.fj_list.specs.ListText.{text_of}
use Rattle.fj_namelist.specs.GroupInput.{group_input}
use Rattle.fj_control.specs.Steps.{Given}
use Rattle.fj_control.specs.Paired.{Part, item, string, move, slash, lacking, paired}
use Rattle.fj_unfrec.specs.Frames.{frame}
use Rattle.fj_byterec.specs.Pieces.{piece, bytes_from}
use Rattle.fj_line.specs.Line.{position_behind}
use Rattle.fj_connect.specs.Connection.{Connection, between, past_record, past_end, with_records, with_direct, with_frame, with_bytes, begun, missing_feed, bytes_behind, rest_of_record, at_number}
use Rattle.fj_connect.specs.Spot.{is_reading, is_writing}
use Rattle.fj_connect.specs.Positions as position
use Rattle.fj_connect.specs.Positions.{ended, moved_unless, positioned, motion_error}
use Rattle.fj_connect.specs.declared.spot.Within.TheVariants.{Reading}
use Rattle.fj_connect.specs.declared.spot.Positioning.{Positioning}
use Rattle.fj_connect.specs.declared.spot.Positioning.TheVariants.{Backspace, Rewind, Endfile}
use Rattle.fj_transfer.specs.declared.transfer.TransferSpec.{TransferSpec}
use Rattle.fj_transfer.specs.declared.transfer.Layout.{Layout}
use Rattle.fj_transfer.specs.declared.transfer.Layout.TheVariants.{Unformatted, Explicit, Listed, Group}
use Rattle.fj_transfer.specs.AtHand.{AtHand, behind, line_at, numbered, record_numbered, next_record, first_record}
use Rattle.fj_transfer.specs.Change.{changed}
use Rattle.fj_transfer.specs.Input.{Progress, Ended, width_for, characters_for, without_padding, stopped, with_field, field_read, with_record, carried_out, left_at, explicit_input}
use Rattle.fj_transfer.specs.Printing.{Printed, printed, open_count}
use Rattle.fj_transfer.specs.Transfer.{Done, Ways, in_error, input_done, output_done, explicit_read, past_records, records_read, records_to_come, condition_to_come, frame_read, body_read, bytes_needed, values_from, body_of, piece_read, bytes_read, unformatted_read, unformatted_written, with_pieces, pieces_written, with_text, lines_written, ends_record, records_written, read_by, written_by, from_place, begins_at, placed, if_fit, unfit, transfer_by, with_undefined}

pub record Kept (old new : Connection) : Type 0 where
  pub named : new.name ≡ old.name
  pub modes : new.modes ≡ old.modes

pub kept_then : (a b c : Connection) → Kept a b → Kept b c → Kept a c
kept_then a b c h k = record { named = k.named ∙ h.named; modes = k.modes ∙ h.modes }

pub kept_same : (c : Connection) → Kept c c
kept_same c = record { named = refl; modes = refl }

pub ended_kept : (c : Connection) → Kept c (ended c)
ended_kept c = by (is_writing c.spot.within)
  where
    by : (b : Bool) → Kept c (if b then with_records c (10 ∷ []) else c)
    by true = record { named = refl; modes = refl }
    by false = kept_same c

pub moved_kept : (c : Connection) (how : Positioning) → Kept c (position.moved c how).0
moved_kept c how = by (motion_error c how) how
  where
    by : (o : Option ℕ) (how : Positioning) → Kept c (moved_unless o c how).0
    by (Some n) how = kept_same c
    by None Backspace = record { named = (ended_kept c).named; modes = (ended_kept c).modes }
    by None Rewind = record { named = (ended_kept c).named; modes = (ended_kept c).modes }
    by None Endfile = record { named = (ended_kept c).named; modes = (ended_kept c).modes }

-- ---- the records at hand

behind_kept : (old : Connection) (hand : AtHand) → Kept old hand.connection → Kept old (behind hand)
behind_kept old hand k = by (same_access hand.connection.modes.access Direct)
  where
    by : (b : Bool) → Kept old (if b then hand.connection else past_record hand.connection)
    by true = k
    by false = record { named = k.named; modes = k.modes }

abbrev HandKept : Connection → Result AtHand Condition → Type 0
HandKept old r = IfOk r (λ hand. Kept old hand.connection)

direct_kept : (old c : Connection) → Kept old c → HandKept old (record_numbered c c.spot.next_number)
direct_kept old c k = by (piece c.bytes c.modes.recl c.spot.next_number)
  where
    by : (o : Option (List ℕ)) → HandKept old (numbered c c.spot.next_number o)
    by None = tt
    by (Some text) = record { named = k.named; modes = k.modes }

line_kept : (old c : Connection) → Kept old c → HandKept old (line_at c)
line_kept old c k = by (length (bytes_behind c) == 0) (nat_lt c.modes.recl (length (rest_of_record c)))
  where
    by : (a b : Bool) → HandKept old (if a then Err EndOfFile else (if b then Err (Error 15) else Ok (record { connection = record c { spot = record { at = c.spot.at + 0; start = c.spot.at; within = Reading; after_end = false; next_number = c.spot.next_number } }; text = rest_of_record c })))
    by true b = tt
    by false true = tt
    by false false = record { named = k.named; modes = k.modes }

next_kept : (old c : Connection) → Kept old c → HandKept old (next_record c)
next_kept old c k = by (same_access c.modes.access Direct)
  where
    by : (b : Bool) → HandKept old (if b then record_numbered c c.spot.next_number else line_at c)
    by true = direct_kept old c k
    by false = line_kept old c k

first_kept : (old c : Connection) → Kept old c → HandKept old (first_record c)
first_kept old c k = by (same_access c.modes.access Direct) (is_reading c.spot.within) (nat_lt c.modes.recl (begun c + length (rest_of_record c)))
  where
    by : (direct b long : Bool) → HandKept old (if direct then record_numbered c c.spot.next_number else (if b then (if long then Err (Error 15) else Ok (record { connection = c; text = rest_of_record c })) else line_at c))
    by true b long = direct_kept old c k
    by false true true = tt
    by false true false = k
    by false false long = line_kept old c k

-- ---- input under an explicit format

abbrev Hands : Connection → Ended → Type 0
Hands old e = Kept old e.progress.hand.connection

field_kept : (old : Connection) (advance pad : Bool) (width : ℕ) (chars : List ℕ) (cell : ℕ) (r : Result Value Condition) (p : Progress) (next : Progress → Ended)
    → Kept old p.hand.connection → ((q : Progress) → Kept old q.hand.connection → Hands old (next q)) → Hands old (field_read advance pad width chars cell r p next)
field_kept old advance pad width chars cell (Err condition) p next k f = k
field_kept old advance pad width chars cell (Ok value) p next k f = by (length chars == width) advance pad
  where
    read : Progress
    read = with_field width (length chars) cell value p

    by : (a b c : Bool) → Hands old (if a then next read else (if b then (if c then next read else stopped (Error 30) p) else (if c then stopped EndOfRecord read else stopped EndOfRecord (record p { cells = with_value p.cells cell Undefined }))))
    by true b c = f read k
    by false true true = f read k
    by false true false = k
    by false false true = k
    by false false false = k

record_kept : (old : Connection) (r : Result AtHand Condition) (p : Progress) (next : Progress → Ended)
    → Kept old p.hand.connection → HandKept old r → ((q : Progress) → Kept old q.hand.connection → Hands old (next q)) → Hands old (with_record r p next)
record_kept old (Err condition) p next k h f = k
record_kept old (Ok hand) p next k h f = f (record p { hand = hand; at = 0 }) h

parts_kept : (old : Connection) (advance : Bool) (parts : List (Part ℕ)) (p : Progress) → Kept old p.hand.connection → Hands old (carried_out advance parts p)
parts_kept old advance [] p k = k
parts_kept old advance (item modes e cell ∷ more) p k =
    let width = width_for e (kind_at p.cells cell) in
    let chars = characters_for width p in
    field_kept old advance modes.pad width chars cell
    (without_padding modes.pad width chars (input_field e (kind_at p.cells cell) modes.blank_zero (chars ++ replicate (width - length chars) 32))) p (carried_out advance more) k
    (λ q h. parts_kept old advance more q h)
parts_kept old advance (string s ∷ more) p k = k
parts_kept old advance (move m ∷ more) p k = parts_kept old advance more (record p { at = position_behind m p.at }) k
parts_kept old advance (slash ∷ more) p k =
    record_kept old (next_record (behind p.hand)) p (carried_out advance more) k (next_kept old (behind p.hand) (behind_kept old p.hand k)) (λ q h. parts_kept old advance more q h)
parts_kept old advance (lacking ∷ more) p k = k

-- ---- transfers

abbrev KeptBy : Connection → Done → Type 0
KeptBy old d = Kept old d.connection

input_kept : (old : Connection) (ways : Ways) (cells : List Cell) (count : Option ℕ) (condition : Condition)
    → Kept old ways.old → Kept old ways.end_of_file → Kept old ways.end_of_record → Kept old ways.fine → KeptBy old (input_done ways cells count condition)
input_kept old ways cells count Fine a b c d = d
input_kept old ways cells count EndOfRecord a b c d = c
input_kept old ways cells count EndOfFile a b c d = b
input_kept old ways cells count (Error n) a b c d = a

left_kept : (old : Connection) (advance : Bool) (p : Progress) → Kept old p.hand.connection → Kept old (left_at advance p)
left_kept old true p k = behind_kept old p.hand k
left_kept old false p k = record { named = k.named; modes = k.modes }

explicit_kept : (old c : Connection) (advance : Bool) (modes : EditModes) (control : ℕ → List Given) (moved : Moved) (r : Result AtHand Condition)
    → Kept old c → HandKept old r → KeptBy old (explicit_read old c advance modes control moved r)
explicit_kept old c advance modes control moved (Err condition) k h =
    input_kept old _ moved.cells None condition (kept_same old) (record { named = k.named; modes = k.modes }) (kept_same old) (kept_same old)
explicit_kept old c advance modes control moved (Ok hand) k h =
    let e = explicit_input advance modes (control (length moved.order)) moved.order (record { hand = hand; at = 0; cells = moved.cells; count = 0 }) in
    let there : Kept old e.progress.hand.connection =
    parts_kept old advance (paired modes (control (length moved.order)) moved.order) (record { hand = hand; at = 0; cells = moved.cells; count = 0 }) h in
    input_kept old _ e.progress.cells (Some e.progress.count) e.condition (kept_same old) (record { named = k.named; modes = k.modes })
    (behind_kept old e.progress.hand there) (left_kept old advance e.progress there)

past_kept : (old : Connection) (records : List (List ℕ)) (c : Connection) → Kept old c → Kept old (past_records records c)
past_kept old [] c k = k
past_kept old (line ∷ more) c k = past_kept old more (past_record c) (record { named = k.named; modes = k.modes })

records_kept : (old c : Connection) (cells : List Cell) (o : Outcome) → Kept old c → KeptBy old (records_read old c cells o)
records_kept old c cells o k =
    input_kept old _ o.cells None o.condition (kept_same old) (record { named = k.named; modes = k.modes }) (kept_same old)
    (past_kept old (drop (length o.left) (records_to_come c)) c k)

body_kept : (old : Connection) (moved : Moved) (body : List ℕ) (new : Connection) → Kept old new → KeptBy old (body_read old moved body new)
body_kept old moved body new k = by (nat_lt (length body) (bytes_needed moved))
  where
    by : (b : Bool) → KeptBy old (if b then in_error old true moved.cells (Error 19) else record { connection = new; cells = values_from moved.cells moved.order body; count = None; condition = Fine })
    by true = kept_same old
    by false = k

frame_kept : (old c : Connection) (moved : Moved) (o : Option (List ℕ × List ℕ)) → Kept old c → KeptBy old (frame_read old c moved o)
frame_kept old c moved None k = kept_same old
frame_kept old c moved (Some (body, behind_it)) k = by (nat_lt c.modes.recl (length body))
  where
    by : (b : Bool) → KeptBy old (if b then in_error old true moved.cells (Error 15) else body_read old moved body (between c (length c.bytes - length behind_it)))
    by true = kept_same old
    by false = body_kept old moved body (between c (length c.bytes - length behind_it)) (record { named = k.named; modes = k.modes })

unformatted_kept : (access : Access) (old c : Connection) (moved : Moved) → Kept old c → KeptBy old (unformatted_read access old c moved)
unformatted_kept Sequential old c moved k = by (length (bytes_behind c) == 0)
  where
    by : (b : Bool) → KeptBy old (if b then record { connection = past_end c; cells = with_undefined moved.cells; count = None; condition = EndOfFile } else frame_read old c moved (frame (bytes_behind c)))
    by true = record { named = k.named; modes = k.modes }
    by false = frame_kept old c moved (frame (bytes_behind c)) k
unformatted_kept Direct old c moved k = by (piece c.bytes c.modes.recl c.spot.next_number)
  where
    by : (o : Option (List ℕ)) → KeptBy old (piece_read old c c.spot.next_number moved o)
    by None = kept_same old
    by (Some body) = body_kept old moved body (at_number c c.spot.next_number) (record { named = k.named; modes = k.modes })
unformatted_kept Stream old c moved k = by (bytes_from c.bytes c.spot.at (bytes_needed moved))
  where
    by : (o : Option (List ℕ)) → KeptBy old (bytes_read old c c.spot.at moved o)
    by None = kept_same old
    by (Some bytes) = record { named = k.named; modes = k.modes }

read_kept : (layout : Layout) (control : ℕ → List Given) (old c : Connection) (spec : TransferSpec) (modes : EditModes) (moved : Moved) → Kept old c → KeptBy old (read_by layout control old c spec modes moved)
read_kept Unformatted control old c spec modes moved k = unformatted_kept c.modes.access old c moved k
read_kept (Explicit f) control old c spec modes moved k = explicit_kept old c spec.advance modes control moved (first_record c) k (first_kept old c k)
read_kept Listed control old c spec modes moved k = records_kept old c moved.cells (list_input modes.comma (records_to_come c) (condition_to_come c) moved.cells moved.order) k
read_kept (Group name members) control old c spec modes moved k = records_kept old c moved.cells (group_input modes.comma (records_to_come c) (condition_to_come c) name members moved.cells) k

output_kept : (old : Connection) (cells : List Cell) (new : Connection) (feed : ℕ) → Kept old new → KeptBy old (output_done old cells new feed)
output_kept old cells new feed k = by (nat_lt longest_file (length new.bytes + feed))
  where
    by : (b : Bool) → KeptBy old (if b then in_error old false cells (Error 25) else record { connection = new; cells = cells; count = None; condition = Fine })
    by true = kept_same old
    by false = k

pieces_kept : (old : Connection) (texts : List (List ℕ)) (c : Connection) → Kept old c → Kept old (with_pieces texts c)
pieces_kept old [] c k = k
pieces_kept old (text ∷ more) c k = pieces_kept old more (with_direct c c.spot.next_number text 32) (record { named = k.named; modes = k.modes })

text_kept : (old c : Connection) (ends : Bool) (text : List ℕ) (count : ℕ) → Kept old c → Kept old (with_text c ends text count)
text_kept old c true text count k = record { named = k.named; modes = k.modes }
text_kept old c false text count k = record { named = k.named; modes = k.modes }

lines_kept : (old c : Connection) (feed : List ℕ) (ends : Bool) (cells : List Cell) (r : Result Printed Condition) → Kept old c → KeptBy old (lines_written old c feed ends cells r)
lines_kept old c feed ends cells (Err condition) k = kept_same old
lines_kept old c feed ends cells (Ok p) k = output_kept old cells (with_text c ends text count) (if ends then 0 else 1) (text_kept old c ends text count k)
  where
    text : List ℕ
    text = feed ++ (text_of p.records ++ p.«open»)

    count : ℕ
    count = open_count (begun c) p

all_pieces_kept : (old c : Connection) (cells : List Cell) (r : Result Printed Condition) → Kept old c → KeptBy old (pieces_written old c cells r)
all_pieces_kept old c cells (Err condition) k = kept_same old
all_pieces_kept old c cells (Ok p) k = output_kept old cells (with_pieces p.records c) 0 (pieces_kept old p.records c k)

written_kept : (old c : Connection) (spec : TransferSpec) (cells : List Cell) (r : Result Printed Condition) → Kept old c → KeptBy old (records_written old c spec cells r)
written_kept old c spec cells r k = by (same_access c.modes.access Direct)
  where
    feed : List ℕ
    feed = if is_some spec.pos then [] else missing_feed c

    by : (b : Bool) → KeptBy old (if b then pieces_written old c cells r else lines_written old c feed (ends_record spec) cells r)
    by true = all_pieces_kept old c cells r k
    by false = lines_kept old c feed (ends_record spec) cells r k

bytes_kept : (access : Access) (old c : Connection) (moved : Moved) → Kept old c → KeptBy old (unformatted_written access old c moved)
bytes_kept Sequential old c moved k = by (nat_lt c.modes.recl (length (body_of moved)))
  where
    by : (b : Bool) → KeptBy old (if b then in_error old false moved.cells (Error 15) else output_done old moved.cells (with_frame c (body_of moved)) 0)
    by true = kept_same old
    by false = output_kept old moved.cells (with_frame c (body_of moved)) 0 (record { named = k.named; modes = k.modes })
bytes_kept Direct old c moved k = by (nat_lt c.modes.recl (length (body_of moved)))
  where
    by : (b : Bool) → KeptBy old (if b then in_error old false moved.cells (Error 15) else output_done old moved.cells (with_direct c c.spot.next_number (body_of moved) 0) 0)
    by true = kept_same old
    by false = output_kept old moved.cells (with_direct c c.spot.next_number (body_of moved) 0) 0 (record { named = k.named; modes = k.modes })
bytes_kept Stream old c moved k = output_kept old moved.cells (with_bytes c (body_of moved)) 0 (record { named = k.named; modes = k.modes })

output_by_kept : (layout : Layout) (control : ℕ → List Given) (old c : Connection) (spec : TransferSpec) (modes : EditModes) (moved : Moved) → Kept old c → KeptBy old (written_by layout control old c spec modes moved)
output_by_kept Unformatted control old c spec modes moved k = bytes_kept c.modes.access old c moved k
output_by_kept (Explicit f) control old c spec modes moved k = written_kept old c spec moved.cells (printed c.modes.recl (begun c) spec control modes moved) k
output_by_kept Listed control old c spec modes moved k = written_kept old c spec moved.cells (printed c.modes.recl (begun c) spec control modes moved) k
output_by_kept (Group name members) control old c spec modes moved k = written_kept old c spec moved.cells (printed c.modes.recl (begun c) spec control modes moved) k

place_kept : (control : ℕ → List Given) (old : Connection) (spec : TransferSpec) (moved : Moved) (r : Result Connection Condition)
    → IfOk r (Kept old) → KeptBy old (from_place control old spec moved r)
place_kept control old spec moved (Err condition) k = kept_same old
place_kept control old spec moved (Ok c) k = by spec.input
  where
    modes : EditModes
    modes = changed spec.edit c.modes.edit

    by : (b : Bool) → KeptBy old (if b then read_by spec.layout control old c spec modes moved else written_by spec.layout control old c spec modes moved)
    by true = read_kept spec.layout control old c spec modes moved k
    by false = output_by_kept spec.layout control old c spec modes moved k

begins_kept : (old : Connection) (spec : TransferSpec) (c : Connection) → Kept old c → IfOk (begins_at spec c) (Kept old)
begins_kept old spec c k = by c.spot.after_end spec.rec spec.pos
  where
    byte : (b : Bool) (n : ℕ) → IfOk (if b then Err (Error 21) else Ok (between c (n - 1))) (Kept old)
    byte true n = tt
    byte false n = record { named = k.named; modes = k.modes }

    number : (b : Bool) (n : ℕ) → IfOk (if b then Err (Error 21) else Ok (record c { spot = record c.spot { next_number = n } })) (Kept old)
    number true n = tt
    number false n = record { named = k.named; modes = k.modes }

    by : (b : Bool) (rec byte_no : Option ℤ) → IfOk (if b then Err (Error 20) else placed c rec byte_no) (Kept old)
    by true rec byte_no = tt
    by false (Some (pos n)) byte_no = number (n == 0) n
    by false (Some (negsuc n)) byte_no = tt
    by false None (Some (pos n)) = byte ((n == 0) || nat_lt (length c.bytes + 1) n) n
    by false None (Some (negsuc n)) = tt
    by false None None = k

fit_kept : (control : ℕ → List Given) (c : Connection) (spec : TransferSpec) (moved : Moved) (condition : Condition) → KeptBy c (if_fit control c spec moved condition)
fit_kept control c spec moved Fine = place_kept control c spec moved (begins_at spec (if spec.input then ended c else c)) (begins_kept c spec (if spec.input then ended c else c) (by spec.input))
  where
    by : (b : Bool) → Kept c (if b then ended c else c)
    by true = ended_kept c
    by false = kept_same c
fit_kept control c spec moved EndOfFile = kept_same c
fit_kept control c spec moved EndOfRecord = kept_same c
fit_kept control c spec moved (Error n) = kept_same c

pub transfer_kept : (control : ℕ → List Given) (c : Connection) (spec : TransferSpec) (moved : Moved) → Kept c (transfer_by control c spec moved).connection
unfolding transfer_by
transfer_kept control c spec moved = fit_kept control c spec moved (unfit c.modes spec)
