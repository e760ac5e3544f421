-- A READ or WRITE keeps the kinds of its cells.
use Rattle.std.proofs.Common.{◌≡◌, ℕ, ◌+◌, ◌-◌, ◌≤◌, ◌==◌, Bool, true, false, cond, leb, ltb, List, [], ◌∷◌, ◌++◌, length, take, drop, replicate, Option, Some, None, Result, Ok, Err, refl, inl, inr, arith, length-drop, length-take}
use Rattle.std.specs.Prelude.{All}
use Rattle.std.proofs.lemmas.Bool.{ltb-false}
use Rattle.std.proofs.lemmas.Bool.Decides.{nat_tests}
use Rattle.fj_value.specs.declared.edit.Edit.{Edit}
use Rattle.fj_value.specs.declared.edit.EditModes.{EditModes}
use Rattle.fj_value.specs.declared.kind.Kind.{Kind}
use Rattle.fj_value.specs.declared.value.Cell.{Cell}
use Rattle.fj_value.specs.declared.value.Value.{Value}
use Rattle.fj_value.specs.declared.value.Value.TheVariants.{Undefined}
use Rattle.fj_value.specs.declared.condition.Condition.{Condition}
use Rattle.fj_value.specs.declared.condition.Condition.TheVariants.{Fine, EndOfFile, EndOfRecord, Error}
use Rattle.fj_modes.specs.declared.specifiers.Access.{Access}
use Rattle.fj_modes.specs.declared.specifiers.Access.TheVariants.{Sequential, Direct, Stream}
use Rattle.fj_modes.specs.Words.{same_access}
use Rattle.fj_unfrec.specs.Frames.{frame}
use Rattle.fj_byterec.specs.Pieces.{piece, bytes_from}
use Rattle.fj_line.specs.Line.{position_behind}
use Rattle.fj_control.specs.Steps.{Given}
use Rattle.fj_control.specs.Paired.{Part, item, string, move, slash, lacking, paired}
use Rattle.fj_edit_in.specs.InputField.{input_field}
use Rattle.fj_moved.specs.declared.moved.Moved.{Moved}
use Rattle.fj_list.specs.ConstantLaws.{HaveKinds}
use Rattle.fj_list.specs.ListInput.{list_input}
use Rattle.fj_moved.specs.Cells.{with_value, kind_at}
use Rattle.fj_namelist.specs.GroupInput.{group_input}
use Rattle.fj_connect.specs.Connection.{Connection, bytes_behind, between, begun, at_number, with_frame, with_direct, with_bytes}
use Rattle.fj_connect.specs.Positions.{ended}
use Rattle.fj_transfer.specs.declared.transfer.TransferSpec.{TransferSpec}
use Rattle.fj_transfer.specs.declared.transfer.Layout.{Layout}
use Rattle.fj_transfer.specs.declared.transfer.Layout.TheVariants.{Unformatted, Explicit, Listed, Group}
use Rattle.fj_transfer.specs.AtHand.{AtHand, behind, next_record, first_record}
use Rattle.fj_transfer.specs.Change.{changed}
use Rattle.fj_transfer.specs.Input.{Progress, Ended, width_for, characters_for, with_field, is_mismatch, field_read, with_record, carried_out}
use Rattle.fj_transfer.specs.Moving.{members_of}
use Rattle.fj_transfer.specs.Printing.{Printed, printed}
use Rattle.fj_transfer.specs.Transfer.{Done, Ways, told_with, in_error, input_done, output_done, with_undefined, bytes_needed, values_from, body_of, records_to_come, condition_to_come, body_read, frame_read, piece_read, bytes_read, unformatted_read, explicit_read, read_by, unformatted_written, pieces_written, lines_written, records_written, written_by, from_place, if_fit, transfer_by, unfit, begins_at}
use Rattle.fj_transfer_laws.specs.Kinds.{HasItsKind, KeepKinds, ValuesAreOfTheirKinds}
use Rattle.fj_transfer_laws.proofs.Results.{result_for, outcome}
use Rattle.fj_transfer_laws.proofs.ValueKinds.{Gives, field_gives}
use Rattle.fj_transfer_laws.proofs.CellKinds.{MayBe, item_set, undefined_kept, unchanged, bytes_kept, list_kept}
use Rattle.fj_transfer_laws.proofs.GroupKinds.{group_kept}

-- ---- under an explicit format

-- the value, where there is one, is undefined or of the kind
abbrev MayGive : Kind → Result Value Condition → Type 0
MayGive kind (Ok v) = MayBe kind v
MayGive kind (Err condition) = Unit {0}

given_may : (kind : Kind) (r : Result Value Condition) → Gives kind r → MayGive kind r
given_may kind (Ok v) h = inr h
given_may kind (Err condition) h = tt

unpadded_may : (kind : Kind) (pad there mismatch : Bool) (r : Result Value Condition) → MayGive kind r → MayGive kind (cond pad r (cond there r (cond mismatch r (Ok Undefined))))
unpadded_may kind true there mismatch r h = h
unpadded_may kind false true mismatch r h = h
unpadded_may kind false false true r h = h
unpadded_may kind false false false r h = inl refl

result_may : (e : Edit) (modes : EditModes) (kind : Kind) (width : ℕ) (chars : List ℕ) → MayGive kind (result_for e modes kind width chars)
result_may e modes kind width chars =
    let filled = chars ++ replicate (width - length chars) 32 in
    let r = input_field e kind modes.blank_zero filled in
    unpadded_may kind modes.pad (length chars == width) (is_mismatch r) r (given_may kind r (field_gives e kind modes.blank_zero filled))

module _ (old : List Cell) where
  abbrev KeptBy : Progress → Type 0
  KeptBy p = KeepKinds old p.cells

  abbrev Keeps : (Progress → Ended) → Type 0
  Keeps next = (p : Progress) → KeptBy p → KeptBy (next p).progress

  outcome_keeps : (there advance pad : Bool) (p read left : Progress) (next : Progress → Ended) → Keeps next → KeptBy p → KeptBy read → KeptBy left → KeptBy (outcome there advance pad p read left next).progress
  outcome_keeps true advance pad p read left next on h more none = on read more
  outcome_keeps false true true p read left next on h more none = on read more
  outcome_keeps false true false p read left next on h more none = h
  outcome_keeps false false true p read left next on h more none = more
  outcome_keeps false false false p read left next on h more none = none

  field_keeps : (advance pad : Bool) (width : ℕ) (chars : List ℕ) (cell : ℕ) (r : Result Value Condition) (p : Progress) (next : Progress → Ended) → MayGive (kind_at p.cells cell) r → Keeps next → KeptBy p
      → KeptBy (field_read advance pad width chars cell r p next).progress
  field_keeps advance pad width chars cell (Err condition) p next may on h = h
  field_keeps advance pad width chars cell (Ok value) p next may on h =
      outcome_keeps (length chars == width) advance pad p (with_field width (length chars) cell value p) (record p { cells = with_value p.cells cell Undefined }) next on h
      (item_set old p.cells cell value may h) (item_set old p.cells cell Undefined (inl refl) h)

  record_keeps : (r : Result AtHand Condition) (p : Progress) (next : Progress → Ended) → Keeps next → KeptBy p → KeptBy (with_record r p next).progress
  record_keeps (Err condition) p next on h = h
  record_keeps (Ok hand) p next on h = on (record p { hand = hand; at = 0 }) h

  parts_keep : (advance : Bool) (parts : List (Part ℕ)) → Keeps (carried_out advance parts)
  parts_keep advance [] p h = h
  parts_keep advance (item modes e cell ∷ more) p h =
      let kind = kind_at p.cells cell in
      let width = width_for e kind in
      let chars = characters_for width p in
      field_keeps advance modes.pad width chars cell (result_for e modes kind width chars) p (carried_out advance more) (result_may e modes kind width chars) (parts_keep advance more) h
  parts_keep advance (string s ∷ more) p h = h
  parts_keep advance (move m ∷ more) p h = parts_keep advance more (record p { at = position_behind m p.at }) h
  parts_keep advance (slash ∷ more) p h = record_keeps (next_record (behind p.hand)) p (carried_out advance more) (parts_keep advance more) h
  parts_keep advance (lacking ∷ more) p h = h

  -- ---- a transfer

  abbrev Kept : Done → Type 0
  Kept d = KeepKinds old d.cells

  either : (b : Bool) (x y : Done) → Kept x → Kept y → Kept (cond b x y)
  either true x y h k = h
  either false x y h k = k

  input_keeps : (ways : Ways) (cells : List Cell) (count : Option ℕ) (condition : Condition) → KeepKinds old cells → Kept (input_done ways cells count condition)
  input_keeps ways cells count Fine h = h
  input_keeps ways cells count EndOfRecord h = h
  input_keeps ways cells count EndOfFile h = undefined_kept old cells h
  input_keeps ways cells count (Error n) h = undefined_kept old cells h

module _ (moved : Moved) (kinds : HaveKinds moved.cells) where
  same : KeepKinds moved.cells moved.cells
  same = unchanged moved.cells kinds

  none : KeepKinds moved.cells (with_undefined moved.cells)
  none = undefined_kept moved.cells moved.cells same

  -- ---- input

  body_keeps : (c new : Connection) (body : List ℕ) → Kept moved.cells (body_read c moved body new)
  body_keeps c new body = go (ltb (length body) (bytes_needed moved)) refl where
    go : (b : Bool) → ltb (length body) (bytes_needed moved) ≡ b → Kept moved.cells (cond b (in_error c true moved.cells (Error 19)) (told_with new (values_from moved.cells moved.order body) Fine))
    go true is = none
    go false is = bytes_kept moved.cells moved.cells moved.order body (ltb-false (length body) (bytes_needed moved) is) same

  frame_keeps : (old c : Connection) (found : Option (List ℕ × List ℕ)) → Kept moved.cells (frame_read old c moved found)
  frame_keeps old c None = none
  frame_keeps old c (Some (body, rest)) = either moved.cells (ltb c.modes.recl (length body)) _ _ none (body_keeps old (between c (length c.bytes - length rest)) body)

  piece_keeps : (old c : Connection) (number : ℕ) (found : Option (List ℕ)) → Kept moved.cells (piece_read old c number moved found)
  piece_keeps old c number None = none
  piece_keeps old c number (Some body) = body_keeps old (at_number c number) body

  stream_keeps : (old c : Connection) (place : ℕ) → Kept moved.cells (bytes_read old c place moved (bytes_from c.bytes place (bytes_needed moved)))
  stream_keeps old c place = go (leb (place + want) (length c.bytes)) refl where
    want : ℕ
    want = bytes_needed moved

    go : (b : Bool) → leb (place + want) (length c.bytes) ≡ b → Kept moved.cells (bytes_read old c place moved (cond b (Some (take want (drop place c.bytes))) None))
    go true is =
        let inside : place + want ≤ length c.bytes = grind (arith, nat_tests) in
        let whole : want ≤ length (take want (drop place c.bytes)) = omega (arith, inside, length-take want (drop place c.bytes), length-drop place c.bytes) in
        bytes_kept moved.cells moved.cells moved.order (take want (drop place c.bytes)) whole same
    go false is = none

  unformatted_keeps : (access : Access) (old c : Connection) → Kept moved.cells (unformatted_read access old c moved)
  unformatted_keeps Sequential old c = either moved.cells (length (bytes_behind c) == 0) _ _ none (frame_keeps old c (frame (bytes_behind c)))
  unformatted_keeps Direct old c = piece_keeps old c c.spot.next_number (piece c.bytes c.modes.recl c.spot.next_number)
  unformatted_keeps Stream old c = stream_keeps old c c.spot.at

  explicit_keeps : (old c : Connection) (advance : Bool) (modes : EditModes) (control : ℕ → List Given) (first : Result AtHand Condition) → Kept moved.cells (explicit_read old c advance modes control moved first)
  explicit_keeps old c advance modes control (Err condition) = input_keeps moved.cells _ moved.cells None condition same
  explicit_keeps old c advance modes control (Ok hand) =
      let start : Progress = record { hand = hand; at = 0; cells = moved.cells; count = 0 } in
      let parts = paired modes (control (length moved.order)) moved.order in
      let e = carried_out advance parts start in
      input_keeps moved.cells _ e.progress.cells (Some e.progress.count) e.condition (parts_keep moved.cells advance parts start same)

  read_keeps : (layout : Layout) (control : ℕ → List Given) (old c : Connection) (spec : TransferSpec) (modes : EditModes) → All (HasItsKind moved.cells) (members_of layout) → Kept moved.cells (read_by layout control old c spec modes moved)
  read_keeps Unformatted control old c spec modes are = unformatted_keeps c.modes.access old c
  read_keeps (Explicit f) control old c spec modes are = explicit_keeps old c spec.advance modes control (first_record c)
  read_keeps Listed control old c spec modes are =
      let o = list_input modes.comma (records_to_come c) (condition_to_come c) moved.cells moved.order in
      input_keeps moved.cells _ o.cells None o.condition (list_kept modes.comma (records_to_come c) (condition_to_come c) moved.cells moved.order kinds)
  read_keeps (Group name members) control old c spec modes are =
      let o = group_input modes.comma (records_to_come c) (condition_to_come c) name members moved.cells in
      input_keeps moved.cells _ o.cells None o.condition (group_kept modes.comma (records_to_come c) (condition_to_come c) name members moved.cells are kinds)

  -- ---- output

  output_keeps : (old new : Connection) (feed : ℕ) → Kept moved.cells (output_done old moved.cells new feed)
  output_keeps old new feed = either moved.cells (ltb 268435456 (length new.bytes + feed)) _ _ same same

  body_kept : (old c new : Connection) → Kept moved.cells (cond (ltb c.modes.recl (length (body_of moved))) (in_error old false moved.cells (Error 15)) (output_done old moved.cells new 0))
  body_kept old c new = either moved.cells (ltb c.modes.recl (length (body_of moved))) (in_error old false moved.cells (Error 15)) (output_done old moved.cells new 0) same (output_keeps old new 0)

  values_keep : (access : Access) (old c : Connection) → Kept moved.cells (unformatted_written access old c moved)
  values_keep Sequential old c = body_kept old c (with_frame c (body_of moved))
  values_keep Direct old c = body_kept old c (with_direct c c.spot.next_number (body_of moved) 0)
  values_keep Stream old c = output_keeps old (with_bytes c (body_of moved)) 0

  pieces_keep : (old c : Connection) (p : Result Printed Condition) → Kept moved.cells (pieces_written old c moved.cells p)
  pieces_keep old c (Err condition) = same
  pieces_keep old c (Ok p) = output_keeps old _ 0

  lines_keep : (old c : Connection) (feed : List ℕ) (ends : Bool) (p : Result Printed Condition) → Kept moved.cells (lines_written old c feed ends moved.cells p)
  lines_keep old c feed ends (Err condition) = same
  lines_keep old c feed ends (Ok p) = output_keeps old _ _

  records_keep : (old c : Connection) (spec : TransferSpec) (p : Result Printed Condition) → Kept moved.cells (records_written old c spec moved.cells p)
  records_keep old c spec p = either moved.cells (same_access c.modes.access Direct) _ _ (pieces_keep old c p) (lines_keep old c _ _ p)

  written_keeps : (layout : Layout) (control : ℕ → List Given) (old c : Connection) (spec : TransferSpec) (modes : EditModes) → Kept moved.cells (written_by layout control old c spec modes moved)
  written_keeps Unformatted control old c spec modes = values_keep c.modes.access old c
  written_keeps (Explicit f) control old c spec modes = records_keep old c spec (printed c.modes.recl (begun c) spec control modes moved)
  written_keeps Listed control old c spec modes = records_keep old c spec (printed c.modes.recl (begun c) spec control modes moved)
  written_keeps (Group name members) control old c spec modes = records_keep old c spec (printed c.modes.recl (begun c) spec control modes moved)

  -- ---- the statement

  left : (input : Bool) → KeepKinds moved.cells (cond input (with_undefined moved.cells) moved.cells)
  left true = none
  left false = same

  place_keeps : (control : ℕ → List Given) (old : Connection) (spec : TransferSpec) (start : Result Connection Condition) → All (HasItsKind moved.cells) (members_of spec.layout) → Kept moved.cells (from_place control old spec moved start)
  place_keeps control old spec (Err condition) are = left spec.input
  place_keeps control old spec (Ok c) are =
      let modes = changed spec.edit c.modes.edit in
      either moved.cells spec.input _ _ (read_keeps spec.layout control old c spec modes are) (written_keeps spec.layout control old c spec modes)

  fit_keeps : (control : ℕ → List Given) (c : Connection) (spec : TransferSpec) (unfitness : Condition) → All (HasItsKind moved.cells) (members_of spec.layout) → Kept moved.cells (if_fit control c spec moved unfitness)
  fit_keeps control c spec Fine are = place_keeps control c spec (begins_at spec (cond spec.input (ended c) c)) are
  fit_keeps control c spec EndOfFile are = left spec.input
  fit_keeps control c spec EndOfRecord are = left spec.input
  fit_keeps control c spec (Error n) are = left spec.input

pub values_kept : ValuesAreOfTheirKinds
unfolding transfer_by
values_kept control c spec moved kinds are = fit_keeps moved kinds control c spec (unfit c.modes spec) are
