-- What holds of transfers.
use Rattle.std.proofs.Common.{◌≡◌, ℕ, ◌+◌, ◌-◌, ◌<◌, ◌≤◌, ◌==◌, Bool, true, false, cond, List, [], ◌∷◌, ◌++◌, length, take, drop, map, Option, Some, None, Result, Ok, Err, refl, sym, ap, subst, ◌∙◌, arith, append_assoc}
use Rattle.std.specs.Prelude.{nat_lt}
use Rattle.std.proofs.lemmas.Bool.{ltb-false, ne_eqb}
use Rattle.std.proofs.lemmas.Grind.{common_steps}
use Rattle.std.proofs.lemmas.List.{append-nil, take_at, drop_at, length-append, length-take}
use Rattle.fj_outside.proofs.ByteLaws.{placed}
use Rattle.fj_value.specs.declared.value.Cell.{Cell}
use Rattle.fj_value.specs.declared.value.Value.{Value}
use Rattle.fj_value.specs.declared.condition.Condition.{Condition}
use Rattle.fj_value.specs.declared.condition.Condition.TheVariants.{Fine, EndOfFile, EndOfRecord, Error}
use Rattle.fj_modes.specs.declared.specifiers.Access.{Access}
use Rattle.fj_modes.specs.declared.specifiers.Access.TheVariants.{Sequential, Direct, Stream}
use Rattle.fj_modes.specs.Words.{same_access}
use Rattle.fj_unfrec.specs.Frames.{framed, frame}
use Rattle.fj_unfrec.specs.Stored.{stored, stored_width, value_of, ComeBack}
use Rattle.fj_unfrec.proofs.FrameLemmas.{frame_found}
use Rattle.fj_byterec.proofs.Apart.{written_there, other_there}
use Rattle.fj_moved.specs.declared.moved.Moved.{Moved}
use Rattle.fj_moved.specs.Cells.{kind_at, with_value}
use Rattle.fj_moved.specs.Moved.{value_at}
use Rattle.fj_list.specs.ReadAgain.{with_values}
use Rattle.fj_control.specs.Steps.{Given}
use Rattle.fj_connect.specs.Connection.{Connection, begun, between, with_frame, with_direct, with_bytes}
use Rattle.fj_connect.specs.Positions.{ended}
use Rattle.fj_transfer.specs.declared.transfer.TransferSpec.{TransferSpec}
use Rattle.fj_transfer.specs.declared.transfer.Layout.{Layout}
use Rattle.fj_transfer.specs.declared.transfer.Layout.TheVariants.{Unformatted, Explicit, Listed, Group}
use Rattle.fj_value.specs.declared.edit.EditModes.{EditModes}
use Rattle.fj_transfer.specs.AtHand.{AtHand}
use Rattle.fj_transfer.specs.Change.{changed}
use Rattle.fj_transfer.specs.Printing.{Printed, printed}
use Rattle.fj_transfer.specs.Transfer.{Done, Ways, told_with, in_error, input_done, output_done, with_undefined, widths, bytes_of, body_of, bytes_needed, values_from, body_read, frame_read, sequential_read, piece_read, bytes_read, unformatted_read, explicit_read, read_by, sequential_written, direct_written, unformatted_written, pieces_written, lines_written, records_written, written_by, from_place, if_fit, transfer_by, unfit, begins_at}
use Rattle.fj_transfer.specs.TransferLaws.{DirectRecordsStandApart, StreamOutputKeepsTheOthers, AreOfTheirKinds, UnformattedRecordsComeBack, ErrorsLeaveTheConnection}
use Rattle.fj_transfer.proofs.StoredLemmas.{kind_kept, widths_of_cons}
use Rattle.fj_transfer.proofs.UnformattedLemmas.{framed_long, read_whole_frame, body_taken}

-- ---- an error leaves the connection

abbrev Leaves : Connection → Done → Type 0
Leaves old d = (n : ℕ) → d.condition ≡ Error n → d.connection ≡ old

is_fine : (old new : Connection) (cells : List Cell) → Leaves old (told_with new cells Fine)
is_fine old new cells n e = cc

is_end : (old new : Connection) (cells : List Cell) → Leaves old (told_with new cells EndOfFile)
is_end old new cells n e = cc

is_old : (old : Connection) (cells : List Cell) (condition : Condition) → Leaves old (told_with old cells condition)
is_old old cells condition n e = refl

either : (old : Connection) (b : Bool) (x y : Done) → Leaves old x → Leaves old y → Leaves old (cond b x y)
either old true x y h k = h
either old false x y h k = k

output_leaves : (old new : Connection) (cells : List Cell) (feed : ℕ) → Leaves old (output_done old cells new feed)
output_leaves old new cells feed = either old (nat_lt 268435456 (length new.bytes + feed)) (in_error old false cells (Error 25)) (told_with new cells Fine) (is_old old cells (Error 25)) (is_fine old new cells)

input_leaves : (ways : Ways) (cells : List Cell) (count : Option ℕ) (condition : Condition) → Leaves ways.old (input_done ways cells count condition)
input_leaves ways cells count Fine n e = cc
input_leaves ways cells count EndOfRecord n e = cc
input_leaves ways cells count EndOfFile n e = cc
input_leaves ways cells count (Error m) n e = refl

explicit_leaves : (old c : Connection) (advance : Bool) (modes : EditModes) (control : ℕ → List Given) (moved : Moved) (first : Result AtHand Condition) → Leaves old (explicit_read old c advance modes control moved first)
explicit_leaves old c advance modes control moved (Err condition) = input_leaves _ moved.cells None condition
explicit_leaves old c advance modes control moved (Ok hand) = input_leaves _ _ _ _

body_leaves : (old new : Connection) (moved : Moved) (body : List ℕ) → Leaves old (body_read old moved body new)
body_leaves old new moved body = either old (nat_lt (length body) (bytes_needed moved)) _ _ (is_old old (with_undefined moved.cells) (Error 19)) (is_fine old new (values_from moved.cells moved.order body))

frame_leaves : (old c : Connection) (moved : Moved) (found : Option (List ℕ × List ℕ)) → Leaves old (frame_read old c moved found)
frame_leaves old c moved None = is_old old (with_undefined moved.cells) (Error 18)
frame_leaves old c moved (Some (body, rest)) =
    either old (nat_lt c.modes.recl (length body)) _ _ (is_old old (with_undefined moved.cells) (Error 15)) (body_leaves old (between c (length c.bytes - length rest)) moved body)

piece_leaves : (old c : Connection) (number : ℕ) (moved : Moved) (found : Option (List ℕ)) → Leaves old (piece_read old c number moved found)
piece_leaves old c number moved None = is_old old (with_undefined moved.cells) (Error 17)
piece_leaves old c number moved (Some body) = body_leaves old _ moved body

bytes_leave : (old c : Connection) (place : ℕ) (moved : Moved) (found : Option (List ℕ)) → Leaves old (bytes_read old c place moved found)
bytes_leave old c place moved None = is_end old old (with_undefined moved.cells)
bytes_leave old c place moved (Some bytes) = is_fine old (between c (place + length bytes)) (values_from moved.cells moved.order bytes)

unformatted_leaves : (access : Access) (old c : Connection) (moved : Moved) → Leaves old (unformatted_read access old c moved)
unformatted_leaves Sequential old c moved = either old (length (drop c.spot.at c.bytes) == 0) _ _ (is_end old _ (with_undefined moved.cells)) (frame_leaves old c moved _)
unformatted_leaves Direct old c moved = piece_leaves old c c.spot.next_number moved _
unformatted_leaves Stream old c moved = bytes_leave old c c.spot.at moved _

read_leaves : (layout : Layout) (control : ℕ → List Given) (old c : Connection) (spec : TransferSpec) (modes : EditModes) (moved : Moved) → Leaves old (read_by layout control old c spec modes moved)
read_leaves Unformatted control old c spec modes moved = unformatted_leaves c.modes.access old c moved
read_leaves (Explicit f) control old c spec modes moved = explicit_leaves old c spec.advance modes control moved _
read_leaves Listed control old c spec modes moved = input_leaves _ _ None _
read_leaves (Group name members) control old c spec modes moved = input_leaves _ _ None _

unformatted_output_leaves : (access : Access) (old c : Connection) (moved : Moved) → Leaves old (unformatted_written access old c moved)
unformatted_output_leaves Sequential old c moved =
    either old (nat_lt c.modes.recl (length (body_of moved))) (in_error old false moved.cells (Error 15)) (output_done old moved.cells (with_frame c (body_of moved)) 0)
    (is_old old moved.cells (Error 15)) (output_leaves old (with_frame c (body_of moved)) moved.cells 0)
unformatted_output_leaves Direct old c moved =
    either old (nat_lt c.modes.recl (length (body_of moved))) (in_error old false moved.cells (Error 15)) (output_done old moved.cells (with_direct c c.spot.next_number (body_of moved) 0) 0)
    (is_old old moved.cells (Error 15)) (output_leaves old (with_direct c c.spot.next_number (body_of moved) 0) moved.cells 0)
unformatted_output_leaves Stream old c moved = output_leaves old (with_bytes c (body_of moved)) moved.cells 0

pieces_leave : (old c : Connection) (cells : List Cell) (printed : Result Printed Condition) → Leaves old (pieces_written old c cells printed)
pieces_leave old c cells (Err condition) = is_old old cells condition
pieces_leave old c cells (Ok p) = output_leaves old _ cells 0

lines_leave : (old c : Connection) (feed : List ℕ) (ends : Bool) (cells : List Cell) (printed : Result Printed Condition) → Leaves old (lines_written old c feed ends cells printed)
lines_leave old c feed ends cells (Err condition) = is_old old cells condition
lines_leave old c feed ends cells (Ok p) = output_leaves old _ cells _

records_leave : (old c : Connection) (spec : TransferSpec) (cells : List Cell) (printed : Result Printed Condition) → Leaves old (records_written old c spec cells printed)
records_leave old c spec cells printed = either old (same_access c.modes.access Direct) _ _ (pieces_leave old c cells printed) (lines_leave old c _ _ cells printed)

written_leaves : (layout : Layout) (control : ℕ → List Given) (old c : Connection) (spec : TransferSpec) (modes : EditModes) (moved : Moved) → Leaves old (written_by layout control old c spec modes moved)
written_leaves Unformatted control old c spec modes moved = unformatted_output_leaves c.modes.access old c moved
written_leaves (Explicit f) control old c spec modes moved = records_leave old c spec moved.cells (printed c.modes.recl (begun c) spec control modes moved)
written_leaves Listed control old c spec modes moved = records_leave old c spec moved.cells (printed c.modes.recl (begun c) spec control modes moved)
written_leaves (Group name members) control old c spec modes moved = records_leave old c spec moved.cells (printed c.modes.recl (begun c) spec control modes moved)

place_leaves : (control : ℕ → List Given) (old : Connection) (spec : TransferSpec) (moved : Moved) (placed : Result Connection Condition) → Leaves old (from_place control old spec moved placed)
place_leaves control old spec moved (Err condition) = is_old old (cond spec.input (with_undefined moved.cells) moved.cells) condition
place_leaves control old spec moved (Ok c) =
    let modes = changed spec.edit c.modes.edit in
    either old spec.input (read_by spec.layout control old c spec modes moved) (written_by spec.layout control old c spec modes moved) (read_leaves spec.layout control old c spec modes moved) (written_leaves spec.layout control old c spec modes moved)

fit_leaves : (control : ℕ → List Given) (c : Connection) (spec : TransferSpec) (moved : Moved) (unfitness : Condition) → Leaves c (if_fit control c spec moved unfitness)
fit_leaves control c spec moved Fine = place_leaves control c spec moved (begins_at spec (cond spec.input (ended c) c))
fit_leaves control c spec moved EndOfFile = is_old c (cond spec.input (with_undefined moved.cells) moved.cells) EndOfFile
fit_leaves control c spec moved EndOfRecord = is_old c (cond spec.input (with_undefined moved.cells) moved.cells) EndOfRecord
fit_leaves control c spec moved (Error n) = is_old c (cond spec.input (with_undefined moved.cells) moved.cells) (Error n)

pub errors_leave : ErrorsLeaveTheConnection
unfolding transfer_by
errors_leave control c spec moved n e = fit_leaves control c spec moved (unfit c.modes spec) n e

-- ---- output that is fine

-- a test that did not tell its error
passed : (b : Bool) (x y : Done) (n : ℕ) → x.condition ≡ Error n → (cond b x y).condition ≡ Fine → (b ≡ false) × (cond b x y ≡ y)
passed true x y n is e = cc
passed false x y n is e = (refl, refl)

fits_in_file : (old new : Connection) (cells : List Cell) (feed : ℕ) → (output_done old cells new feed).condition ≡ Fine → output_done old cells new feed ≡ told_with new cells Fine
fits_in_file old new cells feed e = (passed (nat_lt 268435456 (length new.bytes + feed)) (in_error old false cells (Error 25)) (told_with new cells Fine) 25 refl e).1

direct_is : (c : Connection) (number : ℕ) (cells : List Cell) (body : List ℕ) → (direct_written c c number cells body).condition ≡ Fine
    → (length body ≤ c.modes.recl) × (direct_written c c number cells body ≡ told_with (with_direct c number body 0) cells Fine)
direct_is c number cells body e =
    let long = passed (nat_lt c.modes.recl (length body)) (in_error c false cells (Error 15)) (output_done c cells (with_direct c number body 0) 0) 15 refl e in
    let fine : (output_done c cells (with_direct c number body 0) 0).condition ≡ Fine = ap (λ (d : Done). d.condition) (sym long.1) ∙ e in
    (ltb-false c.modes.recl (length body) long.0, long.1 ∙ fits_in_file c (with_direct c number body 0) cells 0 fine)

pub direct_apart : DirectRecordsStandApart
direct_apart c number cells body some e =
    let is = direct_is c number cells body e in
    let bytes = ap (λ (d : Done). d.connection.bytes) is.1 in (
      rw bytes (written_there c.bytes body c.modes.recl number 0 some is.0),
      λ other found some' apart there. rw bytes (other_there c.bytes body found c.modes.recl number 0 other some is.0 some' apart there),
    )

pub stream_keeps : StreamOutputKeepsTheOthers
stream_keeps c place cells body inside e =
    let is = fits_in_file c (with_bytes (between c place) body) cells 0 e in
    let parts = placed c.bytes place body inside in
    rw is (parts.0, parts.1, parts.2, refl)

-- ---- values come back

come_back : ComeBack
come_back kind value h = grind (arith, common_steps)

-- the same items after one of them got a value
kinds_kept : (from : List Cell) (order : List ℕ) (into : List Cell) (order' : List ℕ) (at : ℕ) (v : Value) → AreOfTheirKinds from order into order' → AreOfTheirKinds from order (with_value into at v) order'
kinds_kept from [] into [] at v h = tt
kinds_kept from [] into (k ∷ order') at v h = h
kinds_kept from (k ∷ order) into [] at v h = h
kinds_kept from (k ∷ order) into (k' ∷ order') at v h = (h.0 ∙ sym (kind_kept into at k' v), h.1, kinds_kept from order into order' at v h.2)

pub values_back : (from into : List Cell) (order order' : List ℕ) (rest : List ℕ) → AreOfTheirKinds from order into order' → values_from into order' (bytes_of from order ++ rest) ≡ with_values into order' (map (value_at from) order)
values_back from into [] [] rest h = refl
values_back from into [] (k ∷ order') rest h = absurd h
values_back from into (k ∷ order) [] rest h = absurd h
values_back from into (k ∷ order) (k' ∷ order') rest h =
    let v = value_at from k in
    let kind = kind_at from k in
    let kind' = kind_at into k' in
    let front = stored kind v in
    let more = bytes_of from order ++ rest in
    let all = bytes_of from (k ∷ order) ++ rest in
    let back = come_back kind v h.1 in
    let split : all ≡ front ++ more = append_assoc front (bytes_of from order) rest in
    let width : length front ≡ stored_width kind' = back.0 ∙ ap stored_width h.0 in
    let first : take (stored_width kind') all ≡ front = ap (take (stored_width kind')) split ∙ take_at front more (stored_width kind') width in
    let behind : drop (stored_width kind') all ≡ more = ap (drop (stored_width kind')) split ∙ drop_at front more (stored_width kind') width in
    let is : value_of kind' (take (stored_width kind') all) ≡ v = ap (value_of kind') first ∙ ap (λ q. value_of q front) (sym h.0) ∙ back.1 in
    ap (λ u. values_from (with_value into k' u) order' (drop (stored_width kind') all)) is
    ∙ ap (λ l. values_from (with_value into k' v) order' l) behind
    ∙ values_back from (with_value into k' v) order order' rest (kinds_kept from order into order' k' v h.2)

pub widths_back : (from into : List Cell) (order order' : List ℕ) → AreOfTheirKinds from order into order' → widths into order' ≡ length (bytes_of from order)
widths_back from into [] [] h = refl
widths_back from into [] (k ∷ order') h = absurd h
widths_back from into (k ∷ order) [] h = absurd h
widths_back from into (k ∷ order) (k' ∷ order') h =
    let back = come_back (kind_at from k) (value_at from k) h.1 in
    widths_of_cons into k' order'
    ∙ ap (λ n. n + widths into order') (sym (back.0 ∙ ap stored_width h.0))
    ∙ ap (λ n. length (stored (kind_at from k) (value_at from k)) + n) (widths_back from into order order' h.2)
    ∙ sym (length-append (stored (kind_at from k) (value_at from k)) (bytes_of from order))

-- a frame is found where it was put
frame_back : (c : Connection) (into : Moved) (body : List ℕ) → c.spot.at ≤ length c.bytes → length body < 4294967296 → length body ≤ c.modes.recl → bytes_needed into ≤ length body
    → let new = with_frame c body in sequential_read (between new c.spot.at) (between new c.spot.at) into ≡ told_with (between new new.spot.at) (values_from into.cells into.order body) Fine
frame_back c into body inside short fits enough =
    let new = with_frame c body in
    let r = between new c.spot.at in
    let front = take c.spot.at c.bytes in
    let long : length front ≡ c.spot.at = omega (arith, length-take c.spot.at c.bytes) in
    let behind : drop c.spot.at new.bytes ≡ framed body = drop_at front (framed body) c.spot.at long in
    let some : (length (drop c.spot.at new.bytes) == 0) ≡ false = ne_eqb (length (drop c.spot.at new.bytes)) 0 (λ t. absurd (omega (arith, t, ap length behind, framed_long body))) in
    let found : frame (drop c.spot.at new.bytes) ≡ Some (body, []) = ap frame behind ∙ frame_found (framed body) body [] (record { short = short; joined = sym (append-nil (framed body)) }) in
    let last : length new.bytes - 0 ≡ new.spot.at = omega (arith, length-append front (framed body), long) in
    read_whole_frame r into body [] some found fits
    ∙ body_taken r (between r (length r.bytes - 0)) into body enough
    ∙ ap (λ n. told_with (between new n) (values_from into.cells into.order body) Fine) last

sequential_is : (c : Connection) (cells : List Cell) (body : List ℕ) → (sequential_written c c cells body).condition ≡ Fine
    → (length body ≤ c.modes.recl) × (sequential_written c c cells body ≡ told_with (with_frame c body) cells Fine)
sequential_is c cells body e =
    let long = passed (nat_lt c.modes.recl (length body)) (in_error c false cells (Error 15)) (output_done c cells (with_frame c body) 0) 15 refl e in
    let fine : (output_done c cells (with_frame c body) 0).condition ≡ Fine = ap (λ (d : Done). d.condition) (sym long.1) ∙ e in
    (ltb-false c.modes.recl (length body) long.0, long.1 ∙ fits_in_file c (with_frame c body) cells 0 fine)

pub records_come_back : UnformattedRecordsComeBack
records_come_back c from into inside short kinds e =
    let body = body_of from in
    let is = sequential_is c from.cells body e in
    let enough : bytes_needed into ≤ length body = omega (arith, widths_back from.cells into.cells from.order into.order kinds) in
    let values : values_from into.cells into.order body ≡ with_values into.cells into.order (map (value_at from.cells) from.order) =
    ap (values_from into.cells into.order) (sym (append-nil body)) ∙ values_back from.cells into.cells from.order into.order [] kinds in
    let P : Done → Type 0 = λ d. sequential_read (between d.connection c.spot.at) (between d.connection c.spot.at) into
    ≡ told_with (between d.connection d.connection.spot.at) (with_values into.cells into.order (map (value_at from.cells) from.order)) Fine in
    subst P (sym is.1) (frame_back c into body inside short is.0 enough ∙ ap (λ l. told_with (between (with_frame c body) (with_frame c body).spot.at) l Fine) values)
