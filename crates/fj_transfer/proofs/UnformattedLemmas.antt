-- Unformatted transfers, answer by answer.
use Rattle.std.proofs.Common.{◌≡◌, ℕ, ◌+◌, ◌-◌, ◌*◌, ◌<◌, ◌≤◌, ◌==◌, Bool, true, false, cond, List, [], ◌++◌, length, take, drop, replicate, max, Option, Some, None, refl, sym, ap, subst, ◌∙◌, arith}
use Rattle.std.proofs.lemmas.Bool.{lt-ltb, le-ltb, lt-leb, leb-true, leb-false}
use Rattle.std.proofs.lemmas.List.{append-nil, length-append, length-take, length-replicate}
use Rattle.std.proofs.Math.Nat.{mul-le-mul_left}
use Rattle.std.specs.Prelude.{nat_le, nat_lt, IfSome}
use Rattle.fj_outside.proofs.ByteLaws.{length-written}
use Rattle.fj_span.specs.Change.{KeepsUpToChange}
use Rattle.fj_span.proofs.ChangeLaws.{kept_as}
use Rattle.fj_value.specs.declared.condition.Condition.TheVariants.{Fine, EndOfFile, Error}
use Rattle.fj_value.specs.declared.value.Cell.{Cell}
use Rattle.fj_unfrec.specs.Frames.{framed, frame}
use Rattle.fj_unfrec.specs.Reading.{frame_at, answer_to, HoldsFrame}
use Rattle.fj_unfrec.specs.declared.read.FrameRead.{FrameRead}
use Rattle.fj_unfrec.specs.declared.read.FrameRead.TheVariants.{Frame, End, Broken, TooLong}
use Rattle.fj_unfrec.proofs.FrameLemmas.{parts_of}
use Rattle.fj_byterec.specs.Pieces.{record_start, piece, filled_to, with_record, bytes_from}
use Rattle.fj_byterec.proofs.RecordLaws.{record_end, record_long}
use Rattle.fj_moved.specs.declared.moved.Moved.{Moved}
use Rattle.fj_connect.specs.DirectRuns.{with_direct_run}
use Rattle.fj_connect.specs.Connection.{Connection, bytes_behind, between, past_end, with_frame, with_direct, with_bytes}
use Rattle.fj_transfer.specs.Transfer.{Done, told_with, in_error, output_done, with_undefined, values_from, bytes_needed, body_read, frame_read, sequential_read, piece_read, direct_read, bytes_read, stream_read, sequential_written, direct_written, stream_written}

-- ---- output

pub within : (old new : Connection) (cells : List Cell) (feed : ℕ) → length new.bytes + feed ≤ 268435456 → output_done old cells new feed ≡ told_with new cells Fine
within old new cells feed fits = ap (λ b. cond b (in_error old false cells (Error 25)) (told_with new cells Fine)) (le-ltb 268435456 (length new.bytes + feed) fits)

pub past_limit : (old new : Connection) (cells : List Cell) (feed : ℕ) → 268435456 < length new.bytes + feed → output_done old cells new feed ≡ told_with old cells (Error 25)
past_limit old new cells feed long = ap (λ b. cond b (in_error old false cells (Error 25)) (told_with new cells Fine)) (lt-ltb 268435456 (length new.bytes + feed) long)

-- a body is longer than a record may be, or not
pub too_long : (limit : ℕ) (body : List ℕ) (a b : Done) → limit < length body → cond (nat_lt limit (length body)) a b ≡ a
too_long limit body a b long = ap (λ t. cond t a b) (lt-ltb limit (length body) long)

pub not_too_long : (limit : ℕ) (body : List ℕ) (a b : Done) → length body ≤ limit → cond (nat_lt limit (length body)) a b ≡ b
not_too_long limit body a b fits = ap (λ t. cond t a b) (le-ltb limit (length body) fits)

pub framed_long : (body : List ℕ) → length (framed body) ≡ length body + 8
framed_long body = omega (arith, ap length (append-nil (framed body)), (parts_of (framed body ++ []) body [] refl).long)

frame_end : (c : Connection) (body : List ℕ) → c.spot.at ≤ length c.bytes → length (with_frame c body).bytes ≡ c.spot.at + length body + 8
frame_end c body inside = omega (arith, length-append (take c.spot.at c.bytes) (framed body), length-take c.spot.at c.bytes, framed_long body)

pub frame_fine : (c new : Connection) (cells : List Cell) (body : List ℕ) → c.spot.at ≤ length c.bytes → length body ≤ c.modes.recl → c.spot.at + length body + 8 ≤ 268435456
    → new ≡ with_frame c body → told_with new cells Fine ≡ sequential_written c c cells body
frame_fine c new cells body inside short fits is =
    ap (λ n. told_with n cells Fine) is
    ∙ sym (within c (with_frame c body) cells 0 (omega (arith, frame_end c body inside)))
    ∙ sym (not_too_long c.modes.recl body (in_error c false cells (Error 15)) (output_done c cells (with_frame c body) 0) short)

pub frame_long : (c : Connection) (cells : List Cell) (body : List ℕ) → c.modes.recl < length body → told_with c cells (Error 15) ≡ sequential_written c c cells body
frame_long c cells body long = sym (too_long c.modes.recl body (in_error c false cells (Error 15)) (output_done c cells (with_frame c body) 0) long)

pub frame_past : (c : Connection) (cells : List Cell) (body : List ℕ) → c.spot.at ≤ length c.bytes → length body ≤ c.modes.recl → 268435456 < c.spot.at + length body + 8 → told_with c cells (Error 25) ≡ sequential_written c c cells body
frame_past c cells body inside short past =
    sym (past_limit c (with_frame c body) cells 0 (omega (arith, frame_end c body inside)))
    ∙ sym (not_too_long c.modes.recl body (in_error c false cells (Error 15)) (output_done c cells (with_frame c body) 0) short)

record_ends : (bytes text : List ℕ) (size number fill : ℕ) → 0 < number → length text ≤ size → length (with_record bytes size number text fill) ≡ max (length bytes) (number * size)
record_ends bytes text size number fill some fits =
    let start = record_start size number in
    let front : length (filled_to bytes start fill) ≡ max (length bytes) start = filled_long bytes start fill in
    let whole = length-written (filled_to bytes start fill) start (filled_to text size fill) (omega (arith, front)) in
    omega (arith, whole, front, record_long text size fill fits, record_end size number some)
  where
    filled_long : (bytes : List ℕ) (to fill : ℕ) → length (filled_to bytes to fill) ≡ max (length bytes) to
    filled_long bytes to fill = omega (arith, length-append bytes (replicate (to - length bytes) fill), length-replicate (to - length bytes) fill)

pub direct_fine : (c new : Connection) (number : ℕ) (cells : List Cell) (body : List ℕ) → 0 < number → length body ≤ c.modes.recl → max (length c.bytes) (number * c.modes.recl) ≤ 268435456
    → new ≡ with_direct c number body 0 → told_with new cells Fine ≡ direct_written c c number cells body
direct_fine c new number cells body some short fits is =
    ap (λ n. told_with n cells Fine) is
    ∙ sym (within c (with_direct c number body 0) cells 0 (omega (arith, record_ends c.bytes body c.modes.recl number 0 some short)))
    ∙ sym (not_too_long c.modes.recl body (in_error c false cells (Error 15)) (output_done c cells (with_direct c number body 0) 0) short)

-- a record that is filled up, put as a run of one
pub direct_kept : (c : Connection) (number : ℕ) (cells : List Cell) (body run new : List ℕ) → 0 < number → length body ≤ c.modes.recl → max (length c.bytes) (number * c.modes.recl) ≤ 268435456
    → run ≡ filled_to body c.modes.recl 0 → KeepsUpToChange c.bytes (with_direct_run c (record_start c.modes.recl number) run number 0).bytes new
    → KeepsUpToChange c.bytes (direct_written c c number cells body).connection.bytes new
direct_kept c number cells body run new some short fits is kept =
    let whole : with_direct_run c (record_start c.modes.recl number) run number 0 ≡ with_direct c number body 0 = ap (λ r. with_direct_run c (record_start c.modes.recl number) r number 0) is in
    kept_as c.bytes (with_direct_run c (record_start c.modes.recl number) run number 0).bytes (direct_written c c number cells body).connection.bytes new
    (ap (λ (d : Done). d.connection.bytes) (direct_fine c (with_direct_run c (record_start c.modes.recl number) run number 0) number cells body some short fits whole)) kept

pub direct_long : (c : Connection) (number : ℕ) (cells : List Cell) (body : List ℕ) → c.modes.recl < length body → told_with c cells (Error 15) ≡ direct_written c c number cells body
direct_long c number cells body long = sym (too_long c.modes.recl body (in_error c false cells (Error 15)) (output_done c cells (with_direct c number body 0) 0) long)

pub direct_past : (c : Connection) (number : ℕ) (cells : List Cell) (body : List ℕ) → 0 < number → length body ≤ c.modes.recl → 268435456 < max (length c.bytes) (number * c.modes.recl)
    → told_with c cells (Error 25) ≡ direct_written c c number cells body
direct_past c number cells body some short past =
    sym (past_limit c (with_direct c number body 0) cells 0 (omega (arith, record_ends c.bytes body c.modes.recl number 0 some short)))
    ∙ sym (not_too_long c.modes.recl body (in_error c false cells (Error 15)) (output_done c cells (with_direct c number body 0) 0) short)

-- a record of more than that number ends behind it
pub far : (number recl : ℕ) → 0 < recl → 268435456 < number → 268435456 < number * recl
far number recl some past = omega (arith, mul-le-mul_left number some)

pub stream_fine : (c new : Connection) (place : ℕ) (cells : List Cell) (body : List ℕ) → place ≤ length c.bytes → max (length c.bytes) (place + length body) ≤ 268435456
    → new ≡ with_bytes (between c place) body → told_with new cells Fine ≡ stream_written c (between c place) cells body
stream_fine c new place cells body inside fits is =
    ap (λ n. told_with n cells Fine) is
    ∙ sym (within c (with_bytes (between c place) body) cells 0 (omega (arith, length-written c.bytes place body inside)))

pub stream_past : (c : Connection) (place : ℕ) (cells : List Cell) (body : List ℕ) → place ≤ length c.bytes → 268435456 < max (length c.bytes) (place + length body)
    → told_with c cells (Error 25) ≡ stream_written c (between c place) cells body
stream_past c place cells body inside past = sym (past_limit c (with_bytes (between c place) body) cells 0 (omega (arith, length-written c.bytes place body inside)))

-- ---- input

-- what each answer says of the bytes behind the position: whether there are none, and the frame that they begin with
abbrev pub FrameIs : FrameRead → Bool → ℕ → ℕ → Option (List ℕ × List ℕ) → Type 0
FrameIs End none size limit found = none ≡ true
FrameIs Broken none size limit found = (none ≡ false) × (found ≡ None)
FrameIs TooLong none size limit found = (none ≡ false) × ((body : List ℕ) × ((rest : List ℕ) × ((found ≡ Some (body, rest)) × (limit < length body))))
FrameIs (Frame next) none size limit found = (none ≡ false) × ((body : List ℕ) × ((rest : List ℕ) × ((found ≡ Some (body, rest)) × ((length body ≤ limit) × (next ≡ size - length rest)))))

some_frame : (limit size : ℕ) (body rest : List ℕ) (b : Bool) → nat_le (length body) limit ≡ b → FrameIs (cond b (Frame (size - length rest)) TooLong) false size limit (Some (body, rest))
some_frame limit size body rest true e = (refl, (body, (rest, (refl, (leb-true (length body) limit e, refl)))))
some_frame limit size body rest false e = (refl, (body, (rest, (refl, leb-false (length body) limit e))))

frame_is : (none : Bool) (size limit : ℕ) (found : Option (List ℕ × List ℕ)) → FrameIs (cond none End (answer_to size limit found)) none size limit found
frame_is true size limit found = refl
frame_is false size limit None = (refl, refl)
frame_is false size limit (Some (body, rest)) = some_frame limit size body rest (nat_le (length body) limit) refl

pub what_is_read : (c : Connection) (read : FrameRead) → read ≡ frame_at c.bytes c.spot.at c.modes.recl → FrameIs read (length (bytes_behind c) == 0) (length c.bytes) c.modes.recl (frame (bytes_behind c))
what_is_read c read is =
    let P : FrameRead → Type 0 = λ r. FrameIs r (length (bytes_behind c) == 0) (length c.bytes) c.modes.recl (frame (bytes_behind c)) in
    subst P (sym is) (frame_is (length (bytes_behind c) == 0) (length c.bytes) c.modes.recl (frame (bytes_behind c)))

-- the definition at each of these
pub read_end : (c : Connection) (moved : Moved) → (length (bytes_behind c) == 0) ≡ true → sequential_read c c moved ≡ told_with (past_end c) (with_undefined moved.cells) EndOfFile
read_end c moved e = ap (λ b. cond b (told_with (past_end c) (with_undefined moved.cells) EndOfFile) (frame_read c c moved (frame (bytes_behind c)))) e

found_read : (c : Connection) (moved : Moved) (found : Option (List ℕ × List ℕ)) → (length (bytes_behind c) == 0) ≡ false → frame (bytes_behind c) ≡ found → sequential_read c c moved ≡ frame_read c c moved found
found_read c moved found e is = ap (λ b. cond b (told_with (past_end c) (with_undefined moved.cells) EndOfFile) (frame_read c c moved (frame (bytes_behind c)))) e ∙ ap (frame_read c c moved) is

pub read_broken : (c : Connection) (moved : Moved) → (length (bytes_behind c) == 0) ≡ false → frame (bytes_behind c) ≡ None → sequential_read c c moved ≡ told_with c (with_undefined moved.cells) (Error 18)
read_broken c moved e is = found_read c moved None e is

pub read_long : (c : Connection) (moved : Moved) (body rest : List ℕ) → (length (bytes_behind c) == 0) ≡ false → frame (bytes_behind c) ≡ Some (body, rest) → c.modes.recl < length body
    → sequential_read c c moved ≡ told_with c (with_undefined moved.cells) (Error 15)
read_long c moved body rest e is long =
    found_read c moved (Some (body, rest)) e is ∙ too_long c.modes.recl body (in_error c true moved.cells (Error 15)) (body_read c moved body (between c (length c.bytes - length rest))) long

-- a body is taken where it has enough bytes
pub body_taken : (old new : Connection) (moved : Moved) (body : List ℕ) → bytes_needed moved ≤ length body → body_read old moved body new ≡ told_with new (values_from moved.cells moved.order body) Fine
body_taken old new moved body enough = ap (λ b. cond b (in_error old true moved.cells (Error 19)) (told_with new (values_from moved.cells moved.order body) Fine)) (le-ltb (length body) (bytes_needed moved) enough)

pub body_short : (old new : Connection) (moved : Moved) (body : List ℕ) → length body < bytes_needed moved → body_read old moved body new ≡ told_with old (with_undefined moved.cells) (Error 19)
body_short old new moved body short = ap (λ b. cond b (in_error old true moved.cells (Error 19)) (told_with new (values_from moved.cells moved.order body) Fine)) (lt-ltb (length body) (bytes_needed moved) short)

pub read_whole : (c : Connection) (moved : Moved) (text : List ℕ) (next : ℕ) → Frame next ≡ frame_at c.bytes c.spot.at c.modes.recl → HoldsFrame c.bytes c.spot.at (Frame next) text
    → sequential_read c c moved ≡ body_read c moved text (between c next)
read_whole c moved text next is holds =
    let what = what_is_read c (Frame next) is in
    let body = what.1.0 in
    let rest = what.1.1.0 in
    let found = what.1.1.1.0 in
    let same : text ≡ body = held (frame (bytes_behind c)) found holds in
    found_read c moved (Some (body, rest)) what.0 found
    ∙ not_too_long c.modes.recl body (in_error c true moved.cells (Error 15)) (body_read c moved body (between c (length c.bytes - length rest))) what.1.1.1.1.0
    ∙ ap (λ l. body_read c moved l (between c (length c.bytes - length rest))) (sym same)
    ∙ ap (λ n. body_read c moved text (between c n)) (sym what.1.1.1.1.1)
  where
    held : {body rest : List ℕ} (o : Option (List ℕ × List ℕ)) → o ≡ Some (body, rest) → IfSome o (λ found. text ≡ found.0) → text ≡ body
    held o e h = rw e at h

-- a whole frame of bytes within the limit
pub read_whole_frame : (c : Connection) (moved : Moved) (body rest : List ℕ) → (length (bytes_behind c) == 0) ≡ false → frame (bytes_behind c) ≡ Some (body, rest) → length body ≤ c.modes.recl
    → sequential_read c c moved ≡ body_read c moved body (between c (length c.bytes - length rest))
read_whole_frame c moved body rest e is fits =
    found_read c moved (Some (body, rest)) e is ∙ not_too_long c.modes.recl body (in_error c true moved.cells (Error 15)) (body_read c moved body (between c (length c.bytes - length rest))) fits

-- direct records and bytes of streams, there or not
pub piece_taken : (c : Connection) (number : ℕ) (moved : Moved) (found : Option (List ℕ)) → found ≡ piece c.bytes c.modes.recl number → direct_read c c number moved ≡ piece_read c c number moved found
piece_taken c number moved found is = ap (piece_read c c number moved) (sym is)

pub bytes_taken : (c : Connection) (place : ℕ) (moved : Moved) (found : Option (List ℕ)) → found ≡ bytes_from c.bytes place (bytes_needed moved) → stream_read c c place moved ≡ bytes_read c c place moved found
bytes_taken c place moved found is = ap (bytes_read c c place moved) (sym is)

pub bytes_wanting : (c : Connection) (place : ℕ) (moved : Moved) → length c.bytes < bytes_needed moved → stream_read c c place moved ≡ told_with c (with_undefined moved.cells) EndOfFile
bytes_wanting c place moved short =
    ap (λ b. bytes_read c c place moved (cond b (Some (take (bytes_needed moved) (drop place c.bytes))) None)) (lt-leb (place + bytes_needed moved) (length c.bytes) (omega arith))
