-- What reads of frames answer, from the lengths that they read.
use Rattle.std.proofs.Common.{◌≡◌, ◌≢◌, ℕ, ◌+◌, ◌-◌, ◌<◌, ◌≤◌, ◌^◌, cond, List, [], ◌++◌, None, Some, length, take, drop, sym, ap, ◌∙◌, subst, arith, append_assoc}
use Rattle.std.proofs.lemmas.Bool.{eq-eqb, ne_eqb, le-leb, lt-leb}
use Rattle.std.proofs.lemmas.List.{take-append-drop, length-take-le, length-drop, drop-drop, take-take, drop-take}
use Rattle.std.specs.Int.{w32, to_le_bytes}
use Rattle.fj_unfrec.specs.declared.read.FrameRead.TheVariants.{Frame, End, Broken, TooLong}
use Rattle.fj_unfrec.specs.Frames.{BeginsWithFrame, EndsWithFrame, frame, frame_before}
use Rattle.fj_unfrec.specs.Reading.{answer_to, frame_at, HoldsFrame, start_of, frame_start}
use Rattle.fj_unfrec.proofs.FrameLemmas.{same_width, parts_of, frame_found, frame_none, parts_before, before_found, before_none}

-- two equal lengths round a body make a frame
begins : (bytes : List ℕ) (width : ℕ) → width < 2 ^ 32 → width + 8 ≤ length bytes → to_le_bytes w32 width ≡ take 4 bytes → to_le_bytes w32 width ≡ take 4 (drop (4 + width) bytes)
    → BeginsWithFrame bytes (take width (drop 4 bytes)) (drop (width + 8) bytes)
begins bytes width short fits head tail =
    let four = to_le_bytes w32 width in
    let body = take width (drop 4 bytes) in
    let rest = drop (width + 8) bytes in
    let long : length body ≡ width = length-take-le width (drop 4 bytes) (omega (arith, length-drop 4 bytes)) in
    let sum : 4 + width + 4 ≡ width + 8 = omega arith in
    let at_tail : drop (4 + width) bytes ≡ four ++ rest =
    sym (take-append-drop 4 (drop (4 + width) bytes)) ∙ ap (λ s. s ++ drop 4 (drop (4 + width) bytes)) (sym tail) ∙ ap (λ s. four ++ s) (drop-drop 4 (4 + width) bytes ∙ ap (λ n. drop n bytes) sum) in
    let at_body : drop 4 bytes ≡ body ++ (four ++ rest) =
    sym (take-append-drop width (drop 4 bytes)) ∙ ap (λ s. body ++ s) (drop-drop width 4 bytes ∙ at_tail) in
    let all : bytes ≡ four ++ (body ++ (four ++ rest)) =
    sym (take-append-drop 4 bytes) ∙ ap (λ s. s ++ drop 4 bytes) (sym head) ∙ ap (λ s. four ++ s) at_body in
    let grouped : four ++ (body ++ (four ++ rest)) ≡ four ++ body ++ four ++ rest = sym (append_assoc four body (four ++ rest)) ∙ sym (append_assoc (four ++ body) four rest) in
    record {
      short = subst (λ (n : ℕ). n < 2 ^ 32) (sym long) short;
      joined = all ∙ grouped ∙ ap (λ n. to_le_bytes w32 n ++ body ++ to_le_bytes w32 n ++ rest) (sym long);
    }

pub found : (bytes : List ℕ) (width : ℕ) → width < 2 ^ 32 → width + 8 ≤ length bytes → to_le_bytes w32 width ≡ take 4 bytes → to_le_bytes w32 width ≡ take 4 (drop (4 + width) bytes)
    → frame bytes ≡ Some (take width (drop 4 bytes), drop (width + 8) bytes)
found bytes width short fits head tail = frame_found bytes (take width (drop 4 bytes)) (drop (width + 8) bytes) (begins bytes width short fits head tail)

-- too few bytes, or another length behind the body
pub none_short : (bytes : List ℕ) → length bytes < 8 → frame bytes ≡ None
none_short bytes few = frame_none bytes (λ body rest is. absurd (omega (arith, (parts_of bytes body rest is.joined).long)))

pub none_cut : (bytes : List ℕ) (width : ℕ) → width < 2 ^ 32 → length bytes < width + 8 → to_le_bytes w32 width ≡ take 4 bytes → frame bytes ≡ None
none_cut bytes width short few head =
    frame_none bytes (λ body rest is.
    let parts = parts_of bytes body rest is.joined in
    let same : width ≡ length body = same_width width (length body) short is.short (head ∙ parts.head) in
    absurd (omega (arith, parts.long)))

pub none_other : (bytes : List ℕ) (width again : ℕ) → width < 2 ^ 32 → again < 2 ^ 32 → again ≢ width → to_le_bytes w32 width ≡ take 4 bytes → to_le_bytes w32 again ≡ take 4 (drop (4 + width) bytes) → frame bytes ≡ None
none_other bytes width again short short' other head tail =
    frame_none bytes (λ body rest is.
    let parts = parts_of bytes body rest is.joined in
    let same : width ≡ length body = same_width width (length body) short is.short (head ∙ parts.head) in
    let behind : to_le_bytes w32 again ≡ to_le_bytes w32 (length body) = tail ∙ ap (λ n. take 4 (drop (4 + n) bytes)) same ∙ parts.tail in
    let same' : again ≡ length body = same_width again (length body) short' is.short behind in
    absurd (other (same' ∙ sym same)))

-- the definition at each of its answers
at_some : (bytes : List ℕ) (at limit : ℕ) → 0 < length (drop at bytes) → frame_at bytes at limit ≡ answer_to (length bytes) limit (frame (drop at bytes))
at_some bytes at limit some = ap (λ b. cond b End (answer_to (length bytes) limit (frame (drop at bytes)))) (ne_eqb (length (drop at bytes)) 0 (λ e. absurd (omega (arith, e))))

pub at_end : (bytes : List ℕ) (at limit : ℕ) → length bytes ≤ at → End ≡ frame_at bytes at limit
at_end bytes at limit past = sym (ap (λ b. cond b End (answer_to (length bytes) limit (frame (drop at bytes)))) (eq-eqb (length (drop at bytes)) 0 (omega (arith, length-drop at bytes))))

pub at_broken : (bytes : List ℕ) (at limit : ℕ) → at < length bytes → frame (drop at bytes) ≡ None → Broken ≡ frame_at bytes at limit
at_broken bytes at limit some none = sym (at_some bytes at limit (omega (arith, length-drop at bytes)) ∙ ap (answer_to (length bytes) limit) none)

pub at_long : (bytes body rest : List ℕ) (at limit : ℕ) → at < length bytes → frame (drop at bytes) ≡ Some (body, rest) → limit < length body → TooLong ≡ frame_at bytes at limit
at_long bytes body rest at limit some is long =
    sym (at_some bytes at limit (omega (arith, length-drop at bytes)) ∙ ap (answer_to (length bytes) limit) is ∙ ap (λ b. cond b (Frame (length bytes - length rest)) TooLong) (lt-leb (length body) limit long))

pub at_frame : (bytes body rest : List ℕ) (at limit next : ℕ) → at < length bytes → frame (drop at bytes) ≡ Some (body, rest) → length body ≤ limit → length bytes - length rest ≡ next → Frame next ≡ frame_at bytes at limit
at_frame bytes body rest at limit next some is fits behind =
    sym (at_some bytes at limit (omega (arith, length-drop at bytes)) ∙ ap (answer_to (length bytes) limit) is ∙ ap (λ b. cond b (Frame (length bytes - length rest)) TooLong) (le-leb (length body) limit fits) ∙ ap Frame behind)

pub holds : (bytes body rest text : List ℕ) (at next : ℕ) → frame (drop at bytes) ≡ Some (body, rest) → text ≡ body → HoldsFrame bytes at (Frame next) text
holds bytes body rest text at next is same = rw is same

-- two equal lengths before a place, and the body between them
ends : (bytes : List ℕ) (width start : ℕ) → width < 2 ^ 32 → start + (width + 8) ≡ length bytes → to_le_bytes w32 width ≡ drop (length bytes - 4) bytes → to_le_bytes w32 width ≡ take 4 (drop start bytes)
    → EndsWithFrame bytes (take start bytes) (take width (drop (start + 4) bytes))
ends bytes width start short fits tail head =
    let four = to_le_bytes w32 width in
    let body = take width (drop (start + 4) bytes) in
    let long : length body ≡ width = length-take-le width (drop (start + 4) bytes) (omega (arith, length-drop (start + 4) bytes)) in
    let near : start + 4 + width ≡ length bytes - 4 = omega arith in
    let at_body : drop (start + 4) bytes ≡ body ++ four =
    sym (take-append-drop width (drop (start + 4) bytes)) ∙ ap (λ s. body ++ s) (drop-drop width (start + 4) bytes ∙ ap (λ n. drop n bytes) near ∙ sym tail) in
    let at_head : drop start bytes ≡ four ++ body ++ four =
    sym (take-append-drop 4 (drop start bytes)) ∙ ap (λ s. s ++ drop 4 (drop start bytes)) (sym head) ∙ ap (λ s. four ++ s) (drop-drop 4 start bytes ∙ at_body) ∙ sym (append_assoc four body four) in
    record {
      short = subst (λ (n : ℕ). n < 2 ^ 32) (sym long) short;
      joined = sym (take-append-drop start bytes) ∙ ap (λ s. take start bytes ++ s) at_head ∙ ap (λ n. take start bytes ++ (to_le_bytes w32 n ++ body ++ to_le_bytes w32 n)) (sym long);
    }

start_some : (bytes : List ℕ) → 0 < length bytes → frame_start bytes ≡ start_of (frame_before bytes)
start_some bytes some = ap (λ b. cond b (Some 0) (start_of (frame_before bytes))) (ne_eqb (length bytes) 0 (λ e. absurd (omega (arith, e))))

pub start_found : (bytes : List ℕ) (width start : ℕ) → width < 2 ^ 32 → start + (width + 8) ≡ length bytes → to_le_bytes w32 width ≡ drop (length bytes - 4) bytes → to_le_bytes w32 width ≡ take 4 (drop start bytes)
    → Some start ≡ frame_start bytes
start_found bytes width start short fits tail head =
    let is = before_found bytes (take start bytes) (take width (drop (start + 4) bytes)) (ends bytes width start short fits tail head) in
    sym (start_some bytes (omega arith) ∙ ap start_of is ∙ ap Some (length-take-le start bytes (omega arith)))

start_none : (bytes : List ℕ) → 0 < length bytes → ((front body : List ℕ) → EndsWithFrame bytes front body → ⊥) → None ≡ frame_start bytes
start_none bytes some never = sym (start_some bytes some ∙ ap start_of (before_none bytes never))

pub start_short : (bytes : List ℕ) → 0 < length bytes → length bytes < 8 → None ≡ frame_start bytes
start_short bytes some few = start_none bytes some (λ front body is. absurd (omega (arith, (parts_before bytes front body is.joined).long)))

pub start_cut : (bytes : List ℕ) (width : ℕ) → 0 < length bytes → width < 2 ^ 32 → length bytes < width + 8 → to_le_bytes w32 width ≡ drop (length bytes - 4) bytes → None ≡ frame_start bytes
start_cut bytes width some short few tail =
    start_none bytes some (λ front body is.
    let parts = parts_before bytes front body is.joined in
    let same : width ≡ length body = same_width width (length body) short is.short (tail ∙ parts.tail) in
    absurd (omega (arith, parts.long)))

pub start_other : (bytes : List ℕ) (width again start : ℕ) → 0 < length bytes → width < 2 ^ 32 → again < 2 ^ 32 → again ≢ width → start + (width + 8) ≡ length bytes
    → to_le_bytes w32 width ≡ drop (length bytes - 4) bytes → to_le_bytes w32 again ≡ take 4 (drop start bytes) → None ≡ frame_start bytes
start_other bytes width again start some short short' other fits tail head =
    start_none bytes some (λ front body is.
    let parts = parts_before bytes front body is.joined in
    let same : width ≡ length body = same_width width (length body) short is.short (tail ∙ parts.tail) in
    let place : start ≡ length front = omega (arith, parts.long) in
    let before : to_le_bytes w32 again ≡ to_le_bytes w32 (length body) = head ∙ ap (λ n. take 4 (drop n bytes)) place ∙ parts.head in
    let same' : again ≡ length body = same_width again (length body) short' is.short before in
    absurd (other (same' ∙ sym same)))

-- four bytes of the bytes before a place
pub four_before : (bytes : List ℕ) (at from : ℕ) → from + 4 ≤ at → take 4 (drop from (take at bytes)) ≡ take 4 (drop from bytes)
four_before bytes at from fits =
    let sum : from + (at - from) ≡ at = omega arith in
    ap (λ n. take 4 (drop from (take n bytes))) (sym sum) ∙ ap (take 4) (drop-take from (at - from) bytes) ∙ take-take 4 (at - from) (drop from bytes) (omega arith)

pub last_four : (bytes : List ℕ) (at : ℕ) → 4 ≤ at → at ≤ length bytes → drop (length (take at bytes) - 4) (take at bytes) ≡ take 4 (drop (at - 4) bytes)
last_four bytes at some within =
    let sum : at - 4 + 4 ≡ at = omega arith in
    ap (λ n. drop (n - 4) (take at bytes)) (length-take-le at bytes within) ∙ ap (λ n. drop (at - 4) (take n bytes)) (sym sum) ∙ drop-take (at - 4) 4 bytes

-- the length that was read behind the body
pub tail_read : (bytes held four : List ℕ) (at width long : ℕ) → held ≡ bytes → long ≡ width → four ≡ take 4 (drop (at + 4 + long) held) → four ≡ take 4 (drop (4 + width) (drop at bytes))
tail_read bytes held four at width long same is read =
    let sum : at + 4 + long ≡ at + (4 + width) = omega arith in
    read ∙ ap (λ b. take 4 (drop (at + 4 + long) b)) same ∙ ap (λ n. take 4 (drop n bytes)) sum ∙ ap (take 4) (sym (drop-drop (4 + width) at bytes))

-- the body that was read
pub body_read : (bytes held text into : List ℕ) (at width long : ℕ) → held ≡ bytes → long ≡ width → into ≡ text ++ take long (drop (at + 4) held) → text ≡ [] → into ≡ take width (drop 4 (drop at bytes))
body_read bytes held text into at width long same is read none =
    read ∙ ap (λ s. s ++ take long (drop (at + 4) held)) none ∙ ap (λ b. take long (drop (at + 4) b)) same ∙ ap (λ n. take n (drop (at + 4) bytes)) is ∙ ap (take width) (sym (drop-drop 4 at bytes))
