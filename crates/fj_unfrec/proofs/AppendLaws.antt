-- A frame gathered in a buffer, and written part by part.
use Rattle.std.proofs.Common.{◌≡◌, ℕ, ◌+◌, ◌≤◌, true, false, List, ◌++◌, length, take, drop, refl, sym, ap, subst, ◌∙◌, arith, append_assoc}
use Rattle.std.proofs.lemmas.List.{take_at, drop_at, length-append, length-take-le, drop-drop}
use Rattle.std.specs.Int.{w32, to_le_bytes}
use Rattle.fj_outside.specs.Bytes.{written}
use Rattle.fj_span.specs.Change.{with_piece, KeepsUpToChange, IsChanged}
use Rattle.fj_span.proofs.ChangeLaws.{changed_more, kept_at_piece, kept_at_end}
use Rattle.fj_unfrec.specs.Frames.{framed}

-- the front of a buffer up to the end of a piece that was put into it
take_written : (buffer piece : List ℕ) (at n : ℕ) → at ≤ length buffer → n ≡ at + length piece → take n (written buffer at piece) ≡ take at buffer ++ piece
take_written buffer piece at n within end =
    take_at (take at buffer ++ piece) (drop (at + length piece) buffer) n (length-append (take at buffer) piece ∙ ap (λ m. m + length piece) (length-take-le at buffer within) ∙ sym end)

long_written : (buffer piece : List ℕ) (at : ℕ) → at ≤ length buffer → at + length piece ≤ length (written buffer at piece)
long_written buffer piece at within =
    omega (arith, length-append (take at buffer ++ piece) (drop (at + length piece) buffer), length-append (take at buffer) piece, length-take-le at buffer within)

-- the length, the body and the length again, put into a buffer one behind the other
pub gathered_is : (empty first second third body width : List ℕ) (n : ℕ) → width ≡ to_le_bytes w32 (length body) → first ≡ written empty 0 width → second ≡ written first 4 body → third ≡ written second (length body + 4) width
    → n ≡ length body + 8 → take n third ≡ framed body
gathered_is empty first second third body width n is one two three end =
    let four : length width ≡ 4 = ap length is in
    let first_long : 4 ≤ length first = omega (arith, ap length one, long_written empty width 0 (omega arith)) in
    let second_long : length body + 4 ≤ length second = omega (arith, ap length two, long_written first body 4 first_long) in
    ap (take n) three ∙ take_written second width (length body + 4) n second_long (omega (arith, end, four))
    ∙ ap (λ s. s ++ width) (ap (take (length body + 4)) two ∙ take_written first body 4 (length body + 4) first_long (omega arith))
    ∙ ap (λ s. s ++ body ++ width) (ap (take 4) one ∙ take_written empty width 0 4 (omega arith) (omega (arith, four)))
    ∙ ap (λ s. s ++ body ++ s) is

-- a file that is to hold a frame at its end
abbrev pub due : List ℕ → ℕ → List ℕ → List ℕ
due old at body = take at old ++ framed body

at_head : (old body : List ℕ) (at : ℕ) → at ≤ length old → drop at (due old at body) ≡ to_le_bytes w32 (length body) ++ (body ++ to_le_bytes w32 (length body))
at_head old body at within =
    let width = to_le_bytes w32 (length body) in
    drop_at (take at old) (framed body) at (length-take-le at old within) ∙ append_assoc width body width

at_body : (old body : List ℕ) (at : ℕ) → at ≤ length old → drop (at + 4) (due old at body) ≡ body ++ to_le_bytes w32 (length body)
at_body old body at within =
    let width = to_le_bytes w32 (length body) in
    sym (drop-drop 4 at (due old at body)) ∙ ap (drop 4) (at_head old body at within) ∙ drop_at width (body ++ width) 4 refl

pub at_tail : (old body : List ℕ) (at : ℕ) → at ≤ length old → drop (at + 4 + length body) (due old at body) ≡ to_le_bytes w32 (length body)
at_tail old body at within =
    let width = to_le_bytes w32 (length body) in
    sym (drop-drop (length body) (at + 4) (due old at body)) ∙ ap (drop (length body)) (at_body old body at within) ∙ drop_at body width (length body) refl

pub next_head : (old body : List ℕ) (at : ℕ) → at ≤ length old → to_le_bytes w32 (length body) ≡ take 4 (drop at (due old at body))
next_head old body at within =
    let width = to_le_bytes w32 (length body) in
    sym (ap (take 4) (at_head old body at within) ∙ take_at width (body ++ width) 4 refl)

pub next_body : (old body : List ℕ) (at : ℕ) → at ≤ length old → body ≡ take (length body) (drop (at + 4) (due old at body))
next_body old body at within =
    let width = to_le_bytes w32 (length body) in
    sym (ap (take (length body)) (at_body old body at within) ∙ take_at body width (length body) refl)

-- the file before the first part, before the second, and before the third
before_head : (old body : List ℕ) (at : ℕ) → at ≤ length old → IsChanged old (due old at body) at old
before_head old body at within = record { front = sym (take_at (take at old) (framed body) at (length-take-le at old within)); rest = refl; within = within }

before_body : (old body now : List ℕ) (at : ℕ) → at ≤ length old → now ≡ with_piece old at (to_le_bytes w32 (length body)) false → IsChanged old (due old at body) (at + 4) now
before_body old body now at within made =
    rw made (changed_more old (due old at body) old (to_le_bytes w32 (length body)) at (before_head old body at within) (next_head old body at within))

before_tail : (old body now now' : List ℕ) (at : ℕ) → at ≤ length old → now ≡ with_piece old at (to_le_bytes w32 (length body)) false → now' ≡ with_piece now (at + 4) body false
    → IsChanged old (due old at body) (at + 4 + length body) now'
before_tail old body now now' at within made made' =
    rw made' (changed_more old (due old at body) now body (at + 4) (before_body old body now at within made) (next_body old body at within))

-- stopped in the first part, in the second, and in the third
pub kept_in_head : (old body width new : List ℕ) (at size len : ℕ) → at ≤ size → len ≡ size → len ≡ length old → width ≡ to_le_bytes w32 (length body) → KeepsUpToChange old (with_piece old at width false) new → KeepsUpToChange old (due old at body) new
kept_in_head old body width new at size len place told is four stopped =
    let within : at ≤ length old = omega arith in
    kept_at_piece old (due old at body) old (to_le_bytes w32 (length body)) new at (before_head old body at within) (next_head old body at within)
    (subst (λ (w : List ℕ). KeepsUpToChange old (with_piece old at w false) new) four stopped)

pub kept_in_body : (old body width now new : List ℕ) (at size len : ℕ) → at ≤ size → len ≡ size → len ≡ length old → width ≡ to_le_bytes w32 (length body) → now ≡ with_piece old at width false
    → KeepsUpToChange now (with_piece now (at + 4) body false) new → KeepsUpToChange old (due old at body) new
kept_in_body old body width now new at size len place told is four made stopped =
    let within : at ≤ length old = omega arith in
    kept_at_piece old (due old at body) now body new (at + 4) (before_body old body now at within (made ∙ ap (λ w. with_piece old at w false) four)) (next_body old body at within) stopped

pub kept_in_tail : (old body width now now' new : List ℕ) (at size len behind : ℕ) → at ≤ size → len ≡ size → len ≡ length old → width ≡ to_le_bytes w32 (length body) → now ≡ with_piece old at width false
    → now' ≡ with_piece now (at + 4) body false → behind ≡ at + 4 + length body → KeepsUpToChange now' (with_piece now' behind width true) new → KeepsUpToChange old (due old at body) new
kept_in_tail old body width now now' new at size len behind place told is four made made' end stopped =
    let within : at ≤ length old = omega arith in
    let before = before_tail old body now now' at within (made ∙ ap (λ w. with_piece old at w false) four) made' in
    kept_at_end old (due old at body) now' width new (at + 4 + length body) before (at_tail old body at within ∙ sym four) (subst (λ (n : ℕ). KeepsUpToChange now' (with_piece now' n width true) new) end stopped)
