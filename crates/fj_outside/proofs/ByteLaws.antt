-- Lists of bytes cut and joined.
use Rattle.std.proofs.Common.{◌≡◌, ℕ, ◌+◌, ◌-◌, ◌≤◌, List, [], ◌++◌, length, take, drop, refl, sym, ap, ◌∙◌, arith, max, append_assoc}
use Rattle.std.proofs.lemmas.List.{take-append-drop, length-take, length-take-le, length-drop, length-append, append-nil}
use Rattle.std.proofs.Math.ListN.{drop_of_length-le}
use Rattle.std.proofs.Math.Seq.{take-append_seam, drop-append_seam, take-length, drop-drop}
use Rattle.fj_outside.specs.Bytes.{written, IsPartlyWritten, WrittenByPlace}

unwritten-new : (old : List ℕ) (at n : ℕ) → at + 0 ≡ n → take at old ++ [] ++ drop n old ≡ old
unwritten-new old at n e = let f : n ≡ at = omega arith in rw (f, append-nil) (take-append-drop at old)

-- where nothing was written, a prefix was
pub unwritten : (old : List ℕ) (at : ℕ) (piece new : List ℕ) → new ≡ old → IsPartlyWritten old at piece new
unwritten old at piece new e = (0, omega arith, e ∙ sym (unwritten-new old at (at + 0) refl))

pub take_front : (xs ys : List ℕ) (n : ℕ) → n ≡ length xs → take n (xs ++ ys) ≡ xs
take_front xs ys n e = rw e (take-append_seam xs ys)

-- the front of what was left, moved into a buffer, and the rest are what was left
pub read_front : (xs copied buf left : List ℕ) (at n : ℕ) → drop at xs ≡ left → copied ≡ take (at + n - at) (drop at xs) → length copied ≡ length (take n buf) → n ≤ length buf
    → left ≡ take n (copied ++ drop n buf) ++ drop (at + n) xs
read_front xs copied buf left at n el ec len fits =
    let e : n ≡ length copied = omega (arith, length-take n buf) in
    let m : at + n - at ≡ n = omega arith in
    let cut : copied ≡ take n left = rw (← el) (rw m at ec) in
    let front : take n (copied ++ drop n buf) ≡ copied = take_front copied (drop n buf) n e in
    let rest : drop (at + n) xs ≡ drop n left = rw (← el) (sym (drop-drop n at xs)) in
    rw (front, rest, cut) (sym (take-append-drop n left))

drop_front : (xs ys : List ℕ) (n : ℕ) → n ≡ length xs → drop n (xs ++ ys) ≡ ys
drop_front xs ys n e = rw e (drop-append_seam xs ys)

pub length-written : (old : List ℕ) (at : ℕ) (piece : List ℕ) → at ≤ length old → length (written old at piece) ≡ max (length old) (at + length piece)
length-written old at piece h = rw (length-append, length-append, length-take-le at old h, length-drop) (grind arith)

-- a write at the end adds the piece, and what was written of it before a refusal
pub written_at_end : (old : List ℕ) (at : ℕ) (piece : List ℕ) → at ≡ length old → written old at piece ≡ old ++ piece
written_at_end old at piece e =
    let front : take at old ≡ old = rw e (take-length old) in
    let behind : drop (at + length piece) old ≡ [] = drop_of_length-le old (omega arith) in
    rw (front, behind) (append-nil (old ++ piece))

pub partly_at_end : (old : List ℕ) (at : ℕ) (piece new : List ℕ) → at ≡ length old → IsPartlyWritten old at piece new → (n : ℕ) × (n ≤ length piece) × (new ≡ old ++ take n piece)
partly_at_end old at piece new e h = (h.0, h.1, h.2 ∙ written_at_end old at (take h.0 piece) e)

pub placed : WrittenByPlace
placed old at piece h =
    let front : at ≡ length (take at old) = sym (length-take-le at old h) in
    let whole : written old at piece ≡ take at old ++ (piece ++ drop (at + length piece) old) = append_assoc (take at old) piece (drop (at + length piece) old) in
    let both : at + length piece ≡ length (take at old ++ piece) = rw (length-append, ← front) refl in (
      ap (take at) whole ∙ take_front (take at old) _ at front,
      ap (λ xs. take (length piece) (drop at xs)) whole ∙ ap (take (length piece)) (drop_front (take at old) _ at front) ∙ take_front piece _ (length piece) refl,
      drop_front (take at old ++ piece) _ (at + length piece) both,
      length-written old at piece h,
    )
