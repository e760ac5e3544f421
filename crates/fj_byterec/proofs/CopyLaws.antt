-- Copies of a byte, put into a file piece after piece.
use Rattle.std.proofs.Common.{◌≡◌, ℕ, ◌+◌, ◌-◌, ◌≤◌, List, ◌++◌, length, take, drop, replicate, max, sym, ap, ◌∙◌, arith, append_assoc}
use Rattle.std.proofs.lemmas.List.{take_at, drop_at, drop-append-le, take-append-le, drop-drop, length-take-le, length-append, length-replicate, take-replicate, drop-replicate}
use Rattle.fj_outside.specs.Bytes.{written}
use Rattle.fj_span.specs.Change.{IsChanged}
use Rattle.fj_span.proofs.ChangeLaws.{changed_none}

-- what stands in a file with a piece from the piece's place on
pub drop_written : (old piece : List ℕ) (at n : ℕ) → at ≤ length old → n ≤ length piece → drop (at + n) (written old at piece) ≡ drop n piece ++ drop (at + length piece) old
drop_written old piece at n within low =
    let rest = drop (at + length piece) old in
    ap (drop (at + n)) (append_assoc (take at old) piece rest) ∙ sym (drop-drop n at (take at old ++ (piece ++ rest)))
    ∙ ap (drop n) (drop_at (take at old) (piece ++ rest) at (length-take-le at old within)) ∙ drop-append-le n piece rest low

pub take_before : (old piece : List ℕ) (at : ℕ) → at ≤ length old → take at (written old at piece) ≡ take at old
take_before old piece at within =
    ap (take at) (append_assoc (take at old) piece (drop (at + length piece) old)) ∙ take_at (take at old) (piece ++ drop (at + length piece) old) at (length-take-le at old within)

-- a file that is to have copies from a place up to another
abbrev pub copied : List ℕ → ℕ → ℕ → ℕ → List ℕ
copied old from to fill = written old from (replicate (to - from) fill)

pub next_copies : (old : List ℕ) (from to fill place width : ℕ) (piece : List ℕ) → from ≤ length old → from ≤ place → place + width ≤ to → piece ≡ replicate width fill
    → piece ≡ take (length piece) (drop place (copied old from to fill))
next_copies old from to fill place width piece within low high is =
    let all = replicate (to - from) fill in
    let sum : from + (place - from) ≡ place = omega arith in
    let here : drop place (copied old from to fill) ≡ replicate (to - from - (place - from)) fill ++ drop (from + length all) old =
    ap (λ n. drop n (copied old from to fill)) (sym sum) ∙ drop_written old all from (place - from) within (omega (arith, length-replicate (to - from) fill))
    ∙ ap (λ s. s ++ drop (from + length all) old) (drop-replicate (place - from) (to - from) fill) in
    let long : length piece ≡ width = ap length is ∙ length-replicate width fill in
    is ∙ sym (ap (λ n. take n (drop place (copied old from to fill))) long ∙ ap (take width) here
    ∙ take-append-le width (replicate (to - from - (place - from)) fill) (drop (from + length all) old) (omega (arith, length-replicate (to - from - (place - from)) fill))
    ∙ take-replicate width (to - from - (place - from)) fill (omega arith))

pub copies_begun : (old : List ℕ) (from to fill size len : ℕ) → from ≤ size → len ≡ size → len ≡ length old → IsChanged old (copied old from to fill) from old
copies_begun old from to fill size len place told is =
    let within : from ≤ length old = omega arith in
    changed_none old (copied old from to fill) from within (take_before old (replicate (to - from) fill) from within)

pub behind_copies : (old : List ℕ) (from to fill : ℕ) → from ≤ length old → from ≤ to → drop to (copied old from to fill) ≡ drop to old
behind_copies old from to fill within order =
    let all = replicate (to - from) fill in
    let long : length all ≡ to - from = length-replicate (to - from) fill in
    let sum : from + length all ≡ to = omega arith in
    ap (λ n. drop n (copied old from to fill)) (sym sum) ∙ drop_at (take from old ++ all) (drop (from + length all) old) (from + length all) (length-append (take from old) all ∙ ap (λ n. n + length all) (length-take-le from old within))
    ∙ ap (λ n. drop n old) sum

-- the size after the next piece
pub size_more : (start was now place long width : ℕ) → was ≡ max start place → now ≡ max was (place + long) → long ≡ width → now ≡ max start (place + width)
size_more start was now place long width before after same = omega arith
