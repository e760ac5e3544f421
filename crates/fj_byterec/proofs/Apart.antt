-- A record that was written, and the others.
use Rattle.std.proofs.Common.{◌≡◌, ◌≢◌, ℕ, ◌+◌, ◌-◌, ◌*◌, ◌<◌, ◌≤◌, Bool, true, false, cond, leb, List, ◌++◌, None, Some, length, take, drop, replicate, min, refl, sym, ap, ◌∙◌, inl, inr, arith, append_assoc}
use Rattle.std.proofs.lemmas.Bool.{cases_lt, le-leb, leb-true}
use Rattle.std.proofs.lemmas.List.{take_at, drop_at, take-append-le, drop-append-le, take-take, drop-take, drop-drop, length-append, length-take-le, length-drop, length-replicate}
use Rattle.std.proofs.Math.Nat.{mul-le-mul_left}
use Rattle.fj_byterec.specs.Pieces.{record_start, piece, filled_to, with_record}
use Rattle.fj_byterec.proofs.RecordLaws.{record_end, record_long, parts, gap, same_behind}

pub piece_there : (bytes : List ℕ) (size number : ℕ) → number * size ≤ length bytes → piece bytes size number ≡ Some (take size (drop (record_start size number) bytes))
piece_there bytes size number fits = ap (λ b. cond b (Some (take size (drop (record_start size number) bytes))) None) (le-leb (number * size) (length bytes) fits)

from_test : {A : Type 0} (b : Bool) (x y : A) → cond b (Some x) None ≡ Some y → (b ≡ true) × (x ≡ y)
from_test true x y is = (refl, cc)
from_test false x y is = cc

pub piece_is : (bytes found : List ℕ) (size number : ℕ) → piece bytes size number ≡ Some found → (number * size ≤ length bytes) × (take size (drop (record_start size number) bytes) ≡ found)
piece_is bytes found size number is =
    let got = from_test (leb (number * size) (length bytes)) (take size (drop (record_start size number) bytes)) found is in
    (leb-true (number * size) (length bytes) got.0, got.1)

start_long : (old : List ℕ) (start fill : ℕ) → length (take start (filled_to old start fill)) ≡ start
start_long old start fill = length-take-le start (filled_to old start fill) (omega (arith, length-append old (replicate (start - length old) fill), length-replicate (start - length old) fill))

pub written_there : (old text : List ℕ) (size number fill : ℕ) → 0 < number → length text ≤ size → piece (with_record old size number text fill) size number ≡ Some (filled_to text size fill)
written_there old text size number fill some fits =
    let start = record_start size number in
    let due = with_record old size number text fill in
    let front = take start (filled_to old start fill) in
    let here = filled_to text size fill in
    let behind = drop (start + length here) (filled_to old start fill) in
    let long : length here ≡ size = record_long text size fill fits in
    let split : due ≡ front ++ (here ++ behind) = append_assoc front here behind in
    let within : number * size ≤ length due =
    omega (arith, record_end size number some, ap length split, length-append front (here ++ behind), length-append here behind, start_long old start fill, long) in
    piece_there due size number within
    ∙ ap (λ d. Some (take size (drop start d))) split
    ∙ ap (λ d. Some (take size d)) (drop_at front (here ++ behind) start (start_long old start fill))
    ∙ ap Some (take_at here behind size long)

-- a part that lies before a place up to which two lists agree
pub part_before : (old front more : List ℕ) (at size low : ℕ) → at + size ≤ low → low ≤ length old → front ≡ take low old → take size (drop at (front ++ more)) ≡ take size (drop at old)
part_before old front more at size low fits within is =
    let long : length front ≡ low = ap length is ∙ length-take-le low old within in
    let sum : at + (low - at) ≡ low = omega arith in
    ap (take size) (drop-append-le at front more (omega arith))
    ∙ take-append-le size (drop at front) more (omega (arith, length-drop at front))
    ∙ ap (λ s. take size (drop at s)) is
    ∙ ap (λ n. take size (drop at (take n old))) (sym sum)
    ∙ ap (take size) (drop-take at (low - at) old)
    ∙ take-take size (low - at) (drop at old) (omega arith)

pub other_there : (old text found : List ℕ) (size number fill other : ℕ) → 0 < number → length text ≤ size → 0 < other → other ≢ number → piece old size other ≡ Some found
    → piece (with_record old size number text fill) size other ≡ Some found
other_there old text found size number fill other some fits some' apart is =
    let got = piece_is old found size other is in
    let start = record_start size number in
    let due = with_record old size number text fill in
    let low = min start (length old) in
    let front = take low old in
    let rest = replicate (size - length text) fill in
    let behind = drop (start + size) old in
    let more = gap old start fill ++ (text ++ (rest ++ behind)) in
    let split : due ≡ front ++ more = parts old text size number fill fits in
    let long : length due ≡ length front + (length (gap old start fill) + (length text + (length rest + length behind))) =
    ap length split ∙ length-append front more ∙ ap (λ n. length front + n) (length-append (gap old start fill) (text ++ (rest ++ behind))
    ∙ ap (λ n. length (gap old start fill) + n) (length-append text (rest ++ behind) ∙ ap (λ n. length text + n) (length-append rest behind))) in
    let sizes : (length front ≡ low) × (length (gap old start fill) ≡ start - low) × (length rest ≡ size - length text) × (length behind ≡ length old - (start + size)) =
    (length-take-le low old (omega arith), length-replicate (start - low) fill, length-replicate (size - length text) fill, length-drop (start + size) old) in
    elim (cases_lt other number) [
      | inl below ↦
          let ends : other * size ≤ start = let h : other ≤ number - 1 = omega arith in omega (arith, mul-le-mul_left size h) in
          let within : other * size ≤ length due = omega (arith, long, sizes) in
          piece_there due size other within
          ∙ ap (λ d. Some (take size (drop (record_start size other) d))) split
          ∙ ap Some (part_before old front more (record_start size other) size low (omega (arith, record_end size other some', got.0)) (omega arith) refl ∙ got.1)
      | inr above ↦
          let begins : start + size ≤ record_start size other = let h : number ≤ other - 1 = omega arith in omega (arith, mul-le-mul_left size h, record_end size number some) in
          let sum : start + size + (record_start size other - (start + size)) ≡ record_start size other = omega arith in
          let within : other * size ≤ length due = omega (arith, long, sizes, got.0, record_end size other some') in
          let same : drop (record_start size other) due ≡ drop (record_start size other) old =
          ap (λ n. drop n due) (sym sum) ∙ sym (drop-drop (record_start size other - (start + size)) (start + size) due)
          ∙ ap (drop (record_start size other - (start + size))) (same_behind old text size number fill fits)
          ∙ drop-drop (record_start size other - (start + size)) (start + size) old ∙ ap (λ n. drop n old) sum in
          piece_there due size other within ∙ ap (λ s. Some (take size s)) same ∙ ap Some got.1
    ]
