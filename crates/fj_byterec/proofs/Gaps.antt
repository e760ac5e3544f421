-- The records of a gap.
use Rattle.std.proofs.Common.{◌≡◌, ℕ, ◌+◌, ◌-◌, ◌*◌, ◌<◌, ◌≤◌, Bool, true, false, cond, leb, List, [], ◌++◌, None, Some, length, take, drop, replicate, refl, sym, ap, ◌∙◌, inl, inr, arith, append_assoc}
use Rattle.std.proofs.lemmas.Bool.{cases_lt, leb-false}
use Rattle.std.proofs.lemmas.List.{drop-append-le, drop_all, length-append, length-take-le, length-drop, length-replicate, take-replicate, drop-replicate}
use Rattle.std.proofs.Math.Nat.{mul-le-mul_left}
use Rattle.std.proofs.Math.Seq.{take-append-add, drop-append-add}
use Rattle.fj_byterec.specs.Pieces.{record_start, piece, filled_to, with_record}
use Rattle.fj_byterec.specs.PieceLaws.{GapsAreFilled}
use Rattle.fj_byterec.proofs.RecordLaws.{record_end}
use Rattle.fj_byterec.proofs.Apart.{piece_there, part_before}

to_none : {A : Type 0} (b : Bool) (x : A) → cond b (Some x) None ≡ None → b ≡ false
to_none true x is = cc
to_none false x is = refl

-- a record that is not there ends behind the bytes
pub not_there : (bytes : List ℕ) (size number : ℕ) → piece bytes size number ≡ None → length bytes < number * size
not_there bytes size number is = leb-false (number * size) (length bytes) (to_none (leb (number * size) (length bytes)) (take size (drop (record_start size number) bytes)) is)

-- a part of bytes that were lengthened, over their end
over_end : (bytes : List ℕ) (place size low fill : ℕ) → length bytes ≤ place + size → place + size ≤ low → take size (drop place (filled_to bytes low fill)) ≡ filled_to (drop place bytes) size fill
over_end bytes place size low fill past fits =
    let more = replicate (low - length bytes) fill in
    elim (cases_lt (length bytes) place) [
      | inl behind ↦
          let sum : length bytes + (place - length bytes) ≡ place = omega arith in
          let whole : size - 0 ≡ size = omega arith in
          let none : drop place bytes ≡ [] = drop_all place bytes (omega arith) in
          let rest : drop place (bytes ++ more) ≡ replicate (low - length bytes - (place - length bytes)) fill =
          ap (λ n. drop n (bytes ++ more)) (sym sum) ∙ drop-append-add bytes more (place - length bytes) ∙ drop-replicate (place - length bytes) (low - length bytes) fill in
          ap (take size) rest ∙ take-replicate size (low - length bytes - (place - length bytes)) fill (omega arith)
          ∙ sym (ap (λ s. filled_to s size fill) none ∙ ap (λ n. replicate n fill) whole)
      | inr within ↦
          let front = drop place bytes in
          let long : length front ≡ length bytes - place = length-drop place bytes in
          let sum : length front + (size - length front) ≡ size = omega arith in
          ap (take size) (drop-append-le place bytes more within)
          ∙ ap (λ n. take n (front ++ more)) (sym sum)
          ∙ take-append-add front more (size - length front)
          ∙ ap (λ s. front ++ s) (take-replicate (size - length front) (low - length bytes) fill (omega arith))
    ]

pub filled : GapsAreFilled
filled bytes text size number fill fits other some below none =
    let start = record_start size number in
    let place = record_start size other in
    let due = with_record bytes size number text fill in
    let long = filled_to bytes start fill in
    let ends : place + size ≡ other * size = sym (record_end size other some) in
    let last : other * size ≤ start = let h : other ≤ number - 1 = omega arith in omega (arith, mul-le-mul_left size h) in
    let here = filled_to text size fill in
    let behind = drop (start + length here) long in
    let split : due ≡ take start long ++ (here ++ behind) = append_assoc (take start long) here behind in
    let room : start ≤ length long = omega (arith, length-append bytes (replicate (start - length bytes) fill), length-replicate (start - length bytes) fill) in
    let within : other * size ≤ length due = omega (arith, ap length split, length-append (take start long) (here ++ behind), length-take-le start long room) in
    piece_there due size other within
    ∙ ap (λ d. Some (take size (drop place d))) split
    ∙ ap Some (part_before long (take start long) (here ++ behind) place size start (omega arith) room refl)
    ∙ ap Some (over_end bytes place size start fill (omega (arith, not_there bytes size other none)) (omega arith))
