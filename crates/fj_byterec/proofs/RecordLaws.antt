-- A record of direct access put into a file.
use Rattle.std.proofs.Common.{◌≡◌, ℕ, zero, suc, ◌+◌, ◌-◌, ◌*◌, ◌<◌, ◌≤◌, false, List, ◌++◌, length, take, drop, replicate, min, refl, sym, ap, subst, ◌∙◌, inl, inr, arith, append_assoc}
use Rattle.std.proofs.lemmas.Bool.{cases_lt}
use Rattle.std.proofs.lemmas.List.{append-nil, take_at, drop_at, take_all, drop_all, take-append-le, length-append, length-take-le, length-replicate, take-replicate, drop-replicate}
use Rattle.std.proofs.Math.Seq.{take-append-add}
use Rattle.fj_outside.specs.Bytes.{written}
use Rattle.fj_span.specs.Change.{with_piece, KeepsUpToChange, IsChanged}
use Rattle.fj_span.proofs.ChangeLaws.{changed_none, changed_next, kept_at_piece, made_whole}
use Rattle.fj_byterec.specs.Pieces.{record_start, filled_to, with_record}

-- a record ends where it begins and its size
pub record_end : (size number : ℕ) → 0 < number → number * size ≡ record_start size number + size
record_end size zero some = absurd (omega arith)
record_end size (suc m) some = let e : suc m - 1 ≡ m = omega arith in rw e (omega arith)

-- where the next piece of a file stands
pub next_piece : (due front piece behind : List ℕ) (place : ℕ) → due ≡ front ++ (piece ++ behind) → length front ≡ place → piece ≡ take (length piece) (drop place due)
next_piece due front piece behind place is long =
    sym (ap (λ d. take (length piece) (drop place d)) is ∙ ap (take (length piece)) (drop_at front (piece ++ behind) place long) ∙ take_at piece behind (length piece) refl)

-- the parts that a file with a record has: what stands before it, the gap, the record's text, its rest, and what stands behind
abbrev pub gap : List ℕ → ℕ → ℕ → List ℕ
gap old start fill = replicate (start - min start (length old)) fill

pub before_record : (old : List ℕ) (start fill : ℕ) → take start (filled_to old start fill) ≡ take (min start (length old)) old ++ gap old start fill
before_record old start fill =
    elim (cases_lt (length old) start) [
      | inl past ↦
          let low : min start (length old) ≡ length old = omega arith in
          let sum : length old + (start - length old) ≡ start = omega arith in
          ap (λ n. take n (filled_to old start fill)) (sym sum) ∙ take-append-add old (replicate (start - length old) fill) (start - length old)
          ∙ ap (λ s. old ++ s) (take_all (start - length old) (replicate (start - length old) fill) (omega (arith, length-replicate (start - length old) fill)))
          ∙ sym (ap (λ n. take n old ++ replicate (start - n) fill) low ∙ ap (λ s. s ++ replicate (start - length old) fill) (take_all (length old) old (omega arith)))
      | inr inside ↦
          let low : min start (length old) ≡ start = omega arith in
          let none : start - start ≡ 0 = omega arith in
          take-append-le start old (replicate (start - length old) fill) inside
          ∙ sym (ap (λ n. take n old ++ replicate (start - n) fill) low ∙ ap (λ n. take start old ++ replicate n fill) none ∙ append-nil (take start old))
    ]

pub behind_record : (old : List ℕ) (start fill end : ℕ) → start ≤ end → drop end (filled_to old start fill) ≡ drop end old
behind_record old start fill end above =
    elim (cases_lt (length old) start) [
      | inl past ↦
          drop_all end (filled_to old start fill) (omega (arith, length-append old (replicate (start - length old) fill), length-replicate (start - length old) fill))
          ∙ sym (drop_all end old (omega arith))
      | inr inside ↦
          let none : start - length old ≡ 0 = omega arith in
          ap (λ n. drop end (old ++ replicate n fill)) none ∙ ap (drop end) (append-nil old)
    ]

pub record_long : (text : List ℕ) (size fill : ℕ) → length text ≤ size → length (filled_to text size fill) ≡ size
record_long text size fill fits = omega (arith, length-append text (replicate (size - length text) fill), length-replicate (size - length text) fill)

pub parts : (old text : List ℕ) (size number fill : ℕ) → length text ≤ size
    → with_record old size number text fill
    ≡ take (min (record_start size number) (length old)) old ++ (gap old (record_start size number) fill ++ (text ++ (replicate (size - length text) fill ++ drop (record_start size number + size) old)))
parts old text size number fill fits =
    let start = record_start size number in
    let record' = filled_to text size fill in
    let rest = replicate (size - length text) fill in
    let front = take (min start (length old)) old in
    let hole = gap old start fill in
    let behind = drop (start + size) old in
    let tail : drop (start + length record') (filled_to old start fill) ≡ behind =
    ap (λ n. drop (start + n) (filled_to old start fill)) (record_long text size fill fits) ∙ behind_record old start fill (start + size) (omega arith) in
    ap (λ s. s ++ record' ++ drop (start + length record') (filled_to old start fill)) (before_record old start fill)
    ∙ ap (λ s. front ++ hole ++ record' ++ s) tail
    ∙ append_assoc (front ++ hole) record' behind
    ∙ append_assoc front hole (record' ++ behind)
    ∙ ap (λ s. front ++ (hole ++ s)) (append_assoc text rest behind)

module _ (old text : List ℕ) (size number fill : ℕ) (fits : length text ≤ size) where
  abbrev start : ℕ
  start = record_start size number

  abbrev due : List ℕ
  due = with_record old size number text fill

  abbrev rest : List ℕ
  rest = replicate (size - length text) fill

  abbrev behind : List ℕ
  behind = drop (start + size) old

  abbrev low : ℕ
  low = min start (length old)

  abbrev front : List ℕ
  front = take low old

  abbrev hole : List ℕ
  hole = gap old start fill

  front_long : length front ≡ low
  front_long = length-take-le low old (omega arith)

  hole_long : length hole ≡ start - low
  hole_long = length-replicate (start - low) fill

  pub begun : IsChanged old due low old
  begun =
      changed_none old due low (omega arith)
      (ap (take low) (parts old text size number fill fits) ∙ take_at front (hole ++ (text ++ (rest ++ behind))) low front_long)

  pub next_gap : hole ≡ take (length hole) (drop low due)
  next_gap = next_piece due front hole (text ++ (rest ++ behind)) low (parts old text size number fill fits) front_long

  pub next_text : text ≡ take (length text) (drop start due)
  next_text =
      next_piece due (front ++ hole) text (rest ++ behind) start (parts old text size number fill fits ∙ sym (append_assoc front hole (text ++ (rest ++ behind))))
      (length-append front hole ∙ omega (arith, front_long, hole_long))

  pub next_rest : rest ≡ take (length rest) (drop (start + length text) due)
  next_rest =
      next_piece due (front ++ hole ++ text) rest behind (start + length text)
      (parts old text size number fill fits ∙ sym (append_assoc front hole (text ++ (rest ++ behind))) ∙ sym (append_assoc (front ++ hole) text (rest ++ behind)))
      (omega (arith, length-append (front ++ hole) text, length-append front hole, front_long, hole_long))

  pub same_behind : drop (start + size) due ≡ drop (start + size) old
  same_behind =
      ap (drop (start + size)) (parts old text size number fill fits ∙ sym (append_assoc front hole (text ++ (rest ++ behind))) ∙ sym (append_assoc (front ++ hole) text (rest ++ behind)) ∙ sym (append_assoc (front ++ hole ++ text) rest behind))
      ∙ drop_at (front ++ hole ++ text ++ rest) behind (start + size)
      (omega (arith, length-append (front ++ hole ++ text) rest, length-append (front ++ hole) text, length-append front hole, front_long, hole_long, length-replicate (size - length text) fill))

-- where the code has the record begin
pub start_is : (size size' number : ℕ) → size' ≡ size → 0 < number → number * size' - size' ≡ record_start size number
start_is size size' number is some = ap (λ n. number * n - n) is ∙ minus (number * size) size (record_start size number) (record_end size number some)
  where
    minus : (a b c : ℕ) → a ≡ c + b → a - b ≡ c
    minus a b c e = omega arith

-- a record that is filled up first, in a file that reaches its start
pub filled_front : (buffer text : List ℕ) (size fill : ℕ) → buffer ≡ written (replicate 1024 fill) 0 text → length text ≤ size → size ≤ 1024 → take size buffer ≡ filled_to text size fill
filled_front buffer text size fill is fits short =
    let sum : length text + (size - length text) ≡ size = omega arith in
    let none : 0 + length text ≡ length text = omega arith in
    let rest : drop (0 + length text) (replicate 1024 fill) ≡ replicate (1024 - length text) fill = ap (λ n. drop n (replicate 1024 fill)) none ∙ drop-replicate (length text) 1024 fill in
    ap (take size) (is ∙ ap (λ s. text ++ s) rest) ∙ ap (λ n. take n (text ++ replicate (1024 - length text) fill)) (sym sum)
    ∙ take-append-add text (replicate (1024 - length text) fill) (size - length text)
    ∙ ap (λ s. text ++ s) (take-replicate (size - length text) (1024 - length text) fill (omega arith))

pub inside_is : (old text piece : List ℕ) (size number fill start' : ℕ) → start' ≡ record_start size number → start' ≤ length old → piece ≡ filled_to text size fill → written old start' piece ≡ with_record old size number text fill
inside_is old text piece size number fill start' here within is =
    let none : record_start size number - length old ≡ 0 = omega arith in
    let same : filled_to old (record_start size number) fill ≡ old = ap (λ n. old ++ replicate n fill) none ∙ append-nil old in
    ap (λ n. written old n piece) here ∙ ap (written old (record_start size number)) is
    ∙ sym (ap (λ b. written b (record_start size number) (filled_to text size fill)) same)

-- the gap, the text and the rest, one behind the other: stopped in each, and after each
pub kept_in_gap : (old text new : List ℕ) (size number fill start' low' len : ℕ) → length text ≤ size → start' ≡ record_start size number → low' ≡ min start' len → len ≡ length old
    → KeepsUpToChange old (written old low' (replicate (start' - low') fill)) new → KeepsUpToChange old (with_record old size number text fill) new
kept_in_gap old text new size number fill start' low' len fits here least is stopped =
    let place : low' ≡ min (record_start size number) (length old) = omega arith in
    kept_at_piece old (with_record old size number text fill) old (gap old (record_start size number) fill) new (min (record_start size number) (length old))
    (begun old text size number fill fits) (next_gap old text size number fill fits)
    (subst (λ (n : ℕ). KeepsUpToChange old (written old n (replicate (record_start size number - n) fill)) new) place (subst (λ (s : ℕ). KeepsUpToChange old (written old low' (replicate (s - low') fill)) new) here stopped))

pub after_gap : (old text now : List ℕ) (size number fill start' low' len : ℕ) → length text ≤ size → start' ≡ record_start size number → low' ≡ min start' len → len ≡ length old
    → now ≡ written old low' (replicate (start' - low') fill) → IsChanged old (with_record old size number text fill) start' now
after_gap old text now size number fill start' low' len fits here least is made =
    let place : low' ≡ min (record_start size number) (length old) = omega arith in
    let made' : now ≡ written old (min (record_start size number) (length old)) (gap old (record_start size number) fill) =
    made ∙ ap (λ s. written old low' (replicate (s - low') fill)) here ∙ ap (λ n. written old n (replicate (record_start size number - n) fill)) place in
    let end : min (record_start size number) (length old) + length (gap old (record_start size number) fill) ≡ start' =
    omega (arith, length-replicate (record_start size number - min (record_start size number) (length old)) fill) in
    changed_next old (with_record old size number text fill) old (gap old (record_start size number) fill) now (min (record_start size number) (length old)) start'
    (begun old text size number fill fits) (next_gap old text size number fill fits) made' end

pub kept_in_text : (old text now new : List ℕ) (size number fill start' : ℕ) → length text ≤ size → start' ≡ record_start size number → IsChanged old (with_record old size number text fill) start' now
    → KeepsUpToChange now (with_piece now start' text false) new → KeepsUpToChange old (with_record old size number text fill) new
kept_in_text old text now new size number fill start' fits here is stopped =
    let due = with_record old size number text fill in
    kept_at_piece old due now text new start' is (next_text old text size number fill fits ∙ ap (λ n. take (length text) (drop n due)) (sym here)) stopped

pub after_text : (old text now new : List ℕ) (size number fill start' : ℕ) → length text ≤ size → start' ≡ record_start size number → IsChanged old (with_record old size number text fill) start' now
    → new ≡ with_piece now start' text false → IsChanged old (with_record old size number text fill) (start' + length text) new
after_text old text now new size number fill start' fits here is made =
    let due = with_record old size number text fill in
    changed_next old due now text new start' (start' + length text) is (next_text old text size number fill fits ∙ ap (λ n. take (length text) (drop n due)) (sym here)) made refl

rest_next : (old text piece : List ℕ) (size number fill start' end' : ℕ) → length text ≤ size → start' ≡ record_start size number → end' ≡ start' + size → piece ≡ replicate (end' - (start' + length text)) fill
    → piece ≡ take (length piece) (drop (start' + length text) (with_record old size number text fill))
rest_next old text piece size number fill start' end' fits here end is =
    let due = with_record old size number text fill in
    let width : end' - (start' + length text) ≡ size - length text = omega arith in
    let same : piece ≡ replicate (size - length text) fill = is ∙ ap (λ n. replicate n fill) width in
    same ∙ next_rest old text size number fill fits
    ∙ ap (λ p. take (length p) (drop (record_start size number + length text) due)) (sym same)
    ∙ ap (λ n. take (length piece) (drop (n + length text) due)) (sym here)

pub kept_in_rest : (old text now new : List ℕ) (size number fill start' end' : ℕ) → length text ≤ size → start' ≡ record_start size number → end' ≡ start' + size
    → IsChanged old (with_record old size number text fill) (start' + length text) now
    → KeepsUpToChange now (written now (start' + length text) (replicate (end' - (start' + length text)) fill)) new → KeepsUpToChange old (with_record old size number text fill) new
kept_in_rest old text now new size number fill start' end' fits here end is stopped =
    kept_at_piece old (with_record old size number text fill) now (replicate (end' - (start' + length text)) fill) new (start' + length text) is
    (rest_next old text (replicate (end' - (start' + length text)) fill) size number fill start' end' fits here end refl) stopped

pub after_rest : (old text now new : List ℕ) (size number fill start' end' : ℕ) → length text ≤ size → start' ≡ record_start size number → end' ≡ start' + size
    → IsChanged old (with_record old size number text fill) (start' + length text) now
    → new ≡ written now (start' + length text) (replicate (end' - (start' + length text)) fill) → new ≡ with_record old size number text fill
after_rest old text now new size number fill start' end' fits here end is made =
    let due = with_record old size number text fill in
    let piece = replicate (end' - (start' + length text)) fill in
    let last : start' + length text + length piece ≡ record_start size number + size = omega (arith, length-replicate (end' - (start' + length text)) fill) in
    let whole = changed_next old due now piece new (start' + length text) (record_start size number + size) is (rest_next old text piece size number fill start' end' fits here end refl) made last in
    made_whole old due new (record_start size number + size) whole (same_behind old text size number fill fits)

-- and where it has it end
pub end_is : (size size' number : ℕ) → size' ≡ size → 0 < number → number * size' ≡ number * size' - size' + size
end_is size size' number is some = omega (arith, start_is size size' number is some, record_end size number some, ap (λ n. number * n) is)
