-- The last line of bytes, and those before it.
use Rattle.std.proofs.Common.{◌≡◌, ◌≢◌, ℕ, zero, suc, ◌+◌, ◌-◌, ◌<◌, ◌≤◌, List, [], ◌∷◌, ◌++◌, length, take, drop, get_or, sym, ap, ◌∙◌, subst, inl, inr, arith, append_assoc}
use Rattle.std.proofs.lemmas.Bool.{ne_eqb, eqb-true, eq-eqb, cases_lt, cases_eq}
use Rattle.std.proofs.lemmas.List.{take_all, drop_all, take-append-drop, length-drop, length-append, length-take-le, get_or-take, get_or-drop, get_or-append-add}
use Rattle.std.specs.Prelude.{All}
use Rattle.std.specs.List.{flat_map}
use Rattle.std.proofs.lemmas.List.Elements.{All-tail}
use Rattle.std.proofs.lemmas.List.Sums.{passes_at_first}
use Rattle.fj_seqrec.specs.Lines.{is_line_feed, lines, first_line, behind_line, last_line_start}
use Rattle.fj_seqrec.specs.LineLaws.{AreLinesOf, none, open_line, fed_line, returned_line, IsLastLineStart, IsPlain, AreTheLinesBehind}
use Rattle.fj_seqrec.proofs.Positions.{line_feed_place}
use Rattle.fj_seqrec.proofs.BackspaceLaws.{start_is}
use Rattle.fj_seqrec.proofs.LineLemmas.{lines_first, lines_stand, only_lines}

-- the only place
pub only_start : (bytes : List ℕ) (start : ℕ) → IsLastLineStart bytes start → start ≡ last_line_start bytes
only_start bytes start is =
    start_is bytes (length bytes) start (omega arith) (omega (arith, is.within))
    (λ k low high. ne_eqb (get_or bytes k 0) 10 (is.clear k low (omega arith)))
    (λ some. eq-eqb (get_or bytes (start - 1) 0) 10 (is.begins some))
    ∙ ap last_line_start (take_all (length bytes) bytes (omega arith))

-- a place at or below m behind which no line feed stands below m
record Found (bytes : List ℕ) (m start : ℕ) : Type 0 where
  pub low : start ≤ m
  pub begins : 0 < start → get_or bytes (start - 1) 0 ≡ 10
  pub clear : (k : ℕ) → start ≤ k → k < m → get_or bytes k 0 ≢ 10

clear_next : (bytes : List ℕ) (m start : ℕ) → get_or bytes m 0 ≢ 10 → Found bytes m start → (k : ℕ) → start ≤ k → k < suc m → get_or bytes k 0 ≢ 10
clear_next bytes m start other found k low high =
    elim (cases_lt k m) [
      | inl below ↦ found.clear k low below
      | inr above ↦ let e : m ≡ k = omega arith in subst (λ (n : ℕ). get_or bytes n 0 ≢ 10) e other
    ]

find : (bytes : List ℕ) (m : ℕ) → (start : ℕ) × Found bytes m start
find bytes zero = (0, record { low = omega arith; begins = λ some. absurd (omega arith); clear = λ k low high. absurd (omega arith) })
find bytes (suc m) =
    elim (cases_eq (get_or bytes m 0) 10) [
      | inl feed ↦ (
        suc m,
        record {
          low = omega arith;
          begins = λ some. let e : suc m - 1 ≡ m = omega arith in ap (λ n. get_or bytes n 0) e ∙ feed;
          clear = λ k low high. absurd (omega arith);
        },
      )
      | inr other ↦
          let before = find bytes m in
          (before.0, record { low = omega (arith, before.1.low); begins = before.1.begins; clear = clear_next bytes m before.0 other before.1 })
    ]

pub is_start : (bytes : List ℕ) → 0 < length bytes → IsLastLineStart bytes (last_line_start bytes)
is_start bytes some =
    let found = find bytes (length bytes - 1) in
    let is : IsLastLineStart bytes found.0 = record {
      within = omega (arith, found.1.low);
      begins = found.1.begins;
      clear = λ k low high. found.1.clear k low (omega arith);
    } in
    subst (IsLastLineStart bytes) (only_start bytes found.0 is) is

-- bytes are empty or end with a line feed
EndsLine : List ℕ → Type 0
EndsLine bytes = 0 < length bytes → get_or bytes (length bytes - 1) 0 ≡ 10

-- the last byte of what stands behind
last_behind : (front rest : List ℕ) → EndsLine (front ++ rest) → EndsLine rest
unfolding EndsLine
last_behind front rest ends some =
    let here : length front + (length rest - 1) ≡ length (front ++ rest) - 1 = omega (arith, length-append front rest) in
    sym (get_or-append-add front rest (length rest - 1) 0) ∙ ap (λ n. get_or (front ++ rest) n 0) here ∙ ends (omega (arith, length-append front rest))

plain_ends : (line : List ℕ) → All (λ byte. byte ≢ 10) line → 0 < length line → EndsLine line → ⊥
unfolding EndsLine
plain_ends line plain some ends = plain (length line - 1) 0 (omega arith) (ends some)

-- lines behind lines
joined : (parts more : List (List ℕ)) (front rest : List ℕ) → AreLinesOf parts front → EndsLine front → AreLinesOf more rest → AreLinesOf (parts ++ more) (front ++ rest)
joined _ more _ rest none ends behind = behind
joined _ more _ rest (open_line {line} plain some) ends behind = absurd (plain_ends line plain some ends)
joined _ more _ rest (fed_line {line} {rest = others} {more = parts} plain other next) ends behind =
    let ends' = last_behind (10 ∷ []) others (last_behind line (10 ∷ others) ends) in
    subst (AreLinesOf (line ∷ (parts ++ more))) (sym (append_assoc line (10 ∷ others) rest)) (fed_line plain other (joined parts more others rest next ends' behind))
joined _ more _ rest (returned_line {line} {rest = others} {more = parts} plain next) ends behind =
    let ends' = last_behind (13 ∷ 10 ∷ []) others (last_behind line (13 ∷ 10 ∷ others) ends) in
    subst (AreLinesOf (line ∷ (parts ++ more))) (sym (append_assoc line (13 ∷ 10 ∷ others) rest)) (returned_line plain (joined parts more others rest next ends' behind))

-- a line whose line feed is at most its last byte is the only one
one_line : (bytes : List ℕ) (start : ℕ) → IsLastLineStart bytes start → lines (drop start bytes) ≡ first_line (drop start bytes) ∷ []
one_line bytes start is =
    let line = drop start bytes in
    let long : length line ≡ length bytes - start = length-drop start bytes in
    let nothing : behind_line line ≡ [] =
    elim (cases_lt (line_feed_place line + 1) (length line)) [
      | inl fed ↦
          let feed : get_or bytes (start + line_feed_place line) 0 ≡ 10 =
          sym (get_or-drop start bytes (line_feed_place line) 0) ∙ eqb-true (get_or line (line_feed_place line) 0) 10 (passes_at_first is_line_feed line 0 (omega arith)) in
          absurd (is.clear (start + line_feed_place line) (omega arith) (omega arith) feed)
      | inr past ↦ drop_all (line_feed_place line + 1) line past
    ] in
    lines_first line (omega (arith, is.within)) ∙ ap (λ rest. first_line line ∷ lines rest) nothing

start_ends : (bytes : List ℕ) (start : ℕ) → IsLastLineStart bytes start → EndsLine (take start bytes)
unfolding EndsLine
start_ends bytes start is some =
    let long : length (take start bytes) ≡ start = length-take-le start bytes (omega (arith, is.within)) in
    let low : start - 1 < start = omega arith in
    ap (λ n. get_or (take start bytes) (n - 1) 0) long ∙ get_or-take start bytes (start - 1) 0 low ∙ is.begins (omega arith)

pub lines_last : (bytes : List ℕ) (start : ℕ) → IsLastLineStart bytes start → lines bytes ≡ lines (take start bytes) ++ first_line (drop start bytes) ∷ []
lines_last bytes start is =
    let behind : AreLinesOf (first_line (drop start bytes) ∷ []) (drop start bytes) = subst (λ (ls : List (List ℕ)). AreLinesOf ls (drop start bytes)) (one_line bytes start is) (lines_stand (drop start bytes)) in
    let all = joined (lines (take start bytes)) (first_line (drop start bytes) ∷ []) (take start bytes) (drop start bytes) (lines_stand (take start bytes)) (start_ends bytes start is) behind in
    sym (only_lines (lines (take start bytes) ++ first_line (drop start bytes) ∷ []) (take start bytes ++ drop start bytes) all ∙ ap lines (take-append-drop start bytes))

-- plain records, each with its line feed, are lines
stand : (records : List (List ℕ)) → All IsPlain records → AreLinesOf records (flat_map (λ line. line ++ 10 ∷ []) records)
stand [] plain = none
stand (first ∷ more) plain =
    let here : IsPlain first = plain 0 first (omega arith) in
    let behind = stand more (All-tail IsPlain first more plain) in
    subst (AreLinesOf (first ∷ more)) (sym (append_assoc first (10 ∷ []) (flat_map (λ line. line ++ 10 ∷ []) more))) (fed_line here.0 here.1 behind)

pub lines_behind : AreTheLinesBehind
unfolding EndsLine
lines_behind bytes records ends plain =
    sym (only_lines (lines bytes ++ records) (bytes ++ flat_map (λ line. line ++ 10 ∷ []) records)
    (joined (lines bytes) records bytes (flat_map (λ line. line ++ 10 ∷ []) records) (lines_stand bytes) ends (stand records plain)))
