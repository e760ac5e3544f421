-- What is left of a record.
use Rattle.std.proofs.Common.{◌≡◌, ◌≢◌, cond, ◌∷◌, ◌+◌, ◌-◌, ◌<◌, ◌≤◌, ℕ, List, [], ◌++◌, length, take, drop, get_or, arith, refl, sym, ap, subst, ◌∙◌, inl, inr}
use Rattle.std.proofs.lemmas.Bool.{cases_lt, cases_eq, eq-eqb, ne_eqb}
use Rattle.std.proofs.lemmas.List.{drop_all, length-take, length-drop, drop-take, drop-drop, take-append-drop, get_or-drop}
use Rattle.std.specs.Str.Lines.{strip_carriage_return}
use Rattle.fj_seqrec.specs.Lines.{first_line, behind_line}
use Rattle.fj_seqrec.proofs.Positions.{line_feed_place, place-le-length, place_behind, place_in_front}
use Rattle.fj_seqrec.proofs.ReadLaws.{first_line_ended, first_line_last, stripped_length}
use Rattle.fj_connect.specs.PositionLaws.{RestsOfRecords}

-- the first line feed of what stands behind a place before it
place_rest : (bytes : List ℕ) (count : ℕ) → count ≤ line_feed_place bytes → line_feed_place (drop count bytes) ≡ line_feed_place bytes - count
place_rest bytes count low =
    let within : count ≤ length bytes = omega (arith, place-le-length bytes) in
    let long : length (take count bytes) ≡ count = omega (arith, length-take count bytes) in
    let clear : line_feed_place (take count bytes) ≡ length (take count bytes) = elim (cases_lt (line_feed_place (take count bytes)) (length (take count bytes))) [
      | inl fed ↦ absurd (omega (arith, place_in_front bytes (take count bytes) count refl fed))
      | inr past ↦ omega (arith, place-le-length (take count bytes))
    ] in
    let whole : line_feed_place (take count bytes ++ drop count bytes) ≡ line_feed_place bytes = ap line_feed_place (take-append-drop count bytes) in
    omega (arith, place_behind (take count bytes) (drop count bytes) clear, whole)

returned : (line : List ℕ) → get_or line (length line - 1) 0 ≡ 13 → strip_carriage_return line ≡ take (length line - 1) line
returned line is = ap (λ b. cond b (take (length line - 1) line) line) (eq-eqb (get_or line (length line - 1) 0) 13 is)

plain : (line : List ℕ) → get_or line (length line - 1) 0 ≢ 13 → strip_carriage_return line ≡ line
plain line is = ap (λ b. cond b (take (length line - 1) line) line) (ne_eqb (get_or line (length line - 1) 0) 13 is)

last_rest : (line : List ℕ) (count : ℕ) → count < length line → get_or (drop count line) (length (drop count line) - 1) 0 ≡ get_or line (length line - 1) 0
last_rest line count low = get_or-drop count line (length (drop count line) - 1) 0 ∙ ap (λ n. get_or line n 0) (omega (arith, length-drop count line))

returned_some : (line : List ℕ) → get_or line (length line - 1) 0 ≡ 13 → 0 < length line
returned_some [] is = absurd (omega (arith, is))
returned_some (byte ∷ more) is = omega arith

-- a carriage return at the end stands at the end of what is left, too
strip_rest : (line : List ℕ) (count : ℕ) → count ≤ length (strip_carriage_return line) → strip_carriage_return (drop count line) ≡ drop count (strip_carriage_return line)
strip_rest line count low = elim (cases_eq (get_or line (length line - 1) 0) 13) [
  | inl is ↦
      let some = returned_some line is in
      let short : count < length line = omega (arith, ap (λ s. length s) (returned line is), length-take (length line - 1) line) in
      let long : length (drop count line) - 1 ≡ length line - 1 - count = omega (arith, length-drop count line) in
      let whole : count + (length line - 1 - count) ≡ length line - 1 = omega arith in
      returned (drop count line) (last_rest line count short ∙ is)
      ∙ ap (λ n. take n (drop count line)) long ∙ sym (drop-take count (length line - 1 - count) line)
      ∙ ap (λ n. drop count (take n line)) whole ∙ ap (drop count) (sym (returned line is))
  | inr other ↦ elim (cases_lt count (length line)) [
    | inl short ↦ plain (drop count line) (λ is. other (sym (last_rest line count short) ∙ is)) ∙ ap (drop count) (sym (plain line other))
    | inr past ↦ ap strip_carriage_return (drop_all count line past) ∙ sym (drop_all count line past) ∙ ap (drop count) (sym (plain line other))
  ]
]

first_rest : (bytes : List ℕ) (count : ℕ) → count ≤ length (first_line bytes) → (first_line (drop count bytes) ≡ drop count (first_line bytes)) × (behind_line (drop count bytes) ≡ behind_line bytes)
first_rest bytes count low = elim (cases_lt (line_feed_place bytes) (length bytes)) [
  | inl fed ↦
      let n = line_feed_place bytes in
      let line = take (line_feed_place bytes) bytes in
      let first : first_line bytes ≡ strip_carriage_return (take (line_feed_place bytes) bytes) = first_line_ended bytes fed in
      let low' : count ≤ length (strip_carriage_return (take (line_feed_place bytes) bytes)) = subst (λ (s : List ℕ). count ≤ length s) first low in
      let within : count ≤ line_feed_place bytes = omega (arith, (stripped_length (take (line_feed_place bytes) bytes)).0, length-take (line_feed_place bytes) bytes) in
      let place = place_rest bytes count within in
      let fed' : line_feed_place (drop count bytes) < length (drop count bytes) = omega (arith, place, length-drop count bytes) in
      let whole : count + (line_feed_place bytes - count) ≡ line_feed_place bytes = omega arith in
      let behind : count + (line_feed_place (drop count bytes) + 1) ≡ line_feed_place bytes + 1 = omega (arith, place) in (
        first_line_ended (drop count bytes) fed'
            ∙ ap strip_carriage_return (ap (λ m. take m (drop count bytes)) place ∙ sym (drop-take count (line_feed_place bytes - count) bytes) ∙ ap (λ m. drop count (take m bytes)) whole)
            ∙ strip_rest (take (line_feed_place bytes) bytes) count low'
            ∙ ap (drop count) (sym first),
        drop-drop (line_feed_place (drop count bytes) + 1) count bytes ∙ ap (λ m. drop m bytes) behind,
      )
  | inr past ↦
      let whole : line_feed_place bytes ≡ length bytes = omega (arith, place-le-length bytes) in
      let first : first_line bytes ≡ bytes = first_line_last bytes whole in
      let within : count ≤ line_feed_place bytes = omega (arith, whole, ap (λ s. length s) first) in
      let place = place_rest bytes count within in
      let whole' : line_feed_place (drop count bytes) ≡ length (drop count bytes) = omega (arith, place, length-drop count bytes) in (
        first_line_last (drop count bytes) whole' ∙ ap (drop count) (sym first),
        drop_all (line_feed_place (drop count bytes) + 1) (drop count bytes) (omega arith) ∙ sym (drop_all (line_feed_place bytes + 1) bytes (omega arith)),
      )
]

pub rests : RestsOfRecords
rests = first_rest
