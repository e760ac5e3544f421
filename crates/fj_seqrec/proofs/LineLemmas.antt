-- Lines and the bytes that they stand in.
use Rattle.std.proofs.Common.{◌≡◌, ◌≢◌, ℕ, zero, suc, ◌+◌, ◌-◌, ◌<◌, ◌≤◌, cond, List, [], ◌∷◌, ◌++◌, length, take, drop, get_or, refl, sym, ap, ◌∙◌, subst, inl, inr, arith, append_assoc, add-zero}
use Rattle.std.proofs.lemmas.Bool.{eq-eqb, ne_eqb, eqb-true, eqb-false, cases_lt, cases_eq}
use Rattle.std.proofs.lemmas.List.{take_at, drop_at, take_all, drop_all, length-take, length-drop, length-append, get_or_at, get_or-take, take_more}
use Rattle.std.proofs.lemmas.List.Elements.{All-push}
use Rattle.std.proofs.lemmas.List.Splits.{slice_split_none, slice_split_first, length-slice_split}
use Rattle.std.proofs.lemmas.List.Sums.{position_or_len_is, split_at_first, fails_before_first, passes_at_first}
use Rattle.std.specs.List.{slice_split, before_first, after_first}
use Rattle.std.specs.Prelude.{All}
use Rattle.std.specs.Str.Lines.{strip_carriage_return, lines_of_parts}
use Rattle.fj_seqrec.specs.Lines.{is_line_feed, lines, first_line, behind_line}
use Rattle.fj_seqrec.specs.LineLaws.{AreLinesOf, none, open_line, fed_line, returned_line}
use Rattle.fj_seqrec.proofs.Positions.{line_feed_place, place-le-length, place_behind}
use Rattle.fj_seqrec.proofs.ReadLaws.{first_line_ended, first_line_last}

-- bytes without a line feed
plain_place : (line : List ℕ) → All (λ byte. byte ≢ 10) line → line_feed_place line ≡ length line
plain_place line plain =
    position_or_len_is is_line_feed line (length line) 0 (omega arith) (λ k low. ne_eqb (get_or line k 0) 10 (plain k 0 low)) (λ past. absurd (omega arith))

place_plain : (bytes : List ℕ) → All (λ byte. byte ≢ 10) (take (line_feed_place bytes) bytes)
place_plain bytes k d low =
    let below : k < line_feed_place bytes = omega (arith, length-take (line_feed_place bytes) bytes) in
    rw (get_or-take (line_feed_place bytes) bytes k d below) (eqb-false (get_or bytes k d) 10 (fails_before_first is_line_feed bytes k d below))

plain_all : (line : List ℕ) → line_feed_place line ≡ length line → All (λ byte. byte ≢ 10) line
plain_all line whole = subst (All (λ byte. byte ≢ 10)) (ap (λ n. take n line) whole ∙ take_all (length line) line (omega arith)) (place_plain line)

-- the place, in bytes that begin with a line and its line feed
fed_place : (line rest : List ℕ) → line_feed_place line ≡ length line → line_feed_place (line ++ 10 ∷ rest) ≡ length line
fed_place line rest plain = place_behind line (10 ∷ rest) plain ∙ add-zero (length line)

pub fed_first : (line rest : List ℕ) → line_feed_place line ≡ length line → first_line (line ++ 10 ∷ rest) ≡ strip_carriage_return line
fed_first line rest plain =
    let here = fed_place line rest plain in
    first_line_ended (line ++ 10 ∷ rest) (omega (arith, here, length-append line (10 ∷ rest)))
    ∙ ap strip_carriage_return (ap (λ n. take n (line ++ 10 ∷ rest)) here ∙ take_at line (10 ∷ rest) (length line) refl)

pub fed_behind : (line rest : List ℕ) → line_feed_place line ≡ length line → behind_line (line ++ 10 ∷ rest) ≡ rest
fed_behind line rest plain =
    ap (λ n. drop (n + 1) (line ++ 10 ∷ rest)) (fed_place line rest plain)
    ∙ ap (drop (length line + 1)) (sym (append_assoc line (10 ∷ []) rest))
    ∙ drop_at (line ++ 10 ∷ []) rest (length line + 1) (length-append line (10 ∷ []))

-- parts are never none
split_some : (bytes : List ℕ) → 0 < length (slice_split is_line_feed bytes)
split_some bytes = omega (arith, length-slice_split is_line_feed bytes)

lines_of_two : (part : List ℕ) (parts : List (List ℕ)) → 0 < length parts → lines_of_parts (part ∷ parts) ≡ strip_carriage_return part ∷ lines_of_parts parts
lines_of_two part [] some = absurd (omega arith)
lines_of_two part (next ∷ more) some = refl

-- the first line, and the lines behind it
pub lines_first : (bytes : List ℕ) → 0 < length bytes → lines bytes ≡ first_line bytes ∷ lines (behind_line bytes)
lines_first bytes some =
    elim (cases_lt (line_feed_place bytes) (length bytes)) [
      | inl fed ↦
          ap lines_of_parts (slice_split_first is_line_feed bytes 0 fed)
          ∙ lines_of_two (before_first is_line_feed bytes) (slice_split is_line_feed (after_first is_line_feed bytes)) (split_some (after_first is_line_feed bytes))
          ∙ ap (λ line. line ∷ lines (behind_line bytes)) (sym (first_line_ended bytes fed))
      | inr past ↦
          let whole : line_feed_place bytes ≡ length bytes = omega (arith, place-le-length bytes) in
          let one : slice_split is_line_feed bytes ≡ bytes ∷ [] = slice_split_none is_line_feed bytes (λ k d low. ne_eqb (get_or bytes k d) 10 (plain_all bytes whole k d low)) in
          let behind : behind_line bytes ≡ [] = drop_all (line_feed_place bytes + 1) bytes (omega arith) in
          ap lines_of_parts one
          ∙ ap (λ b. cond b [] (bytes ∷ [])) (ne_eqb (length bytes) 0 (λ e. absurd (omega (arith, e))))
          ∙ ap (λ line. line ∷ []) (sym (first_line_last bytes whole))
          ∙ ap (λ rest. first_line bytes ∷ lines rest) (sym behind)
    ]

-- a line feed splits bytes
fed_split : (bytes : List ℕ) → line_feed_place bytes < length bytes → bytes ≡ take (line_feed_place bytes) bytes ++ 10 ∷ behind_line bytes
fed_split bytes fed =
    let feed : get_or bytes (line_feed_place bytes) 0 ≡ 10 = eqb-true (get_or bytes (line_feed_place bytes) 0) 10 (passes_at_first is_line_feed bytes 0 fed) in
    split_at_first is_line_feed bytes 0 fed ∙ ap (λ byte. take (line_feed_place bytes) bytes ++ byte ∷ behind_line bytes) feed

-- a carriage return at the end
stripped_return : (line : List ℕ) → get_or line (length line - 1) 0 ≡ 13 → strip_carriage_return line ≡ take (length line - 1) line
stripped_return line is = ap (λ b. cond b (take (length line - 1) line) line) (eq-eqb (get_or line (length line - 1) 0) 13 is)

stripped_plain : (line : List ℕ) → get_or line (length line - 1) 0 ≢ 13 → strip_carriage_return line ≡ line
stripped_plain line is = ap (λ b. cond b (take (length line - 1) line) line) (ne_eqb (get_or line (length line - 1) 0) 13 is)

stripped_added : (line : List ℕ) → strip_carriage_return (line ++ 13 ∷ []) ≡ line
stripped_added line =
    let long : length (line ++ 13 ∷ []) - 1 ≡ length line = omega (arith, length-append line (13 ∷ [])) in
    stripped_return (line ++ 13 ∷ []) (ap (λ n. get_or (line ++ 13 ∷ []) n 0) long ∙ get_or_at line 13 [] 0 (length line) refl)
    ∙ ap (λ n. take n (line ++ 13 ∷ [])) long ∙ take_at line (13 ∷ []) (length line) refl

-- what stands before its last byte, and that byte
last_split : (line : List ℕ) → 0 < length line → line ≡ take (length line - 1) line ++ get_or line (length line - 1) 0 ∷ []
last_split line some =
    let e : length line - 1 + 1 ≡ length line = omega arith in
    sym (take_all (length line) line (omega arith)) ∙ sym (ap (λ n. take n line) e) ∙ take_more line (length line - 1) 0 (omega arith)

ends_some : (line : List ℕ) → get_or line (length line - 1) 0 ≡ 13 → 0 < length line
ends_some [] is = absurd (omega (arith, is))
ends_some (byte ∷ more) is = omega arith

plain_front : (line : List ℕ) (n : ℕ) → All (λ byte. byte ≢ 10) line → All (λ byte. byte ≢ 10) (take n line)
plain_front line n plain k d low =
    let below : k < n = omega (arith, length-take n line) in
    let within : k < length line = omega (arith, length-take n line) in
    rw (get_or-take n line k d below) (plain k d within)

-- bytes that begin with a line feed's line, in the relation
joined_fed : (front rest : List ℕ) (more : List (List ℕ)) → All (λ byte. byte ≢ 10) front → AreLinesOf more rest → AreLinesOf (strip_carriage_return front ∷ more) (front ++ 10 ∷ rest)
joined_fed front rest more plain behind =
    elim (cases_eq (get_or front (length front - 1) 0) 13) [
      | inl return ↦
          let line = take (length front - 1) front in
          let bytes : front ++ 10 ∷ rest ≡ line ++ 13 ∷ 10 ∷ rest =
          ap (λ s. s ++ 10 ∷ rest) (last_split front (ends_some front return) ∙ ap (λ byte. line ++ byte ∷ []) return) ∙ append_assoc line (13 ∷ []) (10 ∷ rest) in
          rw (stripped_return front return, bytes) (returned_line (plain_front front (length front - 1) plain) behind)
      | inr other ↦ rw (stripped_plain front other) (fed_line plain other behind)
    ]

-- the lines of bytes are theirs, by the length of the bytes
are_lines : (n : ℕ) (bytes : List ℕ) → length bytes ≤ n → AreLinesOf (lines bytes) bytes
are_lines n [] short = none
are_lines zero (byte ∷ more) short = absurd (omega arith)
are_lines (suc n) (byte ∷ more) short =
    let bytes = byte ∷ more in
    elim (cases_lt (line_feed_place bytes) (length bytes)) [
      | inl fed ↦
          let behind : length (behind_line bytes) ≤ n = omega (arith, length-drop (line_feed_place bytes + 1) bytes) in
          let first : lines bytes ≡ strip_carriage_return (take (line_feed_place bytes) bytes) ∷ lines (behind_line bytes) =
          lines_first bytes (omega arith) ∙ ap (λ line. line ∷ lines (behind_line bytes)) (first_line_ended bytes fed) in
          let joined = joined_fed (take (line_feed_place bytes) bytes) (behind_line bytes) (lines (behind_line bytes)) (place_plain bytes) (are_lines n (behind_line bytes) behind) in
          subst (λ (ls : List (List ℕ)). AreLinesOf ls bytes) (sym first) (subst (AreLinesOf (strip_carriage_return (take (line_feed_place bytes) bytes) ∷ lines (behind_line bytes))) (sym (fed_split bytes fed)) joined)
      | inr past ↦
          let whole : line_feed_place bytes ≡ length bytes = omega (arith, place-le-length bytes) in
          let nothing : behind_line bytes ≡ [] = drop_all (line_feed_place bytes + 1) bytes (omega arith) in
          let first : lines bytes ≡ bytes ∷ [] = lines_first bytes (omega arith) ∙ ap (λ line. line ∷ lines (behind_line bytes)) (first_line_last bytes whole) ∙ ap (λ rest. bytes ∷ lines rest) nothing in
          subst (λ (ls : List (List ℕ)). AreLinesOf ls bytes) (sym first) (open_line (plain_all bytes whole) (omega arith))
    ]

-- lines that stand in bytes are theirs
lines_of_fed : (line rest : List ℕ) → line_feed_place line ≡ length line → lines (line ++ 10 ∷ rest) ≡ strip_carriage_return line ∷ lines rest
lines_of_fed line rest plain =
    lines_first (line ++ 10 ∷ rest) (omega (arith, length-append line (10 ∷ rest)))
    ∙ ap (λ first. first ∷ lines (behind_line (line ++ 10 ∷ rest))) (fed_first line rest plain)
    ∙ ap (λ behind. strip_carriage_return line ∷ lines behind) (fed_behind line rest plain)

pub only_lines : (parts : List (List ℕ)) (bytes : List ℕ) → AreLinesOf parts bytes → parts ≡ lines bytes
only_lines _ _ none = refl
only_lines _ _ (open_line {line} plain some) =
    let whole : line_feed_place line ≡ length line = plain_place line plain in
    let nothing : behind_line line ≡ [] = drop_all (line_feed_place line + 1) line (omega arith) in
    sym (lines_first line some ∙ ap (λ first. first ∷ lines (behind_line line)) (first_line_last line whole) ∙ ap (λ rest. line ∷ lines rest) nothing)
only_lines _ _ (fed_line {line} {rest} {more} plain other behind) =
    sym (lines_of_fed line rest (plain_place line plain) ∙ ap (λ first. first ∷ lines rest) (stripped_plain line other) ∙ ap (λ others. line ∷ others) (sym (only_lines more rest behind)))
only_lines _ _ (returned_line {line} {rest} {more} plain behind) =
    let front = line ++ 13 ∷ [] in
    let whole : line_feed_place front ≡ length front = plain_place front (All-push (λ x. x ≢ 10) line 13 plain (λ e. absurd (omega (arith, e)))) in
    sym (ap lines (sym (append_assoc line (13 ∷ []) (10 ∷ rest))) ∙ lines_of_fed front rest whole ∙ ap (λ first. first ∷ lines rest) (stripped_added line) ∙ ap (λ others. line ∷ others) (sym (only_lines more rest behind)))

pub lines_stand : (bytes : List ℕ) → AreLinesOf (lines bytes) bytes
lines_stand bytes = are_lines (length bytes) bytes (omega arith)
