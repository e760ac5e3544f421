-- Delimited constants, a piece at a time.
use Rattle.std.proofs.Common.{◌≡◌, ℕ, suc, ◌+◌, ◌<◌, ◌≤◌, true, false, not, cond, eqb, List, [], ◌∷◌, ◌++◌, length, get_or, take, drop, Option, Some, None, slice_get, sym, ap, ◌∙◌, refl, inl, inr, arith, append_assoc, append-nil, length-drop}
use Rattle.std.proofs.lemmas.Bool.{cases_Bool}
use Rattle.std.proofs.lemmas.Bool.Decides.{nat_tests}
use Rattle.std.proofs.lemmas.List.{drop-drop, get_or-drop}
use Rattle.std.proofs.lemmas.List.Sums.{passes_at_first}
use Rattle.std.specs.List.{position_or_len, prefix_len}
use Rattle.fj_list.specs.Stream.{Stream, stream}
use Rattle.fj_list.specs.ListInput.{with_front, delimited}
use Rattle.fj_list.proofs.StreamLaws.{stream_at, stream_end, stream_on, stream_past}

pub with_front-nil : (found : Option (List ℕ × Stream)) → with_front [] found ≡ found
with_front-nil None = refl
with_front-nil (Some p) = refl

with_front-with_front : (a b : List ℕ) (found : Option (List ℕ × Stream)) → with_front a (with_front b found) ≡ with_front (a ++ b) found
with_front-with_front a b None = refl
with_front-with_front a b (Some p) = ap (λ cs. Some (cs, p.1)) (sym (append_assoc a b p.0))

one_more : (n : ℕ) → 1 + n ≡ suc n
one_more n = omega arith

abbrev width : ℕ → List ℕ → ℕ
width mark cs = position_or_len (λ c. eqb c mark) cs

-- characters that are no marks
stretch : (mark : ℕ) (cs : List ℕ) (lines : List (List ℕ)) → delimited mark false (stream (cs ∷ lines)) ≡ with_front (take (width mark cs) cs) (delimited mark false (stream (drop (width mark cs) cs ∷ lines)))
stretch mark [] lines = sym (with_front-nil (delimited mark false (stream ([] ∷ lines))))
stretch mark (c ∷ cs) lines =
    let n = prefix_len (λ x. not (eqb x mark)) cs in
    elim (cases_Bool (eqb c mark)) [
      | inl e ↦
          let none : cond (not (eqb c mark)) (1 + n) 0 ≡ 0 = ap (λ b. cond (not b) (1 + n) 0) e in
          sym (ap (λ k. with_front (take k (c ∷ cs)) (delimited mark false (stream (drop k (c ∷ cs) ∷ lines)))) none
          ∙ with_front-nil (delimited mark false (stream ((c ∷ cs) ∷ lines))))
      | inr e ↦
          let more : cond (not (eqb c mark)) (1 + n) 0 ≡ suc n = ap (λ b. cond (not b) (1 + n) 0) e ∙ one_more n in
          ap (λ b. cond b (delimited mark true (stream (cs ∷ lines))) (with_front (c ∷ []) (delimited mark false (stream (cs ∷ lines))))) e
          ∙ ap (with_front (c ∷ [])) (stretch mark cs lines)
          ∙ with_front-with_front (c ∷ []) (take n cs) (delimited mark false (stream (drop n cs ∷ lines)))
          ∙ sym (ap (λ k. with_front (take k (c ∷ cs)) (delimited mark false (stream (drop k (c ∷ cs) ∷ lines)))) more)
    ]

-- the same from a place on
stretch_at : (mark : ℕ) (line : List ℕ) (at n : ℕ) (chars : List ℕ) (lines : List (List ℕ)) → n ≡ width mark (drop at line)
    → with_front chars (delimited mark false (stream (drop at line ∷ lines))) ≡ with_front (chars ++ take n (drop at line)) (delimited mark false (stream (drop (at + n) line ∷ lines)))
stretch_at mark line at n chars lines e =
    let w = width mark (drop at line) in
    ap (with_front chars) (stretch mark (drop at line) lines)
    ∙ with_front-with_front chars (take w (drop at line)) (delimited mark false (stream (drop w (drop at line) ∷ lines)))
    ∙ ap (λ (ds : List ℕ). with_front (chars ++ take w (drop at line)) (delimited mark false (stream (ds ∷ lines)))) (drop-drop w at line)
    ∙ sym (ap (λ k. with_front (chars ++ take k (drop at line)) (delimited mark false (stream (drop (at + k) line ∷ lines)))) e)

-- no mark is left in the record
pub piece_open : (mark : ℕ) (line : List ℕ) (at n : ℕ) (chars : List ℕ) (lines : List (List ℕ)) → n ≡ width mark (drop at line) → length line ≤ at + n
    → with_front chars (delimited mark false (stream (drop at line ∷ lines))) ≡ with_front (chars ++ take n (drop at line)) (delimited mark false (stream lines))
piece_open mark line at n chars lines e h =
    stretch_at mark line at n chars lines e
    ∙ ap (λ s. with_front (chars ++ take n (drop at line)) (delimited mark false s)) (stream_past line (at + n) lines h)

same_mark : (c : ℕ) → eqb c c ≡ true
same_mark c = grind (arith, nat_tests)

-- what stands at the first mark
mark_is : (mark : ℕ) (line : List ℕ) (at n : ℕ) → at ≤ length line → n ≡ width mark (drop at line) → at + n < length line → get_or line (at + n) 0 ≡ mark
mark_is mark line at n within e h =
    let cs = drop at line in
    let inside : width mark cs < length cs = simp length-drop (omega arith) in
    let is : get_or cs (width mark cs) 0 ≡ mark = as_mark (get_or cs (width mark cs) 0) mark (passes_at_first (λ c. eqb c mark) cs 0 inside) in
    ap (λ k. get_or line (at + k) 0) e ∙ sym (get_or-drop at line (width mark cs) 0) ∙ is where
      as_mark : (c m : ℕ) → eqb c m ≡ true → c ≡ m
      as_mark c m e = grind (arith, nat_tests)

at_mark : (mark : ℕ) (line : List ℕ) (at n : ℕ) (chars : List ℕ) (lines : List (List ℕ)) → at ≤ length line → n ≡ width mark (drop at line) → at + n < length line
    → with_front chars (delimited mark false (stream (drop at line ∷ lines))) ≡ with_front (chars ++ take n (drop at line)) (delimited mark true (stream (drop (at + n + 1) line ∷ lines)))
at_mark mark line at n chars lines within e h =
    let rest = stream (drop (at + n + 1) line ∷ lines) in
    let before = chars ++ take n (drop at line) in
    stretch_at mark line at n chars lines e
    ∙ ap (λ s. with_front before (delimited mark false s)) (stream_on line (at + n) lines h)
    ∙ ap (λ c. with_front before (delimited mark false (Some c ∷ rest))) (mark_is mark line at n within e h)
    ∙ ap (λ b. with_front before (cond b (delimited mark true rest) (with_front (mark ∷ []) (delimited mark false rest)))) (same_mark mark)

-- another mark behind it
pub piece_doubled : (mark : ℕ) (line : List ℕ) (at n : ℕ) (chars : List ℕ) (lines : List (List ℕ)) → at ≤ length line → n ≡ width mark (drop at line) → at + n < length line
    → slice_get line (at + n + 1) ≡ Some mark
    → with_front chars (delimited mark false (stream (drop at line ∷ lines))) ≡ with_front ((chars ++ take n (drop at line)) ++ mark ∷ []) (delimited mark false (stream (drop (at + n + 1 + 1) line ∷ lines)))
piece_doubled mark line at n chars lines within e h next =
    let before = chars ++ take n (drop at line) in
    let rest = stream (drop (at + n + 1 + 1) line ∷ lines) in
    at_mark mark line at n chars lines within e h
    ∙ ap (λ s. with_front before (delimited mark true s)) (stream_at line (at + n + 1) mark lines next)
    ∙ ap (λ b. with_front before (cond b (with_front (mark ∷ []) (delimited mark false rest)) (Some ([], Some mark ∷ rest)))) (same_mark mark)
    ∙ with_front-with_front before (mark ∷ []) (delimited mark false rest)

-- no other mark behind it
closing : (mark : ℕ) (line : List ℕ) (at : ℕ) (lines : List (List ℕ)) (next : Option ℕ) → slice_get line at ≡ next → (next ≡ Some mark → ⊥) → delimited mark true (stream (drop at line ∷ lines)) ≡ Some ([], stream (drop at line ∷ lines))
closing mark line at lines None is other =
    let here = stream_end line at lines is in
    ap (delimited mark true) here ∙ ap (λ (s : Stream). Some ([], s)) (sym here)
closing mark line at lines (Some c) is other =
    let here = stream_at line at c lines is in
    let rest = stream (drop (at + 1) line ∷ lines) in
    let no : eqb c mark ≡ false = no_mark c mark (λ e. other (ap (λ x. Some x) e)) in
    ap (delimited mark true) here
    ∙ ap (λ b. cond b (with_front (mark ∷ []) (delimited mark false rest)) (Some ([], Some c ∷ rest))) no
    ∙ ap (λ (s : Stream). Some ([], s)) (sym here) where
      no_mark : (c m : ℕ) → (c ≡ m → ⊥) → eqb c m ≡ false
      no_mark c m h = grind (arith, nat_tests)

pub piece_closed : (mark : ℕ) (line : List ℕ) (at n : ℕ) (chars : List ℕ) (lines : List (List ℕ)) → at ≤ length line → n ≡ width mark (drop at line) → at + n < length line
    → (slice_get line (at + n + 1) ≡ Some mark → ⊥)
    → with_front chars (delimited mark false (stream (drop at line ∷ lines))) ≡ Some (chars ++ take n (drop at line), stream (drop (at + n + 1) line ∷ lines))
piece_closed mark line at n chars lines within e h other =
    let before = chars ++ take n (drop at line) in
    let rest = stream (drop (at + n + 1) line ∷ lines) in
    at_mark mark line at n chars lines within e h
    ∙ ap (with_front before) (closing mark line (at + n + 1) lines (slice_get line (at + n + 1)) refl other)
    ∙ ap (λ cs. Some (cs, rest)) (append-nil before)
