-- Records as one list of characters.
use Rattle.std.proofs.Common.{◌≡◌, ℕ, suc, ◌+◌, ◌<◌, ◌≤◌, Bool, true, false, not, cond, List, [], ◌∷◌, length, get_or, take, drop, Some, None, slice_get, sym, ap, ◌∙◌, refl, inl, inr, arith, length-drop}
use Rattle.std.proofs.lemmas.Bool.{cases_Bool}
use Rattle.std.proofs.lemmas.List.{drop-drop, drop_all}
use Rattle.std.proofs.lemmas.List.Sums.{passes_at_first}
use Rattle.std.specs.List.{position_or_len, prefix_len}
use Rattle.fj_list.specs.Stream.{Stream, stream, records_in, records_behind, with_first, front, behind, is_blank, is_no_blank, skipped}
use Rattle.fj_list.proofs.Widths.{drop_at_some, drop_at_none, get_at}

one_more : (n : ℕ) → 1 + n ≡ suc n
one_more n = omega arith

-- at a character, and at the end of the record
pub stream_at : (line : List ℕ) (at c : ℕ) (lines : List (List ℕ)) → slice_get line at ≡ Some c → stream (drop at line ∷ lines) ≡ Some c ∷ stream (drop (at + 1) line ∷ lines)
stream_at line at c lines e = ap (λ (cs : List ℕ). stream (cs ∷ lines)) (drop_at_some line at c e)

pub stream_end : (line : List ℕ) (at : ℕ) (lines : List (List ℕ)) → slice_get line at ≡ None → stream (drop at line ∷ lines) ≡ None ∷ stream lines
stream_end line at lines e = ap (λ (cs : List ℕ). stream (cs ∷ lines)) (drop_at_none line at e)

pub stream_past : (line : List ℕ) (at : ℕ) (lines : List (List ℕ)) → length line ≤ at → stream (drop at line ∷ lines) ≡ None ∷ stream lines
stream_past line at lines h = ap (λ (cs : List ℕ). stream (cs ∷ lines)) (drop_all at line h)

pub stream_on : (line : List ℕ) (at : ℕ) (lines : List (List ℕ)) → at < length line → stream (drop at line ∷ lines) ≡ Some (get_or line at 0) ∷ stream (drop (at + 1) line ∷ lines)
stream_on line at lines h = stream_at line at (get_or line at 0) lines (get_at line at h)

-- the records are those of the list
pub records_in-stream : (lines : List (List ℕ)) → records_in (stream lines) ≡ lines
unfolding records_in
records_in-stream [] = refl
records_in-stream ([] ∷ lines) = ap (λ (ls : List (List ℕ)). [] ∷ ls) (records_in-stream lines)
records_in-stream ((c ∷ cs) ∷ lines) = ap (with_first c) (records_in-stream (cs ∷ lines))

pub records_behind-stream : (line : List ℕ) (lines : List (List ℕ)) → records_behind (stream (line ∷ lines)) ≡ lines
unfolding records_behind
records_behind-stream line lines = ap (λ (ls : List (List ℕ)). drop 1 ls) (records_in-stream (line ∷ lines))

pub records_behind-nil : records_behind [] ≡ []
unfolding records_behind records_in
records_behind-nil = refl

-- characters up to one that stops them
front_step : (b : Bool) (c : ℕ) (cs rest : List ℕ) (n : ℕ) → rest ≡ take n cs → cond b [] (c ∷ rest) ≡ take (cond (not b) (1 + n) 0) (c ∷ cs)
front_step true c cs rest n e = refl
front_step false c cs rest n e = ap (λ r. c ∷ r) e ∙ sym (ap (λ k. take k (c ∷ cs)) (one_more n))

pub front_is : (stops : ℕ → Bool) (cs : List ℕ) (lines : List (List ℕ)) → front stops (stream (cs ∷ lines)) ≡ take (position_or_len stops cs) cs
front_is stops [] lines = refl
front_is stops (c ∷ cs) lines = front_step (stops c) c cs (front stops (stream (cs ∷ lines))) (prefix_len (λ x. not (stops x)) cs) (front_is stops cs lines)

behind_step : (b : Bool) (c : ℕ) (cs : List ℕ) (n : ℕ) (lines : List (List ℕ)) (rest : Stream) → rest ≡ stream (drop n cs ∷ lines) → cond b (Some c ∷ stream (cs ∷ lines)) rest ≡ stream (drop (cond (not b) (1 + n) 0) (c ∷ cs) ∷ lines)
behind_step true c cs n lines rest e = refl
behind_step false c cs n lines rest e = e ∙ sym (ap (λ k. stream (drop k (c ∷ cs) ∷ lines)) (one_more n))

pub behind_is : (stops : ℕ → Bool) (cs : List ℕ) (lines : List (List ℕ)) → behind stops (stream (cs ∷ lines)) ≡ stream (drop (position_or_len stops cs) cs ∷ lines)
behind_is stops [] lines = refl
behind_is stops (c ∷ cs) lines = behind_step (stops c) c cs (prefix_len (λ x. not (stops x)) cs) lines (behind stops (stream (cs ∷ lines))) (behind_is stops cs lines)

-- blanks make no difference
skipped_blank : (c : ℕ) (s : Stream) → is_blank c ≡ true → skipped (Some c ∷ s) ≡ skipped s
skipped_blank c s e = ap (λ b. cond b (skipped s) (Some c ∷ s)) e

pub skipped_other : (c : ℕ) (s : Stream) → is_blank c ≡ false → skipped (Some c ∷ s) ≡ Some c ∷ s
skipped_other c s e = ap (λ b. cond b (skipped s) (Some c ∷ s)) e

blank_width : (c n : ℕ) → is_blank c ≡ true → cond (not (is_no_blank c)) (1 + n) 0 ≡ suc n
blank_width c n e = ap (λ b. cond (not (not b)) (1 + n) 0) e ∙ one_more n

other_width : (c n : ℕ) → is_blank c ≡ false → cond (not (is_no_blank c)) (1 + n) 0 ≡ 0
other_width c n e = ap (λ b. cond (not (not b)) (1 + n) 0) e

pub skipped_width : (cs : List ℕ) (lines : List (List ℕ)) → skipped (stream (cs ∷ lines)) ≡ skipped (stream (drop (position_or_len is_no_blank cs) cs ∷ lines))
skipped_width [] lines = refl
skipped_width (c ∷ cs) lines =
    let n = prefix_len (λ x. not (is_no_blank x)) cs in
    elim (cases_Bool (is_blank c)) [
      | inl e ↦ skipped_blank c (stream (cs ∷ lines)) e ∙ skipped_width cs lines ∙ sym (ap (λ k. skipped (stream (drop k (c ∷ cs) ∷ lines))) (blank_width c n e))
      | inr e ↦ sym (ap (λ k. skipped (stream (drop k (c ∷ cs) ∷ lines))) (other_width c n e))
    ]

no_blank_at : (c : ℕ) → is_no_blank c ≡ true → is_blank c ≡ false
no_blank_at c e = not_true (is_blank c) e where
  not_true : (b : Bool) → not b ≡ true → b ≡ false
  not_true true h = sym h
  not_true false h = refl

width_at : (line : List ℕ) (at : ℕ) → at ≤ length line → at + position_or_len is_no_blank (drop at line) < length line → position_or_len is_no_blank (drop at line) < length (drop at line)
width_at line at within h = simp length-drop (omega arith)

-- where a character that is no blank is left of the record
pub skip_stops : (line : List ℕ) (at : ℕ) (lines : List (List ℕ)) → at ≤ length line → at + position_or_len is_no_blank (drop at line) < length line
    → skipped (stream (drop at line ∷ lines)) ≡ stream (drop (at + position_or_len is_no_blank (drop at line)) line ∷ lines)
skip_stops line at lines within h =
    let cs = drop at line in
    let n = position_or_len is_no_blank cs in
    let inside : n < length cs = width_at line at within h in
    let here = stream_on cs n lines inside in
    let text = no_blank_at (get_or cs n 0) (passes_at_first is_no_blank cs 0 inside) in
    skipped_width cs lines
    ∙ ap skipped here ∙ skipped_other (get_or cs n 0) (stream (drop (n + 1) cs ∷ lines)) text ∙ sym here
    ∙ ap (λ (ds : List ℕ). stream (ds ∷ lines)) (drop-drop n at line)

-- where only blanks are
pub skip_passes : (line : List ℕ) (at : ℕ) (lines : List (List ℕ)) → length line ≤ at + position_or_len is_no_blank (drop at line)
    → skipped (stream (drop at line ∷ lines)) ≡ skipped (stream lines)
skip_passes line at lines h =
    let cs = drop at line in
    let n = position_or_len is_no_blank cs in
    skipped_width cs lines
    ∙ ap (λ (ds : List ℕ). skipped (stream (ds ∷ lines))) (drop-drop n at line ∙ drop_all (at + n) line h)
