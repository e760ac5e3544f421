-- Bytes cut into lines, and values that elements get.
use Rattle.std.proofs.Common.{◌≡◌, ℕ, zero, suc, ◌+◌, ◌-◌, ◌<◌, ◌≤◌, cond, eqb, List, [], ◌∷◌, ◌++◌, length, map, take, drop, get_or, inl, inr, refl, sym, ap, ◌∙◌, arith, append_assoc}
use Rattle.std.specs.Str.Lines.{strip_carriage_return}
use Rattle.std.proofs.lemmas.Bool.{cases_lt, cases_Bool}
use Rattle.std.proofs.lemmas.List.{take-take, take_all, drop_all, length-take, length-drop, length-append, length-map}
use Rattle.fj_value.specs.declared.value.Cell.{Cell}
use Rattle.fj_value.specs.declared.value.Value.{Value}
use Rattle.fj_moved.specs.Cells.{with_value}
use Rattle.fj_seqrec.specs.Lines.{lines, first_line, behind_line}
use Rattle.fj_seqrec.proofs.Positions.{line_feed_place, place-le-length}
use Rattle.fj_seqrec.proofs.LineLemmas.{lines_first}
use Rattle.fj_seqrec.proofs.ReadLaws.{first_line_ended, first_line_last}
use Rattle.fj_internal.specs.Internal.{set_first, value_of}

pub first_open : (bytes : List ℕ) (place : ℕ) → place ≡ line_feed_place bytes → length bytes ≤ place → bytes ≡ first_line bytes
first_open bytes place is past = sym (first_line_last bytes (omega (arith, place-le-length bytes)))

pub first_fed : (bytes : List ℕ) (place : ℕ) → place ≡ line_feed_place bytes → place < length bytes → strip_carriage_return (take place bytes) ≡ first_line bytes
first_fed bytes place is within = ap (λ n. strip_carriage_return (take n bytes)) is ∙ sym (first_line_ended bytes (omega arith))

pub behind_open : (bytes : List ℕ) (place : ℕ) → place ≡ line_feed_place bytes → length bytes ≤ place → [] ≡ behind_line bytes
behind_open bytes place is past = sym (drop_all (line_feed_place bytes + 1) bytes (omega arith))

pub behind_fed : (bytes : List ℕ) (place : ℕ) → place ≡ line_feed_place bytes → take (length bytes - (place + 1)) (drop (place + 1) bytes) ≡ behind_line bytes
behind_fed bytes place is = take_all (length bytes - (place + 1)) (drop (place + 1) bytes) (omega (arith, length-drop (place + 1) bytes)) ∙ ap (λ n. drop (n + 1) bytes) is

-- the last of the values first
pub set_push : (vs : List Value) (v : Value) (cells : List Cell) → length vs < length cells → set_first (vs ++ v ∷ []) cells ≡ set_first vs (with_value cells (length vs) v)
set_push vs v [] low = absurd (omega arith)
set_push [] v (cell ∷ cells) low = refl
set_push (w ∷ vs) v (cell ∷ cells) low = ap (λ (rest : List Cell). record cell { value = w } ∷ rest) (set_push vs v cells (omega arith))

-- the values of lines so far, and the lines that are left
abbrev pub values_in : ℕ → List ℕ → List Value
values_in size bytes = map (value_of size) (lines bytes)

pub cut_more : (size : ℕ) (values new : List Value) (v : Value) (rest bytes after : List ℕ) → values ++ values_in size rest ≡ values_in size bytes → 0 < length rest → v ≡ value_of size (first_line rest) → after ≡ behind_line rest → new ≡ values ++ v ∷ []
    → new ++ values_in size after ≡ values_in size bytes
cut_more size values new v rest bytes after so_far some is behind pushed =
    ap (λ (n : List Value). n ++ values_in size after) pushed
    ∙ append_assoc values (v ∷ []) (values_in size after)
    ∙ ap (λ (x : Value). values ++ x ∷ values_in size after) is
    ∙ ap (λ (b : List ℕ). values ++ value_of size (first_line rest) ∷ values_in size b) behind
    ∙ ap (λ (ls : List (List ℕ)). values ++ map (value_of size) ls) (sym (lines_first rest some))
    ∙ so_far

pub some_left : (size : ℕ) (values : List Value) (rest bytes : List ℕ) → values ++ values_in size rest ≡ values_in size bytes → 0 < length rest → length values < length (lines bytes)
some_left size values rest bytes so_far some =
    omega (
      arith,
      ap (λ (l : List Value). length l) so_far,
      length-append values (values_in size rest),
      length-map (lines rest) (value_of size),
      length-map (lines bytes) (value_of size),
      ap (λ (l : List (List ℕ)). length l) (lines_first rest some),
    )

-- the first line stands first

taken_length : (n : ℕ) (xs : List ℕ) → take (length (take n xs)) xs ≡ take n xs
taken_length zero xs = refl
taken_length (suc n) [] = refl
taken_length (suc n) (x ∷ xs) = ap (λ (ys : List ℕ). x ∷ ys) (taken_length n xs)

first_front : (bytes : List ℕ) → (n : ℕ) × (first_line bytes ≡ take n bytes)
first_front bytes = elim (cases_lt (line_feed_place bytes) (length bytes)) [
  | inl fed ↦
      let line : List ℕ = take (line_feed_place bytes) bytes in
      elim (cases_Bool (eqb (get_or line (length line - 1) 0) 13)) [
        | inl return ↦ (
          length line - 1,
          first_line_ended bytes fed
              ∙ ap (λ b. cond b (take (length line - 1) line) line) return
              ∙ take-take (length line - 1) (line_feed_place bytes) bytes (omega (arith, length-take (line_feed_place bytes) bytes)),
        )
        | inr plain ↦ (line_feed_place bytes, first_line_ended bytes fed ∙ ap (λ b. cond b (take (length line - 1) line) line) plain)
      ]
  | inr past ↦ (length bytes, first_line_last bytes (omega (arith, past, place-le-length bytes)) ∙ sym (take_all (length bytes) bytes (omega arith)))
]

pub first_taken : (bytes : List ℕ) → take (length (first_line bytes)) bytes ≡ first_line bytes
first_taken bytes =
    let f = first_front bytes in
    ap (λ (l : List ℕ). take (length l) bytes) f.1 ∙ taken_length f.0 bytes ∙ sym f.1
