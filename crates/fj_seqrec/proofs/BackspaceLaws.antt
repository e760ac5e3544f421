-- Where the last line of the bytes before a place begins.
use Rattle.std.proofs.Common.{◌≡◌, ℕ, ◌+◌, ◌-◌, ◌<◌, ◌≤◌, true, false, List, length, take, drop, sym, ap, ◌∙◌, inl, inr, arith, get_or, not}
use Rattle.std.proofs.lemmas.Bool.{cases_lt, false_from_ne_true}
use Rattle.std.proofs.lemmas.List.{get_or-take, get_or-drop, take-take, length-take, length-drop, length-take-le}
use Rattle.std.proofs.lemmas.List.Sums.{suffix_len_is, suffix_len-le-length}
use Rattle.std.specs.List.{suffix_len, after_last}
use Rattle.memchr.specs.Find.{Nowhere, NoneAfter, Passes, is_byte}
use Rattle.fj_seqrec.specs.Lines.{is_line_feed, last_line_start}

-- no line feed stands from a place on before the last byte of those before another
abbrev pub IsClear : List ℕ → ℕ → ℕ → Type 0
IsClear bytes from at = (k : ℕ) → from ≤ k → k < at - 1 → is_line_feed (get_or bytes k 0) ≡ false

start_of : (front : List ℕ) → length front - length (after_last is_line_feed front) ≡ length front - suffix_len (λ x. not (is_line_feed x)) front
start_of front = omega (arith, length-drop (length front - suffix_len (λ x. not (is_line_feed x)) front) front, suffix_len-le-length (λ x. not (is_line_feed x)) front)

pub start_is : (bytes : List ℕ) (at n : ℕ) → at ≤ length bytes → n ≤ at - 1 → IsClear bytes n at → (0 < n → is_line_feed (get_or bytes (n - 1) 0) ≡ true) → n ≡ last_line_start (take at bytes)
start_is bytes at n within low clear feed =
    let width : length (take at bytes) ≡ at = length-take-le at bytes within in
    let front = take (length (take at bytes) - 1) (take at bytes) in
    let long : length front ≡ at - 1 = omega (arith, length-take (length (take at bytes) - 1) (take at bytes)) in
    let same : front ≡ take (at - 1) bytes = ap (λ m. take (m - 1) (take at bytes)) width ∙ take-take (at - 1) at bytes (omega arith) in
    let plain = λ (k : ℕ) (low' : n ≤ k) (high : k < length front).
    let high' : k < at - 1 = omega arith in
    ap (λ s. not (is_line_feed (get_or s k 0))) same ∙ ap (λ x. not (is_line_feed x)) (get_or-take (at - 1) bytes k 0 high') ∙ ap not (clear k low' high') in
    let ends = λ (some : 0 < n).
    let below : n - 1 < at - 1 = omega arith in
    ap (λ s. not (is_line_feed (get_or s (n - 1) 0))) same ∙ ap (λ x. not (is_line_feed x)) (get_or-take (at - 1) bytes (n - 1) 0 below) ∙ ap not (feed some) in
    let found = suffix_len_is (λ x. not (is_line_feed x)) front n 0 (omega arith) plain ends in
    omega (arith, start_of front, found)

read_place : (bytes piece : List ℕ) (from width j : ℕ) → piece ≡ take width (drop from bytes) → j < width → get_or piece j 0 ≡ get_or bytes (from + j) 0
read_place bytes piece from width j is low = ap (λ s. get_or s j 0) is ∙ get_or-take width (drop from bytes) j 0 low ∙ get_or-drop from bytes j 0

clear_in : (bytes piece : List ℕ) (from width j k : ℕ) → piece ≡ take width (drop from bytes) → j < width → from + j ≡ k → (Passes (is_byte 10) piece j → ⊥) → is_line_feed (get_or bytes k 0) ≡ false
clear_in bytes piece from width j k is low place none =
    ap (λ m. is_line_feed (get_or bytes m 0)) (sym place) ∙ ap is_line_feed (sym (read_place bytes piece from width j is low)) ∙ false_from_ne_true _ none

-- the bytes below have none either
pub clear_more : (bytes piece : List ℕ) (from width end at : ℕ) → piece ≡ take width (drop from bytes) → length piece ≡ width → from + width ≡ end → IsClear bytes end at → Nowhere (Passes (is_byte 10) piece) 0 (length piece)
    → IsClear bytes from at
clear_more bytes piece from width end at is long joined clear none k low high =
    elim (cases_lt k end) [
      | inl below ↦ clear_in bytes piece from width (k - from) k is (omega arith) (omega arith) (none (k - from) (omega arith) (omega arith))
      | inr above ↦ clear k above high
    ]

-- the last line begins behind a line feed that was found
pub start_found : (bytes piece : List ℕ) (from width end at place : ℕ) → piece ≡ take width (drop from bytes) → length piece ≡ width → from + width ≡ end → end ≤ at - 1 → at ≤ length bytes → IsClear bytes end at
    → NoneAfter (Passes (is_byte 10) piece) 0 (length piece) place × Passes (is_byte 10) piece place → from + place + 1 ≡ last_line_start (take at bytes)
start_found bytes piece from width end at place is long joined low within clear (none, here) =
    let last : place < width = omega (arith, none.high) in
    let clear' : IsClear bytes (from + place + 1) at = λ k low' high.
    elim (cases_lt k end) [
      | inl below ↦ clear_in bytes piece from width (k - from) k is (omega arith) (omega arith) (none.after (k - from) (omega arith) (omega arith))
      | inr above ↦ clear k above high
    ] in
    let feed : is_line_feed (get_or bytes (from + place + 1 - 1) 0) ≡ true =
    let e : from + place + 1 - 1 ≡ from + place = omega arith in
    ap (λ m. is_line_feed (get_or bytes m 0)) e ∙ ap is_line_feed (sym (read_place bytes piece from width place is last)) ∙ here in
    start_is bytes at (from + place + 1) within (omega arith) clear' (λ _. feed)
