-- Where the first line feed of joined bytes stands.
use Rattle.std.proofs.Common.{◌≡◌, ℕ, ◌+◌, ◌<◌, ◌≤◌, cond, List, ◌++◌, length, take, drop, sym, ap, ◌∙◌, arith, not}
use Rattle.std.proofs.lemmas.Bool.{eq-eqb, ne_eqb, false_from_ne_true}
use Rattle.std.proofs.lemmas.List.{take-append-drop, length-append}
use Rattle.std.proofs.lemmas.List.Folds.{prefix_len-append}
use Rattle.std.proofs.lemmas.List.Sums.{position_or_len_is, prefix_len-le-length}
use Rattle.std.specs.List.{position_or_len}
use Rattle.memchr.specs.Find.{Nowhere, NoneBefore, Passes, is_byte}
use Rattle.fj_seqrec.specs.Lines.{is_line_feed}

-- where the first line feed of these bytes stands, or their length
abbrev pub line_feed_place : List ℕ → ℕ
line_feed_place bytes = position_or_len is_line_feed bytes

pub place-le-length : (bytes : List ℕ) → line_feed_place bytes ≤ length bytes
place-le-length bytes = prefix_len-le-length (λ x. not (is_line_feed x)) bytes

pub place_found : (bytes : List ℕ) (k : ℕ) → NoneBefore (Passes (is_byte 10) bytes) 0 (length bytes) k × Passes (is_byte 10) bytes k → k ≡ line_feed_place bytes
place_found bytes k (none, here) =
    sym (position_or_len_is is_line_feed bytes k 0 (omega (arith, none.high)) (λ j below. false_from_ne_true _ (none.before j (omega arith) below)) (λ _. here))

pub place_none : (bytes : List ℕ) → Nowhere (Passes (is_byte 10) bytes) 0 (length bytes) → length bytes ≡ line_feed_place bytes
place_none bytes none =
    sym (position_or_len_is is_line_feed bytes (length bytes) 0 (omega arith) (λ j below. false_from_ne_true _ (none j (omega arith) below)) (λ past. absurd (omega arith)))

-- behind bytes with no line feed
pub place_behind : (xs ys : List ℕ) → line_feed_place xs ≡ length xs → line_feed_place (xs ++ ys) ≡ length xs + line_feed_place ys
place_behind xs ys none =
    prefix_len-append (λ x. not (is_line_feed x)) xs ys ∙ ap (λ b. cond b (length xs + line_feed_place ys) (line_feed_place xs)) (eq-eqb (line_feed_place xs) (length xs) none)

-- within the first of two parts
pub place_within : (xs ys : List ℕ) → line_feed_place xs < length xs → line_feed_place (xs ++ ys) ≡ line_feed_place xs
place_within xs ys some =
    prefix_len-append (λ x. not (is_line_feed x)) xs ys
    ∙ ap (λ b. cond b (length xs + line_feed_place ys) (line_feed_place xs)) (ne_eqb (line_feed_place xs) (length xs) (λ e. absurd (omega (arith, e))))

-- within the front of a list
pub place_in_front : (bytes front : List ℕ) (n : ℕ) → front ≡ take n bytes → line_feed_place front < length front → line_feed_place bytes ≡ line_feed_place front
place_in_front bytes front n is some =
    sym (ap line_feed_place (ap (λ s. s ++ drop n bytes) is ∙ take-append-drop n bytes)) ∙ place_within front (drop n bytes) some

-- bytes with no line feed, and a next piece with none
pub place_none_more : (held piece held' : List ℕ) → line_feed_place held ≡ length held → length piece ≡ line_feed_place piece → held' ≡ held ++ piece → line_feed_place held' ≡ length held'
place_none_more held piece held' none more is =
    rw is (place_behind held piece none ∙ ap (λ n. length held + n) (sym more) ∙ sym (length-append held piece))
