-- What a read of a record answers, from what it has taken of the file.
use Rattle.std.proofs.Common.{◌≡◌, ℕ, ◌+◌, ◌-◌, ◌<◌, ◌≤◌, cond, eqb, leb, List, [], ◌++◌, length, take, drop, get_or, sym, ap, ◌∙◌, inl, inr, arith, append_assoc}
use Rattle.std.proofs.lemmas.Bool.{eq-eqb, ne_eqb, le-leb, lt-leb, cases_lt, cases_Bool}
use Rattle.std.proofs.lemmas.List.{append-nil, drop-drop, take-append-drop, take-take, drop_all, length-take, length-drop, length-append}
use Rattle.std.proofs.Math.Seq.{take-append-add}
use Rattle.std.specs.Str.Lines.{strip_carriage_return}
use Rattle.fj_seqrec.specs.declared.read.RecordRead.{RecordRead}
use Rattle.fj_seqrec.specs.declared.read.RecordRead.TheVariants.{Line, End, TooLong}
use Rattle.fj_seqrec.specs.declared.read.LinePart.{LinePart}
use Rattle.fj_seqrec.specs.declared.read.LinePart.TheVariants.{Ended, Open}
use Rattle.fj_seqrec.specs.Lines.{first_line, behind_line}
use Rattle.fj_seqrec.specs.Parts.{IsPartOf}
use Rattle.fj_seqrec.specs.Reading.{record_at, HoldsRecord, IsWithin}
use Rattle.fj_seqrec.proofs.Positions.{line_feed_place, place-le-length, place_behind, place_in_front}

-- a line less its carriage return is as long or one shorter
pub stripped_length : (line : List ℕ) → (length (strip_carriage_return line) ≤ length line) × (length line ≤ length (strip_carriage_return line) + 1)
stripped_length line =
    elim (cases_Bool (eqb (get_or line (length line - 1) 0) 13)) [
      | inl return ↦
          let e : strip_carriage_return line ≡ take (length line - 1) line = ap (λ b. cond b (take (length line - 1) line) line) return in
          (omega (arith, ap length e, length-take (length line - 1) line), omega (arith, ap length e, length-take (length line - 1) line))
      | inr plain ↦
          let e : strip_carriage_return line ≡ line = ap (λ b. cond b (take (length line - 1) line) line) plain in
          (omega (arith, ap length e), omega (arith, ap length e))
    ]

pub first_line_ended : (bytes : List ℕ) → line_feed_place bytes < length bytes → first_line bytes ≡ strip_carriage_return (take (line_feed_place bytes) bytes)
first_line_ended bytes some =
    ap (λ b. cond b bytes (strip_carriage_return (take (line_feed_place bytes) bytes))) (ne_eqb (line_feed_place bytes) (length bytes) (λ e. absurd (omega (arith, e))))

pub first_line_last : (bytes : List ℕ) → line_feed_place bytes ≡ length bytes → first_line bytes ≡ bytes
first_line_last bytes none = ap (λ b. cond b bytes (strip_carriage_return (take (line_feed_place bytes) bytes))) (eq-eqb (line_feed_place bytes) (length bytes) none)

-- a line of a file and the place behind it
pub record IsRecord (bytes : List ℕ) (at : ℕ) (line : List ℕ) (next : ℕ) : Type 0 where
  pub some : 0 < length (drop at bytes)
  pub first : first_line (drop at bytes) ≡ line
  pub behind : length bytes - length (behind_line (drop at bytes)) ≡ next

-- so far no line feed was met, and one stands in what is left
pub record_found : (bytes held taken line : List ℕ) (at from width : ℕ) → drop at bytes ≡ held ++ drop from bytes → line_feed_place held ≡ length held → at + length held ≡ from → width < length (drop from bytes)
    → width ≡ line_feed_place (drop from bytes) → taken ≡ held ++ take width (drop from bytes) → line ≡ strip_carriage_return taken → IsRecord bytes at line (from + width + 1)
record_found bytes held taken line at from width rest none place some found now made =
    let here : line_feed_place (drop at bytes) ≡ length held + width = ap line_feed_place rest ∙ place_behind held (drop from bytes) none ∙ ap (λ n. length held + n) (sym found) in
    let all : length (drop at bytes) ≡ length bytes - at = length-drop at bytes in
    let left : length (drop from bytes) ≡ length bytes - from = length-drop from bytes in
    let text : take (line_feed_place (drop at bytes)) (drop at bytes) ≡ held ++ take width (drop from bytes) =
    ap (λ n. take n (drop at bytes)) here ∙ ap (take (length held + width)) rest ∙ take-append-add held (drop from bytes) width in
    record {
      some = omega arith;
      first = first_line_ended (drop at bytes) (omega arith) ∙ ap strip_carriage_return (text ∙ sym now) ∙ sym made;
      behind = omega (arith, length-drop (line_feed_place (drop at bytes) + 1) (drop at bytes));
    }

-- a part of a line, taken out of the front of what is left
pub part_of_front : (rest piece old new : List ℕ) (part : LinePart) → piece ≡ take (length piece) rest → IsPartOf piece old part new → IsPartOf rest old part new
part_of_front rest piece old new (Ended width) is (some, found, now) = (
  omega (arith, ap length is, length-take (length piece) rest),
  found ∙ sym (place_in_front rest piece (length piece) is (omega arith)),
  now ∙ ap (λ s. old ++ s) (ap (take width) is ∙ take-take width (length piece) rest (omega arith)),
)
part_of_front rest piece old new (Open width) is (fits, found, now) =
    let front : take width piece ≡ take width rest = ap (take width) is ∙ take-take width (length piece) rest fits in
    (omega (arith, ap length is, length-take (length piece) rest), found ∙ ap line_feed_place front, now ∙ ap (λ s. old ++ s) front)

-- up to the end of the file no line feed was met
pub record_ended : (bytes held : List ℕ) (at from : ℕ) → drop at bytes ≡ held ++ drop from bytes → line_feed_place held ≡ length held → from ≡ length bytes → 0 < length held
    → IsRecord bytes at held from
record_ended bytes held at from rest none end some =
    let all : drop at bytes ≡ held = rest ∙ ap (λ s. held ++ s) (drop_all from bytes (omega arith)) ∙ append-nil held in
    let whole : line_feed_place (drop at bytes) ≡ length (drop at bytes) = ap line_feed_place all ∙ none ∙ sym (ap length all) in
    record {
      some = omega (arith, ap length all);
      first = first_line_last (drop at bytes) whole ∙ all;
      behind = omega (arith, length-drop (line_feed_place (drop at bytes) + 1) (drop at bytes));
    }

-- the line is longer than what was taken of it, less a carriage return
pub record_longer : (bytes held : List ℕ) (at from limit : ℕ) → drop at bytes ≡ held ++ drop from bytes → line_feed_place held ≡ length held → limit + 1 < length held
    → (0 < length (drop at bytes)) × (limit < length (first_line (drop at bytes)))
record_longer bytes held at from limit rest none long =
    let here : line_feed_place (drop at bytes) ≡ length held + line_feed_place (drop from bytes) = ap line_feed_place rest ∙ place_behind held (drop from bytes) none in
    let all : length (drop at bytes) ≡ length held + length (drop from bytes) = ap length rest ∙ length-append held (drop from bytes) in (
      omega arith,
      elim (cases_lt (line_feed_place (drop at bytes)) (length (drop at bytes))) [
        | inl some ↦ omega (
          arith,
          ap length (first_line_ended (drop at bytes) some),
          stripped_length (take (line_feed_place (drop at bytes)) (drop at bytes)),
          length-take (line_feed_place (drop at bytes)) (drop at bytes),
        )
        | inr past ↦
            let whole : line_feed_place (drop at bytes) ≡ length (drop at bytes) = omega (arith, place-le-length (drop at bytes)) in
            omega (arith, ap length (first_line_last (drop at bytes) whole))
      ],
    )

-- the definition at each of its three answers
pub at_line : (bytes : List ℕ) (at limit : ℕ) (line : List ℕ) (next : ℕ) → IsRecord bytes at line next → length line ≤ limit → Line next ≡ record_at bytes at limit
at_line bytes at limit line next is short =
    sym (ap (λ b. cond b End (cond (leb (length (first_line (drop at bytes))) limit) (Line (length bytes - length (behind_line (drop at bytes)))) TooLong)) (ne_eqb (length (drop at bytes)) 0 (λ e. absurd (omega (arith, e, is.some))))
    ∙ ap (λ b. cond b (Line (length bytes - length (behind_line (drop at bytes)))) TooLong) (le-leb (length (first_line (drop at bytes))) limit (omega (arith, ap length is.first)))
    ∙ ap Line is.behind)

pub at_long : (bytes : List ℕ) (at limit : ℕ) → 0 < length (drop at bytes) → limit < length (first_line (drop at bytes)) → TooLong ≡ record_at bytes at limit
at_long bytes at limit some long =
    sym (ap (λ b. cond b End (cond (leb (length (first_line (drop at bytes))) limit) (Line (length bytes - length (behind_line (drop at bytes)))) TooLong)) (ne_eqb (length (drop at bytes)) 0 (λ e. absurd (omega (arith, e))))
    ∙ ap (λ b. cond b (Line (length bytes - length (behind_line (drop at bytes)))) TooLong) (lt-leb (length (first_line (drop at bytes))) limit long))

pub at_end : (bytes : List ℕ) (at limit : ℕ) → length bytes ≤ at → End ≡ record_at bytes at limit
at_end bytes at limit past =
    sym (ap (λ b. cond b End (cond (leb (length (first_line (drop at bytes))) limit) (Line (length bytes - length (behind_line (drop at bytes)))) TooLong)) (eq-eqb (length (drop at bytes)) 0 (omega (arith, length-drop at bytes))))

-- what `fitted` ensures
pub record IsFitted (line : List ℕ) (limit next : ℕ) (answer : RecordRead) (text : List ℕ) : Type 0 where
  pub whole : length line ≤ limit → (answer ≡ Line next) × (text ≡ line)
  pub too_long : limit < length line → (answer ≡ TooLong) × (text ≡ [])

pub fitted_answer : (bytes : List ℕ) (at limit : ℕ) (line : List ℕ) (next : ℕ) (answer : RecordRead) (text : List ℕ) → IsRecord bytes at line next → IsFitted line limit next answer text
    → (answer ≡ record_at bytes at limit) × HoldsRecord bytes at answer text
fitted_answer bytes at limit line next answer text is fits =
    elim (cases_lt limit (length line)) [
      | inl long ↦
          let got = fits.too_long long in
          (got.0 ∙ at_long bytes at limit is.some (omega (arith, ap length is.first)), rw got.0 got.1)
      | inr short ↦
          let got = fits.whole short in
          (got.0 ∙ at_line bytes at limit line next is short, rw got.0 (got.1 ∙ sym is.first))
    ]

pub fitted_within : (size at limit : ℕ) (line : List ℕ) (next : ℕ) (answer : RecordRead) (text : List ℕ) → at < next → next ≤ size → at + length line ≤ next → IsFitted line limit next answer text
    → (limit < length line → at + limit < size) → IsWithin size at limit answer text
fitted_within size at limit line next answer text above below room fits long =
    elim (cases_lt limit (length line)) [
      | inl more ↦ let got = fits.too_long more in rw got.0 (long more, got.1)
      | inr short ↦ let got = fits.whole short in rw got.0 (above, below, omega (arith, ap length got.1), omega (arith, ap length got.1))
    ]

-- what is left behind a next piece
pub rest_more : (bytes held piece held' : List ℕ) (at from count : ℕ) → drop at bytes ≡ held ++ drop from bytes → piece ≡ take count (drop from bytes) → held' ≡ held ++ piece
    → drop at bytes ≡ held' ++ drop (from + count) bytes
rest_more bytes held piece held' at from count rest is now =
    let next : drop from bytes ≡ piece ++ drop (from + count) bytes = sym (take-append-drop count (drop from bytes)) ∙ ap (λ s. s ++ drop count (drop from bytes)) (sym is) ∙ ap (λ s. piece ++ s) (drop-drop count from bytes) in
    rest ∙ ap (λ s. held ++ s) next ∙ sym (append_assoc held piece (drop (from + count) bytes)) ∙ ap (λ s. s ++ drop (from + count) bytes) (sym now)
