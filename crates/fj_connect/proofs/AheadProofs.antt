-- The records of bytes behind which a line feed is put.
use Rattle.std.proofs.Common.{◌≡◌, ◌≢◌, cond, leb, ◌∷◌, ◌+◌, ◌-◌, ◌<◌, ◌≤◌, ℕ, List, [], ◌++◌, length, take, drop, arith, refl, sym, ap, ◌∙◌, inl, inr}
use Rattle.std.proofs.lemmas.Bool.{cases_lt, cases_eq, ne_eqb, le-leb}
use Rattle.std.proofs.lemmas.List.{drop_at, length-take, length-drop, length-append, drop-append-le, take-append-le, take_all}
use Rattle.std.specs.Str.Lines.{strip_carriage_return}
use Rattle.fj_seqrec.specs.declared.read.RecordRead.{RecordRead}
use Rattle.fj_seqrec.specs.declared.read.RecordRead.TheVariants.{Line, End, TooLong}
use Rattle.fj_seqrec.specs.Lines.{first_line, behind_line}
use Rattle.fj_seqrec.specs.Reading.{record_at, HoldsRecord}
use Rattle.fj_seqrec.proofs.Positions.{line_feed_place, place-le-length, place_within}
use Rattle.fj_seqrec.proofs.ReadLaws.{first_line_ended, first_line_last, stripped_length, IsRecord, at_line, at_long, at_end}
use Rattle.fj_seqrec.proofs.LineLemmas.{fed_first, fed_behind}
use Rattle.fj_connect.specs.Connection.{Connection}
use Rattle.fj_connect.specs.Positions.{ended}
use Rattle.fj_connect.specs.Spot.{size_ended}
use Rattle.fj_connect.specs.PositionLaws.{Stands}
use Rattle.fj_connect.specs.EndingLaws.{EndedSizes}
use Rattle.fj_connect.specs.declared.spot.Within.{Within}
use Rattle.fj_connect.specs.declared.spot.Within.TheVariants.{Outside, Reading, Writing}

-- the bytes once the open record at their end has its line feed
pub ended_bytes : (c : Connection) → c.spot.within ≡ Writing → c.spot.at ≡ length c.bytes → (ended c).bytes ≡ c.bytes ++ 10 ∷ []
ended_bytes c w at = rw w (ap (λ s. s ++ 10 ∷ []) (take_all c.spot.at c.bytes (omega (arith, at))))

fed_rest : (bytes : List ℕ) (at : ℕ) → at ≤ length bytes → drop at (bytes ++ 10 ∷ []) ≡ drop at bytes ++ 10 ∷ []
fed_rest bytes at low = drop-append-le at bytes (10 ∷ []) low

-- where a record begins before the last byte: its place behind it tells whether a line feed ends it
line_was : (bytes : List ℕ) (at limit next : ℕ) → at < length bytes → Line next ≡ record_at bytes at limit → next ≡ length bytes - length (behind_line (drop at bytes))
line_was bytes at limit next low is =
    let some : ◌≢◌ {A = ℕ} (length (drop at bytes)) 0 = λ e. absurd (omega (arith, e, length-drop at bytes)) in
    let here : record_at bytes at limit ≡ cond (leb (length (first_line (drop at bytes))) limit) (Line (length bytes - length (behind_line (drop at bytes)))) TooLong =
    ap (λ b. cond b End (cond (leb (length (first_line (drop at bytes))) limit) (Line (length bytes - length (behind_line (drop at bytes)))) TooLong)) (ne_eqb (length (drop at bytes)) 0 some) in
    elim (cases_lt limit (length (first_line (drop at bytes)))) [
      | inl long ↦
          let no : Line next ≡ TooLong = is ∙ sym (at_long bytes at limit (omega (arith, length-drop at bytes)) long) in
          cc
      | inr short ↦
          let same : Line next ≡ Line (length bytes - length (behind_line (drop at bytes))) =
          is ∙ here ∙ ap (λ b. cond b (Line (length bytes - length (behind_line (drop at bytes)))) TooLong) (le-leb (length (first_line (drop at bytes))) limit short) in
          cc
    ]

-- where no line feed ends it, it is the last one
open_place : (bytes : List ℕ) (at next : ℕ) → at < length bytes → next ≡ length bytes - length (behind_line (drop at bytes)) → next ≡ at + length (first_line (drop at bytes))
    → line_feed_place (drop at bytes) ≡ length (drop at bytes)
open_place bytes at next low is unfed = elim (cases_lt (line_feed_place (drop at bytes)) (length (drop at bytes))) [
  | inl fed ↦ absurd (omega (
    arith,
    is,
    unfed,
    ap (λ s. length s) (first_line_ended (drop at bytes) fed),
    (stripped_length (take (line_feed_place (drop at bytes)) (drop at bytes))).0,
    length-take (line_feed_place (drop at bytes)) (drop at bytes),
    length-drop (line_feed_place (drop at bytes) + 1) (drop at bytes),
    length-drop at bytes,
  ))
  | inr past ↦ omega (arith, past, place-le-length (drop at bytes))
]

whole_place : (bytes : List ℕ) (at next : ℕ) → at < length bytes → next ≡ length bytes - length (behind_line (drop at bytes)) → next ≢ at + length (first_line (drop at bytes))
    → line_feed_place (drop at bytes) < length (drop at bytes)
whole_place bytes at next low is whole = elim (cases_lt (line_feed_place (drop at bytes)) (length (drop at bytes))) [
  | inl fed ↦ fed
  | inr past ↦
      let none : line_feed_place (drop at bytes) ≡ length (drop at bytes) = omega (arith, past, place-le-length (drop at bytes)) in
      let all : next ≡ at + length (first_line (drop at bytes)) = omega (
        arith,
        is,
        ap (λ s. length s) (first_line_last (drop at bytes) none),
        length-drop (line_feed_place (drop at bytes) + 1) (drop at bytes),
        length-drop at bytes,
      ) in
      absurd (whole all)
]

pub fed_open : (bytes : List ℕ) (at next : ℕ) → at < length bytes → next ≡ length bytes - length (behind_line (drop at bytes)) → next ≡ at + length (first_line (drop at bytes))
    → IsRecord (bytes ++ 10 ∷ []) at (strip_carriage_return (first_line (drop at bytes))) (next + 1)
fed_open bytes at next low is unfed =
    let none = open_place bytes at next low is unfed in
    let rest = fed_rest bytes at (omega (arith, low)) in
    let behind : behind_line (drop at (bytes ++ 10 ∷ [])) ≡ [] = ap behind_line rest ∙ fed_behind (drop at bytes) [] none in
    record {
      some = omega (arith, ap (λ s. length s) rest, length-append (drop at bytes) (10 ∷ []));
      first = ap first_line rest ∙ fed_first (drop at bytes) [] none ∙ ap strip_carriage_return (sym (first_line_last (drop at bytes) none));
      behind = omega (arith, unfed, ap (λ s. length s) behind, length-append bytes (10 ∷ []), ap (λ s. length s) (first_line_last (drop at bytes) none), length-drop at bytes);
    }

pub fed_whole : (bytes : List ℕ) (at next : ℕ) → at < length bytes → next ≡ length bytes - length (behind_line (drop at bytes)) → next ≢ at + length (first_line (drop at bytes))
    → IsRecord (bytes ++ 10 ∷ []) at (first_line (drop at bytes)) next
fed_whole bytes at next low is whole =
    let fed = whole_place bytes at next low is whole in
    let rest = fed_rest bytes at (omega (arith, low)) in
    let place : line_feed_place (drop at (bytes ++ 10 ∷ [])) ≡ line_feed_place (drop at bytes) = ap line_feed_place rest ∙ place_within (drop at bytes) (10 ∷ []) fed in
    let long : length (drop at (bytes ++ 10 ∷ [])) ≡ length (drop at bytes) + 1 = ap (λ s. length s) rest ∙ length-append (drop at bytes) (10 ∷ []) in
    record {
      some = omega (arith, long);
      first = first_line_ended (drop at (bytes ++ 10 ∷ [])) (omega (arith, place, long, fed))
          ∙ ap strip_carriage_return (ap (λ n. take n (drop at (bytes ++ 10 ∷ []))) place ∙ ap (take (line_feed_place (drop at bytes))) rest ∙ take-append-le (line_feed_place (drop at bytes)) (drop at bytes) (10 ∷ []) (omega (arith, fed)))
          ∙ sym (first_line_ended (drop at bytes) fed);
      behind = omega (
        arith,
        is,
        place,
        long,
        fed,
        length-drop (line_feed_place (drop at (bytes ++ 10 ∷ [])) + 1) (drop at (bytes ++ 10 ∷ [])),
        length-drop (line_feed_place (drop at bytes) + 1) (drop at bytes),
        length-append bytes (10 ∷ []),
        length-drop at bytes,
      );
    }

-- a record that is too long by two characters stays too long
fed_length : (bytes : List ℕ) (at : ℕ) → at < length bytes → length (first_line (drop at bytes)) ≤ length (first_line (drop at (bytes ++ 10 ∷ []))) + 1
fed_length bytes at low =
    let next = length bytes - length (behind_line (drop at bytes)) in
    elim (cases_eq (length bytes - length (behind_line (drop at bytes))) (at + length (first_line (drop at bytes)))) [
      | inl unfed ↦ omega (arith, ap (λ s. length s) (fed_open bytes at (length bytes - length (behind_line (drop at bytes))) low refl unfed).first, (stripped_length (first_line (drop at bytes))).1)
      | inr whole ↦ omega (arith, ap (λ s. length s) (fed_whole bytes at (length bytes - length (behind_line (drop at bytes))) low refl whole).first)
    ]

end_was : (bytes : List ℕ) (at limit : ℕ) → End ≡ record_at bytes at limit → length bytes ≤ at
end_was bytes at limit is = elim (cases_lt at (length bytes)) [
  | inr past ↦ past
  | inl low ↦
      let some : 0 < length (drop at bytes) = omega (arith, length-drop at bytes) in
      elim (cases_lt limit (length (first_line (drop at bytes)))) [
        | inl long ↦
            let no : End ≡ TooLong = is ∙ sym (at_long bytes at limit some long) in
            cc
        | inr short ↦
            let no : End ≡ Line (length bytes - length (behind_line (drop at bytes))) =
            is ∙ sym (at_line bytes at limit (first_line (drop at bytes)) (length bytes - length (behind_line (drop at bytes))) (record { some = some; first = refl; behind = refl }) short) in
            cc
      ]
]

long_was : (bytes : List ℕ) (at limit : ℕ) → at < length bytes → TooLong ≡ record_at bytes at limit → limit < length (first_line (drop at bytes))
long_was bytes at limit low is = elim (cases_lt limit (length (first_line (drop at bytes)))) [
  | inl long ↦ long
  | inr short ↦
      let some : 0 < length (drop at bytes) = omega (arith, length-drop at bytes) in
      let no : TooLong ≡ Line (length bytes - length (behind_line (drop at bytes))) =
      is ∙ sym (at_line bytes at limit (first_line (drop at bytes)) (length bytes - length (behind_line (drop at bytes))) (record { some = some; first = refl; behind = refl }) short) in
      cc
]

pub fed_long : (bytes : List ℕ) (at limit : ℕ) → at < length bytes → TooLong ≡ record_at bytes at (limit + 1) → TooLong ≡ record_at (bytes ++ 10 ∷ []) at limit
fed_long bytes at limit low is =
    at_long (bytes ++ 10 ∷ []) at limit (omega (arith, length-drop at (bytes ++ 10 ∷ []), length-append bytes (10 ∷ []), low)) (omega (arith, long_was bytes at (limit + 1) low is, fed_length bytes at low))

-- the end of the file: an empty record before the line feed, none behind it
pub fed_last : (bytes : List ℕ) (at limit : ℕ) → at ≡ length bytes → (Line (at + 1) ≡ record_at (bytes ++ 10 ∷ []) at limit) × HoldsRecord (bytes ++ 10 ∷ []) at (Line (at + 1)) []
fed_last bytes at limit is =
    let rest : drop at (bytes ++ 10 ∷ []) ≡ 10 ∷ [] = drop_at bytes (10 ∷ []) at (sym is) in
    let here : IsRecord (bytes ++ 10 ∷ []) at [] (at + 1) = record {
      some = omega (arith, ap (λ s. length s) rest);
      first = ap first_line rest;
      behind = ap (λ s. length (bytes ++ 10 ∷ []) - length (behind_line s)) rest ∙ omega (arith, length-append bytes (10 ∷ []), is);
    } in (at_line (bytes ++ 10 ∷ []) at limit [] (at + 1) here (omega arith), sym (ap first_line rest))

pub fed_end : (bytes : List ℕ) (at limit : ℕ) → length bytes < at → End ≡ record_at (bytes ++ 10 ∷ []) at limit
fed_end bytes at limit past = at_end (bytes ++ 10 ∷ []) at limit (omega (arith, length-append bytes (10 ∷ [])))

-- what was read before the line feed is there, as it is behind it
pub fed_record : (bytes held line : List ℕ) (at limit next behind : ℕ) → at < length bytes → Line next ≡ record_at bytes at limit → held ≡ first_line (drop at bytes)
    → (next ≡ at + length held → (behind ≡ next + 1) × (line ≡ strip_carriage_return held)) → (next ≢ at + length held → (behind ≡ next) × (line ≡ held))
    → IsRecord (bytes ++ 10 ∷ []) at line behind
fed_record bytes held line at limit next behind low is now unfed whole =
    let was = line_was bytes at limit next low is in
    elim (cases_eq next (at + length held)) [
      | inl e ↦ rw ((unfed e).0, (unfed e).1, now) (fed_open bytes at next low was (e ∙ ap (λ s. at + length s) now))
      | inr d ↦ rw ((whole d).0, (whole d).1, now) (fed_whole bytes at next low was (λ e. d (e ∙ ap (λ s. at + length s) (sym now))))
    ]

-- where no record was found before the last byte, it is too long
pub fed_read : (bytes : List ℕ) (at limit : ℕ) (read : RecordRead) (held : List ℕ) → at < length bytes → ((next : ℕ) → read ≡ Line next → ⊥) → read ≡ record_at bytes at (limit + 1) → HoldsRecord bytes at read held
    → (read ≡ record_at (bytes ++ 10 ∷ []) at limit) × HoldsRecord (bytes ++ 10 ∷ []) at read held
fed_read bytes at limit (Line next) held low other is holds = absurd (other next refl)
fed_read bytes at limit End held low other is holds = absurd (omega (arith, end_was bytes at (limit + 1) is, low))
fed_read bytes at limit TooLong held low other is holds = (fed_long bytes at limit low is, holds)

ended_size : (c : Connection) (within : Within) → c.spot.within ≡ within → Stands c → length (ended c).bytes ≡ size_ended c.spot (length c.bytes)
ended_size c Outside is stands = rw is refl
ended_size c Reading is stands = rw is refl
ended_size c Writing is stands = ap (λ s. length s) (ended_bytes c is (stands.record_open is).2) ∙ length-append c.bytes (10 ∷ []) ∙ rw is refl

pub ended_sizes : EndedSizes
ended_sizes c stands = ended_size c c.spot.within refl stands
