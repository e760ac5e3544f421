-- No record that is written is longer than the limit.
use Rattle.std.proofs.Common.{◌≡◌, ℕ, zero, suc, ◌+◌, ◌-◌, ◌<◌, ◌≤◌, Bool, true, false, cond, ltb, List, [], ◌∷◌, ◌++◌, length, take, drop, Result, Ok, Err, refl, sym, ap, subst, ◌∙◌, inl, inr, arith, append_assoc}
use Rattle.std.specs.Prelude.{All}
use Rattle.std.specs.Str.Lines.{strip_carriage_return}
use Rattle.std.proofs.lemmas.Bool.{cases_lt}
use Rattle.std.proofs.lemmas.List.{drop_all, drop-append-le, length-append, length-drop, length-take}
use Rattle.fj_value.specs.declared.value.Cell.{Cell}
use Rattle.fj_value.specs.declared.condition.Condition.{Condition}
use Rattle.fj_value.specs.declared.condition.Condition.TheVariants.{Fine, Error}
use Rattle.fj_modes.specs.Modes.{usual_edit}
use Rattle.fj_seqrec.specs.Lines.{lines, first_line, behind_line}
use Rattle.fj_seqrec.proofs.LineLemmas.{lines_first, fed_first, fed_behind}
use Rattle.fj_seqrec.proofs.Positions.{line_feed_place, place-le-length, place_within}
use Rattle.fj_seqrec.proofs.ReadLaws.{first_line_ended, first_line_last, stripped_length}
use Rattle.fj_line.specs.Actions.{Action, AtHand, first_record, carried_out}
use Rattle.fj_line.specs.Records.{texts_of}
use Rattle.fj_list.specs.ListText.{text_of}
use Rattle.fj_connect.specs.Connection.{Connection}
use Rattle.fj_transfer.specs.Change.{changed}
use Rattle.fj_transfer.specs.Printing.{Printed, printed, printed_of, actions_by, if_fine, open_count}
use Rattle.fj_transfer.specs.Transfer.{Done, in_error, told_with, with_text, lines_written, ends_record, transfer_by}
use Rattle.fj_transfer.specs.Writing.{AreShort}
use Rattle.fj_transfer.proofs.PieceLemmas.{are_short}
use Rattle.fj_internal.specs.InternalLaws.{NoRecordIsLonger}
use Rattle.fj_internal.proofs.LawProofs.{text_behind}
use Rattle.fj_internal.proofs.Writing.{written_is}

-- ---- lines

first_fed : (b : List ℕ) → line_feed_place b < length b → length (first_line b) ≤ line_feed_place b
first_fed b fed = omega (arith, ap (λ (l : List ℕ). length l) (first_line_ended b fed), (stripped_length (take (line_feed_place b) b)).0, length-take (line_feed_place b) b)

first_within : (b : List ℕ) → length (first_line b) ≤ length b
first_within b = elim (cases_lt (line_feed_place b) (length b)) [
  | inl fed ↦ omega (arith, first_fed b fed)
  | inr past ↦ omega (arith, ap (λ (l : List ℕ). length l) (first_line_last b (omega (arith, place-le-length b))))
]

-- of so many bytes
within : (n m : ℕ) (b : List ℕ) → length b ≤ m → length b ≤ n → AreShort n (lines b)
within n m [] low short = tt
within n zero (y ∷ ys) low short = absurd (omega (arith, low))
within n (suc m) (y ∷ ys) low short =
    let behind = length-drop (line_feed_place (y ∷ ys) + 1) (y ∷ ys) in
    subst (AreShort n) (sym (lines_first (y ∷ ys) (omega arith)))
    (omega (arith, first_within (y ∷ ys)), within n m (behind_line (y ∷ ys)) (omega (arith, behind)) (omega (arith, behind)))

-- the last part of a text, which holds no line feed
last_part : (n : ℕ) (t rest : List ℕ) → line_feed_place t ≡ length t → length t ≤ n → AreShort n (lines rest) → AreShort n (lines (t ++ 10 ∷ rest))
last_part n t rest whole short h =
    let is : lines (t ++ 10 ∷ rest) ≡ strip_carriage_return t ∷ lines rest =
    lines_first (t ++ 10 ∷ rest) (omega (arith, length-append t (10 ∷ rest)))
    ∙ ap (λ (l : List ℕ). l ∷ lines (behind_line (t ++ 10 ∷ rest))) (fed_first t rest whole)
    ∙ ap (λ (b : List ℕ). strip_carriage_return t ∷ lines b) (fed_behind t rest whole) in
    subst (AreShort n) (sym is) (omega (arith, (stripped_length t).0), h)

-- a text that is not longer, with its line feed
text_more : (n m : ℕ) (t rest : List ℕ) → length t ≤ m → length t ≤ n → AreShort n (lines rest) → AreShort n (lines (t ++ 10 ∷ rest))
text_more n zero t rest low short h = last_part n t rest (omega (arith, place-le-length t)) short h
text_more n (suc m) t rest low short h = elim (cases_lt (line_feed_place t) (length t)) [
  | inl fed ↦
      let place : line_feed_place (t ++ 10 ∷ rest) ≡ line_feed_place t = place_within t (10 ∷ rest) fed in
      let long = length-append t (10 ∷ rest) in
      let first : length (first_line (t ++ 10 ∷ rest)) ≤ line_feed_place (t ++ 10 ∷ rest) = first_fed (t ++ 10 ∷ rest) (omega (arith, place, length-append t (10 ∷ rest))) in
      let behind : behind_line (t ++ 10 ∷ rest) ≡ drop (line_feed_place t + 1) t ++ 10 ∷ rest =
      ap (λ k. drop (k + 1) (t ++ 10 ∷ rest)) place ∙ drop-append-le (line_feed_place t + 1) t (10 ∷ rest) (omega (arith, fed)) in
      let left = length-drop (line_feed_place t + 1) t in
      let more : AreShort n (lines (drop (line_feed_place t + 1) t ++ 10 ∷ rest)) = text_more n m (drop (line_feed_place t + 1) t) rest (omega (arith, low, fed, length-drop (line_feed_place t + 1) t)) (omega (arith, short, length-drop (line_feed_place t + 1) t)) h in
      let B : List ℕ → Type 0 = λ b. AreShort n (lines b) in
      subst (AreShort n) (sym (lines_first (t ++ 10 ∷ rest) (omega (arith, length-append t (10 ∷ rest))))) (omega (arith, first, place, fed, short), subst B (sym behind) more)
  | inr past ↦ last_part n t rest (omega (arith, past, place-le-length t)) short h
]

all_texts : (n : ℕ) (texts : List (List ℕ)) (last : List ℕ) → AreShort n texts → length last ≤ n → AreShort n (lines (text_of texts ++ last))
all_texts n [] last h short = within n (length last) last (omega arith) short
all_texts n (t ∷ ts) last h short =
    let B : List ℕ → Type 0 = λ b. AreShort n (lines b) in
    let is : text_of (t ∷ ts) ++ last ≡ t ++ 10 ∷ (text_of ts ++ last) = append_assoc (t ++ 10 ∷ []) (text_of ts) last ∙ append_assoc t (10 ∷ []) (text_of ts ++ last) in
    subst B (sym is) (text_more n (length t) t (text_of ts ++ last) (omega arith) h.0 (all_texts n ts last h.1 short))

-- ---- what is printed

of_printed : (n : ℕ) (texts : List (List ℕ)) → AreShort n texts → AreShort n (printed_of texts).records × (length (printed_of texts).«open» ≤ n)
of_printed n [] h = (tt, omega arith)
of_printed n (t ∷ []) h = (tt, h.0)
of_printed n (t ∷ u ∷ us) h = let more = of_printed n (u ∷ us) h.1 in ((h.0, more.0), more.1)

printed_short : (n : ℕ) (acts : List Action) (p : Printed) (r : Result AtHand Condition) → carried_out (first_record n 0) acts ≡ r → if_fine acts r ≡ Ok p → AreShort n (lines (text_of p.records ++ p.«open»))
printed_short n acts p (Ok last) is e =
    let same : printed_of (texts_of acts) ≡ p = cc in
    let short = of_printed n (texts_of acts) (are_short n (first_record n 0) last acts refl (omega arith) is) in
    let P : Printed → Type 0 = λ q. AreShort n (lines (text_of q.records ++ q.«open»)) in
    subst P same (all_texts n (printed_of (texts_of acts)).records (printed_of (texts_of acts)).«open» short.0 short.1)
printed_short n acts p (Err k) is e = cc

-- ---- the law

each : (n : ℕ) (texts : List (List ℕ)) → AreShort n texts → All (λ text. length text ≤ n) texts
each n [] h k d low = absurd (omega (arith, low))
each n (t ∷ ts) h zero d low = h.0
each n (t ∷ ts) h (suc k) d low = each n ts h.1 k d (omega arith)

unless_long : (n : ℕ) (c new : Connection) (cells : List Cell) (t : Bool) → (cond t (in_error c false cells (Error 25)) (told_with new cells Fine)).condition ≡ Fine → AreShort n (lines (drop c.spot.at new.bytes))
    → AreShort n (lines (drop c.spot.at (cond t (in_error c false cells (Error 25)) (told_with new cells Fine)).connection.bytes))
unless_long n c new cells true fine h = cc
unless_long n c new cells false fine h = h

lines_short : (c : Connection) (ends : Bool) (cells : List Cell) (pr : Result Printed Condition) → c.spot.at ≡ length c.bytes → ((p : Printed) → pr ≡ Ok p → AreShort c.modes.recl (lines (text_of p.records ++ p.«open»)))
    → (lines_written c c [] ends cells pr).condition ≡ Fine → AreShort c.modes.recl (lines (drop c.spot.at (lines_written c c [] ends cells pr).connection.bytes))
lines_short c ends cells (Err k) end short fine =
    subst (AreShort c.modes.recl) (sym (ap lines (drop_all c.spot.at c.bytes (omega (arith, end))))) tt
lines_short c ends cells (Ok p) end short fine =
    let text = text_of p.records ++ p.«open» in
    let count = open_count (c.spot.at - c.spot.start) p in
    let B : List ℕ → Type 0 = λ b. AreShort c.modes.recl (lines b) in
    unless_long c.modes.recl c (with_text c ends (text_of p.records ++ p.«open») (open_count (c.spot.at - c.spot.start) p)) cells
    (ltb 268435456 (length (with_text c ends (text_of p.records ++ p.«open») (open_count (c.spot.at - c.spot.start) p)).bytes + cond ends 0 1)) fine
    (subst B (sym (text_behind c ends (text_of p.records ++ p.«open») (open_count (c.spot.at - c.spot.start) p) end)) (short p refl))

pub no_longer : NoRecordIsLonger
no_longer control c spec moved o allowed end none fed is fine =
    let outside = written_is control c spec moved o allowed none fed is in
    let B : Done → Type 0 = λ d. AreShort c.modes.recl (lines (drop c.spot.at d.connection.bytes)) in
    each c.modes.recl (lines (drop c.spot.at (transfer_by control c spec moved).connection.bytes)) (subst B (sym outside)
    (lines_short c (ends_record spec) moved.cells (printed c.modes.recl 0 spec control (changed spec.edit usual_edit) moved) end
    (λ p e. printed_short c.modes.recl (actions_by spec.layout control (changed spec.edit usual_edit) spec.advance moved) p
    (carried_out (first_record c.modes.recl 0) (actions_by spec.layout control (changed spec.edit usual_edit) spec.advance moved)) refl e)
    (ap (λ (d : Done). d.condition) (sym outside) ∙ fine)))
