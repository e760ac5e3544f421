-- Records of direct access that are put at once.
use Rattle.std.proofs.Common.{◌≡◌, ℕ, ◌+◌, ◌-◌, ◌*◌, ◌<◌, ◌≤◌, Bool, true, false, cond, ltb, List, [], ◌∷◌, ◌++◌, length, take, drop, replicate, max, Option, Some, None, Result, Ok, refl, sym, ap, ◌∙◌, inl, inr, arith, append_assoc}
use Rattle.std.proofs.lemmas.Bool.{lt-ltb, cases_lt}
use Rattle.std.proofs.lemmas.List.{append-nil, take_at, drop_at, drop-drop, length-append, length-take, length-replicate}
use Rattle.fj_value.specs.declared.condition.Condition.{Condition}
use Rattle.fj_value.specs.declared.condition.Condition.TheVariants.{Error}
use Rattle.fj_outside.specs.Bytes.{written}
use Rattle.fj_outside.proofs.ByteLaws.{length-written}
use Rattle.fj_byterec.specs.Pieces.{record_start, filled_to, with_record}
use Rattle.fj_byterec.specs.Runs.{run_of, with_run}
use Rattle.fj_byterec.proofs.RecordLaws.{record_end, record_long}
use Rattle.fj_connect.specs.Connection.{Connection, at_number, with_direct}
use Rattle.fj_connect.specs.DirectRuns.{with_direct_run}
use Rattle.fj_line.specs.Line.{LineState, most_bytes, empty_line, written as put_on, moved}
use Rattle.fj_line.specs.Actions.{Action, put, move, end_record, meet, AtHand, behind, condition_in, excess_of, unless, carried_out}
use Rattle.fj_line.specs.Records.{texts_from}
use Rattle.fj_transfer.specs.Printing.{printed_of}
use Rattle.fj_transfer.specs.Transfer.{with_pieces}
use Rattle.fj_transfer.specs.Writing.{AreShort}
use Rattle.fj_transfer.proofs.PrintedLemmas.{went_well}

-- ---- an action that was carried out, and the texts

abbrev pub ends : Action → Bool
ends end_record = true
ends _ = false

pub same_texts : (old new : AtHand) (a : Action) (rest : List Action) → ends a ≡ false → carried_out old (a ∷ []) ≡ Ok new → texts_from old.line (a ∷ rest) ≡ texts_from new.line rest
same_texts old new (put chars) rest e done =
    let same : Ok (behind (put chars) old) ≡ Ok new = went_well (condition_in (put chars) old) (Ok (behind (put chars) old)) new done in
    let is : behind (put chars) old ≡ new = cc in
    ap (λ (h : AtHand). texts_from h.line rest) is
same_texts old new (move how) rest e done =
    let is : behind (move how) old ≡ new = cc in
    ap (λ (h : AtHand). texts_from h.line rest) is
same_texts old new end_record rest e done = cc
same_texts old new (meet condition) rest e done = cc

pub ended_text : (old new : AtHand) (rest : List Action) → carried_out old (end_record ∷ []) ≡ Ok new → texts_from old.line (end_record ∷ rest) ≡ old.line.text ∷ texts_from new.line rest
ended_text old new rest done =
    let same : Ok (behind end_record old) ≡ Ok new = went_well (condition_in end_record old) (Ok (behind end_record old)) new done in
    let is : behind end_record old ≡ new = cc in
    ap (λ (h : AtHand). old.line.text ∷ texts_from h.line rest) is

-- the last record ends
pub texts_ended : (line : LineState) (xs : List Action) → texts_from line (xs ++ end_record ∷ []) ≡ texts_from line xs ++ [] ∷ []
texts_ended line [] = refl
texts_ended line (put chars ∷ more) = texts_ended (put_on chars line) more
texts_ended line (move how ∷ more) = texts_ended (moved how line) more
texts_ended line (end_record ∷ more) = ap (λ (l : List (List ℕ)). line.text ∷ l) (texts_ended empty_line more)
texts_ended line (meet condition ∷ more) = texts_ended line more

pub printed_ended : (texts : List (List ℕ)) → (printed_of (texts ++ [] ∷ [])).records ≡ texts
printed_ended [] = refl
printed_ended (t ∷ []) = refl
printed_ended (t ∷ u ∷ us) = ap (λ (l : List (List ℕ)). t ∷ l) (printed_ended (u ∷ us))

pub texts_there : (line : LineState) (xs : List Action) → 0 < length (texts_from line xs)
texts_there line [] = omega arith
texts_there line (put chars ∷ more) = texts_there (put_on chars line) more
texts_there line (move how ∷ more) = texts_there (moved how line) more
texts_there line (end_record ∷ more) = omega arith
texts_there line (meet condition ∷ more) = texts_there line more

-- no record is longer than the limit where all went well
room : (limit characters bytes : ℕ) → excess_of (Some limit) characters bytes ≡ None → characters ≤ limit
room limit characters bytes e = by (ltb limit characters) refl e
  where
    by : (b : Bool) → ltb limit characters ≡ b → cond b (Some (Error 15)) (cond (ltb most_bytes bytes) (Some (Error 26)) None) ≡ None → characters ≤ limit
    by true is none = cc
    by false is none = elim (cases_lt limit characters) [
      | inl past ↦ let h : true ≡ false = sym (lt-ltb limit characters past) ∙ is in cc
      | inr within ↦ within
    ]

none_of : (condition : Option Condition) (more : Result AtHand Condition) (last : AtHand) → unless condition more ≡ Ok last → condition ≡ None
none_of (Some condition) more last e = cc
none_of None more last e = refl

pub are_short : (limit : ℕ) (hand last : AtHand) (actions : List Action) → hand.limit ≡ Some limit → length hand.line.text ≤ limit → carried_out hand actions ≡ Ok last → AreShort limit (texts_from hand.line actions)
are_short limit hand last [] is short e = (short, tt)
are_short limit hand last (put chars ∷ more) is short e =
    let new = behind (put chars) hand in
    let rest = carried_out new more in
    let none : condition_in (put chars) hand ≡ None = none_of (condition_in (put chars) hand) rest last e in
    let fits : hand.start + length new.line.text ≤ limit = room limit (hand.start + length new.line.text) (length hand.ended + length new.line.text) (ap (λ l. excess_of l (hand.start + length new.line.text) (length hand.ended + length new.line.text)) (sym is) ∙ none) in
    are_short limit new last more is (omega arith) (went_well (condition_in (put chars) hand) rest last e)
are_short limit hand last (move how ∷ more) is short e = are_short limit (behind (move how) hand) last more is short e
are_short limit hand last (end_record ∷ more) is short e =
    (short, are_short limit (behind end_record hand) last more is (omega arith) (went_well (condition_in end_record hand) (carried_out (behind end_record hand) more) last e))
are_short limit hand last (meet condition ∷ more) is short e = cc

-- ---- records one after another

-- a write right behind another one
written_on : (old a b : List ℕ) (at : ℕ) → at ≤ length old → written (written old at a) (at + length a) b ≡ written old at (a ++ b)
written_on old a b at inside =
    let front = take at old ++ a in
    let rest = drop (at + length a) old in
    let long : length front ≡ at + length a = omega (arith, length-append (take at old) a, length-take at old) in
    let sum : at + length a + length b ≡ at + length (a ++ b) = omega (arith, length-append a b) in
    let behind' : drop (at + length a + length b) (front ++ rest) ≡ drop (at + length (a ++ b)) old =
    sym (drop-drop (length b) (at + length a) (front ++ rest))
    ∙ ap (drop (length b)) (drop_at front rest (at + length a) long)
    ∙ drop-drop (length b) (at + length a) old
    ∙ ap (λ n. drop n old) sum in
    ap (λ s. s ++ b ++ drop (at + length a + length b) (front ++ rest)) (take_at front rest (at + length a) long)
    ∙ ap (λ s. front ++ b ++ s) behind'
    ∙ ap (λ s. s ++ drop (at + length (a ++ b)) old) (append_assoc (take at old) a b)

start_there : (bytes : List ℕ) (start fill : ℕ) → start ≤ length (filled_to bytes start fill)
start_there bytes start fill = omega (arith, length-append bytes (replicate (start - length bytes) fill), length-replicate (start - length bytes) fill)

no_gap : (bytes : List ℕ) (start fill : ℕ) → start ≤ length bytes → filled_to bytes start fill ≡ bytes
no_gap bytes start fill inside =
    let none : start - length bytes ≡ 0 = omega arith in
    ap (λ n. bytes ++ replicate n fill) none ∙ append-nil bytes

pub run_long : (bytes run : List ℕ) (start fill : ℕ) → length (with_run bytes start run fill) ≡ max (length bytes) (start + length run)
run_long bytes run start fill =
    omega (arith, length-written (filled_to bytes start fill) start run (start_there bytes start fill), length-append bytes (replicate (start - length bytes) fill), length-replicate (start - length bytes) fill)

-- a run behind a record
run_on : (bytes text run : List ℕ) (recl number fill : ℕ) → 0 < number → length text ≤ recl
    → with_run (with_record bytes recl number text fill) (record_start recl (number + 1)) run fill ≡ with_run bytes (record_start recl number) (filled_to text recl fill ++ run) fill
run_on bytes text run recl number fill some short =
    let start = record_start recl number in
    let piece = filled_to text recl fill in
    let long : length piece ≡ recl = record_long text recl fill short in
    let same : number + 1 - 1 ≡ number = omega arith in
    let next : record_start recl (number + 1) ≡ start + length piece = ap (λ n. n * recl) same ∙ record_end recl number some ∙ ap (λ n. start + n) (sym long) in
    let wide : length (with_record bytes recl number text fill) ≡ max (length bytes) (start + length piece) = run_long bytes piece start fill in
    ap (λ n. with_run (with_record bytes recl number text fill) n run fill) next
    ∙ ap (λ b. written b (start + length piece) run) (no_gap (with_record bytes recl number text fill) (start + length piece) fill (omega (arith, wide)))
    ∙ written_on (filled_to bytes start fill) piece run start (start_there bytes start fill)

pub pieces_as_run : (c : Connection) (text : List ℕ) (more : List (List ℕ)) → 0 < c.spot.next_number → AreShort c.modes.recl (text ∷ more)
    → with_pieces (text ∷ more) c ≡ with_direct_run c (record_start c.modes.recl c.spot.next_number) (run_of c.modes.recl 32 (text ∷ more)) (c.spot.next_number + length more) 32
pieces_as_run c text [] some short =
    let recl = c.modes.recl in
    let number = c.spot.next_number in
    let one : number ≡ number + 0 = omega arith in
    ap (λ r. with_direct_run c (record_start recl number) r number 32) (sym (append-nil (filled_to text recl 32)))
    ∙ ap (λ n. with_direct_run c (record_start recl number) (run_of recl 32 (text ∷ [])) n 32) one
pieces_as_run c text (next ∷ more) some short =
    let recl = c.modes.recl in
    let number = c.spot.next_number in
    let sum : number + 1 + length more ≡ number + length (next ∷ more) = omega arith in
    pieces_as_run (with_direct c number text 32) next more (omega arith) short.1
    ∙ ap (λ b. at_number (record c { bytes = b }) (number + 1 + length more)) (run_on c.bytes text (run_of recl 32 (next ∷ more)) recl number 32 some short.0)
    ∙ ap (λ n. with_direct_run c (record_start recl number) (run_of recl 32 (text ∷ next ∷ more)) n 32) sum

-- how long they are
pub run_size : (recl fill : ℕ) (texts : List (List ℕ)) → AreShort recl texts → length (run_of recl fill texts) ≡ length texts * recl
run_size recl fill [] short = omega arith
run_size recl fill (t ∷ ts) short =
    let one : length (t ∷ ts) * recl ≡ recl + length ts * recl = omega arith in
    omega (arith, one, length-append (filled_to t recl fill) (run_of recl fill ts), record_long t recl fill short.0, run_size recl fill ts short.1)
