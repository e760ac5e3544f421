-- The records that an input reads, one after another, and the connection at each.
use Rattle.std.proofs.Common.{◌≡◌, ◌≢◌, ℕ, zero, suc, ◌+◌, ◌-◌, ◌<◌, ◌≤◌, ◌==◌, Bool, true, false, cond, ltb, List, [], ◌∷◌, length, drop, slice_get, Option, Some, None, Result, Ok, Err, refl, sym, ap, subst, ◌∙◌, ◌⊎◌, inl, inr, arith, unwrap_or, min}
use Rattle.std.proofs.lemmas.Bool.{eq-eqb, ne_eqb, cases_lt, cases_Bool, lt-ltb, le-ltb}
use Rattle.std.proofs.lemmas.List.{drop_all, drop-drop, length-drop}
use Rattle.fj_value.specs.declared.value.Cell.{Cell}
use Rattle.fj_moved.specs.Cells.{kind_at}
use Rattle.fj_value.specs.declared.condition.Condition.{Condition}
use Rattle.fj_value.specs.declared.condition.Condition.TheVariants.{Fine, EndOfFile, EndOfRecord, Error}
use Rattle.fj_modes.specs.declared.modes.Modes.{Modes}
use Rattle.fj_modes.specs.declared.specifiers.Access.TheVariants.{Direct}
use Rattle.fj_modes.specs.Words.{same_access}
use Rattle.fj_byterec.specs.Pieces.{piece}
use Rattle.fj_seqrec.specs.Lines.{lines, first_line, behind_line}
use Rattle.fj_seqrec.proofs.Positions.{line_feed_place}
use Rattle.fj_seqrec.proofs.LineLemmas.{lines_first}
use Rattle.fj_connect.specs.Connection.{Connection, bytes_behind, rest_of_record, record_end, begun, between, in_record, past_record, at_number}
use Rattle.fj_connect.specs.Spot.{is_reading}
use Rattle.fj_transfer.specs.AtHand.{AtHand, behind, line_at, next_record, numbered, record_numbered, rest_at, first_record}
use Rattle.fj_transfer.specs.Transfer.{up_to_excess, behind_them, rest_exceeds, records_to_come, condition_to_come}
use Rattle.fj_input_laws.specs.Source.{Source, Place, is_direct, source_at, records_on, behind_record, inside_record}
use Rattle.fj_input_laws.proofs.StepProofs.{AreHands}

-- ---- lists

drop_nothing : (n : ℕ) → drop {A = List ℕ} n [] ≡ []
drop_nothing zero = refl
drop_nothing (suc n) = refl

dropped : (xs : List (List ℕ)) (n : ℕ) (y : List ℕ) (ys : List (List ℕ)) → drop n xs ≡ y ∷ ys → (slice_get xs n ≡ Some y) × (drop (suc n) xs ≡ ys)
dropped [] n y ys is = let wrong : [] ≡ y ∷ ys = sym (drop_nothing n) ∙ is in cc
dropped (x ∷ xs) zero y ys is = let a : x ≡ y = cc in let b : xs ≡ ys = cc in (ap (λ t. Some t) a, b)
dropped (x ∷ xs) (suc n) y ys is = dropped xs n y ys is

nothing_dropped : (xs : List (List ℕ)) (n : ℕ) → drop n xs ≡ [] → slice_get xs n ≡ None
nothing_dropped [] n is = refl
nothing_dropped (x ∷ xs) zero is = cc
nothing_dropped (x ∷ xs) (suc n) is = nothing_dropped xs n is

get_before : (xs : List (List ℕ)) (n : ℕ) (t : List ℕ) → slice_get xs (suc n) ≡ Some t → (t' : List ℕ) × (slice_get xs n ≡ Some t')
get_before [] n t is = cc
get_before (x ∷ xs) zero t is = (x, refl)
get_before (x ∷ xs) (suc n) t is = get_before xs n t is

-- ---- lines

suffix_is : (bytes : List ℕ) (place : ℕ) → drop (length bytes - length (drop place bytes)) bytes ≡ drop place bytes
suffix_is bytes place = elim (cases_lt (length bytes) place) [
  | inl past ↦
      let all : length bytes - length (drop place bytes) ≡ length bytes = omega (arith, length-drop place bytes) in
      ap (λ n. drop n bytes) all ∙ drop_all (length bytes) bytes (omega arith) ∙ sym (drop_all place bytes (omega (arith, past)))
  | inr within ↦
      let same : length bytes - length (drop place bytes) ≡ place = omega (arith, length-drop place bytes) in
      ap (λ n. drop n bytes) same
]

behind_is : (c : Connection) → bytes_behind (past_record c) ≡ behind_line (bytes_behind c)
behind_is c =
    let at = c.spot.at in
    let rest : behind_line (bytes_behind c) ≡ drop (at + (line_feed_place (bytes_behind c) + 1)) c.bytes = drop-drop (line_feed_place (bytes_behind c) + 1) at c.bytes in
    ap (λ b. drop (length c.bytes - length b) c.bytes) rest ∙ suffix_is c.bytes (at + (line_feed_place (bytes_behind c) + 1)) ∙ sym rest

-- ---- the record at the position, not of direct access

abbrev hand_at : Connection → AtHand
hand_at r = record { connection = cond (is_reading r.spot.within) r (in_record r r.spot.at 0); text = rest_of_record r }

-- there is none, or it is at hand and the others come behind it
abbrev IsNext : Connection → Type 0
IsNext r = ((records_to_come r ≡ []) × (first_record r ≡ Err (condition_to_come r)))
    ⊎ ((records_to_come r ≡ rest_of_record r ∷ records_to_come (past_record r)) × (condition_to_come r ≡ condition_to_come (past_record r)) × (first_record r ≡ Ok (hand_at r)))

module _ (r : Connection) (serial : is_direct r ≡ false) where
  abbrev recl : ℕ
  recl = r.modes.recl

  abbrev coming : Bool → List (List ℕ)
  coming reading = cond reading (cond (rest_exceeds r) [] (rest_of_record r ∷ up_to_excess recl (lines (bytes_behind (past_record r))))) (up_to_excess recl (lines (bytes_behind r)))

  abbrev ending : Bool → Condition
  ending reading = cond reading (cond (rest_exceeds r) (Error 15) (behind_them recl (lines (bytes_behind (past_record r))))) (behind_them recl (lines (bytes_behind r)))

  abbrev first : Bool → Result AtHand Condition
  first reading = cond reading (cond (rest_exceeds r) (Err (Error 15)) (Ok (record { connection = r; text = rest_of_record r }))) (line_at r)

  abbrev hand_by : Bool → AtHand
  hand_by reading = record { connection = cond reading r (in_record r r.spot.at 0); text = rest_of_record r }

  abbrev Next : Bool → Type 0
  Next reading = ((coming reading ≡ []) × (first reading ≡ Err (ending reading)))
      ⊎ ((coming reading ≡ rest_of_record r ∷ records_to_come (past_record r)) × (ending reading ≡ condition_to_come (past_record r)) × (first reading ≡ Ok (hand_by reading)))

  rest_next : (exceeds : Bool) → rest_exceeds r ≡ exceeds → Next true
  rest_next true is = inl (
    ap (λ b. cond b [] (rest_of_record r ∷ records_to_come (past_record r))) is,
    ap (λ b. cond b (Err (Error 15)) (Ok (hand_by true))) is
        ∙ ap (λ (c : Condition). Err c) (sym (ap (λ b. cond b (Error 15) (condition_to_come (past_record r))) is)),
  )
  rest_next false is = inr (
    ap (λ b. cond b [] (rest_of_record r ∷ records_to_come (past_record r))) is,
    ap (λ b. cond b (Error 15) (condition_to_come (past_record r))) is,
    ap (λ b. cond b (Err (Error 15)) (Ok (hand_by true))) is,
  )

  at_line : (empty long : Bool) → (length (bytes_behind r) == 0) ≡ empty → ltb recl (length (rest_of_record r)) ≡ long → line_at r ≡ cond empty (Err EndOfFile) (cond long (Err (Error 15)) (Ok (hand_by false)))
  at_line empty long e l =
      ap (λ b. cond b (Err EndOfFile) (cond (ltb recl (length (rest_of_record r))) (Err (Error 15)) (Ok (hand_by false)))) e ∙ ap (λ b. cond empty (Err EndOfFile) (cond b (Err (Error 15)) (Ok (hand_by false)))) l

  line_next : (long : Bool) → (length (bytes_behind r) == 0) ≡ false → 0 < length (bytes_behind r) → ltb recl (length (rest_of_record r)) ≡ long → Next false
  line_next long some more is =
      let split = lines_first (bytes_behind r) more in
      let rest : up_to_excess recl (lines (behind_line (bytes_behind r))) ≡ records_to_come (past_record r) = ap (λ b. up_to_excess recl (lines b)) (sym (behind_is r)) in
      let end : behind_them recl (lines (behind_line (bytes_behind r))) ≡ condition_to_come (past_record r) = ap (λ b. behind_them recl (lines b)) (sym (behind_is r)) in
      let comes : coming false ≡ cond long [] (rest_of_record r ∷ records_to_come (past_record r)) =
      ap (up_to_excess recl) split ∙ ap (λ b. cond b [] (rest_of_record r ∷ up_to_excess recl (lines (behind_line (bytes_behind r))))) is
      ∙ ap (λ l. cond long [] (rest_of_record r ∷ l)) rest in
      let ends : ending false ≡ cond long (Error 15) (condition_to_come (past_record r)) =
      ap (behind_them recl) split ∙ ap (λ b. cond b (Error 15) (behind_them recl (lines (behind_line (bytes_behind r))))) is
      ∙ ap (λ c. cond long (Error 15) c) end in
      by long comes ends (at_line false long some is)
    where
      by : (l : Bool) → coming false ≡ cond l [] (rest_of_record r ∷ records_to_come (past_record r)) → ending false ≡ cond l (Error 15) (condition_to_come (past_record r))
          → line_at r ≡ cond l (Err (Error 15)) (Ok (hand_by false)) → Next false
      by true comes ends at = inl (comes, at ∙ ap (λ (c : Condition). Err c) (sym ends))
      by false comes ends at = inr (comes, ends, at)

  outside_next : Next false
  outside_next = elim (cases_lt 0 (length (bytes_behind r))) [
    | inl some ↦ line_next (ltb recl (length (rest_of_record r))) (ne_eqb (length (bytes_behind r)) 0 (λ e. absurd (omega (arith, some, e)))) some refl
    | inr none ↦
        let nothing : length (bytes_behind r) ≡ 0 = omega (arith, none) in
        let empty : bytes_behind r ≡ [] = no_bytes (bytes_behind r) nothing in
        inl (
          ap (λ b. up_to_excess recl (lines b)) empty,
          at_line true (ltb recl (length (rest_of_record r))) (eq-eqb (length (bytes_behind r)) 0 nothing) refl
              ∙ ap (λ (c : Condition). Err c) (sym (ap (λ b. behind_them recl (lines b)) empty)),
        )
  ]
    where
      no_bytes : (l : List ℕ) → length l ≡ 0 → l ≡ []
      no_bytes [] e = refl
      no_bytes (x ∷ l) e = absurd (omega (arith, e))

  next_by : (reading : Bool) → Next reading
  next_by true = rest_next (rest_exceeds r) refl
  next_by false = outside_next

  first_serial : first_record r ≡ first (is_reading r.spot.within)
  first_serial = ap (λ b. cond b (record_numbered r r.spot.next_number) (first (is_reading r.spot.within))) serial

  is_next : IsNext r
  is_next = elim (next_by (is_reading r.spot.within)) [
    | inl none ↦ inl (none.0, first_serial ∙ none.1)
    | inr some ↦ inr (some.0, some.1, first_serial ∙ some.2)
  ]

  -- behind the record at hand
  past_hand : (reading : Bool) → past_record (hand_by reading).connection ≡ past_record r
  past_hand true = refl
  past_hand false = let here : r.spot.at + 0 ≡ r.spot.at = omega arith in ap (λ n. between r (length r.bytes - length (behind_line (drop n r.bytes)))) here

  modes_of_hand : (reading : Bool) → (hand_by reading).connection.modes ≡ r.modes
  modes_of_hand true = refl
  modes_of_hand false = refl

  pub behind_hand : behind (hand_at r) ≡ past_record r
  behind_hand =
      let reading = is_reading r.spot.within in
      ap (λ b. cond b (hand_at r).connection (past_record (hand_at r).connection)) (ap (λ (m : Modes). same_access m.access Direct) (modes_of_hand reading) ∙ serial) ∙ past_hand reading

  next_is_first : next_record (past_record r) ≡ first_record (past_record r)
  next_is_first = let c = past_record r in
      ap (λ b. cond b (record_numbered c c.spot.next_number) (line_at c)) serial ∙ sym (ap (λ b. cond b (record_numbered c c.spot.next_number) (line_at c)) serial)

-- ---- records one after another

records_on_modes : (b : Connection) (n : ℕ) → (records_on n b).modes ≡ b.modes
records_on_modes b zero = refl
records_on_modes b (suc n) = records_on_modes b n

module _ (b : Connection) (serial : is_direct b ≡ false) where
  abbrev texts : List (List ℕ)
  texts = records_to_come b

  abbrev on : ℕ → Connection
  on n = records_on n b

  pub serial_on : (n : ℕ) → is_direct (on n) ≡ false
  serial_on n = ap (λ (m : Modes). same_access m.access Direct) (records_on_modes b n) ∙ serial

  abbrev Stand : ℕ → Type 0
  Stand n = (records_to_come (on n) ≡ drop n texts) × (condition_to_come (on n) ≡ condition_to_come b)

  -- a record that is there is the next one
  record IsThere (n : ℕ) (t : List ℕ) : Type 0 where
    text : rest_of_record (on n) ≡ t
    first : first_record (on n) ≡ Ok (hand_at (on n))
    stands : Stand (suc n)

  there : (n : ℕ) (t : List ℕ) → Stand n → slice_get texts n ≡ Some t → IsThere n t
  there n t stands is = elim (is_next (on n) (serial_on n)) [
    | inl none ↦
        let wrong : Some t ≡ None = sym is ∙ nothing_dropped texts n (sym stands.0 ∙ none.0) in
        cc
    | inr some ↦
        let found = dropped texts n (rest_of_record (on n)) (records_to_come (past_record (on n))) (sym stands.0 ∙ some.0) in
        record {
          text = (let same : Some (rest_of_record (on n)) ≡ Some t = sym found.0 ∙ is in cc);
          first = some.2;
          stands = (sym found.1, sym some.1 ∙ stands.1);
        }
  ]

  stand : (n : ℕ) (t : List ℕ) → slice_get texts n ≡ Some t → Stand n
  stand zero t is = (refl, refl)
  stand (suc n) t is = let before = get_before texts n t is in (there n before.0 (stand n before.0 before.1) before.1).stands

  no_more : (n : ℕ) → Stand n → slice_get texts n ≡ None → first_record (on n) ≡ Err (condition_to_come b)
  no_more n stands is = elim (is_next (on n) (serial_on n)) [
    | inl none ↦ none.1 ∙ ap (λ (c : Condition). Err c) stands.1
    | inr some ↦
        let found = dropped texts n (rest_of_record (on n)) (records_to_come (past_record (on n))) (sym stands.0 ∙ some.0) in
        let wrong : Some (rest_of_record (on n)) ≡ None = sym found.0 ∙ is in
        cc
  ]

-- ---- what stands behind the records

abbrev IsEnd : Condition → Type 0
IsEnd c = (c ≢ Fine) × (c ≢ EndOfRecord)

either_end : (b : Bool) (x y : Condition) → IsEnd x → IsEnd y → IsEnd (cond b x y)
either_end true x y h k = h
either_end false x y h k = k

error_end : (n : ℕ) → IsEnd (Error n)
error_end n = (λ e. cc, λ e. cc)

of_lines : (limit : ℕ) (l : List (List ℕ)) → IsEnd (behind_them limit l)
of_lines limit [] = (λ e. cc, λ e. cc)
of_lines limit (line ∷ more) = either_end (ltb limit (length line)) (Error 15) (behind_them limit more) (error_end 15) (of_lines limit more)

pub behind_is_end : (b : Connection) (advance : Bool) (cells : List Cell) → IsEnd (source_at b advance cells).behind
behind_is_end b advance cells =
    either_end (is_direct b) (Error 17) (condition_to_come b) (error_end 17) (
    either_end (is_reading b.spot.within) _ _ (
    either_end (rest_exceeds b) (Error 15) _ (error_end 15) (of_lines b.modes.recl (lines (bytes_behind (past_record b))))
    ) (of_lines b.modes.recl (lines (bytes_behind b)))
    )

-- ---- the record at hand, by its number

abbrev direct_hand : Connection → ℕ → AtHand
direct_hand b n = record { connection = at_number b (b.spot.next_number + n); text = unwrap_or (piece b.bytes b.modes.recl (b.spot.next_number + n)) [] }

abbrev pub hand_of : Connection → ℕ → AtHand
hand_of b n = cond (is_direct b) (direct_hand b n) (hand_at (records_on n b))

module _ (b : Connection) (advance : Bool) (cells : List Cell) where
  abbrev source_by : Bool → Source
  source_by d = record {
    record_text = λ n. cond d (piece b.bytes b.modes.recl (b.spot.next_number + n)) (slice_get (records_to_come b) n);
    behind = cond d (Error 17) (condition_to_come b);
    kinds = kind_at cells;
    advance = advance;
  }

  abbrev hands_by : Bool → ℕ → AtHand
  hands_by d n = cond d (direct_hand b n) (hand_at (records_on n b))

  direct_next : is_direct b ≡ true → (n : ℕ)
      → next_record (behind (direct_hand b n)) ≡ numbered (at_number b (b.spot.next_number + n)) (b.spot.next_number + suc n) (piece b.bytes b.modes.recl (b.spot.next_number + suc n))
  direct_next is n =
      let c = at_number b (b.spot.next_number + n) in
      let further : (b.spot.next_number + n) + 1 ≡ b.spot.next_number + suc n = omega arith in
      ap (λ d. next_record (cond d c (past_record c))) is
      ∙ ap (λ d. cond d (record_numbered c c.spot.next_number) (line_at c)) is
      ∙ ap (λ k. numbered c k (piece b.bytes b.modes.recl k)) further

  are_hands : (d : Bool) → is_direct b ≡ d → AreHands (source_by d) (hands_by d)
  are_hands true is = record {
    text = λ n t here. ap (λ o. unwrap_or o []) here;
    next = λ n t t' here there'.
        direct_next is n ∙ ap (numbered (at_number b (b.spot.next_number + n)) (b.spot.next_number + suc n)) there'
        ∙ ap (λ (l : List ℕ). Ok (record { connection = at_number b (b.spot.next_number + suc n); text = l })) (sym (ap (λ o. unwrap_or o []) there'));
    last = λ n t here none. direct_next is n ∙ ap (numbered (at_number b (b.spot.next_number + n)) (b.spot.next_number + suc n)) none;
    fine = λ e. cc;
    record_end = λ e. cc;
  }
  are_hands false is = record {
    text = λ n t here. (there b is n t (stand b is n t here) here).text;
    next = λ n t t' here there'.
        ap next_record (behind_hand (records_on n b) (serial_on b is n)) ∙ next_is_first (records_on n b) (serial_on b is n) ∙ (there b is (suc n) t' (stand b is (suc n) t' there') there').first;
    last = λ n t here none.
        ap next_record (behind_hand (records_on n b) (serial_on b is n)) ∙ next_is_first (records_on n b) (serial_on b is n) ∙ no_more b is (suc n) (there b is n t (stand b is n t here) here).stands none;
    fine = (end_of (behind_is_end b advance cells) is).0;
    record_end = (end_of (behind_is_end b advance cells) is).1;
  }
    where
      end_of : IsEnd (cond (is_direct b) (Error 17) (condition_to_come b)) → is_direct b ≡ false → IsEnd (condition_to_come b)
      end_of h is' = subst (λ d. IsEnd (cond d (Error 17) (condition_to_come b))) is' h

  pub hands : AreHands (source_at b advance cells) (hand_of b)
  hands = are_hands (is_direct b) refl

  -- the record in which a statement begins
  direct_first : is_direct b ≡ true → first_record b ≡ numbered b (b.spot.next_number + 0) (piece b.bytes b.modes.recl (b.spot.next_number + 0))
  direct_first is =
      let same : b.spot.next_number ≡ b.spot.next_number + 0 = omega arith in
      ap (λ d. cond d (record_numbered b b.spot.next_number) (cond (is_reading b.spot.within) (rest_at b) (line_at b))) is ∙ ap (λ k. numbered b k (piece b.bytes b.modes.recl k)) same

  first_by : (d : Bool) → is_direct b ≡ d → ((t : List ℕ) → (source_by d).record_text 0 ≡ Some t → first_record b ≡ Ok (hands_by d 0)) × ((source_by d).record_text 0 ≡ None → first_record b ≡ Err (source_by d).behind)
  first_by true is = (
    λ t here. direct_first is ∙ ap (numbered b (b.spot.next_number + 0)) here
        ∙ ap (λ (l : List ℕ). Ok (record { connection = at_number b (b.spot.next_number + 0); text = l })) (sym (ap (λ o. unwrap_or o []) here)),
    λ none. direct_first is ∙ ap (numbered b (b.spot.next_number + 0)) none,
  )
  first_by false is = (λ t here. (there b is 0 t (refl, refl) here).first, λ none. no_more b is 0 (refl, refl) none)

  pub first_hand : (t : List ℕ) → (source_at b advance cells).record_text 0 ≡ Some t → first_record b ≡ Ok (hand_of b 0)
  first_hand = (first_by (is_direct b) refl).0

  pub no_hand : (source_at b advance cells).record_text 0 ≡ None → first_record b ≡ Err (source_at b advance cells).behind
  no_hand = (first_by (is_direct b) refl).1

-- ---- where the connection then stands

behind_by : (b : Connection) (n : ℕ) (d : Bool) → is_direct b ≡ d → behind (cond d (direct_hand b n) (hand_at (records_on n b))) ≡ cond d (at_number b (b.spot.next_number + n)) (records_on (suc n) b)
behind_by b n true is = let c = at_number b (b.spot.next_number + n) in ap (λ d. cond d c (past_record c)) is
behind_by b n false is = behind_hand (records_on n b) (serial_on b is n)

pub behind_it : (b : Connection) (n : ℕ) → behind (hand_of b n) ≡ behind_record b n
behind_it b n = behind_by b n (is_direct b) refl

inside_by : (r : Connection) (m : ℕ) (reading : Bool) → (reading ≡ false → r.spot.start ≡ r.spot.at)
    → (let c = cond reading r (in_record r r.spot.at 0) in in_record c c.spot.start ((c.spot.at - c.spot.start) + m)) ≡ in_record r r.spot.start (begun r + m)
inside_by r m true from = refl
inside_by r m false from =
    let start = from refl in
    let sum : ((r.spot.at + 0) - r.spot.at) + m ≡ begun r + m = omega (arith, start) in
    ap (λ k. in_record r r.spot.at k) sum ∙ ap (λ x. in_record r x (begun r + m)) (sym start)

start_of : (b : Connection) → (is_reading b.spot.within ≡ false → b.spot.start ≡ b.spot.at) → (n : ℕ) → is_reading (records_on n b).spot.within ≡ false → (records_on n b).spot.start ≡ (records_on n b).spot.at
start_of b from zero is = from is
start_of b from (suc n) is = refl

-- how far into the record
pub inside_it : (b : Connection) → is_direct b ≡ false → (is_reading b.spot.within ≡ false → b.spot.start ≡ b.spot.at) → (n at : ℕ) (text : List ℕ)
    → (let c = (hand_of b n).connection in in_record c c.spot.start ((c.spot.at - c.spot.start) + min at (length text))) ≡ inside_record b (record { number = n; at = at }) text
inside_it b serial from n at text =
    let m = min at (length text) in
    let r = records_on n b in
    ap (λ d. let c = (cond d (direct_hand b n) (hand_at r)).connection in in_record c c.spot.start ((c.spot.at - c.spot.start) + m)) serial
    ∙ inside_by r m (is_reading r.spot.within) (start_of b from n)
