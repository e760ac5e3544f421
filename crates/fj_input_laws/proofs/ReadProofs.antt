-- A READ under an explicit format, from its start to its end.
use Rattle.std.proofs.Common.{◌≡◌, ◌≢◌, ℕ, zero, suc, ℤ, pos, negsuc, ◌+◌, ◌-◌, ◌==◌, ◌&&◌, ◌||◌, not, min, Bool, true, false, cond, ltb, List, [], ◌∷◌, ◌++◌, length, map, Option, Some, None, Result, Ok, Err, refl, sym, ap, subst, ◌∙◌, arith, append-nil, is_some, unwrap_or}
use Rattle.fj_value.specs.declared.kind.Kind.{Kind}
use Rattle.fj_value.specs.declared.place.Place as variable
use Rattle.fj_value.specs.declared.value.Cell.{Cell}
use Rattle.fj_value.specs.declared.value.Value.TheVariants.{Undefined}
use Rattle.fj_value.specs.declared.condition.Condition.{Condition}
use Rattle.fj_value.specs.declared.condition.Condition.TheVariants.{Fine, EndOfFile, EndOfRecord, Error}
use Rattle.fj_value.specs.declared.edit.EditModes.{EditModes}
use Rattle.fj_modes.specs.declared.modes.Modes.{Modes}
use Rattle.fj_modes.specs.declared.specifiers.Access.TheVariants.{Direct, Stream}
use Rattle.fj_modes.specs.Words.{same_access}
use Rattle.fj_format.specs.declared.item.FormatItem.{FormatItem}
use Rattle.fj_control.specs.Steps.{Given, steps}
use Rattle.fj_control.specs.Paired.{Part, paired, parts}
use Rattle.fj_moved.specs.declared.moved.Moved.{Moved}
use Rattle.fj_moved.specs.Cells.{places_of}
use Rattle.fj_connect.specs.declared.spot.Within.{Within}
use Rattle.fj_connect.specs.declared.spot.Within.TheVariants.{Outside, Reading, Writing}
use Rattle.fj_connect.specs.Connection.{Connection, in_record, between, past_end, with_records}
use Rattle.fj_connect.specs.Positions.{ended}
use Rattle.fj_connect.specs.PositionLaws.{Stands}
use Rattle.fj_connect.specs.Spot.{is_reading, is_writing}
use Rattle.fj_transfer.specs.declared.change.EditChange.{EditChange}
use Rattle.fj_transfer.specs.declared.transfer.TransferSpec.{TransferSpec}
use Rattle.fj_transfer.specs.AtHand.{AtHand, behind, first_record}
use Rattle.fj_transfer.specs.Change.{changed}
use Rattle.fj_transfer.specs.Input.{Progress, Ended, stopped, carried_out, left_at}
use Rattle.fj_transfer.specs.Transfer.{Done, Ways, told_with, with_undefined, input_done, explicit_ended, explicit_read, is_forbidden, unfit, begins_at, placed, from_place, if_fit, transfer_by, transfer}
use Rattle.fj_input_laws.specs.Source.{Source, Place, first_place, is_direct, source_at, behind_record, inside_record}
use Rattle.fj_input_laws.specs.Explicit.{place_behind, text_at, AllPass, IsFirst, taken, AreRead, IsLeft}
use Rattle.fj_input_laws.specs.Reads.{reading, IsRead, IsAtEndOfRecord, IsTold, Comes, IsExact, InputIsExact}
use Rattle.fj_input_laws.proofs.PassProofs.{one}
use Rattle.fj_input_laws.proofs.StepProofs.{AreHands, IsAt, IsReached, reached, IsMet, met}
use Rattle.fj_input_laws.proofs.RecordProofs.{hand_of, hands, first_hand, no_hand, behind_is_end, behind_it, inside_it}

-- ---- where it begins

-- the modes are those of before, and between records the position is where a record begins
abbrev Begins : Connection → Connection → Type 0
Begins c x = (x.modes ≡ c.modes) × (is_reading x.spot.within ≡ false → x.spot.start ≡ x.spot.at)

ended_by : (c : Connection) → Stands c → (within : Within) → c.spot.within ≡ within → Begins c (ended c)
ended_by c stands Outside w =
    let is : ended c ≡ c = ap (λ x. cond (is_writing x) (with_records c (10 ∷ [])) c) w in
    subst (Begins c) (sym is) (refl, λ none. stands.between_records w)
ended_by c stands Reading w =
    let is : ended c ≡ c = ap (λ x. cond (is_writing x) (with_records c (10 ∷ [])) c) w in
    subst (Begins c) (sym is) (refl, λ none. absurd (let wrong : true ≡ false = sym (ap is_reading w) ∙ none in cc))
ended_by c stands Writing w =
    let is : ended c ≡ with_records c (10 ∷ []) = ap (λ x. cond (is_writing x) (with_records c (10 ∷ [])) c) w in
    subst (Begins c) (sym is) (refl, λ none. refl)

of_test : (c x b : Connection) (t : Bool) → Begins c x → cond t (Err (Error 21)) (Ok x) ≡ Ok b → Begins c b
of_test c x b true h is = cc
of_test c x b false h is = subst (Begins c) same h
  where
    same : x ≡ b
    same = cc

placed_begins : (c x : Connection) (number place : Option ℤ) (b : Connection) → Begins c x → placed x number place ≡ Ok b → Begins c b
placed_begins c x (Some (pos n)) place b h is = of_test c (record x { spot = record x.spot { next_number = n } }) b (n == 0) (h.0, h.1) is
placed_begins c x (Some (negsuc n)) place b h is = cc
placed_begins c x None (Some (pos n)) b h is = of_test c (between x (n - 1)) b ((n == 0) || ltb (length x.bytes + 1) n) (h.0, λ none. refl) is
placed_begins c x None (Some (negsuc n)) b h is = cc
placed_begins c x None None b h is = let same : x ≡ b = cc in subst (Begins c) same h

not_ended : (c x b : Connection) (t : Bool) (number place : Option ℤ) → Begins c x → cond t (Err (Error 20)) (placed x number place) ≡ Ok b → Begins c b
not_ended c x b true number place h is = cc
not_ended c x b false number place h is = placed_begins c x number place b h is

begins : (c b : Connection) (f : List FormatItem) (advance : Bool) (number place : Option ℤ) (edit : EditChange) → Stands c → begins_at (reading f advance number place edit) (ended c) ≡ Ok b → Begins c b
begins c b f advance number place edit stands is = not_ended c (ended c) b (ended c).spot.after_end number place (ended_by c stands c.spot.within refl) is

-- nonadvancing input is not of direct access
last_false : (a b s t f : Bool) → cond (a || b || s || t) (Error 16) (cond f (Error 10) Fine) ≡ Fine → t ≡ false
last_false false false false false f e = refl
last_false false false false true f e = cc
last_false false false true t f e = cc
last_false false true s t f e = cc
last_false true b s t f e = cc

no_advance : (direct advance : Bool) → (direct && (not advance || false)) ≡ false → advance ≡ false → direct ≡ false
no_advance false advance e a = refl
no_advance true true e a = a
no_advance true false e a = e

serial_of : (c : Connection) (f : List FormatItem) (advance : Bool) (number place : Option ℤ) (edit : EditChange) → unfit c.modes (reading f advance number place edit) ≡ Fine → advance ≡ false → is_direct c ≡ false
serial_of c f advance number place edit fit none =
    let direct = same_access c.modes.access Direct in
    no_advance direct advance (
    last_false (cond c.modes.formatted false true) (cond (is_some number) (not direct) direct) (is_some place && not (same_access c.modes.access Stream)) (direct && (not advance || false)) (is_forbidden c.modes.action true) fit
    ) none

-- ---- cells that are undefined

abbrev emptied : variable.Place × Kind → Cell
emptied (p, k) = record { place = p; kind = k; value = Undefined }

undefined_by : (cells : List Cell) → with_undefined cells ≡ map emptied (places_of cells)
undefined_by [] = refl
undefined_by (c ∷ cells) = ap (λ l. record c { value = Undefined } ∷ l) (undefined_by cells)

same_undefined : (one other : List Cell) → places_of one ≡ places_of other → with_undefined one ≡ with_undefined other
same_undefined one other is = undefined_by one ∙ ap (map emptied) is ∙ sym (undefined_by other)

-- ---- the statement

module _ (c b : Connection) (f : List FormatItem) (advance : Bool) (number place : Option ℤ) (edit : EditChange) (moved : Moved) (stands : Stands c)
    (fit : unfit c.modes (reading f advance number place edit) ≡ Fine) (at_b : begins_at (reading f advance number place edit) (ended c) ≡ Ok b) where
  abbrev spec : TransferSpec
  spec = reading f advance number place edit

  abbrev s : Source
  s = source_at b advance moved.cells

  abbrev ps : List (Part ℕ)
  ps = parts (changed edit c.modes.edit) f moved.order

  abbrev d : Done
  d = transfer c spec moved

  abbrev start : Progress
  start = record { hand = hand_of b 0; at = 0; cells = moved.cells; count = 0 }

  abbrev Read : EditModes → Result AtHand Condition → Done
  Read modes r = explicit_read c b advance modes (steps f) moved r

  begun : Begins c b
  begun = begins c b f advance number place edit stands at_b

  is_read : d ≡ Read (changed edit c.modes.edit) (first_record b)
  unfolding transfer_by
  is_read = ap (if_fit (steps f) c spec moved) fit ∙ ap (from_place (steps f) c spec moved) at_b ∙ ap (λ (m : Modes). Read (changed edit m.edit) (first_record b)) begun.0

  -- behind the first record
  by_parts : (text : List ℕ) → s.record_text 0 ≡ Some text → d ≡ explicit_ended c b advance (carried_out advance ps start)
  by_parts text here = is_read ∙ ap (Read (changed edit c.modes.edit)) (first_hand b advance moved.cells text here)

  at_start : (text : List ℕ) → s.record_text 0 ≡ Some text → IsAt s (hand_of b) first_place start
  at_start text here = record {
    hand_is = refl;
    at_is = refl;
    kinds = λ n. refl;
    text = here ∙ ap (λ t. Some t) (sym ((hands b advance moved.cells).text 0 text here));
  }

  -- ---- what is told

  told : (end_of_record fine : Connection) (cells : List Cell) (count : Option ℕ) (condition : Condition) (done : Done) → with_undefined cells ≡ with_undefined moved.cells → condition ≢ Fine → condition ≢ EndOfRecord
      → done ≡ input_done (record { old = c; end_of_file = past_end b; end_of_record = end_of_record; fine = fine }) cells count condition → IsTold c b moved condition done
  told end_of_record fine cells count Fine done same no_fine no_end is = absurd (no_fine refl)
  told end_of_record fine cells count EndOfRecord done same no_fine no_end is = absurd (no_end refl)
  told end_of_record fine cells count EndOfFile done same no_fine no_end is = is ∙ ap (λ l. told_with (past_end b) l EndOfFile) same
  told end_of_record fine cells count (Error n) done same no_fine no_end is = is ∙ ap (λ l. told_with c l (Error n)) same

  no_record : s.record_text 0 ≡ None → IsTold c b moved s.behind d
  no_record none =
      let end = behind_is_end b advance moved.cells in
      told c c moved.cells None s.behind d refl end.0 end.1 (is_read ∙ ap (Read (changed edit c.modes.edit)) (no_hand b advance moved.cells none))

  -- ---- all of it is read

  abbrev Left : AtHand → ℕ → List ℕ → Connection
  Left hand at text = let x = hand.connection in in_record x x.spot.start ((x.spot.at - x.spot.start) + min at (length text))

  left_is : (a : Bool) → advance ≡ a → (p : Place) (q : Progress) → IsAt s (hand_of b) p q → left_at a q ≡ cond a (behind_record b p.number) (inside_record b p (text_at s p))
  left_is true is p q at = ap behind at.hand_is ∙ behind_it b p.number
  left_is false is p q at =
      let serial : is_direct b ≡ false = ap (λ (m : Modes). same_access m.access Direct) begun.0 ∙ serial_of c f advance number place edit fit is in
      let same : q.hand.text ≡ text_at s p = sym (ap (λ o. unwrap_or o []) at.text) in
      ap (λ h. Left h q.at q.hand.text) at.hand_is ∙ ap (λ k. Left (hand_of b p.number) k q.hand.text) at.at_is ∙ ap (Left (hand_of b p.number) p.at) same
      ∙ inside_it b serial begun.1 p.number p.at (text_at s p)

  read_of : (q : Progress) → IsAt s (hand_of b) (place_behind s ps first_place) q → AreRead s ps first_place moved.cells q.cells → q.count ≡ 0 + taken s ps first_place → (done : Done) → done ≡ explicit_ended c b advance (stopped Fine q)
      → IsRead s b ps moved done
  read_of q at cells count done is = record {
    condition = ap (λ (x : Done). x.condition) is;
    cells = subst (AreRead s ps first_place moved.cells) (sym (ap (λ (x : Done). x.cells) is)) cells;
    count = ap (λ (x : Done). x.count) is ∙ ap (λ n. Some n) (omega (arith, count));
    connection = ap (λ (x : Done). x.connection) is ∙ left_is advance refl (place_behind s ps first_place) q at;
  }

  fine : (text : List ℕ) → s.record_text 0 ≡ Some text → AllPass s ps first_place → IsRead s b ps moved d
  fine text here all =
      let all_of = reached s (hand_of b) (hands b advance moved.cells) ps first_place [] start (at_start text here) all in
      let is : carried_out advance ps start ≡ stopped Fine all_of.q = ap (λ l. carried_out advance l start) (sym (append-nil ps)) ∙ all_of.is in
      read_of all_of.q all_of.at all_of.cells all_of.count d (by_parts text here ∙ ap (explicit_ended c b advance) is)

  -- ---- a condition is met

  abbrev Ended_at : Condition → Progress → Done
  Ended_at condition r = explicit_ended c b advance (stopped condition r)

  module _ (front : List (Part ℕ)) (part : Part ℕ) (back : List (Part ℕ)) (here : IsReached s (hand_of b) first_place front (part ∷ back) start) where
    comes : (condition : Condition) (m : IsMet s (place_behind s front first_place) part back condition here.q) (done : Done) → done ≡ Ended_at condition m.r → Comes c s b front part moved condition done
    comes Fine m done is = absurd (m.fine refl)
    comes EndOfFile m done is =
        told (behind m.r.hand) (left_at advance m.r) m.r.cells (Some m.r.count) EndOfFile done (same_undefined m.r.cells moved.cells (m.places ∙ here.cells.places)) (λ e. cc) (λ e. cc) is
    comes (Error n) m done is =
        told (behind m.r.hand) (left_at advance m.r) m.r.cells (Some m.r.count) (Error n) done (same_undefined m.r.cells moved.cells (m.places ∙ here.cells.places)) (λ e. cc) (λ e. cc) is
    comes EndOfRecord m done is =
        let l = m.left refl in
        let p = place_behind s front first_place in
        record {
          condition = ap (λ (x : Done). x.condition) is;
          mid = here.q.cells;
          more = l.more;
          before = here.cells;
          left = subst (λ new. IsLeft s p part here.q.cells new l.more) (sym (ap (λ (x : Done). x.cells) is)) l.left;
          count = ap (λ (x : Done). x.count) is ∙ ap (λ n. Some n) (omega (arith, l.count, here.count));
          connection = ap (λ (x : Done). x.connection) is ∙ ap behind (m.hand ∙ here.at.hand_is) ∙ behind_it b p.number;
        }

  tells : (text : List ℕ) → s.record_text 0 ≡ Some text → (condition : Condition) (first : IsFirst s ps first_place condition) → Comes c s b first.front first.part moved condition d
  tells text here condition first =
      let up_to = reached s (hand_of b) (hands b advance moved.cells) first.front first_place (first.part ∷ first.back) start (at_start text here) first.pass in
      let m = met s (hand_of b) (hands b advance moved.cells) (place_behind s first.front first_place) up_to.q up_to.at first.back first.part condition first.meets in
      let is : carried_out advance ps start ≡ stopped condition m.r = ap (λ l. carried_out advance l start) first.split ∙ up_to.is ∙ m.is in
      comes first.front first.part first.back up_to condition m d (by_parts text here ∙ ap (explicit_ended c b advance) is)

  exact : IsExact c s b ps moved d
  exact = record { no_record = no_record; fine = fine; tells = tells; one = one s ps first_place }

pub input_is_exact : InputIsExact
input_is_exact c b f advance number place edit moved stands fit at_b = exact c b f advance number place edit moved stands fit at_b
