-- An input, part by part: what passes is read, and what meets a condition ends it.
use Rattle.std.proofs.Common.{◌≡◌, ◌≢◌, ℕ, zero, suc, ◌+◌, ◌-◌, ◌<◌, ◌≤◌, ◌==◌, Bool, true, false, cond, List, [], ◌∷◌, ◌++◌, length, take, drop, replicate, slice_get, All, Option, Some, None, Result, Ok, Err, refl, sym, ap, subst, ◌∙◌, ◌⊎◌, inl, inr, arith, unwrap_or}
use Rattle.std.proofs.lemmas.Bool.{eq-eqb, ne_eqb, cases_lt, cases_Bool}
use Rattle.std.proofs.lemmas.List.{length-take}
use Rattle.std.specs.Option.{option_map_or}
use Rattle.fj_value.specs.declared.edit.Edit.{Edit}
use Rattle.fj_value.specs.declared.edit.EditModes.{EditModes}
use Rattle.fj_value.specs.declared.kind.Kind.{Kind}
use Rattle.fj_value.specs.declared.value.Cell.{Cell}
use Rattle.fj_value.specs.declared.value.Value.{Value}
use Rattle.fj_value.specs.declared.value.Value.TheVariants.{Undefined}
use Rattle.fj_value.specs.declared.condition.Condition.{Condition}
use Rattle.fj_value.specs.declared.condition.Condition.TheVariants.{Fine, EndOfFile, EndOfRecord, Error}
use Rattle.fj_edit_in.specs.InputField.{input_field}
use Rattle.fj_line.specs.Line.{position_behind}
use Rattle.fj_line.specs.declared.moves.Move.TheVariants.{Ahead}
use Rattle.fj_control.specs.Paired.{Part, item, string, move, slash, lacking, items_in}
use Rattle.fj_moved.specs.Cells.{with_value, kind_at, places_of}
use Rattle.fj_moved.specs.Moved.{value_at}
use Rattle.fj_moved.proofs.CellLemmas.{places_kept, count_kept}
use Rattle.fj_transfer.specs.AtHand.{AtHand, behind, next_record}
use Rattle.fj_transfer.specs.Input.{Progress, Ended, width_for, characters_for, stopped, with_field, field_read, is_mismatch, without_padding, with_record, carried_out}
use Rattle.fj_transfer.proofs.StoredLemmas.{kind_kept}
use Rattle.fj_input_laws.specs.Fields.{IsFor, field_width}
use Rattle.fj_input_laws.specs.Source.{Source, Place}
use Rattle.fj_input_laws.specs.Explicit.{place_past, place_behind, text_at, characters, IsShort, field, Meets, descriptor_is_wanting, string_is_met, records_have_ended, descriptor_is_for_others, record_is_short, record_has_ended, field_has_no_value, record_ends_in_field, AllPass, taken, AreNot, AreRead, IsLeft}
use Rattle.fj_input_laws.proofs.FieldProofs.{width_is, not_for, told_for, is_other}
use Rattle.fj_input_laws.proofs.PassProofs.{Passes, passes_first, all_behind, no_split}

-- ---- what is known of the records, and of an input at a place

pub record AreHands (s : Source) (hand : ℕ → AtHand) : Type 0 where
  pub text : (n : ℕ) (t : List ℕ) → s.record_text n ≡ Some t → (hand n).text ≡ t
  pub next : (n : ℕ) (t t' : List ℕ) → s.record_text n ≡ Some t → s.record_text (suc n) ≡ Some t' → next_record (behind (hand n)) ≡ Ok (hand (suc n))
  pub last : (n : ℕ) (t : List ℕ) → s.record_text n ≡ Some t → s.record_text (suc n) ≡ None → next_record (behind (hand n)) ≡ Err s.behind
  pub fine : s.behind ≢ Fine
  pub record_end : s.behind ≢ EndOfRecord

pub record IsAt (s : Source) (hand : ℕ → AtHand) (place : Place) (p : Progress) : Type 0 where
  pub hand_is : p.hand ≡ hand place.number
  pub at_is : p.at ≡ place.at
  pub kinds : (n : ℕ) → kind_at p.cells n ≡ s.kinds n
  pub text : s.record_text place.number ≡ Some p.hand.text

-- ---- a field, by whether its characters are all there

module _ (advance pad : Bool) (width : ℕ) (chars : List ℕ) (cell : ℕ) (p : Progress) (next : Progress → Ended) where
  abbrev pub comes_to : Result Value Condition → Ended
  comes_to r = field_read advance pad width chars cell (without_padding pad width chars r) p next

  abbrev kept : Bool → Result Value Condition → Result Value Condition
  kept there r = cond pad r (cond there r (cond (is_mismatch r) r (Ok Undefined)))

  abbrev read_as : Value → Progress
  read_as v = with_field width (length chars) cell v p

  abbrev lost : Progress
  lost = record p { cells = with_value p.cells cell Undefined }

  abbrev outcome : Bool → Value → Ended
  outcome there v = cond there (next (read_as v)) (cond advance (cond pad (next (read_as v)) (stopped (Error 30) p)) (cond pad (stopped EndOfRecord (read_as v)) (stopped EndOfRecord lost)))

  is_there : (length chars < width → ⊥) → length chars ≤ width → (length chars == width) ≡ true
  is_there whole low = eq-eqb (length chars) width (omega (arith, low, not_less))
    where
      not_less : width ≤ length chars
      not_less = elim (cases_lt (length chars) width) [
        | inl short ↦ absurd (whole short)
        | inr le ↦ le
      ]

  is_not_there : length chars < width → (length chars == width) ≡ false
  is_not_there short = ne_eqb (length chars) width (λ e. absurd (omega (arith, short, e)))

  by_result : (r x : Result Value Condition) (there : Bool) → (length chars == width) ≡ there → kept there r ≡ x → comes_to r ≡ field_read advance pad width chars cell x p next
  by_result r x there is same =
      ap (λ b. field_read advance pad width chars cell (kept b r) p next) is ∙ ap (λ y. field_read advance pad width chars cell y p next) same

  by_value : (r : Result Value Condition) (v : Value) (there : Bool) → (length chars == width) ≡ there → kept there r ≡ Ok v → comes_to r ≡ outcome there v
  by_value r v there is same = by_result r (Ok v) there is same ∙ ap (λ b. outcome b v) is

module _ (r : Result Value Condition) where
  kept_12 : (pad there : Bool) (x : Result Value Condition) → is_mismatch r ≡ true → cond pad r (cond there r (cond (is_mismatch r) r x)) ≡ r
  kept_12 true there x m = refl
  kept_12 false true x m = refl
  kept_12 false false x m = ap (λ b. cond b r x) m

  kept_padded : (pad there : Bool) (x : Result Value Condition) → pad ≡ true → cond pad r (cond there r x) ≡ r
  kept_padded true there x e = refl
  kept_padded false there x e = let wrong : false ≡ true = e in cc

  kept_there : (pad there : Bool) (x : Result Value Condition) → there ≡ true → cond pad r (cond there r x) ≡ r
  kept_there true there x e = refl
  kept_there false true x e = refl
  kept_there false false x e = let wrong : false ≡ true = e in cc

  kept_short : (pad there : Bool) (x : Result Value Condition) → pad ≡ false → there ≡ false → is_mismatch r ≡ false → cond pad r (cond there r (cond (is_mismatch r) r x)) ≡ x
  kept_short true there x p t m = let wrong : true ≡ false = p in cc
  kept_short false true x p t m = let wrong : true ≡ false = t in cc
  kept_short false false x p t m = ap (λ b. cond b r x) m

-- ---- the item at hand

module _ (s : Source) (hand : ℕ → AtHand) (place : Place) (p : Progress) (at : IsAt s hand place p) (modes : EditModes) (e : Edit) (cell : ℕ) (more : List (Part ℕ)) where
  abbrev width : ℕ
  width = field_width e (s.kinds cell)

  abbrev chars : List ℕ
  chars = characters s place e cell

  abbrev next : Progress → Ended
  next = carried_out s.advance more

  text_same : p.hand.text ≡ text_at s place
  text_same = sym (ap (λ o. unwrap_or o []) at.text)

  abbrev whole_field : Kind → ℕ → List ℕ → Ended
  whole_field k w cs = field_read s.advance modes.pad w cs cell (without_padding modes.pad w cs (input_field e k modes.blank_zero (cs ++ replicate (w - length cs) 32))) p next

  item_is : carried_out s.advance (item modes e cell ∷ more) p ≡ comes_to s.advance modes.pad width chars cell p next (field s place modes e cell)
  item_is =
      ap (λ k. whole_field k (width_for e k) (characters_for (width_for e k) p)) (at.kinds cell)
      ∙ ap (λ w. whole_field (s.kinds cell) w (characters_for w p)) (width_is e (s.kinds cell))
      ∙ ap (whole_field (s.kinds cell) width) (ap (λ n. take width (drop n p.hand.text)) at.at_is ∙ ap (λ t. take width (drop place.at t)) text_same)

  chars_low : length chars ≤ width
  chars_low = omega (arith, length-take width (drop place.at (text_at s place)))

  abbrev r : Result Value Condition
  r = field s place modes e cell

  stops_12 : (IsFor e (s.kinds cell) → ⊥) → carried_out s.advance (item modes e cell ∷ more) p ≡ stopped (Error 12) p
  stops_12 never =
      let is : r ≡ Err (Error 12) = not_for modes.blank_zero (chars ++ replicate (width - length chars) 32) e (s.kinds cell) never in
      item_is ∙ by_result s.advance modes.pad width chars cell p next r (Err (Error 12)) (length chars == width) refl
      (kept_12 r modes.pad (length chars == width) (Ok Undefined) (ap is_mismatch is) ∙ is)

  -- a value or a condition of a field that is there, or filled up
  kept_whole : (IsShort s place e cell → modes.pad ≡ true) → cond modes.pad r (cond (length chars == width) r (cond (is_mismatch r) r (Ok Undefined))) ≡ r
  kept_whole padded = elim (cases_lt (length chars) width) [
    | inl short ↦ kept_padded r modes.pad (length chars == width) (cond (is_mismatch r) r (Ok Undefined)) (padded short)
    | inr low ↦ kept_there r modes.pad (length chars == width) (cond (is_mismatch r) r (Ok Undefined)) (is_there s.advance modes.pad width chars cell p next (λ short. absurd (omega (arith, short, low))) chars_low)
  ]

  stops_for : (condition : Condition) → (IsShort s place e cell → modes.pad ≡ true) → r ≡ Err condition → carried_out s.advance (item modes e cell ∷ more) p ≡ stopped condition p
  stops_for condition padded is =
      item_is ∙ by_result s.advance modes.pad width chars cell p next r (Err condition) (length chars == width) refl (kept_whole padded ∙ is)

  value_of_it : (v : Value) → (IsShort s place e cell → modes.pad ≡ true) → r ≡ Ok v
      → carried_out s.advance (item modes e cell ∷ more) p ≡ outcome s.advance modes.pad width chars cell p next (length chars == width) v
  value_of_it v padded is = item_is ∙ by_value s.advance modes.pad width chars cell p next r v (length chars == width) refl (kept_whole padded ∙ is)

  no_value : IsFor e (s.kinds cell) → IsShort s place e cell → modes.pad ≡ false
      → carried_out s.advance (item modes e cell ∷ more) p ≡ outcome s.advance modes.pad width chars cell p next false Undefined
  no_value right short pad =
      let other = is_other (s.kinds cell) r (told_for modes.blank_zero (chars ++ replicate (width - length chars) 32) e (s.kinds cell) right) in
      let gone = is_not_there s.advance modes.pad width chars cell p next short in
      item_is ∙ by_value s.advance modes.pad width chars cell p next r Undefined false gone (kept_short r modes.pad false (Ok Undefined) pad refl other.0)

  abbrev taking : Value → Progress
  taking v = with_field width (length chars) cell v p

-- how an outcome goes, by the facts
module _ (width : ℕ) (chars : List ℕ) (cell : ℕ) (p : Progress) (next : Progress → Ended) (v : Value) where
  goes_on : (advance pad there : Bool) → (there ≡ false → (pad ≡ true) × (advance ≡ true)) → outcome advance pad width chars cell p next there v ≡ next (with_field width (length chars) cell v p)
  goes_on advance pad true h = refl
  goes_on true true false h = refl
  goes_on true false false h = let wrong : false ≡ true = (h refl).0 in cc
  goes_on false pad false h = let wrong : false ≡ true = (h refl).1 in cc

  is_30 : (advance pad : Bool) → advance ≡ true → pad ≡ false → outcome advance pad width chars cell p next false v ≡ stopped (Error 30) p
  is_30 true false a e = refl
  is_30 true true a e = let wrong : true ≡ false = e in cc
  is_30 false pad a e = let wrong : false ≡ true = a in cc

  ends_padded : (advance pad there : Bool) → advance ≡ false → pad ≡ true → there ≡ false → outcome advance pad width chars cell p next there v ≡ stopped EndOfRecord (with_field width (length chars) cell v p)
  ends_padded false true false a e t = refl
  ends_padded false true true a e t = let wrong : true ≡ false = t in cc
  ends_padded false false there a e t = let wrong : false ≡ true = e in cc
  ends_padded true pad there a e t = let wrong : true ≡ false = a in cc

  ends_lost : (advance pad : Bool) → advance ≡ false → pad ≡ false → outcome advance pad width chars cell p next false v ≡ stopped EndOfRecord (record p { cells = with_value p.cells cell Undefined })
  ends_lost false false a e = refl
  ends_lost false true a e = let wrong : true ≡ false = e in cc
  ends_lost true pad a e = let wrong : true ≡ false = a in cc

-- ---- a part that passes

abbrev pub taken_by : Source → Place → Part ℕ → ℕ
taken_by s place (item modes e cell) = length (characters s place e cell)
taken_by s place part = 0

-- what a part does to the cells
abbrev pub Gives : Source → Place → Part ℕ → List Cell → List Cell → Type 0
Gives s place (item modes e cell) old new = (v : Value) × (field s place modes e cell ≡ Ok v) × (new ≡ with_value old cell v)
Gives s place part old new = new ≡ old

pub record IsPast (s : Source) (hand : ℕ → AtHand) (place : Place) (part : Part ℕ) (more : List (Part ℕ)) (p : Progress) : Type 0 where
  pub q : Progress
  pub is : carried_out s.advance (part ∷ more) p ≡ carried_out s.advance more q
  pub at : IsAt s hand (place_past s part place) q
  pub gives : Gives s place part p.cells q.cells
  pub count : q.count ≡ p.count + taken_by s place part

not_whole : (chars width : ℕ) → chars ≤ width → (chars == width) ≡ false → chars < width
not_whole chars width low not = elim (cases_lt chars width) [
  | inl short ↦ short
  | inr high ↦ let whole : (chars == width) ≡ true = eq-eqb chars width (omega (arith, low, high)) in let wrong : true ≡ false = sym whole ∙ not in cc
]

none_taken : (n : ℕ) → n ≡ n + 0
none_taken n = omega arith

module _ (s : Source) (hand : ℕ → AtHand) (hands : AreHands s hand) where
  item_past : (place : Place) (modes : EditModes) (e : Edit) (cell : ℕ) (more : List (Part ℕ)) (p : Progress) → IsAt s hand place p → Passes s place (item modes e cell) → IsPast s hand place (item modes e cell) more p
  item_past place modes e cell more p at (right, (v, is), full) =
      let w = field_width e (s.kinds cell) in
      let cs = characters s place e cell in
      let low = chars_low s hand place p at modes e cell more in
      record {
        q = with_field w (length cs) cell v p;
        is = value_of_it s hand place p at modes e cell more v (λ short. (full short).0) is
            ∙ goes_on w cs cell p (carried_out s.advance more) v s.advance modes.pad (length cs == w) (λ not. full (not_whole (length cs) w low not));
        at = record {
          hand_is = at.hand_is;
          at_is = ap (position_behind (Ahead w)) at.at_is;
          kinds = λ n. kind_kept p.cells cell n v ∙ at.kinds n;
          text = at.text;
        };
        gives = (v, is, refl);
        count = refl;
      }

  slash_past : (place : Place) (more : List (Part ℕ)) (p : Progress) → IsAt s hand place p → Passes s place slash → IsPast s hand place slash more p
  slash_past place more p at (text, is) =
      let on : next_record (behind p.hand) ≡ Ok (hand (suc place.number)) = ap (λ h. next_record (behind h)) at.hand_is ∙ hands.next place.number p.hand.text text at.text is in
      record {
        q = record p { hand = hand (suc place.number); at = 0 };
        is = ap (λ r. with_record r p (carried_out s.advance more)) on;
        at = record { hand_is = refl; at_is = refl; kinds = at.kinds; text = is ∙ ap (λ t. Some t) (sym (hands.text (suc place.number) text is)) };
        gives = refl;
        count = none_taken p.count;
      }

  pub past : (part : Part ℕ) (place : Place) (more : List (Part ℕ)) (p : Progress) → IsAt s hand place p → Passes s place part → IsPast s hand place part more p
  past (item modes e cell) place more p at passes = item_past place modes e cell more p at passes
  past (string text) place more p at passes = absurd passes
  past (move how) place more p at passes = record {
    q = record p { at = position_behind how p.at };
    is = refl;
    at = record { hand_is = at.hand_is; at_is = ap (position_behind how) at.at_is; kinds = at.kinds; text = at.text };
    gives = refl;
    count = none_taken p.count;
  }
  past slash place more p at passes = slash_past place more p at passes
  past lacking place more p at passes = absurd passes

-- ---- all parts up to one

pub record IsReached (s : Source) (hand : ℕ → AtHand) (place : Place) (front back : List (Part ℕ)) (p : Progress) : Type 0 where
  pub q : Progress
  pub is : carried_out s.advance (front ++ back) p ≡ carried_out s.advance back q
  pub at : IsAt s hand (place_behind s front place) q
  pub cells : AreRead s front place p.cells q.cells
  pub count : q.count ≡ p.count + taken s front place

other_cell : (cells : List Cell) (at n : ℕ) (v : Value) → at ≢ n → slice_get (with_value cells at v) n ≡ slice_get cells n
other_cell [] at n v other = refl
other_cell (c ∷ cells) zero zero v other = absurd (other refl)
other_cell (c ∷ cells) zero (suc n) v other = refl
other_cell (c ∷ cells) (suc at) zero v other = refl
other_cell (c ∷ cells) (suc at) (suc n) v other = other_cell cells at n v (λ e. other (ap suc e))

same_cell : (cells : List Cell) (at : ℕ) (v : Value) → at < length cells → value_at (with_value cells at v) at ≡ v
same_cell [] at v low = absurd (omega (arith, low))
same_cell (c ∷ cells) zero v low = refl
same_cell (c ∷ cells) (suc at) v low = same_cell cells at v (omega (arith, low))

nothing_read : (s : Source) (place : Place) (cells : List Cell) → AreRead s [] place cells cells
nothing_read s place cells = record {
  places = refl;
  others = λ cell not. refl;
  items = λ front modes e cell back is not low. absurd (no_split front (item modes e cell) back is);
}

value_there : (one other : List Cell) (cell : ℕ) → slice_get one cell ≡ slice_get other cell → value_at one cell ≡ value_at other cell
value_there one other cell is = ap (λ o. option_map_or (λ (c : Cell). c.value) o Undefined) is

first_not : (n cell : ℕ) (cells : List ℕ) → All (λ (m : ℕ). m ≢ n) (cell ∷ cells) → cell ≢ n
first_not n cell cells others = others 0 0 (omega arith)

rest_not : (n cell : ℕ) (cells : List ℕ) → All (λ (m : ℕ). m ≢ n) (cell ∷ cells) → All (λ (m : ℕ). m ≢ n) cells
rest_not n cell cells others k d low = others (suc k) d (omega (arith, low))

module _ (s : Source) (place : Place) (more : List (Part ℕ)) (old mid new : List Cell) where
  behind_item : (modes : EditModes) (e : Edit) (cell : ℕ) → Gives s place (item modes e cell) old mid → AreRead s more (place_past s (item modes e cell) place) mid new → AreRead s (item modes e cell ∷ more) place old new
  behind_item modes e cell (v, is, gives) read = record {
    places = read.places ∙ ap places_of gives ∙ places_kept old cell v;
    others = λ n not. read.others n (rest_not n cell (items_in more) not) ∙ ap (λ l. slice_get l n) gives ∙ other_cell old cell n v (first_not n cell (items_in more) not);
    items = found;
  }
    where
      long : length mid ≡ length old
      long = ap length gives ∙ count_kept old cell v

      first_value : AreNot cell more → cell < length old → value_at new cell ≡ v
      first_value not low = value_there new mid cell (read.others cell not) ∙ ap (λ l. value_at l cell) gives ∙ same_cell old cell v low

      found : (front : List (Part ℕ)) (modes' : EditModes) (e' : Edit) (cell' : ℕ) (back : List (Part ℕ)) → item modes e cell ∷ more ≡ front ++ item modes' e' cell' ∷ back → AreNot cell' back → cell' < length old
          → field s (place_behind s front place) modes' e' cell' ≡ Ok (value_at new cell')
      found [] modes' e' cell' back split not low =
          let m : modes ≡ modes' = cc in
          let d : e ≡ e' = cc in
          let c : cell ≡ cell' = cc in
          let b : back ≡ more = cc in
          let not' : AreNot cell more = subst (λ (n : ℕ). AreNot n more) (sym c) (subst (AreNot cell') b not) in
          let low' : cell < length old = omega (arith, c, low) in
          ap (λ x. field s place x e' cell') (sym m) ∙ ap (λ x. field s place modes x cell') (sym d) ∙ ap (field s place modes e) (sym c)
          ∙ is ∙ ap (λ x. Ok x) (sym (first_value not' low')) ∙ ap (λ n. Ok (value_at new n)) c
      found (x ∷ front) modes' e' cell' back split not low =
          let same : item modes e cell ≡ x = cc in
          let rest : more ≡ front ++ item modes' e' cell' ∷ back = cc in
          ap (λ (y : Part ℕ). field s (place_behind s front (place_past s y place)) modes' e' cell') (sym same)
          ∙ read.items front modes' e' cell' back rest not (omega (arith, low, long))

  behind_other : (part : Part ℕ) → ((modes : EditModes) (e : Edit) (cell : ℕ) → part ≡ item modes e cell → ⊥) → items_in (part ∷ more) ≡ items_in more → mid ≡ old → AreRead s more (place_past s part place) mid new
      → AreRead s (part ∷ more) place old new
  behind_other part no_item none same read = record {
    places = read.places ∙ ap places_of same;
    others = λ n not. read.others n (subst (λ (l : List ℕ). All (λ (m : ℕ). m ≢ n) l) none not) ∙ ap (λ l. slice_get l n) same;
    items = found;
  }
    where
      found : (front : List (Part ℕ)) (modes : EditModes) (e : Edit) (cell : ℕ) (back : List (Part ℕ)) → part ∷ more ≡ front ++ item modes e cell ∷ back → AreNot cell back → cell < length old
          → field s (place_behind s front place) modes e cell ≡ Ok (value_at new cell)
      found [] modes e cell back split not low = let same' : part ≡ item modes e cell = cc in absurd (no_item modes e cell same')
      found (x ∷ front) modes e cell back split not low =
          let same' : part ≡ x = cc in
          let rest : more ≡ front ++ item modes e cell ∷ back = cc in
          ap (λ (y : Part ℕ). field s (place_behind s front (place_past s y place)) modes e cell) (sym same')
          ∙ read.items front modes e cell back rest not (omega (arith, low, ap length same))

  read_behind : (part : Part ℕ) → Passes s place part → Gives s place part old mid → AreRead s more (place_past s part place) mid new → AreRead s (part ∷ more) place old new
  read_behind (item modes e cell) passes gives read = behind_item modes e cell gives read
  read_behind (string text) passes gives read = absurd passes
  read_behind (move how) passes gives read = behind_other (move how) (λ modes e cell is. cc) refl gives read
  read_behind slash passes gives read = behind_other slash (λ modes e cell is. cc) refl gives read
  read_behind lacking passes gives read = absurd passes

taken_first : (s : Source) (place : Place) (part : Part ℕ) (more : List (Part ℕ)) → taken s (part ∷ more) place ≡ taken_by s place part + taken s more (place_past s part place)
taken_first s place (item modes e cell) more = refl
taken_first s place (string text) more = omega arith
taken_first s place (move how) more = omega arith
taken_first s place slash more = omega arith
taken_first s place lacking more = omega arith

module _ (s : Source) (hand : ℕ → AtHand) (hands : AreHands s hand) where
  pub reached : (front : List (Part ℕ)) (place : Place) (back : List (Part ℕ)) (p : Progress) → IsAt s hand place p → AllPass s front place → IsReached s hand place front back p
  reached [] place back p at all = record { q = p; is = refl; at = at; cells = nothing_read s place p.cells; count = none_taken p.count }
  reached (part ∷ front) place back p at all =
      let passes = passes_first s place part front all in
      let one = past s hand hands part place (front ++ back) p at passes in
      let more = reached front (place_past s part place) back one.q one.at (all_behind s place part front all) in
      record {
        q = more.q;
        is = one.is ∙ more.is;
        at = more.at;
        cells = read_behind s place front p.cells one.q.cells more.q.cells part passes one.gives more.cells;
        count = more.count ∙ ap (λ n. n + taken s front (place_past s part place)) one.count
            ∙ omega (arith, taken_first s place part front);
      }

-- ---- the part that meets a condition

-- what a part leaves that has met the end of the record
pub record IsLeftAt (s : Source) (place : Place) (part : Part ℕ) (q r : Progress) : Type 0 where
  pub more : ℕ
  pub left : IsLeft s place part q.cells r.cells more
  pub count : r.count ≡ q.count + more

pub record IsMet (s : Source) (place : Place) (part : Part ℕ) (back : List (Part ℕ)) (condition : Condition) (q : Progress) : Type 0 where
  pub r : Progress
  pub is : carried_out s.advance (part ∷ back) q ≡ stopped condition r
  pub hand : r.hand ≡ q.hand
  pub places : places_of r.cells ≡ places_of q.cells
  pub fine : condition ≢ Fine
  pub left : condition ≡ EndOfRecord → IsLeftAt s place part q r

module _ (s : Source) (hand : ℕ → AtHand) (hands : AreHands s hand) (place : Place) (q : Progress) (at : IsAt s hand place q) (back : List (Part ℕ)) where
  stays : (part : Part ℕ) (condition : Condition) → carried_out s.advance (part ∷ back) q ≡ stopped condition q → condition ≢ Fine → condition ≢ EndOfRecord → IsMet s place part back condition q
  stays part condition is fine other = record { r = q; is = is; hand = refl; places = refl; fine = fine; left = λ e. absurd (other e) }

  error_met : (part : Part ℕ) (n : ℕ) → carried_out s.advance (part ∷ back) q ≡ stopped (Error n) q → IsMet s place part back (Error n) q
  error_met part n is = stays part (Error n) is (λ e. cc) (λ e. cc)

  padded_met : (modes : EditModes) (e : Edit) (cell : ℕ) (v : Value) → IsShort s place e cell → modes.pad ≡ true → s.advance ≡ false → field s place modes e cell ≡ Ok v → IsMet s place (item modes e cell) back EndOfRecord q
  padded_met modes e cell v short pad advance is =
      let w = field_width e (s.kinds cell) in
      let cs = characters s place e cell in
      let next : Progress → Ended = carried_out s.advance back in
      record {
        r = with_field w (length cs) cell v q;
        is = value_of_it s hand place q at modes e cell back v (λ h. pad) is
            ∙ ends_padded w cs cell q next v s.advance modes.pad (length cs == w) advance pad (is_not_there s.advance modes.pad w cs cell q next short);
        hand = refl;
        places = places_kept q.cells cell v;
        fine = λ x. cc;
        left = λ x. record { more = length cs; left = (v, refl, (λ h. (is, refl)), λ h. absurd (both pad h)); count = refl };
      }
    where
      both : modes.pad ≡ true → modes.pad ≡ false → ⊥
      both a b = let wrong : true ≡ false = cc in cc

  lost_met : (modes : EditModes) (e : Edit) (cell : ℕ) → IsFor e (s.kinds cell) → IsShort s place e cell → modes.pad ≡ false → s.advance ≡ false → IsMet s place (item modes e cell) back EndOfRecord q
  lost_met modes e cell right short pad advance =
      let w = field_width e (s.kinds cell) in
      let cs = characters s place e cell in
      record {
        r = record q { cells = with_value q.cells cell Undefined };
        is = no_value s hand place q at modes e cell back right short pad ∙ ends_lost w cs cell q (carried_out s.advance back) Undefined s.advance modes.pad advance pad;
        hand = refl;
        places = places_kept q.cells cell Undefined;
        fine = λ x. cc;
        left = λ x. record { more = 0; left = (Undefined, refl, (λ h. absurd (both h pad)), λ h. (refl, refl)); count = none_taken q.count };
      }
    where
      both : modes.pad ≡ true → modes.pad ≡ false → ⊥
      both a b = let wrong : true ≡ false = cc in cc

  value_met : (modes : EditModes) (e : Edit) (cell : ℕ) (condition : Condition) → IsFor e (s.kinds cell) → (IsShort s place e cell → modes.pad ≡ true) → field s place modes e cell ≡ Err condition
      → IsMet s place (item modes e cell) back condition q
  value_met modes e cell condition right padded is =
      let w = field_width e (s.kinds cell) in
      let cs = characters s place e cell in
      let other = is_other (s.kinds cell) (field s place modes e cell) (told_for modes.blank_zero (cs ++ replicate (w - length cs) 32) e (s.kinds cell) right) in
      stays (item modes e cell) condition (stops_for s hand place q at modes e cell back condition padded is)
      (λ x. other.1 (is ∙ ap (λ (c : Condition). Err c) x)) (λ x. other.2 (is ∙ ap (λ (c : Condition). Err c) x))

  pub met : (part : Part ℕ) (condition : Condition) → Meets s place part condition → IsMet s place part back condition q
  met _ _ descriptor_is_wanting = error_met lacking 11 refl
  met _ _ (string_is_met {text = text}) = error_met (string text) 29 refl
  met _ _ (records_have_ended none) =
      stays slash s.behind
      (ap (λ r. with_record r q (carried_out s.advance back)) (ap (λ h. next_record (behind h)) at.hand_is ∙ hands.last place.number q.hand.text at.text none)) hands.fine hands.record_end
  met _ _ (descriptor_is_for_others {modes = modes} {e = e} {cell = cell} never) = error_met (item modes e cell) 12 (stops_12 s hand place q at modes e cell back never)
  met _ _ (record_is_short {modes = modes} {e = e} {cell = cell} right short pad advance) =
      error_met (item modes e cell) 30 (
      no_value s hand place q at modes e cell back right short pad
      ∙ is_30 (field_width e (s.kinds cell)) (characters s place e cell) cell q (carried_out s.advance back) Undefined s.advance modes.pad advance pad
      )
  met _ _ (record_has_ended {modes = modes} {e = e} {cell = cell} right short pad advance) = lost_met modes e cell right short pad advance
  met _ _ (field_has_no_value {modes = modes} {e = e} {cell = cell} {condition = condition} right padded is) = value_met modes e cell condition right padded is
  met _ _ (record_ends_in_field {modes = modes} {e = e} {cell = cell} {v = v} right short pad advance is) = padded_met modes e cell v short pad advance is
