-- The records of an output that is fine, and its items.
use Rattle.std.proofs.Common.{◌≡◌, ◌≢◌, ℕ, ◌+◌, ◌≤◌, Bool, true, false, cond, ltb, List, [], ◌∷◌, ◌++◌, length, map, slice_get, Option, Some, None, Result, Ok, Err, refl, sym, ap, subst, ◌∙◌, arith}
use Rattle.fj_value.specs.Kind.{IsOfKind}
use Rattle.fj_value.specs.declared.value.Cell.{Cell}
use Rattle.fj_value.specs.declared.condition.Condition.{Condition}
use Rattle.fj_value.specs.declared.condition.Condition.TheVariants.{Fine, Error}
use Rattle.fj_control.specs.Paired as part
use Rattle.fj_control.specs.Paired.{Part, paired}
use Rattle.fj_line.specs.Line.{LineState, most_bytes, empty_line}
use Rattle.fj_line.specs.Actions.{Action, put, move, end_record, AtHand as LineAtHand, behind as done, condition_in, excess_of, unless, carried_out}
use Rattle.fj_line.specs.Records.{texts_from, texts_of, MeetNone}
use Rattle.fj_edit_out.specs.OutputField.{output_field}
use Rattle.fj_moved.specs.Items.{Output, in_cell, in_cells, values_in}
use Rattle.fj_moved.specs.Cells.{kind_at}
use Rattle.fj_moved.specs.Moved.{value_at}
use Rattle.fj_transfer.specs.Explicit.{field_put, action_of}
use Rattle.fj_transfer.specs.Printing.{Printed, printed_of}
use Rattle.fj_transfer.specs.TransferLaws.{AreOfTheirKinds}
use Rattle.fj_transfer.specs.Writing.{AreShort}
use Rattle.fj_transfer.proofs.PieceLemmas.{texts_ended, printed_ended, are_short}
use Rattle.fj_transfer_laws.proofs.Lines.{meets_none, front_meets_none, open_ended, short_front}
use Rattle.fj_transfer_laws.proofs.RecordsBack.{AreItems}

-- ---- a WRITE that is fine

pub excess_never : (limit : Option ℕ) (characters bytes : ℕ) → excess_of limit characters bytes ≢ Some Fine
excess_never None characters bytes e = cc
excess_never (Some limit) characters bytes e = by (ltb limit characters) (ltb most_bytes bytes) e
  where
    by : (b d : Bool) → cond b (Some (Error 15)) (cond d (Some (Error 26)) None) ≡ Some Fine → ⊥
    by true d is = cc
    by false true is = cc
    by false false is = cc

pub unless_never : (o : Option Condition) (r : Result LineAtHand Condition) → o ≢ Some Fine → r ≢ Err Fine → unless o r ≢ Err Fine
unless_never None r h k e = k e
unless_never (Some condition) r h k e = h (ap (λ (x : Result LineAtHand Condition). of_error x) e)
  where
    of_error : Result LineAtHand Condition → Option Condition
    of_error (Ok x) = None
    of_error (Err x) = Some x

field_never : (o : Option (List ℕ)) (acts : List Action) (hand : LineAtHand) → ((h : LineAtHand) → carried_out h acts ≢ Err Fine) → carried_out hand (field_put o ∷ acts) ≢ Err Fine
field_never (Some field) acts hand h =
    let next = done (put field) hand in
    unless_never (condition_in (put field) hand) (carried_out next acts) (excess_never next.limit (next.start + length next.line.text) (length next.ended + length next.line.text)) (h next)
field_never None acts hand h = λ e. cc

pub acts_never : (parts : List (Part Output)) (hand : LineAtHand) → carried_out hand (map action_of parts ++ end_record ∷ []) ≢ Err Fine
acts_never [] hand =
    let next = done end_record hand in
    unless_never (condition_in end_record hand) (Ok next) (excess_never next.limit (next.start + length next.line.text) (length next.ended + length next.line.text)) (λ e. cc)
acts_never (part.item modes e x ∷ parts) hand = field_never (output_field e x.1 x.0 modes.plus) (map action_of parts ++ end_record ∷ []) hand (λ h. acts_never parts h)
acts_never (part.string s ∷ parts) hand =
    let next = done (put s) hand in
    unless_never (condition_in (put s) hand) (carried_out next (map action_of parts ++ end_record ∷ [])) (excess_never next.limit (next.start + length next.line.text) (length next.ended + length next.line.text)) (acts_never parts next)
acts_never (part.move how ∷ parts) hand = acts_never parts (done (move how) hand)
acts_never (part.slash ∷ parts) hand =
    let next = done end_record hand in
    unless_never (condition_in end_record hand) (carried_out next (map action_of parts ++ end_record ∷ [])) (excess_never next.limit (next.start + length next.line.text) (length next.ended + length next.line.text)) (acts_never parts next)
acts_never (part.lacking ∷ parts) hand = λ e. cc

-- ---- output that is fine

pub record IsPrinted (limit : ℕ) (acts : List Action) (p : Printed) : Type 0 where
  pub none : MeetNone acts
  pub short : AreShort limit (texts_of acts)
  pub records : p.records ≡ texts_of acts
  pub «open» : p.«open» ≡ []

pub is_printed : (limit : ℕ) (first last : LineAtHand) (acts : List Action) → first.limit ≡ Some limit → first.line ≡ empty_line → carried_out first (acts ++ end_record ∷ []) ≡ Ok last → IsPrinted limit acts (printed_of (texts_of (acts ++ end_record ∷ [])))
is_printed limit first last acts limited empty is =
    let all = acts ++ end_record ∷ [] in
    let ended : texts_of all ≡ texts_of acts ++ [] ∷ [] = texts_ended empty_line acts in
    let P : LineState → Type 0 = λ l. AreShort limit (texts_from l all) in
    let Q : List (List ℕ) → Type 0 = AreShort limit in
    let none : length first.line.text ≤ limit = omega (arith, ap (λ (l : LineState). length l.text) empty) in
    record {
      none = front_meets_none acts (end_record ∷ []) (meets_none first last all is);
      short = short_front limit (texts_of acts) ([] ∷ []) (subst Q ended (subst P empty (are_short limit first last all limited none is)));
      records = ap (λ (l : List (List ℕ)). (printed_of l).records) ended ∙ printed_ended (texts_of acts);
      «open» = ap (λ (l : List (List ℕ)). (printed_of l).«open») ended ∙ open_ended (texts_of acts);
    }

-- ---- the items

kinds_of_nothing : (cells : List Cell) (at : ℕ) (o : Option Cell) → slice_get cells at ≡ o → IsOfKind (kind_at cells at) (value_at cells at) → in_cell (slice_get cells at) ≡ (kind_at cells at, value_at cells at) ∷ []
kinds_of_nothing cells at (Some cell) is h = rw is refl
kinds_of_nothing cells at None is h = absurd (rw is at h)

pub items_there : (from into : List Cell) (order order' : List ℕ) → AreOfTheirKinds from order into order' → AreItems (in_cells from order) into order' × (values_in (in_cells from order) ≡ map (value_at from) order) × (length (in_cells from order) ≡ length order')
items_there from into [] [] h = (tt, refl, refl)
items_there from into [] (k ∷ order') h = absurd h
items_there from into (k ∷ order) [] h = absurd h
items_there from into (k ∷ order) (k' ∷ order') h =
    let one = kinds_of_nothing from k (slice_get from k) refl h.1 in
    let more = items_there from into order order' h.2 in
    let P : List Output → Type 0 = λ l. AreItems (l ++ in_cells from order) into (k' ∷ order') × (values_in (l ++ in_cells from order) ≡ value_at from k ∷ map (value_at from) order) × (length (l ++ in_cells from order) ≡ length (k' ∷ order')) in
    subst P (sym one) ((sym h.0, h.1, more.0), ap (λ l. value_at from k ∷ l) more.1, omega (arith, more.2))
