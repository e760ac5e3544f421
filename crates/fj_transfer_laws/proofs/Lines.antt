-- Lines that are written from the left to the right.
use Rattle.std.proofs.Common.{◌≡◌, ℕ, ◌+◌, ◌-◌, ◌≤◌, List, [], ◌∷◌, ◌++◌, length, map, take, drop, replicate, Option, Some, None, Ok, refl, sym, ap, ◌∙◌, arith, append_assoc, append-nil}
use Rattle.std.proofs.lemmas.List.{take_all, drop_all, take_at, drop_at, length-append, length-replicate, length-take, length-drop}
use Rattle.fj_line.specs.Line.{LineState, farthest, written, moved}
use Rattle.fj_line.specs.Actions.{Action, put, move, end_record, meet, AtHand, behind, condition_in, carried_out}
use Rattle.fj_line.specs.Records.{texts_from, MeetNone}
use Rattle.fj_line.specs.declared.moves.Move.{Move}
use Rattle.fj_line.specs.declared.moves.Move.TheVariants.{To, Back, Ahead}
use Rattle.fj_control.specs.Paired as part
use Rattle.fj_control.specs.Paired.{Part}
use Rattle.fj_moved.specs.Items.{Output}
use Rattle.fj_edit_out.specs.OutputField.{output_field}
use Rattle.fj_transfer.specs.Explicit.{field_put, action_of}
use Rattle.fj_transfer.specs.Printing.{printed_of}
use Rattle.fj_transfer.specs.Writing.{AreShort}
use Rattle.fj_transfer.proofs.PrintedLemmas.{went_well}
use Rattle.fj_transfer_laws.specs.RoundTrip.{CanBeRead}

-- the position is not inside what stands in the line
abbrev pub IsBehind : LineState → Type 0
IsBehind line = length line.text ≤ line.at

-- blanks up to the position
abbrev pub gap : LineState → List ℕ
gap line = replicate (line.at - length line.text) 32

-- characters stand at the position, behind what stood in the line
pub put_at : (line : LineState) (c : ℕ) (cs : List ℕ) → IsBehind line → (written (c ∷ cs) line).text ≡ line.text ++ (gap line ++ (c ∷ cs))
put_at line c cs low =
    let chars = c ∷ cs in
    let none : drop (line.at + length chars) line.text ≡ [] = drop_all (line.at + length chars) line.text (omega arith) in
    ap (λ l. l ++ (gap line ++ (chars ++ drop (line.at + length chars) line.text))) (take_all line.at line.text low)
    ∙ ap (λ l. line.text ++ (gap line ++ (chars ++ l))) none
    ∙ ap (λ l. line.text ++ (gap line ++ l)) (append-nil chars)

pub gap_long : (line : LineState) → IsBehind line → length (line.text ++ gap line) ≡ line.at
gap_long line low = omega (arith, low, length-append line.text (gap line), length-replicate {A = ℕ} (line.at - length line.text) 32)

put_long : (line : LineState) (c : ℕ) (cs : List ℕ) → IsBehind line → length (written (c ∷ cs) line).text ≡ line.at + length (c ∷ cs)
put_long line c cs low =
    omega (arith, low, ap length (put_at line c cs low), length-append line.text (gap line ++ (c ∷ cs)), length-append (gap line) (c ∷ cs), length-replicate {A = ℕ} (line.at - length line.text) 32)

pub put_behind : (line : LineState) (chars : List ℕ) → IsBehind line → IsBehind (written chars line)
put_behind line [] low = omega arith
put_behind line (c ∷ cs) low = omega (arith, put_long line c cs low)

-- characters that went into the limit end before it
pub put_near : (line : LineState) (chars : List ℕ) (far : ℕ) → IsBehind line → line.at ≤ far → length (written chars line).text ≤ far → line.at + length chars ≤ far
put_near line [] far low near short = omega arith
put_near line (c ∷ cs) far low near short = omega (arith, put_long line c cs low, short)

-- a line's text stays the front of its record
pub Grows : LineState → List ℕ → Type 0
Grows line text = (rest : List ℕ) × (text ≡ line.text ++ rest)

grows_put : (line : LineState) (chars text : List ℕ) → IsBehind line → Grows (written chars line) text → Grows line text
unfolding Grows
grows_put line [] text low h = h
grows_put line (c ∷ cs) text low (rest, is) =
    ((gap line ++ (c ∷ cs)) ++ rest, is ∙ ap (λ l. l ++ rest) (put_at line c cs low) ∙ append_assoc line.text (gap line ++ (c ∷ cs)) rest)

pub grows_more : (line : LineState) (text pad : List ℕ) → Grows line text → Grows line (text ++ pad)
unfolding Grows
grows_more line text pad (rest, is) = (rest ++ pad, ap (λ l. l ++ pad) is ∙ append_assoc line.text rest pad)

-- a line only grows
put_longer : (line : LineState) (chars : List ℕ) → length line.text ≤ length (written chars line).text
put_longer line [] = omega arith
put_longer line (c ∷ cs) =
    let chars = c ∷ cs in
    let back = drop (line.at + length chars) line.text in
    omega (
      arith,
      length-append (take line.at line.text) (gap line ++ (chars ++ back)),
      length-append (gap line) (chars ++ back),
      length-append chars back,
      length-take line.at line.text,
      length-replicate {A = ℕ} (line.at - length line.text) 32,
      length-drop (line.at + length chars) line.text,
    )

pub longer : (acts : List Action) (line : LineState) (text : List ℕ) (more : List (List ℕ)) → texts_from line acts ≡ text ∷ more → length line.text ≤ length text
longer [] line text more is = let same : line.text ≡ text = cc in omega (arith, ap length same)
longer (put chars ∷ acts) line text more is = omega (arith, put_longer line chars, longer acts (written chars line) text more is)
longer (move how ∷ acts) line text more is = longer acts (moved how line) text more is
longer (end_record ∷ acts) line text more is = let same : line.text ≡ text = cc in omega (arith, ap length same)
longer (meet condition ∷ acts) line text more is = longer acts line text more is

field_grows : (o : Option (List ℕ)) (line : LineState) (text : List ℕ) (more : List (List ℕ)) (acts : List Action) → IsBehind line → texts_from line (field_put o ∷ acts) ≡ text ∷ more
    → ((l : LineState) → IsBehind l → texts_from l acts ≡ text ∷ more → Grows l text) → Grows line text
field_grows (Some field) line text more acts low is h = grows_put line field text low (h (written field line) (put_behind line field low) is)
field_grows None line text more acts low is h = h line low is

all_of : (line : LineState) (text : List ℕ) → line.text ≡ text → Grows line text
unfolding Grows
all_of line text same = ([], sym same ∙ sym (append-nil line.text))

moved_grows : (how : Move) (line : LineState) (text : List ℕ) → Grows (moved how line) text → Grows line text
unfolding Grows
moved_grows how line text h = h

pub ahead_behind : (n : ℕ) (line : LineState) → IsBehind line → length line.text ≤ farthest → IsBehind (moved (Ahead n) line)
ahead_behind n line low short = omega arith

pub grows : (parts : List (Part Output)) (line : LineState) (text : List ℕ) (more : List (List ℕ)) → CanBeRead parts → IsBehind line → length text ≤ farthest → texts_from line (map action_of parts) ≡ text ∷ more → Grows line text
grows [] line text more can low short is = all_of line text cc
grows (part.item modes e x ∷ parts) line text more can low short is =
    field_grows (output_field e x.1 x.0 modes.plus) line text more (map action_of parts) low is (λ l low' is'. grows parts l text more can.2 low' short is')
grows (part.move (Ahead n) ∷ parts) line text more can low short is =
    moved_grows (Ahead n) line text (grows parts (moved (Ahead n) line) text more can (ahead_behind n line low (omega (arith, longer (map action_of parts) (moved (Ahead n) line) text more is))) short is)
grows (part.move (To n) ∷ parts) line text more can low short is = absurd can
grows (part.move (Back n) ∷ parts) line text more can low short is = absurd can
grows (part.slash ∷ parts) line text more can low short is = all_of line text cc
grows (part.string s ∷ parts) line text more can low short is = absurd can
grows (part.lacking ∷ parts) line text more can low short is = absurd can

-- characters that were put stand at their position in the record
pub stands_at : (line : LineState) (chars text : List ℕ) → IsBehind line → Grows (written chars line) text → take (length chars) (drop line.at text) ≡ chars
unfolding Grows
stands_at line [] text low h = refl
stands_at line (c ∷ cs) text low (rest, is) =
    let chars = c ∷ cs in
    let front = line.text ++ gap line in
    let all : text ≡ front ++ (chars ++ rest) =
    is ∙ ap (λ l. l ++ rest) (put_at line c cs low ∙ sym (append_assoc line.text (gap line) chars)) ∙ append_assoc front chars rest in
    ap (λ l. take (length chars) (drop line.at l)) all
    ∙ ap (take (length chars)) (drop_at front (chars ++ rest) line.at (gap_long line low))
    ∙ take_at chars rest (length chars) refl

-- ---- what was carried out meets no condition

pub meets_none : (hand last : AtHand) (acts : List Action) → carried_out hand acts ≡ Ok last → MeetNone acts
meets_none hand last [] e = tt
meets_none hand last (put chars ∷ more) e = meets_none (behind (put chars) hand) last more (went_well (condition_in (put chars) hand) (carried_out (behind (put chars) hand) more) last e)
meets_none hand last (move how ∷ more) e = meets_none (behind (move how) hand) last more e
meets_none hand last (end_record ∷ more) e = meets_none (behind end_record hand) last more (went_well (condition_in end_record hand) (carried_out (behind end_record hand) more) last e)
meets_none hand last (meet condition ∷ more) e = cc

pub front_meets_none : (front more : List Action) → MeetNone (front ++ more) → MeetNone front
front_meets_none [] more none = tt
front_meets_none (put chars ∷ front) more none = front_meets_none front more none
front_meets_none (move how ∷ front) more none = front_meets_none front more none
front_meets_none (end_record ∷ front) more none = front_meets_none front more none
front_meets_none (meet condition ∷ front) more none = absurd none

-- ---- the texts of records

pub open_ended : (texts : List (List ℕ)) → (printed_of (texts ++ [] ∷ [])).«open» ≡ []
open_ended [] = refl
open_ended (t ∷ []) = refl
open_ended (t ∷ u ∷ us) = open_ended (u ∷ us)

pub short_front : (limit : ℕ) (a b : List (List ℕ)) → AreShort limit (a ++ b) → AreShort limit a
short_front limit [] b h = tt
short_front limit (t ∷ a) b h = (h.0, short_front limit a b h.1)
