-- What actions print, as records and the one that stays open.
use Rattle.std.proofs.Common.{◌≡◌, ℕ, ◌+◌, ◌-◌, ◌<◌, ◌≤◌, ◌==◌, cond, List, [], ◌∷◌, ◌++◌, length, take, drop, Option, Some, None, Result, Ok, refl, sym, ap, subst, ◌∙◌, arith, append_assoc, length-append}
use Rattle.std.proofs.lemmas.Bool.{eq-eqb, ne_eqb}
use Rattle.std.proofs.lemmas.List.{append-nil, take-append-drop, drop-append-le, length-drop, length-take}
use Rattle.fj_value.specs.declared.condition.Condition.{Condition}
use Rattle.fj_line.specs.declared.page.Page.{Page}
use Rattle.fj_line.specs.Line.{LineState, empty_line, written, moved}
use Rattle.fj_line.specs.Actions.{Action, put, move, end_record, meet, AtHand, behind, condition_in, unless, carried_out, first_record, text_at}
use Rattle.fj_line.specs.declared.unwritten.Unwritten.{Unwritten}
use Rattle.fj_line.specs.Page.{at_hand, IsIn, Keeps, Carries}
use Rattle.fj_line.specs.Records.{texts_from, texts_of}
use Rattle.fj_list.specs.ListText.{text_of}
use Rattle.fj_transfer.specs.Printing.{Printed, printed_of, printed_by, if_fine, open_count}
use Rattle.fj_transfer.specs.Writing.{Prints}
use Rattle.fj_transfer.proofs.WriterLemmas.{front_is}

-- there is a text at least
texts_some : (line : LineState) (actions : List Action) → (first : List ℕ) × ((rest : List (List ℕ)) × (texts_from line actions ≡ first ∷ rest))
texts_some line [] = (line.text, ([], refl))
texts_some line (put chars ∷ more) = texts_some (written chars line) more
texts_some line (move how ∷ more) = texts_some (moved how line) more
texts_some line (end_record ∷ more) = (line.text, (texts_from empty_line more, refl))
texts_some line (meet condition ∷ more) = texts_some line more

-- a record that has ended, and what is printed behind it
abbrev behind_record : List ℕ → Printed → Printed
behind_record text p = record { records = text ∷ p.records; «open» = p.«open» }

more_printed : (text : List ℕ) (line : LineState) (actions : List Action) → printed_of (text ∷ texts_from line actions) ≡ behind_record text (printed_of (texts_from line actions))
more_printed text line actions =
    let some = texts_some line actions in
    let P : List (List ℕ) → Type 0 = λ l. printed_of (text ∷ l) ≡ behind_record text (printed_of l) in
    subst P (sym some.1.1) refl

pub went_well : (condition : Option Condition) (more : Result AtHand Condition) (last : AtHand) → unless condition more ≡ Ok last → more ≡ Ok last
went_well (Some condition) more last e = cc
went_well None more last e = e

-- the records that the actions end, and the line that they leave
pub record Ends (hand last : AtHand) (p : Printed) : Type 0 where
  pub ended : last.ended ≡ hand.ended ++ text_of p.records
  pub line : last.line.text ≡ p.«open»

in_front : (ended text more : List ℕ) → (ended ++ (text ++ 10 ∷ [])) ++ more ≡ ended ++ ((text ++ 10 ∷ []) ++ more)
in_front ended text more = append_assoc ended (text ++ 10 ∷ []) more

pub ends_as : (hand last : AtHand) (actions : List Action) → carried_out hand actions ≡ Ok last → Ends hand last (printed_of (texts_from hand.line actions))
ends_as hand last [] e =
    let P : Result AtHand Condition → Type 0 = λ r. Ends hand last (printed_of (hand.line.text ∷ [])) in
    let same : hand ≡ last = cc in
    record { ended = ap (λ (h : AtHand). h.ended) (sym same) ∙ sym (append-nil hand.ended); line = ap (λ (h : AtHand). h.line.text) (sym same) }
ends_as hand last (put chars ∷ more) e =
    let h = ends_as (behind (put chars) hand) last more (went_well (condition_in (put chars) hand) (carried_out (behind (put chars) hand) more) last e) in
    record { ended = h.ended; line = h.line }
ends_as hand last (move how ∷ more) e =
    let h = ends_as (behind (move how) hand) last more (went_well (condition_in (move how) hand) (carried_out (behind (move how) hand) more) last e) in
    record { ended = h.ended; line = h.line }
ends_as hand last (end_record ∷ more) e =
    let h = ends_as (behind end_record hand) last more (went_well (condition_in end_record hand) (carried_out (behind end_record hand) more) last e) in
    let p = printed_of (texts_from empty_line more) in
    let P : Printed → Type 0 = λ q. Ends hand last q in
    subst P (sym (more_printed hand.line.text empty_line more)) (record { ended = h.ended ∙ in_front hand.ended hand.line.text (text_of p.records); line = h.line })
ends_as hand last (meet condition ∷ more) e = cc

-- the characters of the record that stays open
some_ended : (r : List ℕ) (rs : List (List ℕ)) → 0 < length (text_of (r ∷ rs))
some_ended r rs = omega (arith, length-append (r ++ 10 ∷ []) (text_of rs), length-append r (10 ∷ []))

counted : (p : Printed) (ended line : List ℕ) (begun total : ℕ) → ended ≡ text_of p.records → line ≡ p.«open» → total ≡ length ended + length line
    → cond (total == length line) begun 0 + length line ≡ open_count begun p
counted p ended line begun total is same sum = by p.records refl
  where
    by : (records : List (List ℕ)) → p.records ≡ records → cond (total == length line) begun 0 + length line ≡ open_count begun p
    by [] e =
        let none : length ended ≡ 0 = ap length (is ∙ ap text_of e) in
        ap (λ b. cond b begun 0 + length line) (eq-eqb total (length line) (omega (arith, none)))
        ∙ ap (λ l. begun + length l) same
        ∙ ap (λ (l : List (List ℕ)). cond (length l == 0) begun 0 + length p.«open») (sym e)
    by (r ∷ rs) e =
        let some : 0 < length ended = subst (λ (l : List ℕ). 0 < length l) (sym (is ∙ ap text_of e)) (some_ended r rs) in
        ap (λ b. cond b begun 0 + length line) (ne_eqb total (length line) (λ t. absurd (omega (arith, t, some))))
        ∙ ap (λ l. 0 + length l) same
        ∙ ap (λ b. cond b begun 0 + length p.«open») (sym (ap (λ (l : List (List ℕ)). length l == 0) e ∙ ne_eqb (length (r ∷ rs)) 0 (λ t. absurd (omega (arith, t)))))

-- what a statement has written stands behind what stood there before
shown_behind : (page : Page) (text : List ℕ) → page.begin ≤ page.line → page.line ≤ length text → text_at (at_hand page text) ≡ drop page.begin text
shown_behind page text low within =
    sym (drop-append-le page.begin (take page.line text) (drop page.line text) (omega (arith, length-take page.line text))) ∙ ap (drop page.begin) (take-append-drop page.line text)

-- a call that carried the actions out
pub prints_fine : (limit begun end count : ℕ) (actions : List Action) (page : Page) (text : List ℕ)
    → page.begin ≡ end → carried_out (first_record limit begun) actions ≡ Ok (at_hand page text) → IsIn page text
    → count ≡ cond ((length text - end) == length (at_hand page text).line.text) begun 0 + length (at_hand page text).line.text
    → Prints begun (printed_by limit begun actions) (take end text) (Ok count) text
prints_fine limit begun end count actions page text is done within counts =
    let first = first_record limit begun in
    let last = at_hand page text in
    let ends = ends_as first last actions done in
    let p = printed_of (texts_of actions) in
    let all : text_at last ≡ drop page.begin text = shown_behind page text within.begin within.line in
    let total : length text - end ≡ length last.ended + length last.line.text = omega (arith, is, ap length all, length-append last.ended last.line.text, length-drop page.begin text) in
    let P : Result AtHand Condition → Type 0 = λ r. Prints begun (if_fine actions r) (take end text) (Ok count) text in
    subst P (sym done) (
      counts ∙ counted p last.ended last.line.text begun (length text - end) ends.ended ends.line total,
      sym (take-append-drop end text)
          ∙ ap (λ l. take end text ++ l) (ap (λ n. drop n text) (sym is) ∙ sym all ∙ ap (λ l. l ++ last.line.text) ends.ended ∙ ap (λ l. text_of p.records ++ l) ends.line),
    )

-- what is counted behind what stood before the statement
pub is_printed : (limit begun end : ℕ) (actions : List Action) (carried : Result (Unit {0}) Unwritten) (result : Result ℕ Unwritten) (page page' : Page) (old text new : List ℕ)
    → at_hand page old ≡ first_record limit begun → page.begin ≡ length old → Keeps page old page' text → end ≡ length old → Carries (at_hand page old) actions carried (at_hand page' text)
    → (Carries (first_record limit begun) actions carried (at_hand page' text) → Prints begun (printed_by limit begun actions) (take end text) result new)
    → Prints begun (printed_by limit begun actions) old result new
is_printed limit begun end actions carried result page page' old text new is begin kept from done counted =
    let P : List ℕ → Type 0 = λ l. Prints begun (printed_by limit begun actions) l result new in
    let Q : AtHand → Type 0 = λ h. Carries h actions carried (at_hand page' text) in
    subst P (ap (λ n. take n text) (from ∙ sym begin ∙ sym kept.begin) ∙ front_is page page' old text begin kept) (counted (subst Q is done))
