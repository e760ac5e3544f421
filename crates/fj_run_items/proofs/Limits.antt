-- How many characters a record has that stays open.
use Rattle.std.proofs.Common.{◌≡◌, ℕ, ◌+◌, ◌≤◌, ltb, eqb, cond, Bool, true, false, is_ok, is_some, List, [], ◌∷◌, ◌++◌, length, Option, Some, None, Result, Ok, Err, IfOk, refl, sym, ap, arith}
use Rattle.std.proofs.lemmas.Bool.{false≢true}
use Rattle.std.proofs.lemmas.Bool.Decides.{nat_tests}
use Rattle.fj_value.specs.declared.condition.Condition.{Condition}
use Rattle.fj_value.specs.declared.condition.Condition.TheVariants.{Error}
use Rattle.fj_line.specs.Actions.{Action, put, move, end_record, meet, AtHand, first_record, condition_in, unless, excess_of, carried_out}
use Rattle.fj_line.specs.Line.{LineState, most_bytes, empty_line, written, moved}
use Rattle.fj_line.specs.Records.{texts_from}
use Rattle.fj_transfer.specs.Printing.{Printed, printed_of, if_fine, printed_by, open_count}

abbrev IsDone : Result AtHand Condition → Type 0
IsDone r = is_ok r ≡ true

-- what is carried out met no condition
no_condition : (c : Option Condition) (r : Result AtHand Condition) → IsDone (unless c r) → (c ≡ None) × IsDone r
no_condition None r h = (refl, h)
no_condition (Some c) r h = absurd (false≢true h)

within_by : (a b : Bool) (c : Condition) → cond a (Some c) (cond b (Some (Error 26)) None) ≡ None → a ≡ false
within_by true b c h = absurd (false≢true (sym (ap is_some h)))
within_by false b c h = refl

within : (limit characters bytes : ℕ) → excess_of (Some limit) characters bytes ≡ None → characters ≤ limit
within limit characters bytes h =
    let low : ltb limit characters ≡ false = within_by (ltb limit characters) (ltb most_bytes bytes) (Error 15) h in grind (arith, nat_tests, low)

zero_by : (n : ℕ) (b : Bool) → n ≡ 0 → cond b n 0 ≡ n
zero_by n true e = refl
zero_by n false e = sym e

-- behind a record that has ended
next_count : (start limit : ℕ) (text : List ℕ) (all : List (List ℕ)) → start + length text ≤ limit → open_count 0 (printed_of all) ≤ limit → open_count start (printed_of (text ∷ all)) ≤ limit
next_count start limit text [] low h = low
next_count start limit text (next ∷ texts) low h =
    let more : Printed = printed_of (next ∷ texts) in
    let nought : ℕ = 0 in
    let none : cond (eqb (length more.records) 0) nought 0 ≡ nought = zero_by nought (eqb (length more.records) 0) refl in
    let test : eqb (length (text ∷ more.records)) 0 ≡ false = grind (arith, nat_tests) in
    let there : open_count start (printed_of (text ∷ (next ∷ texts))) ≡ 0 + length more.«open» = ap (λ b. cond b start 0 + length more.«open») test in
    omega (arith, h, none, there)

open_from : (limit start : ℕ) (ended : List ℕ) (line : LineState) (actions : List Action) → start + length line.text ≤ limit
    → IsDone (carried_out (record { limit = Some limit; start = start; ended = ended; line = line }) actions) → open_count start (printed_of (texts_from line actions)) ≤ limit
open_from limit start ended line [] low done = low
open_from limit start ended line (put chars ∷ more) low done =
    let hand : AtHand = record { limit = Some limit; start = start; ended = ended; line = written chars line } in
    let n = no_condition (condition_in (put chars) (record { limit = Some limit; start = start; ended = ended; line = line })) (carried_out hand more) done in
    open_from limit start ended (written chars line) more (within limit (start + length (written chars line).text) (length ended + length (written chars line).text) n.0) n.1
open_from limit start ended line (move how ∷ more) low done = open_from limit start ended (moved how line) more low done
open_from limit start ended line (end_record ∷ more) low done =
    let hand : AtHand = record { limit = Some limit; start = 0; ended = ended ++ (line.text ++ 10 ∷ []); line = empty_line } in
    let n = no_condition (condition_in end_record (record { limit = Some limit; start = start; ended = ended; line = line })) (carried_out hand more) done in
    next_count start limit line.text (texts_from empty_line more) low (open_from limit 0 (ended ++ (line.text ++ 10 ∷ [])) empty_line more (omega arith) n.1)
open_from limit start ended line (meet condition ∷ more) low done = absurd (false≢true done)

fine_by : (limit begun : ℕ) (actions : List Action) (r : Result AtHand Condition) → (IsDone r → open_count begun (printed_of (texts_from empty_line actions)) ≤ limit) → IfOk (if_fine actions r) (λ p. open_count begun p ≤ limit)
fine_by limit begun actions (Ok hand) h = h refl
fine_by limit begun actions (Err c) h = tt

-- the record that stays open has no more characters than a record may have
pub open_low : (limit begun : ℕ) (actions : List Action) → begun ≤ limit → IfOk (printed_by limit begun actions) (λ p. open_count begun p ≤ limit)
open_low limit begun actions low =
    let none : begun + length empty_line.text ≤ limit = omega (arith, low) in
    fine_by limit begun actions (carried_out (first_record limit begun) actions) (open_from limit begun [] empty_line actions none)
