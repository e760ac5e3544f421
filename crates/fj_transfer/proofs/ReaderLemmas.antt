-- Format control of an input, step by step.
use Rattle.std.proofs.Common.{◌≡◌, ◌≢◌, ℕ, zero, suc, ◌-◌, ◌<◌, Bool, false, ltb, List, [], ◌∷◌, length, drop, Option, Some, None, Result, Ok, Err, refl, sym, ap, subst, ◌∙◌, arith, length-drop}
use Rattle.std.specs.Prelude.{if◌then◌else◌, IfOk}
use Rattle.fj_value.specs.declared.condition.Condition.{Condition}
use Rattle.fj_value.specs.declared.condition.Condition.TheVariants.{Fine, EndOfRecord}
use Rattle.fj_value.specs.declared.value.Cell.{Cell}
use Rattle.fj_outside.specs.declared.errors.Stop.{Stop}
use Rattle.fj_connect.specs.Connection.{Connection}
use Rattle.fj_connect.specs.Linked.{Linked, connection_of}
use Rattle.fj_transfer.specs.Places.{at_place}
use Rattle.fj_transfer.specs.Transfer.{Done, Ways, input_done, explicit_ended}
use Rattle.fj_control.specs.declared.step.Step.{Step}
use Rattle.fj_control.specs.declared.step.Step.TheVariants as told
use Rattle.std.proofs.lemmas.Bool.{lt-ltb, le-ltb}
use Rattle.fj_control.specs.Steps.{Given, gives, done, no_data}
use Rattle.fj_control.specs.Walk.{Walk, GivesWhatIsDue, due, given, is_left, is_end, items_behind}
use Rattle.fj_transfer.specs.Input.{Progress, Ended, carried_out}
use Rattle.fj_transfer.specs.Reader.{items_left, parts_left, comes}
use Rattle.fj_transfer.specs.declared.reader.Reader.{Reader}

-- whether an item is left, as the code asks
pub left_is : (order : List ℕ) (next : ℕ) → ltb next (length order) ≡ is_left (length (drop next order))
left_is order next = by (length (drop next order)) (length-drop next order)
  where
    by : (n : ℕ) → n ≡ length order - next → ltb next (length order) ≡ is_left n
    by zero e = le-ltb next (length order) (omega arith)
    by (suc n) e = lt-ltb next (length order) (omega arith)

goes_on : (g : Given) → g ≢ done → g ≢ no_data → is_end g ≡ false
goes_on (gives x) h k = refl
goes_on done h k = absurd (h refl)
goes_on no_data h k = absurd (k refl)

-- what is due behind a step that is not the end
pub due_behind : (walk walk' : Walk) (left : Bool) (g : Given) (n m : ℕ) → GivesWhatIsDue walk left g walk' → left ≡ is_left n → g ≢ done → g ≢ no_data → m ≡ items_behind g n → due walk n ≡ g ∷ due walk' m
due_behind walk walk' left g n m gives' e h k behind =
    gives' n e ∙ ap (λ b. g ∷ (if b then [] else due walk' (items_behind g n))) (goes_on g h k) ∙ ap (λ i. g ∷ due walk' i) (sym behind)

pub given_done : (s : Step) → (s ≡ told.Done → ⊥) → given s ≢ done
given_done (told.Edit e) h k = cc
given_done told.Slash h k = cc
given_done (told.Str s) h k = cc
given_done (told.Tab n) h k = cc
given_done (told.Left n) h k = cc
given_done (told.Right n) h k = cc
given_done (told.Mode m) h k = cc
given_done told.Done h k = absurd (h refl)
given_done told.NoData h k = cc

-- ---- a step that was taken and carried out

pub step_done : (r : Result (Option Condition) Stop) (advance : Bool) (reader reader' : Reader) (p p' : Progress) (walk walk' : Walk) (left : Bool) (g : Given)
    → GivesWhatIsDue walk left g walk' → left ≡ is_left (length (items_left reader)) → g ≢ done
    → ((more : List Given) → IfOk r (λ end. carried_out advance (parts_left reader (g ∷ more)) p ≡ comes end (carried_out advance (parts_left reader' more)) p'))
    → (r ≡ Ok None → length (items_left reader') ≡ items_behind g (length (items_left reader))) → (r ≡ Ok None → g ≢ no_data)
    → IfOk r (λ end. carried_out advance (parts_left reader (due walk (length (items_left reader)))) p ≡ comes end (carried_out advance (parts_left reader' (due walk' (length (items_left reader'))))) p')
step_done (Err stop) advance reader reader' p p' walk walk' left g gives' e h carried behind some = tt
step_done (Ok (Some condition)) advance reader reader' p p' walk walk' left g gives' e h carried behind some =
    let n = length (items_left reader) in
    ap (λ l. carried_out advance (parts_left reader l) p) (gives' n e) ∙ carried (if is_end g then [] else due walk' (items_behind g n))
step_done (Ok None) advance reader reader' p p' walk walk' left g gives' e h carried behind some =
    let n = length (items_left reader) in
    let m = length (items_left reader') in
    ap (λ l. carried_out advance (parts_left reader l) p) (due_behind walk walk' left g n m gives' e h (some refl) (behind refl)) ∙ carried (due walk' m)

pub step_smaller : (r : Result (Option Condition) Stop) (reader reader' : Reader) (walk walk' : Walk) (left : Bool) (g : Given)
    → GivesWhatIsDue walk left g walk' → left ≡ is_left (length (items_left reader)) → g ≢ done
    → (r ≡ Ok None → length (items_left reader') ≡ items_behind g (length (items_left reader))) → (r ≡ Ok None → g ≢ no_data)
    → r ≡ Ok None → length (due walk' (length (items_left reader'))) < length (due walk (length (items_left reader)))
step_smaller r reader reader' walk walk' left g gives' e h behind some none =
    let is = due_behind walk walk' left g (length (items_left reader)) (length (items_left reader')) gives' e h (some none) (behind none) in
    omega (arith, ap length is)

-- ---- where an input ends

abbrev pub as_done : Connection → List Cell → Option ℕ → Condition → Done
as_done c cells count condition = record { connection = c; cells = cells; count = count; condition = condition }

pub fine_done : (ways : Ways) (cells : List Cell) (count : Option ℕ) (condition : Condition) → condition ≡ Fine → as_done ways.fine cells count condition ≡ input_done ways cells count condition
fine_done ways cells count condition e = let P : Condition → Type 0 = λ k. as_done ways.fine cells count k ≡ input_done ways cells count k in subst P (sym e) refl

pub record_done : (ways : Ways) (cells : List Cell) (count : Option ℕ) (condition : Condition) → condition ≡ EndOfRecord → as_done ways.end_of_record cells count condition ≡ input_done ways cells count condition
record_done ways cells count condition e = let P : Condition → Type 0 = λ k. as_done ways.end_of_record cells count k ≡ input_done ways cells count k in subst P (sym e) refl

-- the same file after reads
pub same_read : {F : Type 0} (bytes : F → List ℕ) (old new : Linked F) → new ≡ record old { file = new.file; hand = new.hand } → bytes new.file ≡ bytes old.file → connection_of bytes new ≡ connection_of bytes old
same_read bytes old new rest same = ap (connection_of bytes) rest ∙ ap (λ b. record { modes = old.modes; name = old.name; bytes = b; spot = old.spot }) same

-- the end of the file is where it is, wherever an input began
pub ended_anywhere : (old c : Connection) (place : Option ℕ) (advance : Bool) (e : Ended) → explicit_ended old c advance e ≡ explicit_ended old (at_place place c) advance e
ended_anywhere old c None advance e = refl
ended_anywhere old c (Some place) advance e = refl
