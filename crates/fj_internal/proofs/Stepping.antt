-- Format control over elements, step by step.
use Rattle.std.proofs.Common.{◌≡◌, ◌≢◌, ℕ, ◌<◌, Bool, List, [], ◌∷◌, length, Option, Some, None, Result, Ok, Err, refl, ap, ◌∙◌, arith}
use Rattle.std.specs.Prelude.{if◌then◌else◌, IfOk}
use Rattle.fj_value.specs.declared.condition.Condition.{Condition}
use Rattle.fj_control.specs.Steps.{Given, done, no_data}
use Rattle.fj_control.specs.Walk.{Walk, GivesWhatIsDue, due, is_left, is_end, items_behind}
use Rattle.fj_transfer.specs.Input.{Progress}
use Rattle.fj_transfer.specs.Reader.{comes}
use Rattle.fj_transfer.proofs.ReaderLemmas.{due_behind}
use Rattle.fj_internal.specs.Records.{items_left, parts_left, taken_out}
use Rattle.fj_internal.specs.declared.reader.Reader.{Reader}

pub step_done : {E : Type 0} (r : Result (Option Condition) E) (advance : Bool) (reader reader' : Reader) (records records' : List (List ℕ)) (p p' : Progress) (walk walk' : Walk) (left : Bool) (g : Given)
    → GivesWhatIsDue walk left g walk' → left ≡ is_left (length (items_left reader)) → g ≢ done
    → ((more : List Given) → IfOk r (λ end. taken_out advance (parts_left reader (g ∷ more)) records p ≡ comes end (taken_out advance (parts_left reader' more) records') p'))
    → (r ≡ Ok None → length (items_left reader') ≡ items_behind g (length (items_left reader))) → (r ≡ Ok None → g ≢ no_data)
    → IfOk r (λ end. taken_out advance (parts_left reader (due walk (length (items_left reader)))) records p ≡ comes end (taken_out advance (parts_left reader' (due walk' (length (items_left reader')))) records') p')
step_done (Err stop) advance reader reader' records records' p p' walk walk' left g gives' e h carried behind some = tt
step_done (Ok (Some condition)) advance reader reader' records records' p p' walk walk' left g gives' e h carried behind some =
    let n = length (items_left reader) in
    ap (λ l. taken_out advance (parts_left reader l) records p) (gives' n e) ∙ carried (if is_end g then [] else due walk' (items_behind g n))
step_done (Ok None) advance reader reader' records records' p p' walk walk' left g gives' e h carried behind some =
    let n = length (items_left reader) in
    let m = length (items_left reader') in
    ap (λ l. taken_out advance (parts_left reader l) records p) (due_behind walk walk' left g n m gives' e h (some refl) (behind refl)) ∙ carried (due walk' m)

pub step_smaller : {E : Type 0} (r : Result (Option Condition) E) (reader reader' : Reader) (walk walk' : Walk) (left : Bool) (g : Given)
    → GivesWhatIsDue walk left g walk' → left ≡ is_left (length (items_left reader)) → g ≢ done
    → (r ≡ Ok None → length (items_left reader') ≡ items_behind g (length (items_left reader))) → (r ≡ Ok None → g ≢ no_data)
    → r ≡ Ok None → length (due walk' (length (items_left reader'))) < length (due walk (length (items_left reader)))
step_smaller r reader reader' walk walk' left g gives' e h behind some none =
    let is = due_behind walk walk' left g (length (items_left reader)) (length (items_left reader')) gives' e h (some none) (behind none) in
    omega (arith, ap length is)
