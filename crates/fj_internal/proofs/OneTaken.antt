-- What a READ takes from one element.
use Rattle.std.proofs.Common.{◌≡◌, ℕ, ◌||◌, Bool, true, false, List, [], ◌∷◌, None, refl, sym, ap, ◌∙◌}
use Rattle.std.specs.List.{list_any}
use Rattle.fj_value.specs.declared.condition.Condition.TheVariants.{Error}
use Rattle.fj_value.specs.declared.edit.EditModes.{EditModes}
use Rattle.fj_value.specs.declared.value.Cell.{Cell}
use Rattle.fj_modes.specs.Modes.{usual_edit}
use Rattle.fj_moved.specs.Load.{with_undefined}
use Rattle.fj_moved.specs.declared.moved.Moved.{Moved}
use Rattle.fj_transfer.specs.Change.{changed}
use Rattle.fj_transfer.specs.Printing.{control_of}
use Rattle.fj_transfer.specs.declared.explicit.Performed.{Performed}
use Rattle.fj_transfer.specs.declared.transfer.Layout.{Layout}
use Rattle.fj_transfer.specs.declared.transfer.TransferSpec.{TransferSpec}
use Rattle.fj_internal.specs.Internal.{IsInput, Taken, characters_of, holds_line_end, records_of}
use Rattle.fj_internal.specs.OneElement.{TakesOne}
use Rattle.fj_internal.specs.Records.{records_taken, taken_with}
use Rattle.fj_internal.proofs.ByRecords.{records_are_taken}
use Rattle.fj_internal.proofs.Heads.{same_taken}
use Rattle.fj_internal.proofs.LawProofs.{refused_is}

or_false : (b : Bool) → (b || false) ≡ b
or_false true = refl
or_false false = refl

held : (text : List ℕ) (cell : Cell) → characters_of cell.value ≡ text → list_any holds_line_end (records_of (cell ∷ [])) ≡ holds_line_end text
held text cell is = or_false (holds_line_end (characters_of cell.value)) ∙ ap holds_line_end is

-- the end of a line
pub one_refused : (text : List ℕ) (spec : TransferSpec) (moved : Moved) (cells : List Cell) (performed : Performed) → holds_line_end text ≡ true
    → ◌≡◌ {A = Taken} (taken_with cells performed) (record { cells = with_undefined moved.cells; count = None; condition = Error 32 }) → TakesOne text spec moved cells performed
one_refused text spec moved cells performed holds taken = λ cell is.
    taken ∙ refused_is (control_of spec.layout) (cell ∷ []) spec moved (held text cell is ∙ holds)

-- by the layout
pub one_taken : (text : List ℕ) (spec : TransferSpec) (moved : Moved) (cells : List Cell) (performed : Performed) (l : Layout) (modes : EditModes) → IsInput spec → holds_line_end text ≡ false
    → modes ≡ changed spec.edit usual_edit → spec.layout ≡ l → taken_with cells performed ≡ records_taken l (control_of l) spec.advance modes moved (text ∷ []) → TakesOne text spec moved cells performed
one_taken text spec moved cells performed l modes input none usual layout taken = λ cell is.
    taken
    ∙ same_taken l spec.layout modes (changed spec.edit usual_edit) spec.advance moved (text ∷ []) usual layout
    ∙ ap (λ (t : List ℕ). records_taken spec.layout (control_of spec.layout) spec.advance (changed spec.edit usual_edit) moved (t ∷ [])) (sym is)
    ∙ records_are_taken (control_of spec.layout) (cell ∷ []) spec moved (held text cell is ∙ none) input
