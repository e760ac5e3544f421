-- A transfer takes of its format control what that gives for its items alone.
use Rattle.std.proofs.Common.{◌≡◌, ℕ, zero, suc, ◌+◌, Bool, true, false, List, [], ◌∷◌, length, Result, Ok, Err, slice_get, refl, sym, ap, ◌∙◌, if◌then◌else◌}
use Rattle.std.proofs.lemmas.List.{length-append}
use Rattle.fj_value.specs.declared.value.Cell.{Cell}
use Rattle.fj_value.specs.declared.edit.EditModes.{EditModes}
use Rattle.fj_value.specs.declared.condition.Condition.{Condition}
use Rattle.fj_value.specs.declared.condition.Condition.TheVariants.{Fine, EndOfFile, EndOfRecord, Error}
use Rattle.fj_moved.specs.declared.moved.Moved.{Moved}
use Rattle.fj_moved.specs.Items.{in_cell, in_cells, items_of}
use Rattle.fj_moved.specs.Cells.{places_of}
use Rattle.fj_control.specs.Steps.{Given}
use Rattle.fj_connect.specs.Connection.{Connection, begun}
use Rattle.fj_connect.specs.Positions.{ended}
use Rattle.fj_transfer.specs.declared.transfer.Layout.{Layout}
use Rattle.fj_transfer.specs.declared.transfer.Layout.TheVariants.{Unformatted, Explicit, Listed, Group}
use Rattle.fj_transfer.specs.declared.transfer.TransferSpec.{TransferSpec}
use Rattle.fj_transfer.specs.AtHand.{AtHand, first_record}
use Rattle.fj_transfer.specs.Change.{changed}
use Rattle.fj_transfer.specs.Printing.{actions_by, printed_by}
use Rattle.fj_transfer.specs.Transfer.{explicit_read, read_by, written_by, records_written, from_place, if_fit, begins_at, unfit, transfer_by}
use Rattle.fj_bay.specs.Jobs.{items_for}

module _ (control : ℕ → List Given) (moved : Moved) where
  explicit_same : (old c : Connection) (advance : Bool) (modes : EditModes) (r : Result AtHand Condition) →
      explicit_read old c advance modes (λ n. control (length moved.order)) moved r ≡ explicit_read old c advance modes control moved r
  explicit_same old c advance modes (Err condition) = refl
  explicit_same old c advance modes (Ok hand) = refl

  read_same : (layout : Layout) (old c : Connection) (spec : TransferSpec) (modes : EditModes) →
      read_by layout (λ n. control (length moved.order)) old c spec modes moved ≡ read_by layout control old c spec modes moved
  read_same Unformatted old c spec modes = refl
  read_same (Explicit f) old c spec modes = explicit_same old c spec.advance modes (first_record c)
  read_same Listed old c spec modes = refl
  read_same (Group name members) old c spec modes = refl

  actions_same : (layout : Layout) (modes : EditModes) (advance : Bool) →
      actions_by layout (λ n. control (length (items_of moved))) modes advance moved ≡ actions_by layout control modes advance moved
  actions_same Unformatted modes advance = refl
  actions_same (Explicit f) modes advance = refl
  actions_same Listed modes advance = refl
  actions_same (Group name members) modes advance = refl

  records_same : (old c : Connection) (spec : TransferSpec) (modes : EditModes) →
      records_written old c spec moved.cells (printed_by c.modes.recl (begun c) (actions_by spec.layout (λ n. control (length (items_of moved))) modes spec.advance moved))
      ≡ records_written old c spec moved.cells (printed_by c.modes.recl (begun c) (actions_by spec.layout control modes spec.advance moved))
  records_same old c spec modes = ap (λ a. records_written old c spec moved.cells (printed_by c.modes.recl (begun c) a)) (actions_same spec.layout modes spec.advance)

  written_same : (layout : Layout) (old c : Connection) (spec : TransferSpec) (modes : EditModes) →
      written_by layout (λ n. control (length (items_of moved))) old c spec modes moved ≡ written_by layout control old c spec modes moved
  written_same Unformatted old c spec modes = refl
  written_same (Explicit f) old c spec modes = records_same old c spec modes
  written_same Listed old c spec modes = records_same old c spec modes
  written_same (Group name members) old c spec modes = records_same old c spec modes

  way_same : (input : Bool) (old c : Connection) (spec : TransferSpec) (modes : EditModes) →
      (if input then read_by spec.layout (λ n. control (items_for input moved)) old c spec modes moved else written_by spec.layout (λ n. control (items_for input moved)) old c spec modes moved)
      ≡ (if input then read_by spec.layout control old c spec modes moved else written_by spec.layout control old c spec modes moved)
  way_same true old c spec modes = read_same spec.layout old c spec modes
  way_same false old c spec modes = written_same spec.layout old c spec modes

  place_same : (old : Connection) (spec : TransferSpec) (r : Result Connection Condition) →
      from_place (λ n. control (items_for spec.input moved)) old spec moved r ≡ from_place control old spec moved r
  place_same old spec (Err condition) = refl
  place_same old spec (Ok c) = way_same spec.input old c spec (changed spec.edit c.modes.edit)

  fit_same : (c : Connection) (spec : TransferSpec) (condition : Condition) →
      if_fit (λ n. control (items_for spec.input moved)) c spec moved condition ≡ if_fit control c spec moved condition
  fit_same c spec Fine = place_same c spec (begins_at spec (if spec.input then ended c else c))
  fit_same c spec EndOfFile = refl
  fit_same c spec EndOfRecord = refl
  fit_same c spec (Error n) = refl

  pub control_same : (c : Connection) (spec : TransferSpec) → transfer_by (λ n. control (items_for spec.input moved)) c spec moved ≡ transfer_by control c spec moved
  unfolding transfer_by
  control_same c spec = fit_same c spec (unfit c.modes spec)

-- cells at the same places have as many items
there_same : (cells others : List Cell) → places_of others ≡ places_of cells → (at : ℕ) → length (in_cell (slice_get others at)) ≡ length (in_cell (slice_get cells at))
there_same [] [] e at = refl
there_same [] (x ∷ xs) e at = cc
there_same (y ∷ ys) [] e at = cc
there_same (y ∷ ys) (x ∷ xs) e zero = refl
there_same (y ∷ ys) (x ∷ xs) e (suc at) = let rest : places_of xs ≡ places_of ys = cc in there_same ys xs rest at

count_same : (cells others : List Cell) (order : List ℕ) → places_of others ≡ places_of cells → length (in_cells others order) ≡ length (in_cells cells order)
count_same cells others [] e = refl
count_same cells others (at ∷ order) e =
    length-append (in_cell (slice_get others at)) (in_cells others order)
    ∙ ap (λ n. n + length (in_cells others order)) (there_same cells others e at)
    ∙ ap (λ n. length (in_cell (slice_get cells at)) + n) (count_same cells others order e)
    ∙ sym (length-append (in_cell (slice_get cells at)) (in_cells cells order))

pub items_same : (input : Bool) (old new : Moved) → new.order ≡ old.order → places_of new.cells ≡ places_of old.cells → items_for input new ≡ items_for input old
items_same true old new order places = ap length order
items_same false old new order places = ap (λ o. length (in_cells new.cells o)) order ∙ count_same old.cells new.cells old.order places
