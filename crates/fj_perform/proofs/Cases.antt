-- A transfer by its layout and by where it begins.
use Rattle.std.proofs.Common.{◌≡◌, ℕ, Bool, false, List, [], Result, refl, sym, ap, ◌∙◌}
use Rattle.std.specs.Prelude.{is_some, if◌then◌else◌}
use Rattle.fj_value.specs.declared.condition.Condition.{Condition}
use Rattle.fj_value.specs.declared.edit.EditModes.{EditModes}
use Rattle.fj_value.specs.declared.value.Cell.{Cell}
use Rattle.fj_modes.specs.declared.specifiers.Access.TheVariants.{Direct}
use Rattle.fj_modes.specs.Words.{same_access}
use Rattle.fj_moved.specs.declared.moved.GroupMember.{GroupMember}
use Rattle.fj_moved.specs.declared.moved.Moved.{Moved}
use Rattle.fj_control.specs.Steps.{Given}
use Rattle.fj_connect.specs.Connection.{Connection, begun, missing_feed}
use Rattle.fj_transfer.specs.Printing.{Printed, printed, control_of, IsRecords}
use Rattle.fj_transfer.specs.Transfer.{ends_record, read_by, written_by, records_written, pieces_written, lines_written}
use Rattle.fj_transfer.specs.declared.transfer.Layout.{Layout}
use Rattle.fj_transfer.specs.declared.transfer.Layout.TheVariants.{Unformatted, Explicit, Listed, Group}
use Rattle.fj_transfer.specs.declared.transfer.TransferSpec.{TransferSpec}

-- formatted output is its records
written_records : (layout : Layout) (control : ℕ → List Given) (old c : Connection) (spec : TransferSpec) (modes : EditModes) (moved : Moved) → IsRecords layout → written_by layout control old c spec modes moved ≡ records_written old c spec moved.cells (printed c.modes.recl (begun c) spec control modes moved)
written_records Unformatted control old c spec modes moved h = absurd h
written_records (Explicit f) control old c spec modes moved h = refl
written_records Listed control old c spec modes moved h = refl
written_records (Group name members) control old c spec modes moved h = refl

lines_here : (old : Connection) (spec : TransferSpec) (cells : List Cell) (p : Result Printed Condition) → same_access old.modes.access Direct ≡ false → is_some spec.pos ≡ false → lines_written old old (missing_feed old) (ends_record spec) cells p ≡ records_written old old spec cells p
lines_here old spec cells p access named =
    ap (λ (b : Bool). lines_written old old (if b then [] else missing_feed old) (ends_record spec) cells p) (sym named)
    ∙ ap (λ (b : Bool). if b then pieces_written old old cells p else lines_written old old (if is_some spec.pos then [] else missing_feed old) (ends_record spec) cells p) (sym access)

-- records at the position
pub written_here : (layout : Layout) (control : ℕ → List Given) (old : Connection) (spec : TransferSpec) (modes : EditModes) (moved : Moved) → IsRecords layout → same_access old.modes.access Direct ≡ false → is_some spec.pos ≡ false
    → lines_written old old (missing_feed old) (ends_record spec) moved.cells (printed old.modes.recl (begun old) spec control modes moved) ≡ written_by layout control old old spec modes moved
written_here layout control old spec modes moved records access named =
    lines_here old spec moved.cells (printed old.modes.recl (begun old) spec control modes moved) access named ∙ sym (written_records layout control old old spec modes moved records)

-- input by equal layouts, from equal places, under equal modes
pub same_reading : (old : Connection) (spec : TransferSpec) (moved : Moved) (l k : Layout) (m n : EditModes) (a b : Connection) → m ≡ n → a ≡ b → k ≡ l → read_by l (control_of l) old a spec m moved ≡ read_by k (control_of k) old b spec n moved
same_reading old spec moved l k m n a b modes place layout =
    ap (λ (x : EditModes). read_by l (control_of l) old a spec x moved) modes
    ∙ ap (λ (c : Connection). read_by l (control_of l) old c spec n moved) place
    ∙ ap (λ (x : Layout). read_by x (control_of x) old b spec n moved) (sym layout)

pub same_group : (old : Connection) (spec : TransferSpec) (moved : Moved) (m : EditModes) (c : Connection) (n k : List ℕ) (ms ks : List GroupMember) → n ≡ k → ms ≡ ks → read_by (Group n ms) (control_of (Group n ms)) old c spec m moved ≡ read_by (Group k ks) (control_of (Group k ks)) old c spec m moved
same_group old spec moved m c n k ms ks name members =
    ap (λ (x : List ℕ). read_by (Group x ms) (control_of (Group x ms)) old c spec m moved) name
    ∙ ap (λ (x : List GroupMember). read_by (Group k x) (control_of (Group k x)) old c spec m moved) members
