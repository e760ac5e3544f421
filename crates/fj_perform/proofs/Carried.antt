-- A transfer by where it begins, and by whether it goes together with its connection.
use Rattle.std.proofs.Common.{◌≡◌, ◌≢◌, ℕ, Bool, true, false, List, Ok, refl, sym, ap, ◌∙◌}
use Rattle.std.specs.Prelude.{if◌then◌else◌}
use Rattle.fj_value.specs.declared.condition.Condition.{Condition}
use Rattle.fj_value.specs.declared.condition.Condition.TheVariants.{Fine, EndOfFile, EndOfRecord, Error}
use Rattle.fj_modes.specs.declared.modes.Modes.{Modes}
use Rattle.fj_moved.specs.declared.moved.Moved.{Moved}
use Rattle.fj_control.specs.Steps.{Given}
use Rattle.fj_connect.specs.Connection.{Connection}
use Rattle.fj_connect.specs.Positions.{ended}
use Rattle.fj_transfer.specs.Change.{changed}
use Rattle.fj_transfer.specs.Transfer.{Done, unfit, begins_at, in_error, read_by, written_by, from_place, if_fit, transfer_by}
use Rattle.fj_transfer.specs.declared.transfer.TransferSpec.{TransferSpec}
use Rattle.fj_perform.specs.Front.{started, follows}
use Rattle.fj_perform.specs.declared.start.Start.{Start}
use Rattle.fj_perform.proofs.Fitting.{started_modes, ended_modes}

-- the transfer from a place, by its direction
abbrev carried : (ℕ → List Given) → Connection → TransferSpec → Moved → Start → Bool → Done
carried control old spec moved start b =
    if b then read_by spec.layout control old (started start (follows b old)) spec (changed spec.edit (started start (follows b old)).modes.edit) moved
    else written_by spec.layout control old (started start (follows b old)) spec (changed spec.edit (started start (follows b old)).modes.edit) moved

pub read_begins : (control : ℕ → List Given) (old : Connection) (spec : TransferSpec) (moved : Moved) (start : Start) → spec.input ≡ true → Ok (started start (follows spec.input old)) ≡ begins_at spec (follows spec.input old)
    → read_by spec.layout control old (started start (ended old)) spec (changed spec.edit old.modes.edit) moved ≡ from_place control old spec moved (begins_at spec (follows spec.input old))
read_begins control old spec moved start input begins =
    ap (λ (m : Modes). read_by spec.layout control old (started start (ended old)) spec (changed spec.edit m.edit) moved) (sym (started_modes start (ended old) ∙ ended_modes old))
    ∙ ap (carried control old spec moved start) (sym input)
    ∙ ap (from_place control old spec moved) begins

pub write_begins : (control : ℕ → List Given) (old : Connection) (spec : TransferSpec) (moved : Moved) (start : Start) → spec.input ≡ false → Ok (started start (follows spec.input old)) ≡ begins_at spec (follows spec.input old)
    → written_by spec.layout control old (started start old) spec (changed spec.edit old.modes.edit) moved ≡ from_place control old spec moved (begins_at spec (follows spec.input old))
write_begins control old spec moved start output begins =
    ap (λ (m : Modes). written_by spec.layout control old (started start old) spec (changed spec.edit m.edit) moved) (sym (started_modes start old))
    ∙ ap (carried control old spec moved start) (sym output)
    ∙ ap (from_place control old spec moved) begins

pub transfer_fit : (control : ℕ → List Given) (old : Connection) (spec : TransferSpec) (moved : Moved) → unfit old.modes spec ≡ Fine
    → from_place control old spec moved (begins_at spec (follows spec.input old)) ≡ transfer_by control old spec moved
unfolding transfer_by
transfer_fit control old spec moved fit = ap (if_fit control old spec moved) (sym fit)

if_unfit : (control : ℕ → List Given) (old : Connection) (spec : TransferSpec) (moved : Moved) (condition : Condition) → condition ≢ Fine
    → in_error old spec.input moved.cells condition ≡ if_fit control old spec moved condition
if_unfit control old spec moved Fine h = absurd (h refl)
if_unfit control old spec moved EndOfFile h = refl
if_unfit control old spec moved EndOfRecord h = refl
if_unfit control old spec moved (Error n) h = refl

pub transfer_unfit : (control : ℕ → List Given) (old : Connection) (spec : TransferSpec) (moved : Moved) (condition : Condition) → condition ≢ Fine → unfit old.modes spec ≡ condition
    → in_error old spec.input moved.cells condition ≡ transfer_by control old spec moved
unfolding transfer_by
transfer_unfit control old spec moved condition h is = if_unfit control old spec moved condition h ∙ ap (if_fit control old spec moved) (sym is)
