-- Under which modes a transfer is carried out: those that the statement names, and else those of the connection, or of `*`
-- (ISO/IEC 1539-1:2004, 9.4.5, 9.5.1).
use Rattle.std.specs.Prelude.{◌≡◌, ℕ, true, false, List, Option, Some, Ok, if◌then◌else◌}
use Rattle.fj_value.specs.declared.condition.Condition.{Condition}
use Rattle.fj_value.specs.declared.condition.Condition.TheVariants.{Fine}
use Rattle.fj_value.specs.declared.edit.EditModes.{EditModes}
use Rattle.fj_value.specs.declared.edit.Delim.TheVariants.{Plain}
use Rattle.fj_modes.specs.Words.{TakesOrKeeps}
use Rattle.fj_moved.specs.declared.moved.Moved.{Moved}
use Rattle.fj_connect.specs.Connection.{Connection}
use Rattle.fj_connect.specs.Positions.{ended}
use Rattle.fj_control.specs.Steps.{Given}
use Rattle.fj_transfer.specs.declared.transfer.TransferSpec.{TransferSpec}
use Rattle.fj_transfer.specs.Printing.{printed}
use Rattle.fj_transfer.specs.Transfer.{Done, unfit, begins_at, read_by, written_by, is_formatted, ends_record}
use Rattle.fj_statement.specs.Units.{number_of}
use Rattle.fj_statement.specs.declared.deck.Variable.{Variable}
use Rattle.fj_statement.specs.declared.unit.UnitRef.TheVariants.{Star}
use Rattle.fj_statement.specs.declared.statement.Transfer.{Transfer}
use Rattle.fj_statement.specs.declared.statement.Statement.TheVariants as statement
use Rattle.fj_meaning.specs.State.{State, Unit, found}
use Rattle.fj_meaning.specs.Telling.{is_asynchronous}
use Rattle.fj_meaning.specs.Transfers.{layout_of, moved_by, spec_of, refusal, carried_out, made_pending, star_limit, printed_to}
use Rattle.fj_meaning.specs.Statement.{own}

-- BLANK=, DECIMAL=, DELIM=, PAD= and SIGN=, each as the statement names it, else as it was before
pub record AreInEffect (t : Transfer) (before during : EditModes) : Type 0 where
  pub blank : TakesOrKeeps t.blank_zero before.blank_zero during.blank_zero
  pub decimal : TakesOrKeeps t.comma before.comma during.comma
  pub delim : TakesOrKeeps t.delim before.delim during.delim
  pub pad : TakesOrKeeps t.pad before.pad during.pad
  pub sign : TakesOrKeeps t.plus before.plus during.plus

-- what a transfer from that place on comes to under these modes
abbrev pub done_under : EditModes → (ℕ → List Given) → Connection → Connection → TransferSpec → Moved → Done
done_under modes control old c spec moved =
    if spec.input then read_by spec.layout control old c spec modes moved else written_by spec.layout control old c spec modes moved

-- a transfer that fits and begins at a place of its unit, at once or pending
pub record IsUnder (control : ℕ → List Given) (variables : List Variable) (s : State) (t : Transfer) (u : Unit) (c : Connection) : Type 0 where
  pub modes : EditModes
  pub are : AreInEffect t u.connection.modes.edit modes
  pub at_once : is_asynchronous t ≡ false → own control variables s (statement.Transfer t)
      ≡ carried_out variables s t (moved_by variables s t) u (done_under modes control u.connection c (spec_of variables s t (moved_by variables s t).cells) (moved_by variables s t))
  pub pending : is_asynchronous t ≡ true → own control variables s (statement.Transfer t)
      ≡ made_pending variables s t (moved_by variables s t) u (done_under modes control u.connection c (spec_of variables s t (moved_by variables s t).cells) (moved_by variables s t))

abbrev pub TransfersUnderModes : Type 0
TransfersUnderModes = (control : ℕ → List Given) (variables : List Variable) (s : State) (t : Transfer) (n : ℕ) (u : Unit) (c : Connection) →
    let moved = moved_by variables s t in
    let spec = spec_of variables s t moved.cells in
    number_of t.unit ≡ Some n → found s.units n ≡ Some u → refusal u.connection.modes t (layout_of variables moved.cells t.control) ≡ Fine →
    unfit u.connection.modes spec ≡ Fine → begins_at spec (if t.input then ended u.connection else u.connection) ≡ Ok c → IsUnder control variables s t u c

-- `*` has the modes of an OPEN without specifiers
abbrev pub modes_of_star : EditModes
modes_of_star = record { blank_zero = false; comma = false; delim = Plain; pad = true; plus = false }

abbrev pub StarPrintsUnderModes : Type 0
StarPrintsUnderModes = (control : ℕ → List Given) (variables : List Variable) (s : State) (t : Transfer) →
    let moved = moved_by variables s t in
    let spec = spec_of variables s t moved.cells in
    t.unit ≡ Star → is_asynchronous t ≡ false → is_formatted spec.layout ≡ true →
    (modes : EditModes) × AreInEffect t modes_of_star modes
    × (let p = printed_to (ends_record spec) s.output (printed star_limit s.output.begun spec control modes moved) in
    own control variables s (statement.Transfer t) ≡ (record s { output = p.0 }, p.1))
