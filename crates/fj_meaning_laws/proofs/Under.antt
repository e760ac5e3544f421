-- The modes of a statement and of its connection are those of the transfer.
use Rattle.std.proofs.Common.{◌≡◌, ℕ, ℤ, pos, negsuc, ◌+◌, ◌-◌, ◌==◌, ◌||◌, nat_lt, Bool, true, false, not, List, Option, Some, None, unwrap_or, Result, Ok, Err, refl, sym, ap, ◌∙◌, subst, length}
use Rattle.std.specs.Prelude.{if◌then◌else◌, IfOk}
use Rattle.fj_value.specs.declared.condition.Condition.{Condition}
use Rattle.fj_value.specs.declared.condition.Condition.TheVariants.{Fine, Error}
use Rattle.fj_value.specs.declared.edit.EditModes.{EditModes}
use Rattle.fj_modes.specs.Modes.{usual_edit}
use Rattle.fj_modes.specs.Words.{TakesOrKeeps}
use Rattle.fj_modes.specs.declared.modes.Modes.{Modes}
use Rattle.fj_moved.specs.declared.moved.Moved.{Moved}
use Rattle.fj_connect.specs.Connection.{Connection, between}
use Rattle.fj_connect.specs.Positions.{ended}
use Rattle.fj_bay.proofs.Keeping.{ended_kept}
use Rattle.fj_control.specs.Steps.{Given}
use Rattle.fj_transfer.specs.Change.{changed}
use Rattle.fj_transfer.specs.declared.transfer.TransferSpec.{TransferSpec}
use Rattle.fj_transfer.specs.Printing.{printed}
use Rattle.fj_transfer.specs.Transfer.{Done, unfit, placed, begins_at, if_fit, from_place, transfer_by, is_formatted, ends_record}
use Rattle.fj_statement.specs.Units.{number_of}
use Rattle.fj_statement.specs.declared.deck.Variable.{Variable}
use Rattle.fj_statement.specs.declared.unit.UnitRef.TheVariants as unit
use Rattle.fj_statement.specs.declared.statement.Transfer.{Transfer}
use Rattle.fj_statement.specs.declared.statement.Statement.TheVariants as statement
use Rattle.fj_meaning.specs.State.{State, Unit, found}
use Rattle.fj_meaning.specs.Telling.{is_asynchronous}
use Rattle.fj_meaning.specs.Transfers.{layout_of, moved_by, spec_of, refusal, carried_out, made_pending, unless_refused, on_unit, transferred, star_limit, printed_to, transfer_at}
use Rattle.fj_meaning.specs.Statement.{own}
use Rattle.fj_meaning.proofs.AtOnce.{numbered_at}
use Rattle.fj_meaning_laws.specs.ModeLaws.{AreInEffect, done_under, IsUnder, TransfersUnderModes, modes_of_star, StarPrintsUnderModes}

-- a place of the connection has its modes
placed_modes : (c : Connection) (spec : TransferSpec) → IfOk (begins_at spec c) (λ (b : Connection). b.modes ≡ c.modes)
placed_modes c spec = by c.spot.after_end spec.rec spec.pos
  where
    record_at : (n : ℕ) (b : Bool) → IfOk (if b then Err (Error 21) else Ok (record c { spot = record c.spot { next_number = n } })) (λ (b : Connection). b.modes ≡ c.modes)
    record_at n true = tt
    record_at n false = refl

    byte_at : (place : ℕ) (b : Bool) → IfOk (if b then Err (Error 21) else Ok (between c place)) (λ (b : Connection). b.modes ≡ c.modes)
    byte_at place true = tt
    byte_at place false = refl

    by : (b : Bool) (rec byte : Option ℤ) → IfOk (if b then Err (Error 20) else placed c rec byte) (λ (b : Connection). b.modes ≡ c.modes)
    by true rec byte = tt
    by false (Some (pos n)) byte = record_at n (n == 0)
    by false (Some (negsuc n)) byte = tt
    by false None (Some (pos n)) = byte_at (n - 1) ((n == 0) || nat_lt (length c.bytes + 1) n)
    by false None (Some (negsuc n)) = tt
    by false None None = refl

takes : {A : Type 0} (given : Option A) (before : A) → TakesOrKeeps given before (unwrap_or given before)
takes None before = refl
takes (Some x) before = refl

module _ (control : ℕ → List Given) (variables : List Variable) (s : State) (t : Transfer) where
  abbrev moved : Moved
  moved = moved_by variables s t

  abbrev spec : TransferSpec
  spec = spec_of variables s t moved.cells

  in_effect : (before : EditModes) → AreInEffect t before (changed spec.edit before)
  in_effect before = record {
    blank = takes t.blank_zero before.blank_zero;
    decimal = takes t.comma before.comma;
    delim = takes t.delim before.delim;
    pad = takes t.pad before.pad;
    sign = takes t.plus before.plus;
  }

  module _ (n : ℕ) (u : Unit) (c : Connection) (is : number_of t.unit ≡ Some n) (at : found s.units n ≡ Some u)
      (fits : refusal u.connection.modes t (layout_of variables moved.cells t.control) ≡ Fine) (fit : unfit u.connection.modes spec ≡ Fine)
      (begins : begins_at spec (if t.input then ended u.connection else u.connection) ≡ Ok c) where
    abbrev under : Done
    under = done_under (changed spec.edit c.modes.edit) control u.connection c spec moved

    comes : transfer_by control u.connection spec moved ≡ under
    unfolding transfer_by
    comes = ap (if_fit control u.connection spec moved) fit ∙ ap (from_place control u.connection spec moved) begins

    owned : own control variables s (statement.Transfer t) ≡ (if is_asynchronous t then made_pending variables s t moved u under else carried_out variables s t moved u under)
    owned =
        numbered_at control variables s t moved t.unit n is
        ∙ ap (on_unit control variables s t moved) at
        ∙ ap (unless_refused control variables s t moved u) fits
        ∙ ap (λ d. if is_asynchronous t then made_pending variables s t moved u d else carried_out variables s t moved u d) comes

    same : c.modes ≡ u.connection.modes
    same = subst (λ r. IfOk r (λ (b : Connection). b.modes ≡ from.modes)) begins (placed_modes from spec) ∙ by t.input
      where
        from : Connection
        from = if t.input then ended u.connection else u.connection

        by : (b : Bool) → (if b then ended u.connection else u.connection).modes ≡ u.connection.modes
        by true = (ended_kept u.connection).modes
        by false = refl

    pub is_under : IsUnder control variables s t u c
    is_under = record {
      modes = changed spec.edit c.modes.edit;
      are = subst (λ (m : Modes). AreInEffect t m.edit (changed spec.edit c.modes.edit)) same (in_effect c.modes.edit);
      at_once = λ e. owned ∙ ap (λ b. if b then made_pending variables s t moved u under else carried_out variables s t moved u under) e;
      pending = λ e. owned ∙ ap (λ b. if b then made_pending variables s t moved u under else carried_out variables s t moved u under) e;
    }

  -- on `*`
  abbrev star_for : Bool → Bool → State × Condition
  star_for later formatted =
      let p = (if later then (s.output, Error 2)
      else (if not formatted then (s.output, Error 16) else printed_to (ends_record spec) s.output (printed star_limit s.output.begun spec control (changed spec.edit usual_edit) moved))) in
      (record s { output = p.0 }, p.1)

  pub star_under : t.unit ≡ unit.Star → is_asynchronous t ≡ false → is_formatted spec.layout ≡ true → own control variables s (statement.Transfer t) ≡ star_for false true
  star_under is now formatted =
      ap (transfer_at control variables s t moved) is ∙ ap (λ b. star_for b (is_formatted spec.layout)) now ∙ ap (star_for false) formatted

pub transfers_under : TransfersUnderModes
transfers_under control variables s t n u c is at fits fit begins = is_under control variables s t n u c is at fits fit begins

pub star_prints : StarPrintsUnderModes
star_prints control variables s t is now formatted =
    (changed (spec control variables s t).edit usual_edit, in_effect control variables s t usual_edit, star_under control variables s t is now formatted)
