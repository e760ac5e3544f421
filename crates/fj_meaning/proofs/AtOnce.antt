-- A transfer that becomes pending, beside the same one carried out at once.
use Rattle.std.proofs.Common.{◌≡◌, ℕ, Bool, true, false, not, List, [], ◌∷◌, map, Some, None, refl, sym, ap, ◌∙◌}
use Rattle.std.specs.Prelude.{◌==◌, if◌then◌else◌, is_some, option_and_then}
use Rattle.fj_value.specs.declared.condition.Condition.{Condition}
use Rattle.fj_value.specs.declared.condition.Condition.TheVariants.{Fine, EndOfFile, EndOfRecord, Error}
use Rattle.fj_control.specs.Steps.{Given}
use Rattle.fj_statement.specs.declared.unit.UnitRef.{UnitRef}
use Rattle.fj_statement.specs.declared.unit.UnitRef.TheVariants as unit
use Rattle.fj_statement.specs.Units.{number_of}
use Rattle.fj_transfer.specs.Transfer.{Done, transfer_by, unfitness}
use Rattle.fj_statement.specs.declared.deck.Variable.{Variable}
use Rattle.fj_statement.specs.declared.statement.Transfer.{Transfer}
use Rattle.fj_statement.specs.declared.statement.Statement.TheVariants as statement
use Rattle.fj_meaning.specs.Transfers.{moved_by, spec_of, layout_of, unless_halted, halt_behind, unless_refused, on_unit, transfer_at}
use Rattle.fj_moved.specs.declared.moved.Moved.{Moved}
use Rattle.fj_meaning.specs.State.{State, Unit, found, with_unit}
use Rattle.fj_meaning.specs.Statement.{own}
use Rattle.fj_meaning.specs.UnitLaws.{joined, connections, later, at_once}

same_units : (a b : Unit) (us : List Unit) → a.number ≡ b.number → a.connection ≡ b.connection → map joined (with_unit a us) ≡ map joined (with_unit b us)
same_units a b [] e f = refl
same_units a b (u ∷ us) e f = ap (λ x. x ∷ map joined (with_unit a us)) (first ∙ other) ∙ ap (λ l. joined (if u.number == b.number then b else u) ∷ l) (same_units a b us e f)
  where
    first : joined (if u.number == a.number then a else u) ≡ joined (if u.number == b.number then a else u)
    first = ap (λ k. joined (if u.number == k then a else u)) e

    pair : joined a ≡ joined b
    pair = ap (λ k. joined (record a { number = k })) e ∙ ap (λ c. joined (record a { number = b.number; connection = c })) f

    by : (p : Bool) → joined (if p then a else u) ≡ joined (if p then b else u)
    by true = pair
    by false = refl

    other : joined (if u.number == b.number then a else u) ≡ joined (if u.number == b.number then b else u)
    other = by (u.number == b.number)

module _ (control : ℕ → List Given) (variables : List Variable) (s : State) (t : Transfer) (u : Unit) (halt : u.halt ≡ None) where
  abbrev met : Done
  met = transfer_by control u.connection (spec_of variables s t (moved_by variables s t).cells) (moved_by variables s t)

  carried : (condition : Condition) → connections (unless_refused control variables s (later t) (moved_by variables s t) u condition).0 ≡ connections (unless_refused control variables s (at_once t) (moved_by variables s t) u condition).0
  carried Fine =
      same_units (record u { connection = (unless_halted u.halt u.connection t.input (moved_by variables s t).cells met).connection; halt = halt_behind u.halt (unless_halted u.halt u.connection t.input (moved_by variables s t).cells met).condition }) (record u { connection = met.connection }) s.units refl
      (ap (λ o. (unless_halted o u.connection t.input (moved_by variables s t).cells met).connection) halt)
  carried EndOfFile = refl
  carried EndOfRecord = refl
  carried (Error n) = refl

  unit_alike : u.connection.modes.asynchronous ≡ true → connections (on_unit control variables s (later t) (moved_by variables s t) (Some u)).0 ≡ connections (on_unit control variables s (at_once t) (moved_by variables s t) (Some u)).0
  unit_alike allowed =
      ap (λ b. connections (unless_refused control variables s (later t) (moved_by variables s t) u (if not b then Error 2 else fit)).0) allowed ∙ carried fit
    where
      fit : Condition
      fit = unfitness u.connection.modes (layout_of variables (moved_by variables s t).cells t.control) t.input (is_some t.advance) (is_some t.rec) (is_some t.pos)

-- of a unit that has a number
pub numbered_at : (control : ℕ → List Given) (variables : List Variable) (s : State) (t : Transfer) (moved : Moved) (ref : UnitRef) (n : ℕ) → number_of ref ≡ Some n
    → transfer_at control variables s t moved ref ≡ on_unit control variables s t moved (found s.units n)
numbered_at control variables s t moved unit.Star n e = cc
numbered_at control variables s t moved (unit.Number m) n e = ap (λ o. on_unit control variables s t moved (option_and_then (found s.units) o)) e
numbered_at control variables s t moved (unit.Held place m) n e = ap (λ o. on_unit control variables s t moved (option_and_then (found s.units) o)) e
numbered_at control variables s t moved (unit.New place m) n e = ap (λ o. on_unit control variables s t moved (option_and_then (found s.units) o)) e
numbered_at control variables s t moved (unit.Internal file) n e = cc

pub as_at_once : (control : ℕ → List Given) (variables : List Variable) (s : State) (t : Transfer) (n : ℕ) (u : Unit)
    → number_of t.unit ≡ Some n → found s.units n ≡ Some u → u.connection.modes.asynchronous ≡ true → u.halt ≡ None
    → connections (own control variables s (statement.Transfer (later t))).0 ≡ connections (own control variables s (statement.Transfer (at_once t))).0
as_at_once control variables s t n u is at allowed halt =
    ap (λ (x : State × Condition). connections x.0) (numbered_at control variables s (later t) (moved_by variables s t) t.unit n is)
    ∙ ap (λ o. connections (on_unit control variables s (later t) (moved_by variables s t) o).0) at
    ∙ unit_alike control variables s t u halt allowed
    ∙ ap (λ o. connections (on_unit control variables s (at_once t) (moved_by variables s t) o).0) (sym at)
    ∙ ap (λ (x : State × Condition). connections x.0) (sym (numbered_at control variables s (at_once t) (moved_by variables s t) t.unit n is))
