-- A transfer that becomes pending on a halted unit.
use Rattle.std.proofs.Common.{◌≡◌, ℕ, true, List, [], ◌∷◌, map, Some, refl, sym, ap, ◌∙◌, subst}
use Rattle.std.specs.Prelude.{if◌then◌else◌}
use Rattle.std.specs.List.{All}
use Rattle.std.proofs.lemmas.List.Elements.{All-head, All-tail}
use Rattle.fj_value.specs.declared.condition.Condition.{Condition}
use Rattle.fj_value.specs.declared.condition.Condition.TheVariants.{Fine, EndOfFile, EndOfRecord, Error}
use Rattle.fj_control.specs.Steps.{Given}
use Rattle.fj_connect.specs.Connection.{Connection}
use Rattle.fj_statement.specs.Units.{number_of}
use Rattle.fj_transfer.specs.Transfer.{Done, transfer_by}
use Rattle.fj_statement.specs.declared.deck.Variable.{Variable}
use Rattle.fj_statement.specs.declared.statement.Transfer.{Transfer}
use Rattle.fj_statement.specs.declared.statement.Statement.TheVariants as statement
use Rattle.fj_meaning.specs.Telling.{is_asynchronous}
use Rattle.fj_meaning.specs.Transfers.{moved_by, spec_of, layout_of, refusal, unless_halted, halt_behind, made_pending, carried_out, unless_refused, on_unit}
use Rattle.fj_meaning.specs.State.{State, Unit, found}
use Rattle.fj_meaning.specs.Statement.{own}
use Rattle.fj_meaning.specs.UnitLaws.{Ascends, joined, connections}
use Rattle.fj_meaning.proofs.AtOnce.{numbered_at}
use Rattle.fj_meaning.proofs.Units.{swap, swap_joined}

all_same : (f : Unit → Unit) (us : List Unit) → All (λ (x : Unit). joined (f x) ≡ joined x) us → map joined (map f us) ≡ map joined us
all_same f [] h = refl
all_same f (x ∷ xs) h =
    ap (λ p. p ∷ map joined (map f xs)) (All-head (λ (y : Unit). joined (f y) ≡ joined y) x xs h) ∙ ap (λ l. joined x ∷ l) (all_same f xs (All-tail (λ (y : Unit). joined (f y) ≡ joined y) x xs h))

module _ (control : ℕ → List Given) (variables : List Variable) (s : State) (t : Transfer) (n : ℕ) (u : Unit) (cause : Condition) (ascends : Ascends s.units) (at : found s.units n ≡ Some u)
    (halt : u.halt ≡ Some cause) (later : is_asynchronous t ≡ true) where
  pending_same : (done : Done) → connections (made_pending variables s t (moved_by variables s t) u done).0 ≡ connections s
  pending_same done =
      all_same (swap new) s.units (swap_joined s.units n u new ascends at refl (ap (λ (c : Connection). c.name) same) same)
    where
      new : Unit
      new = record u { connection = (unless_halted u.halt u.connection t.input (moved_by variables s t).cells done).connection; halt = halt_behind u.halt (unless_halted u.halt u.connection t.input (moved_by variables s t).cells done).condition }

      same : (unless_halted u.halt u.connection t.input (moved_by variables s t).cells done).connection ≡ u.connection
      same = ap (λ o. (unless_halted o u.connection t.input (moved_by variables s t).cells done).connection) halt

  fitting_same : (condition : Condition) → connections (unless_refused control variables s t (moved_by variables s t) u condition).0 ≡ connections s
  fitting_same Fine = subst (λ b. connections (if b then made_pending variables s t (moved_by variables s t) u done else carried_out variables s t (moved_by variables s t) u done).0 ≡ connections s) (sym later) (pending_same done)
    where
      done : Done
      done = transfer_by control u.connection (spec_of variables s t (moved_by variables s t).cells) (moved_by variables s t)
  fitting_same EndOfFile = refl
  fitting_same EndOfRecord = refl
  fitting_same (Error code) = refl

  pub skipped_same : number_of t.unit ≡ Some n → connections (own control variables s (statement.Transfer t)).0 ≡ connections s
  skipped_same is =
      ap (λ (x : State × Condition). connections x.0) (numbered_at control variables s t (moved_by variables s t) t.unit n is)
      ∙ ap (λ o. connections (on_unit control variables s t (moved_by variables s t) o).0) at
      ∙ fitting_same (refusal u.connection.modes t (layout_of variables (moved_by variables s t).cells t.control))
