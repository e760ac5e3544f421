-- A READ or WRITE that will be pending awaits no answer.
use Rattle.std.proofs.Common.{◌≡◌, ℕ, zero, suc, Bool, true, false, List, [], ◌∷◌, Option, Some, None, slice_get, refl, sym, ap, ◌∙◌, subst, inl, inr}
use Rattle.std.specs.Prelude.{if◌then◌else◌}
use Rattle.fj_value.specs.declared.condition.Condition.{Condition}
use Rattle.fj_value.specs.declared.condition.Condition.TheVariants.{Fine, EndOfFile, EndOfRecord, Error}
use Rattle.fj_statement.specs.declared.unit.UnitRef.{UnitRef}
use Rattle.fj_statement.specs.declared.unit.UnitRef.TheVariants as unit
use Rattle.fj_moved.specs.declared.moved.Moved.{Moved}
use Rattle.fj_control.specs.Steps.{Given}
use Rattle.fj_statement.specs.declared.deck.Variable.{Variable}
use Rattle.fj_statement.specs.declared.statement.Statement.TheVariants as statement
use Rattle.fj_statement.specs.declared.statement.Transfer.{Transfer}
use Rattle.fj_meaning.specs.Needs.{number_of}
use Rattle.fj_meaning.specs.Statement.{Stated}
use Rattle.fj_meaning.specs.Telling.{of_unit, is_asynchronous, waited_in, tells_id}
use Rattle.fj_meaning.specs.Transfers.{moved_in, layout_of, refusal}
use Rattle.fj_meaning_jobs.specs.Core.{Core, Connected, connected_at}
use Rattle.fj_meaning_jobs.specs.Desks.{Desk, carry, log_length}
use Rattle.fj_meaning_jobs.specs.Doing.{Doing, finishes, gives, awaits, Desked}
use Rattle.fj_meaning_jobs.specs.Acting.{transferred, unless_refused, on_unit, transfer_at, doing}
use Rattle.fj_meaning_jobs.specs.Desking.{entries, told_core}
use Rattle.fj_meaning_turns.specs.Run.{Run}
use Rattle.fj_meaning_turns.specs.Turns.{halted_slots, ends_halts, doing_told}
use Rattle.fj_meaning_turns.specs.Inside.{waited_at, does, walked}
use Rattle.fj_meaning_turns.specs.Standing.{Waits, AwaitsJob, PendingAwaitsNothing}

-- whatever the numbers of its jobs are, it awaits none of them
abbrev AwaitsNone : Doing → Type 0
AwaitsNone (finishes core condition) = Unit {0}
AwaitsNone (gives slot job core next) = (number : ℕ) → AwaitsNone (next number)
AwaitsNone (awaits slot job core next) = ⊥

walked_none : (k : ℕ) (ds : List Desk) (d : Doing) → AwaitsNone d → AwaitsNone (walked k ds d).1
walked_none zero ds d h = h
walked_none (suc k) ds (finishes core condition) h = tt
walked_none (suc k) ds (gives slot job core next) h = walked_none k (carry ds slot job) (next (log_length (slice_get ds slot))) (h (log_length (slice_get ds slot)))
walked_none (suc k) ds (awaits slot job core next) h = absurd h

module _ (control : ℕ → List Given) (variables : List Variable) (line : ℕ) (core : Core) (t : Transfer) (later : is_asynchronous t ≡ true) where
  transferred_none : (moved : Moved) (u : Connected) → AwaitsNone (transferred control variables line core t moved u)
  transferred_none moved u = by (is_asynchronous t) later _ _ (λ number. tt)
    where
      by : (b : Bool) → b ≡ true → (x y : Doing) → AwaitsNone x → AwaitsNone (if b then x else y)
      by true e x y h = h
      by false e x y h = cc

  unless_none : (moved : Moved) (u : Connected) (condition : Condition) → AwaitsNone (unless_refused control variables line core t moved u condition)
  unless_none moved u Fine = transferred_none moved u
  unless_none moved u EndOfFile = tt
  unless_none moved u EndOfRecord = tt
  unless_none moved u (Error n) = tt

  unit_none : (moved : Moved) (o : Option Connected) → AwaitsNone (on_unit control variables line core t moved o)
  unit_none moved None = tt
  unit_none moved (Some u) = unless_none moved u (refusal u.modes t (layout_of variables moved.cells t.control))

  transfer_none : (moved : Moved) (to : UnitRef) → AwaitsNone (transfer_at control variables line core t moved to)
  transfer_none moved unit.Star = tt
  transfer_none moved (unit.Internal file) = tt
  transfer_none moved (unit.Number n) = unit_none moved (connected_at core.units n)
  transfer_none moved (unit.Held place n) = unit_none moved (connected_at core.units n)
  transfer_none moved (unit.New place n) = unit_none moved (connected_at core.units n)

-- where nothing is told, no halt ends
pub none_halted : (us : List Connected) → halted_slots [] us ≡ []
none_halted [] = refl
none_halted (u ∷ us) = none_halted us

told_none : (variables : List Variable) (st : Stated) (before : Desked) (t : Transfer) → st.0.what ≡ statement.Transfer t → is_asynchronous t ≡ true → waited_at st before ≡ []
told_none variables st before t is later =
    ap (waited_in (entries before) before.core.vars) is ∙ ap (λ b. if b then [] else of_unit (entries before) (number_of t.unit)) later

does_none : (variables : List Variable) (st : Stated) (before : Desked) (t : Transfer) → st.0.what ≡ statement.Transfer t → is_asynchronous t ≡ true → AwaitsNone (does variables st before)
does_none variables st before t is later =
    let new : Core = told_core variables st.0.line [] before.core in
    subst (λ told. AwaitsNone (doing_told variables st told before.core)) (sym (told_none variables st before t is later))
    (subst (λ slots. AwaitsNone (ends_halts slots new (doing st.1 variables st.0.line new st.0.what Fine))) (sym (none_halted before.core.units))
    (subst (λ what. AwaitsNone (doing st.1 variables st.0.line new what Fine)) (sym is) (transfer_none st.1 variables st.0.line new t later (moved_in variables new.vars t) t.unit)))

waits_none : (variables : List Variable) (st : Stated) (before : Desked) (t : Transfer) (slot : ℕ) (run : Run) (ds : List Desk) → st.0.what ≡ statement.Transfer t → is_asynchronous t ≡ true → Waits st before slot run ds → ⊥
waits_none variables st before t slot run ds is later w =
    let z : false ≡ true = sym (ap (λ es. tells_id es w.transfer.id) (told_none variables st before t is later)) ∙ w.tells in cc

own_none : (variables : List Variable) (st : Stated) (before : Desked) (t : Transfer) (slot : ℕ) (run : Run) (ds : List Desk) → st.0.what ≡ statement.Transfer t → is_asynchronous t ≡ true → AwaitsJob variables st before slot run ds → ⊥
own_none variables st before t slot run ds is later a = subst AwaitsNone a.awaited (walked_none a.jobs before.desks (does variables st before) (does_none variables st before t is later))

pub pending_awaits_nothing : PendingAwaitsNothing
pending_awaits_nothing variables st before t slot run ds is later (inl w) = waits_none variables st before t slot run ds is later w
pending_awaits_nothing variables st before t slot run ds is later (inr a) = own_none variables st before t slot run ds is later a
