use Rattle.std.proofs.Common.{◌≡◌, ℕ, Bool, true, false, List, [], Option, Some, None, refl, sym, ap, subst}
use Rattle.std.specs.Prelude.{if◌then◌else◌}
use Rattle.fj_value.specs.declared.condition.Rule.{Rule}
use Rattle.fj_control.specs.Steps.{Given}
use Rattle.fj_statement.specs.declared.deck.Variable.{Variable}
use Rattle.fj_statement.specs.declared.unit.InternalFile.{InternalFile}
use Rattle.fj_statement.specs.declared.unit.UnitRef.{UnitRef}
use Rattle.fj_statement.specs.declared.unit.UnitRef.TheVariants.{Internal}
use Rattle.fj_statement.specs.declared.statement.Statement.{Statement}
use Rattle.fj_statement.specs.declared.statement.Statement.TheVariants as statement
use Rattle.fj_statement.specs.declared.statement.Transfer.{Transfer}
use Rattle.fj_book.specs.Prohibitions.{prohibited}
use Rattle.fj_meaning.specs.Needs.{need, holders}
use Rattle.fj_meaning.specs.State.{State, Entry}
use Rattle.fj_meaning.specs.Statement.{step, goes_on, acts_after}
use Rattle.fj_meaning.specs.Telling.{is_asynchronous}
use Rattle.fj_meaning.proofs.Tells.{no_tells}
use Rattle.fj_meaning.proofs.unit_laws.internal_transfers_change_variables.Goals as goal

module _ (variables : List Variable) (line : ℕ) (t : Transfer) (file : InternalFile) (control : ℕ → List Given) (s : State) where
  abbrev inside : Statement
  inside = statement.Transfer (record t { unit = Internal file })

  -- where it waits for these
  abbrev behind : List Entry → State
  behind es = (acts_after control variables line inside s es).0

  none_told : behind [] ≡ record s { vars = (behind []).vars }
  none_told = ap (λ (x : State). record x { vars = (behind []).vars }) (no_tells variables line s)

  unless_prohibited : (o : Option Rule) → (goes_on control variables line inside s o).0 ≡ record s { vars = (goes_on control variables line inside s o).0.vars }
  unless_prohibited (Some rule) = refl
  unless_prohibited None = by (is_asynchronous t)
    where
      by : (b : Bool) → behind (if b then [] else []) ≡ record s { vars = (behind (if b then [] else [])).vars }
      by true = none_told
      by false = none_told

pub returns : goal.returns
unfolding step
returns c variables line t file control s is =
    let after : UnitRef → State = λ u. (step variables (record { line = line; what = statement.Transfer (record t { unit = u }) }, control) s).0 in
    subst (λ u. after u ≡ record s { vars = (after u).vars }) (sym is)
    (unless_prohibited variables line t file control s (prohibited s.vars (holders s.book) (need variables s (statement.Transfer (record t { unit = Internal file })))))
