use Rattle.std.proofs.Common.{◌≡◌, ℕ, List, Option, Some, None, refl, ap}
use Rattle.fj_value.specs.declared.condition.Rule.{Rule}
use Rattle.fj_control.specs.Steps.{Given}
use Rattle.fj_statement.specs.declared.deck.Variable.{Variable}
use Rattle.fj_statement.specs.declared.statement.Operand.{Operand}
use Rattle.fj_statement.specs.declared.statement.Statement.TheVariants as statement
use Rattle.fj_book.specs.Prohibitions.{prohibited}
use Rattle.fj_meaning.specs.Needs.{need, holders}
use Rattle.fj_meaning.specs.State.{State}
use Rattle.fj_meaning.specs.Statement.{step, goes_on}
use Rattle.fj_meaning.proofs.Tells.{no_tells}
use Rattle.fj_meaning.proofs.unit_laws.assignment_changes_variables.Goals as goal

by : (variables : List Variable) (line : ℕ) (to from : Operand) (control : ℕ → List Given) (s : State) (o : Option Rule)
    → (goes_on control variables line (statement.Assign to from) s o).0 ≡ record s { vars = (goes_on control variables line (statement.Assign to from) s o).0.vars }
by variables line to from control s (Some rule) = refl
by variables line to from control s None = ap (λ (t : State). record t { vars = (goes_on control variables line (statement.Assign to from) s None).0.vars }) (no_tells variables line s)

pub returns : goal.returns
unfolding step
returns c variables line to from control s = by variables line to from control s (prohibited s.vars (holders s.book) (need variables s (statement.Assign to from)))
