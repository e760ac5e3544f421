-- What holds of variables: each keeps its elements, and has values of its kind, or undefined ones (own).
use Rattle.std.specs.Prelude.{◌≡◌, ◌⊎◌, List, length, map}
use Rattle.fj_value.specs.Kind.{IsOfKind}
use Rattle.fj_value.specs.declared.place.Place.{Place}
use Rattle.fj_value.specs.declared.value.Value.TheVariants.{Undefined}
use Rattle.fj_statement.specs.declared.deck.Variable.{Variable}
use Rattle.fj_store.specs.Variables.{Variables, value_at}
use Rattle.fj_meaning.specs.Items.{kind_of}
use Rattle.fj_meaning.specs.State.{Files, elements}
use Rattle.fj_meaning.specs.Statement.{Stated}
use Rattle.fj_meaning.specs.Reaching.{reached}

-- each variable has as many values as elements, and each of these is undefined or of the variable's kind
pub record AreAsDeclared (variables : List Variable) (vars : Variables) : Type 0 where
  pub many : map length vars ≡ map elements variables
  pub kinds : (place : Place) → (value_at vars place ≡ Undefined) ⊎ IsOfKind (kind_of variables place.var) (value_at vars place)

abbrev pub VariablesAreAsDeclared : Type 0
VariablesAreAsDeclared = (variables : List Variable) (sts : List Stated) (files : Files) → AreAsDeclared variables (reached variables sts files).vars
