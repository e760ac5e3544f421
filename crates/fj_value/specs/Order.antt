-- The order of the prohibitions.
use Rattle.std.specs.Prelude.{ℕ}
use Rattle.fj_value.specs.declared.condition.Rule.{Rule}
use Rattle.fj_value.specs.declared.condition.Rule.TheVariants.{P1, P2, P3, P4, P5}

-- the number of a prohibition; of several that are broken the lowest is told
abbrev pub number_of : Rule → ℕ
number_of P1 = 1
number_of P2 = 2
number_of P3 = 3
number_of P4 = 4
number_of P5 = 5
