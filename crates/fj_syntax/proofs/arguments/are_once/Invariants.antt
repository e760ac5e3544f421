use Rattle.std.proofs.Common.{◌≡◌, length}
use Rattle.fj_syntax.specs.Arguments.{are_once}
use Rattle.fj_syntax.proofs.arguments.are_once.Given as goal

-- what is left is once exactly where all are
abbrev pub invariant-loop-rest : goal.invariant-loop-rest
invariant-loop-rest l = are_once l.rest ≡ are_once l.arguments

abbrev pub decreases-loop-rest : goal.decreases-loop-rest
decreases-loop-rest l = length l.rest
