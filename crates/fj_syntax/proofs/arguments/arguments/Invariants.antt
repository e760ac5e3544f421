use Rattle.std.proofs.Common.{◌≡◌, ◌≤◌, ◌-◌, ◌++◌, length, drop, Some}
use Rattle.fj_syntax.specs.Arguments.{arguments_from, arguments_of}
use Rattle.fj_syntax.specs.Parts.{cut}
use Rattle.fj_syntax.specs.Reading.{◌>>=◌}
use Rattle.fj_syntax.proofs.arguments.arguments.Given as goal

-- the arguments so far, before those that are left
abbrev pub invariant-loop-arguments : goal.invariant-loop-arguments
invariant-loop-arguments l = record {
  within : l.from ≤ length l.tokens;
  arguments : (arguments_from l.bare (cut (drop l.from l.tokens)) >>= (λ more. Some (l.arguments ++ more))) ≡ arguments_of l.tokens;
}

abbrev pub decreases-loop-arguments : goal.decreases-loop-arguments
decreases-loop-arguments l = length l.tokens - l.from
