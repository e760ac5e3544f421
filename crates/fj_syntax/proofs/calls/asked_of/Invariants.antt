use Rattle.std.proofs.Common.{◌≡◌, ◌++◌, drop, Some}
use Rattle.fj_syntax.specs.Calls.{asked_of}
use Rattle.fj_syntax.specs.Reading.{◌>>=◌}
use Rattle.fj_syntax.proofs.calls.asked_of.Given as goal

-- the questions so far, before those that are left
abbrev pub invariant-loop-argument : goal.invariant-loop-argument
invariant-loop-argument l = (asked_of (drop l.argument-index l.arguments) >>= (λ more. Some (l.asked ++ more))) ≡ asked_of l.arguments
