use Rattle.std.proofs.Common.{◌≡◌, ◌+◌, ◌≤◌, drop}
use Rattle.std.specs.Prelude.{option_map}
use Rattle.fj_syntax.specs.Arguments.{closing}
use Rattle.fj_syntax.proofs.arguments.closing.Given as goal

-- the tokens so far do not close
abbrev pub invariant-loop-at : goal.invariant-loop-at
invariant-loop-at l = record {
  within : l.depth ≤ l.at;
  before : option_map (λ n. l.at + n) (closing l.depth (drop l.at l.tokens)) ≡ closing 0 l.tokens;
}
