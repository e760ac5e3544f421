use Rattle.std.proofs.Common.{◌≡◌, length}
use Rattle.std.specs.Prelude.{option_map}
use Rattle.fj_syntax.specs.FirstToken.{closed_by}
use Rattle.fj_syntax.proofs.scanner.behind_closing.Given as goal

-- what is left closes where the line does
abbrev pub invariant-loop-rest : goal.invariant-loop-rest
invariant-loop-rest l = option_map (λ r. r.1) (closed_by l.delimiter l.rest) ≡ option_map (λ r. r.1) (closed_by l.delimiter l.line)

abbrev pub decreases-loop-rest : goal.decreases-loop-rest
decreases-loop-rest l = length l.rest
