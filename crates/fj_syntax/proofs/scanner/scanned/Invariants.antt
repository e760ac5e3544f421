use Rattle.std.proofs.Common.{length}
use Rattle.fj_syntax.proofs.ParseLemmas.{Scans}
use Rattle.fj_syntax.proofs.scanner.scanned.Given as goal

-- the tokens so far, and those of the rest
abbrev pub invariant-loop-rest : goal.invariant-loop-rest
invariant-loop-rest l = Scans l.line l.rest l.found.items

abbrev pub decreases-loop-rest : goal.decreases-loop-rest
decreases-loop-rest l = length l.rest
