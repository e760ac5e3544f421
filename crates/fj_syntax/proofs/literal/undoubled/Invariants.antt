use Rattle.std.proofs.Common.{◌≡◌, ◌++◌, length}
use Rattle.fj_syntax.specs.Undoubled.{undoubled}
use Rattle.fj_syntax.proofs.literal.undoubled.Given as goal

-- the text so far, before that of what is left
abbrev pub invariant-loop-front : goal.invariant-loop-front
invariant-loop-front l = l.text ++ undoubled l.delimiter l.rest ≡ undoubled l.delimiter l.inside

abbrev pub decreases-loop-front : goal.decreases-loop-front
decreases-loop-front l = length l.rest
