use Rattle.std.proofs.Common.{◌≡◌, ◌≤◌, ◌-◌, ◌++◌, length, drop, Some}
use Rattle.fj_syntax.specs.Parts.{cut, list_of}
use Rattle.fj_syntax.specs.Reading.{◌>>=◌, each}
use Rattle.fj_syntax.proofs.parts.list.Given as goal

-- the parts so far, before those that are left
abbrev pub invariant-loop-list : goal.invariant-loop-list
invariant-loop-list g l = record {
  within : l.from ≤ length l.tokens;
  parts : (each g.T.Part.part_of (cut (drop l.from l.tokens)) >>= (λ more. Some (l.list ++ more))) ≡ list_of g.T.Part.part_of l.tokens;
}

abbrev pub decreases-loop-list : goal.decreases-loop-list
decreases-loop-list g l = length l.tokens - l.from
