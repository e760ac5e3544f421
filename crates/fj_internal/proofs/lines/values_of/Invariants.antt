use Rattle.std.proofs.Common.{◌≡◌, ◌≤◌, ◌++◌, length, map}
use Rattle.fj_seqrec.specs.Lines.{lines}
use Rattle.fj_internal.specs.Internal.{value_of}
use Rattle.fj_internal.proofs.lines.values_of.Given as goal

abbrev pub invariant-cutting : goal.invariant-cutting
invariant-cutting l = (l.values.items ++ map (value_of l.size) (lines l.rest) ≡ map (value_of l.size) (lines l.bytes)) × (length l.values.items ≤ l.most)

abbrev pub decreases-cutting : goal.decreases-cutting
decreases-cutting l = length l.rest
