use Rattle.std.proofs.Common.{◌≡◌, length}
use Rattle.std.specs.List.{list_any}
use Rattle.fj_internal.specs.Internal.{holds_line_end, records_of}
use Rattle.fj_internal.proofs.elements.any_line_end.Given as goal

abbrev pub invariant-loop-element : goal.invariant-loop-element
invariant-loop-element l = list_any holds_line_end (records_of l.rest) ≡ list_any holds_line_end (records_of l.elements)

abbrev pub decreases-loop-element : goal.decreases-loop-element
decreases-loop-element l = length l.rest
