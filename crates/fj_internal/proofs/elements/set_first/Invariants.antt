use Rattle.std.proofs.Common.{◌≡◌, ◌≤◌, length}
use Rattle.fj_internal.specs.Internal.{set_first}
use Rattle.fj_internal.proofs.elements.set_first.Given as goal

abbrev pub invariant-setting : goal.invariant-setting
invariant-setting l = (set_first l.rest.items l.elements ≡ set_first l.initial.rest.items l.initial.elements) × (length l.rest.items ≤ length l.elements)

abbrev pub decreases-setting : goal.decreases-setting
decreases-setting l = length l.rest.items
