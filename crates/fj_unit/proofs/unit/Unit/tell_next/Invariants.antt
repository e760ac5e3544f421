use Rattle.std.proofs.Common.{◌≡◌}
use Rattle.fj_unit.proofs.unit.Unit.tell_next.Given as goal

abbrev pub invariant-loop : goal.invariant-loop
invariant-loop l = l.self ≡ l.initial.self
