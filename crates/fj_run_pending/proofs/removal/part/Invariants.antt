use Rattle.std.proofs.Common.{◌≡◌, ◌++◌, not, take, drop}
use Rattle.std.specs.Prelude.{filter}
use Rattle.std.specs.VecDeque.{deque_capacity}
use Rattle.fj_run_pending.specs.declared.pick.Pick.TheVariants.{OfUnit}
use Rattle.fj_run_pending.specs.Waits.{picks}
use Rattle.fj_run_pending.proofs.removal.part.Given as goal

abbrev pub invariant-loop : goal.invariant-loop
invariant-loop l = record {
  told : l.told.items ≡ filter (picks (OfUnit l.unit)) (take l.counter l.initial.helds.items);
  left : l.helds.items ≡ drop l.counter l.initial.helds.items ++ filter (λ h. not (picks (OfUnit l.unit) h)) (take l.counter l.initial.helds.items);
  room : deque_capacity l.told ≡ deque_capacity l.initial.told;
}
