use Rattle.std.proofs.Common.{◌≡◌, ℕ, length}
use Rattle.fj_slot.specs.Ledger.{fresh}
use Rattle.fj_world.specs.Rack.{At}
use Rattle.fj_slot_tests.proofs.overlap.meeters.Given as goal

abbrev pub invariant-loop : goal.invariant-loop
invariant-loop l = record {
  long : length l.slots.slots ≡ l.counter;
  new : (at : ℕ) → At l.slots at (λ it. it ≡ fresh it.start);
}
