use Rattle.std.proofs.Common.{◌≡◌, ◌<◌, length, Some, slice_get}
use Rattle.fj_slot.specs.Ledger.{Ledger}
use Rattle.fj_world.specs.Alone.{left_at}
use Rattle.fj_world.proofs.Front.{SoFar}
use Rattle.fj_world.proofs.alone.settle.Given as goal

abbrev pub invariant-loop-slots : goal.invariant-loop-slots
invariant-loop-slots g l = record {
  spare : l.slots.spare ≡ l.fn.slots.spare;
  within : l.at < length l.slots.slots;
  so_far : (old : Ledger g.row.S-Gear.Denot g.row.S-Gear-Job.Denot g.row.S-Gear-Answer.Denot) → slice_get l.fn.slots.slots l.at ≡ Some old
      → SoFar g.S.Gear.Engine.meaning l.fn.slots l.at old l.slots;
}

abbrev pub decreases-loop-slots : goal.decreases-loop-slots
decreases-loop-slots g l = left_at (slice_get l.slots.slots l.at)
