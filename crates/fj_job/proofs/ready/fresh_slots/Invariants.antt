use Rattle.std.proofs.Common.{◌≤◌, ◌-◌, All, length}
use Rattle.fj_bay.specs.Meaning.{bay_meaning}
use Rattle.fj_job.specs.Carrying.{IsFresh}
use Rattle.fj_job.proofs.ready.fresh_slots.Given as goal

abbrev pub invariant-filling : goal.invariant-filling
invariant-filling g l =
    record {
      each : All (IsFresh (bay_meaning g.F.FileStore.told g.F.FileStore.bytes g.F.FileStore.count)) l.slots.slots;
      few : length l.slots.slots ≤ 16;
    }

abbrev pub decreases-filling : goal.decreases-filling
decreases-filling g l = 16 - length l.slots.slots
