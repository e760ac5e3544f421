use Rattle.std.proofs.Common.{◌≡◌, false}
use Rattle.fj_bay.specs.Meaning.{bay_meaning}
use Rattle.fj_run_units.specs.Names.{AreInUse}
use Rattle.fj_run_script.specs.Going.{IsGoing}
use Rattle.fj_run_script.specs.Room.{looks_left}
use Rattle.fj_poll.proofs.UnderWay.{IsUnderWay}
use Rattle.fj_poll.proofs.stretches.carry_polled.Given as goal

abbrev pub invariant-stretches : goal.invariant-stretches
invariant-stretches g l = record {
  way : IsUnderWay g.W.Sink.tells g.W.Sink.taken g.W.Sink.count g.D.Disk.tells g.D.Disk.held g.D.Disk.count g.D.Disk.refusals g.D.File.FileStore.told g.D.File.FileStore.bytes
      (bay_meaning g.D.File.FileStore.told g.D.File.FileStore.bytes g.D.File.FileStore.count) l.fn.out l.fn.disk l.fn.machine l.out l.disk l.machine l.slots;
  names : g.D.Disk.tells l.disk → AreInUse l.machine.state.core.names (g.D.Disk.held l.disk).in_use;
  on : ∥ (l.machine.tally.over ≡ false → IsGoing l.machine) ∥₁;
}

abbrev pub decreases-stretches : goal.decreases-stretches
decreases-stretches g l = looks_left l.machine.deck.statements
