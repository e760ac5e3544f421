use Rattle.fj_bay.specs.Meaning.{bay_meaning}
use Rattle.fj_job.proofs.CarriedOut.{carried_own}
use Rattle.fj_job.proofs.Settling.{in_use_none}
use Rattle.fj_job.proofs.ending.carry_out.Goals as goal

pub carry-requires-clause-names : goal.carry-requires-clause-names
carry-requires-clause-names g c = λ t. in_use_none _ _ c.in_ok-machine.ensures.begun.names (c.requires.free t)

pub returns : goal.returns
returns g c = record {
  carried =
      carried_own g.W.Sink.tells g.W.Sink.taken g.W.Sink.count g.D.Disk.tells g.D.Disk.held g.D.Disk.count g.D.Disk.refusals
      (bay_meaning g.D.File.FileStore.told g.D.File.FileStore.bytes g.D.File.FileStore.count)
      g.D.File.FileStore.told g.D.File.FileStore.bytes c.args.deck c.args.out.now c.args.disk.now _ _ _ _ _ _ _ c.in_ok-machine.ensures.begun c.in_ok-machine.ensures.deck
      c.carry.ensures.leaves c.carry.ensures.ran c.carry.ensures.cut c.carry.ensures.ended c.carry.ensures.on c.requires.sound c.settle.ensures.settled;
}
