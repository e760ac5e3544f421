use Rattle.fj_poll.proofs.Executed.{executed_polled, few_variables}
use Rattle.fj_poll.proofs.execution.execute_polled.Goals as goal

pub conclude_polled-requires : goal.conclude_polled-requires
conclude_polled-requires g c =
    few_variables g.W.Sink.tells g.W.Sink.taken g.W.Sink.count g.D.Disk.tells g.D.Disk.held g.D.Disk.count g.D.Disk.refusals c.args.deck c.args.out.now c.args.disk.now _ _ c.carry_out_polled-carried.result c.carry_out_polled-carried.ensures.carried

pub returns : goal.returns
returns g c = record {
  executed =
      executed_polled g.W.Sink.tells g.W.Sink.taken g.W.Sink.count g.D.Disk.tells g.D.Disk.held g.D.Disk.count g.D.Disk.refusals c.args.deck c.args.out.now c.args.disk.now _ _ _ c.carry_out_polled-carried.result c.conclude_polled.result
      c.requires.free c.carry_out_polled-carried.ensures.carried c.conclude_polled.ensures.concluded;
}
