use Rattle.fj_job.specs.Cut.{Anywhere}
use Rattle.fj_job.specs.Reply.{trace_of}
use Rattle.fj_job.proofs.CarriedOut.{anywhere, concluded_with, executed}
use Rattle.fj_job.proofs.ending.execute.Goals as goal

pub returns : goal.returns
returns g c = record {
  executed =
      executed g.W.Sink.tells g.W.Sink.taken g.W.Sink.count g.D.Disk.tells g.D.Disk.held g.D.Disk.count g.D.Disk.refusals c.args.deck (trace_of c.args.trace) Anywhere c.args.out.now c.args.disk.now _ _ _ c.carry_out-carried.result c.conclude.result c.requires.sound c.requires.free c.carry_out-carried.ensures.carried
      (concluded_with g.W.Sink.tells g.W.Sink.taken g.W.Sink.count _ (trace_of c.args.trace) c.carry_out-carried.result _ _ c.conclude.result c.traced.ensures c.conclude.ensures.concluded) (λ t. anywhere c.carry_out-carried.result);
}
