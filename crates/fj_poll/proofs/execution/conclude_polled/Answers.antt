use Rattle.std.proofs.Common.{◌∙◌, subst}
use Rattle.fj_job.specs.Executing.{IsConcluded}
use Rattle.fj_job.specs.Reply.{Lines}
use Rattle.fj_job.proofs.CarriedOut.{unreported}
use Rattle.fj_poll.proofs.execution.conclude_polled.Goals as goal

pub returns-in_default : goal.returns-in_default
returns-in_default g c = record { concluded = unreported _ _ _ _ _ _ }

pub returns : goal.returns
returns g c = record {
  concluded = subst (λ (lines : Lines). IsConcluded g.W.Sink.tells g.W.Sink.taken g.W.Sink.count lines c.args.carried c.args.out.now c.conclude.new.out c.conclude.result)
      (λ i tells. (c.bytes.ensures ∙ c.in-Ok.ensures) i) c.conclude.ensures.concluded;
}
