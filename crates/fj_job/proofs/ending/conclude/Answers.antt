use Rattle.fj_job.specs.Reply.{lines_of}
use Rattle.fj_job.proofs.CarriedOut.{concluded, unreported}
use Rattle.fj_job.proofs.ending.conclude.Goals as goal

pub returns-in-Ok : goal.returns-in-Ok
returns-in-Ok g c = record {
  concluded = concluded g.W.Sink.tells g.W.Sink.taken g.W.Sink.count (lines_of c.args.middle) c.args.carried c.in-Ok.it c.args.out.now c.report.new.out c.report.result c.in-Ok.is
      (record {
        settled = c.report.ensures.settled;
        ended = c.report.ensures.ended;
        begun = tt;
        of_run = c.report.ensures.of_run;
        fault = c.report.ensures.fault;
        written = c.report.ensures.written;
        front = c.report.ensures.front;
        silent = tt;
        cause = c.report.ensures.cause;
        telling_out = c.report.ensures.telling;
        later_out = c.report.ensures.later;
      });
}

pub returns-in-Err : goal.returns-in-Err
returns-in-Err g c = record { concluded = unreported g.W.Sink.tells g.W.Sink.taken g.W.Sink.count (lines_of c.args.middle) c.args.carried c.args.out.now }
