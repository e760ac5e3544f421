use Rattle.std.proofs.Common.{inr}
use Rattle.fj_run_script.specs.Machine.{ending_of}
use Rattle.fj_job.specs.Reply.{status_of}
use Rattle.fj_job.proofs.RunLaws.{answered}
use Rattle.fj_job.proofs.made.report_made.Goals as goal

pub returns-in-Some-clause-made : goal.returns-in-Some-clause-made
returns-in-Some-clause-made g c = λ a. record {
  going = c.in-Some.ensures.some.0;
  ending = c.in-Some.ending;
  ends = c.in-Some.ensures.some.1;
  status_is = answered c.write_made.result (status_of (ending_of c.in-Some.ending)) _ c.write_made.ensures.status a (λ e. e);
  output = λ t. c.write_made.ensures.output a t;
}

pub returns-in-Some-clause-front : goal.returns-in-Some-clause-front
returns-in-Some-clause-front g c = λ w. inr (record {
  settled = c.in-Ok.is;
  going = c.in-Some.ensures.some.0;
  ending = c.in-Some.ending;
  ends = c.in-Some.ensures.some.1;
  taken = c.write_made.ensures.front w;
})
