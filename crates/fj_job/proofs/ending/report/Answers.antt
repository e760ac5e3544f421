use Rattle.std.proofs.Common.{◌≡◌, inl, inr, sym, ap, ◌∙◌, rules}
use Rattle.fj_run_script.specs.Machine.{ending_of}
use Rattle.fj_job.specs.Reply.{status_of}
use Rattle.fj_report.specs.declared.status.Status.TheVariants.{DiskFault}
use Rattle.fj_job.proofs.Fronts.{of_report, line_of_fault}
use Rattle.fj_job.proofs.RunLaws.{answered}
use Rattle.fj_job.proofs.ending.report.Goals as goal

pub returns-in-Some-clause-ended : goal.returns-in-Some-clause-ended
returns-in-Some-clause-ended g c = λ a. record {
  going = c.in-Some.ensures.some.0;
  ending = c.in-Some.ending;
  ends = c.in-Some.ensures.some.1;
  status_is = answered c.write_run.result (status_of (ending_of c.in-Some.ending)) _ c.write_run.ensures.status a (λ e. e);
  output = λ t. rw (← c.as_slice.ensures) (c.write_run.ensures.output a t);
}

pub returns-in-Some-clause-front : goal.returns-in-Some-clause-front
returns-in-Some-clause-front g c = inr (inr (record {
  settled = c.in-Ok.is;
  going = c.in-Some.ensures.some.0;
  ending = c.in-Some.ending;
  ends = c.in-Some.ensures.some.1;
  taken = λ w. rw (← c.as_slice.ensures) (c.write_run.ensures.front w);
}))

pub returns-in-Some-clause-written : goal.returns-in-Some-clause-written
returns-in-Some-clause-written g c = λ e. inr (record {
  settled = c.in-Ok.is;
  going = c.in-Some.ensures.some.0;
  ending = c.in-Some.ending;
  ends = c.in-Some.ensures.some.1;
  taken = λ w. rw (← c.as_slice.ensures) (c.write_run.ensures.part e w);
})

pub returns-in-Err-Disk-clause-front : goal.returns-in-Err-Disk-clause-front
returns-in-Err-Disk-clause-front g c = inr (inl (record {
  settled = search rules;
  line = c.line_of.result;
  answer = of_report c.write_fault.result c.line_of.result c.write_fault.ensures.status;
  line_is = c.line_of.ensures;
  taken = λ w. c.write_fault.ensures.front w;
}))

pub returns-in-Err-Disk-clause-fault : goal.returns-in-Err-Disk-clause-fault
returns-in-Err-Disk-clause-fault g c = λ line e.
    let same : c.line_of.result ≡ line = line_of_fault c.write_fault.result c.line_of.result line c.write_fault.ensures.status e in
    record {
      settled = search rules;
      line_is = λ lined at. sym same ∙ c.line_of.ensures lined at;
      taken = λ w. rw (← same) (c.write_fault.ensures.whole (e ∙ ap (λ n. DiskFault n) (sym same)) w);
    }
