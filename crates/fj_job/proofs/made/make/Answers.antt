use Rattle.fj_report.specs.declared.status.Status.TheVariants.{Ended}
use Rattle.fj_job.proofs.MadeReplies.{shown_reply, run_reply, shown_taken, run_taken}
use Rattle.fj_job.proofs.RunLaws.{answered}
use Rattle.fj_job.specs.Reply.{files_in}
use Rattle.fj_job.proofs.made.make.Goals as goal

pub returns-then-shown-clause-replied : goal.returns-then-shown-clause-replied
returns-then-shown-clause-replied g c = λ text files a. answered c.make_and_show.result Ended _ c.make_and_show.ensures.ended a (λ e.
    shown_reply c.args.seed c.args.count c.args.shown text files c.make_and_show.result _ c.if-shown.true e (c.make_and_show.ensures.output a))

pub returns-else-shown-clause-replied : goal.returns-else-shown-clause-replied
returns-else-shown-clause-replied g c = λ text files a. run_reply c.args.seed c.args.count c.args.shown text files c.make_and_run.result _ c.if-shown.false (c.make_and_run.ensures.replied text files a)

pub returns-then-shown-clause-front : goal.returns-then-shown-clause-front
returns-then-shown-clause-front g c = λ text files w. shown_taken c.args.seed c.args.count c.args.shown text (files_in files) _ _ c.if-shown.true (c.make_and_show.ensures.front w)

pub returns-else-shown-clause-front : goal.returns-else-shown-clause-front
returns-else-shown-clause-front g c = λ text files w. run_taken c.args.seed c.args.count c.args.shown text (files_in files) _ _ c.if-shown.false (c.make_and_run.ensures.front text files w)
