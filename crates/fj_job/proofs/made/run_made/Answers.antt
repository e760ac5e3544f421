use Rattle.std.proofs.Common.{inl, ap}
use Rattle.fj_job.proofs.Executed.{makes}
use Rattle.fj_job.proofs.Leading.{rose_of}
use Rattle.fj_job.proofs.Reported.{made_front, part_of_made}
use Rattle.fj_job.proofs.Fronts.{front_of_same}
use Rattle.fj_job.proofs.RunLaws.{cause_more}
use Rattle.fj_job.specs.Reply.{files_in}
use Rattle.fj_job.proofs.made.run_made.Goals as goal

pub returns-in-Ok-clause-replied : goal.returns-in-Ok-clause-replied
returns-in-Ok-clause-replied g c = λ files a.
    let made = c.report_made.ensures.made a in
    let settled = c.report_made.ensures.settled a in
    let carried = rw c.in-Ok.is at c.carry_out.ensures.carried in
    makes c.args.deck c.args.seed c.args.count c.in-Ok.it.left (files_in files) (files_in c.carry_out.new.disk.files) c.new-disk.result.files c.report_made.result
    (g.W.Sink.tells c.args.out.now) (g.W.Sink.tells c.carry_out.new.out) _ _ _ carried.telling_out.0 carried.deck_is c.new-disk.ensures.files
    (carried.result_is tt settled made.going) made (λ w. carried.taken_is w (inl settled))

pub returns-in-Ok-clause-cause : goal.returns-in-Ok-clause-cause
returns-in-Ok-clause-cause g c =
    let carried = rw c.in-Ok.is at c.carry_out.ensures.carried in
    cause_more c.report_made.result _ _ _ _ _ _ (λ x. x) (rose_of _ _ _ _ carried.later_out c.report_made.ensures.later carried.sink) (λ x. x) c.report_made.ensures.cause

pub returns-in-Ok-clause-front : goal.returns-in-Ok-clause-front
returns-in-Ok-clause-front g c = λ files w.
    let carried = rw c.in-Ok.is at c.carry_out.ensures.carried in
    made_front c.args.deck c.args.seed c.args.count c.in-Ok.it (files_in files) (files_in c.carry_out.new.disk.files) c.new-disk.result.files _ _ _ c.requires carried.deck_is c.new-disk.ensures.files
    (carried.part tt w) (carried.result_is tt) (λ settled. carried.taken_is w (inl settled)) (c.report_made.ensures.front (carried.telling_out.0 w))

pub returns-clause-front : goal.returns-clause-front
returns-clause-front g c = λ files w.
    let carried = rw c.in-Err.is at c.carry_out.ensures.carried in
    part_of_made c.args.deck c.args.seed c.args.count (files_in files) _ _ c.requires
    (λ lines. front_of_same _ _ _ (ap g.W.Sink.taken carried.unbegun.1))
