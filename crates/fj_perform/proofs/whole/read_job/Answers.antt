use Rattle.fj_transfer.proofs.Kept.{kept}
use Rattle.fj_perform.proofs.whole.read_job.Goals as goal

pub invariant_of-job : goal.invariant_of-job
invariant_of-job g c =
    let job = c.args.job.now in
    let is = kept job.spec.layout job.moved c.read_from.new.moved c.read_from.ensures.order c.read_from.ensures.places (record { distinct = job.distinct; ordered = job.ordered; few = job.few; grouped = job.grouped }) in
    record {
      distinct = is.distinct;
      single = job.single;
      ordered = is.ordered;
      few = is.few;
      grouped = is.grouped;
    }

pub invariant_of-job-2 : goal.invariant_of-job-2
invariant_of-job-2 g c =
    let job = c.args.job.now in
    let is = kept job.spec.layout job.moved c.read_from.new.moved c.read_from.ensures.order c.read_from.ensures.places (record { distinct = job.distinct; ordered = job.ordered; few = job.few; grouped = job.grouped }) in
    record {
      distinct = is.distinct;
      single = job.single;
      ordered = is.ordered;
      few = is.few;
      grouped = is.grouped;
    }
