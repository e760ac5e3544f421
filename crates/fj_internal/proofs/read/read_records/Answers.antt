use Rattle.fj_transfer.proofs.Kept.{kept}
use Rattle.fj_internal.proofs.read.read_records.Goals as goal

pub invariant_of-job : goal.invariant_of-job
invariant_of-job c =
    let job = c.args.job.now in
    let is = kept job.spec.layout job.moved c.read_load.new.load c.read_load.ensures.order c.read_load.ensures.places (record { distinct = job.distinct; ordered = job.ordered; few = job.few; grouped = job.grouped }) in
    record {
      distinct = is.distinct;
      single = job.single;
      ordered = is.ordered;
      few = is.few;
      grouped = is.grouped;
    }

pub invariant_of-job-2 : goal.invariant_of-job-2
invariant_of-job-2 c =
    let job = c.args.job.now in
    let is = kept job.spec.layout job.moved c.read_load.new.load c.read_load.ensures.order c.read_load.ensures.places (record { distinct = job.distinct; ordered = job.ordered; few = job.few; grouped = job.grouped }) in
    record {
      distinct = is.distinct;
      single = job.single;
      ordered = is.ordered;
      few = is.few;
      grouped = is.grouped;
    }
