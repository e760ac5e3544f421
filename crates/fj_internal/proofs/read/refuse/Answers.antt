use Rattle.std.proofs.Common.{ap}
use Rattle.fj_transfer.proofs.Kept.{kept}
use Rattle.fj_internal.proofs.read.refuse.Goals as goal

pub invariant_of-job : goal.invariant_of-job
invariant_of-job c =
    let job = c.args.job.now in
    let is = kept job.spec.layout job.moved c.undefine.new.self (ap (λ m. m.order) c.undefine.ensures.values) c.undefine.ensures.places (record { distinct = job.distinct; ordered = job.ordered; few = job.few; grouped = job.grouped }) in
    record {
      distinct = is.distinct;
      single = job.single;
      ordered = is.ordered;
      few = is.few;
      grouped = is.grouped;
    }
