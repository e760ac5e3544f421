-- The connection of a job that was refused.
use Rattle.std.specs.Prelude.{Option, None}
use Rattle.fj_connect.specs.Linked.{Linked}
use Rattle.fj_bay.specs.declared.job.Job.{Job}
use Rattle.fj_bay.specs.declared.job.Job.TheVariants as job

-- that which it brings
abbrev pub brought : {F : Type 0} → Job F → Option (Linked F)
brought (job.Attach connection) = connection
brought (job.Detach place) = None
brought (job.Move transfer) = None
brought (job.Go how) = None
brought (job.Change edit) = None
brought job.Flush = None
brought (job.Look place) = None
brought job.Resume = None
