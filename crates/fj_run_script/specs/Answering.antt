-- What becomes of the answer of a job that is no pending transfer.
use Rattle.std.specs.Prelude.{ℕ, ◌==◌, ◌&&◌, if◌then◌else◌}
use Rattle.fj_bay.specs.declared.job.Job.{Job}
use Rattle.fj_bay.specs.declared.job.Answer.{Answer}
use Rattle.fj_run_script.specs.declared.stage.Stage.{Stage}
use Rattle.fj_run_script.specs.declared.stage.Stage.TheVariants as stage

-- the statement's own job came back, where it has that number at that slot
abbrev pub with_own : {F : Type 0} → ℕ → ℕ → Job F → Answer → Stage F → Stage F
with_own slot number job answer (stage.Awaiting own last next) = if (own == slot) && (last == number) then stage.Answered next job answer else stage.Awaiting own last next
with_own slot number job answer stage.Start = stage.Start
with_own slot number job answer (stage.Waiting whose from) = stage.Waiting whose from
with_own slot number job answer (stage.Resuming slots next condition) = stage.Resuming slots next condition
with_own slot number job answer (stage.Going next n) = stage.Going next n
with_own slot number job answer (stage.Answered next other reply) = stage.Answered next other reply
