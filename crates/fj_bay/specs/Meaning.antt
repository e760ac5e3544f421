-- What a bay is as an engine that serves jobs.
use Rattle.std.specs.Prelude.{Bool, ℕ, List, Option, Some, None, IfSome}
use Rattle.fj_connect.specs.Linked.{Linked}
use Rattle.fj_slot.specs.Serving.{Meaning}
use Rattle.fj_bay.specs.Bay.{Bay as PlainBay}
use Rattle.fj_bay.specs.Jobs.{Job as PlainJob, Answer as PlainAnswer}
use Rattle.fj_bay.specs.Serving.{serve}
use Rattle.fj_bay.specs.Spoilt.{IsSpoilt}
use Rattle.fj_bay.specs.Plain.{state_of, task_of, reply_of}
use Rattle.fj_bay.specs.declared.bay.Bay.{Bay}
use Rattle.fj_bay.specs.declared.job.Job.{Job}
use Rattle.fj_bay.specs.declared.job.Answer.{Answer}

-- the count of faults of the file of a connection
abbrev pub file_faults : {F : Type 0} → (F → ℕ) → Option (Linked F) → ℕ
file_faults count None = 0
file_faults count (Some c) = count c.file

abbrev pub bay_meaning : {F : Type 0} → (F → Bool) → (F → List ℕ) → (F → ℕ) → Meaning (Bay F) (Job F) Answer PlainBay PlainJob PlainAnswer
bay_meaning told bytes count = record {
  state = state_of told bytes;
  task = task_of told bytes;
  reply = reply_of;
  serve = serve;
  spoilt = λ old job stop bay. IfSome (state_of told bytes bay) (λ new. IsSpoilt old job stop new (file_faults count bay.connection));
  faults = λ bay. bay.faults;
}
