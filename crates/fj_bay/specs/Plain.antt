-- What the program's bays, jobs and answers are as plain data, where the file of their connection tells its bytes.
use Rattle.std.specs.Prelude.{Bool, ℕ, List, Option, Some, None, option_map, if◌then◌else◌}
use Rattle.fj_connect.specs.Connection.{Connection}
use Rattle.fj_connect.specs.Linked.{Linked, connection_of}
use Rattle.fj_connect.specs.declared.spot.Look.{Look}
use Rattle.fj_transfer.specs.Printing.{control_of}
use Rattle.fj_transfer.specs.declared.transfer.Transfer.{Transfer}
use Rattle.fj_bay.specs.Bay.{Bay as PlainBay}
use Rattle.fj_bay.specs.Jobs.{items_for, Moving, Looked, Job as PlainJob, attach, detach, move, go, change, flush, look, resume, Answer as PlainAnswer, done, skipped}
use Rattle.fj_bay.specs.declared.bay.Bay.{Bay}
use Rattle.fj_bay.specs.declared.job.Job.{Job}
use Rattle.fj_bay.specs.declared.job.Job.TheVariants as job
use Rattle.fj_bay.specs.declared.job.Answer.{Answer}
use Rattle.fj_bay.specs.declared.job.Answer.TheVariants as answer

-- a connection whose file tells its bytes
abbrev pub told_of : {F : Type 0} → (F → Bool) → (F → List ℕ) → Linked F → Option Connection
told_of told bytes c = if told c.file then Some (connection_of bytes c) else None

-- the place of a connection; it is None where it holds one whose file does not tell
abbrev pub place_of : {F : Type 0} → (F → Bool) → (F → List ℕ) → Option (Linked F) → Option (Option Connection)
place_of told bytes None = Some None
place_of told bytes (Some c) = option_map Some (told_of told bytes c)

abbrev pub state_of : {F : Type 0} → (F → Bool) → (F → List ℕ) → Bay F → Option PlainBay
state_of told bytes bay = option_map (λ place. record { connection = place; halt = bay.halt }) (place_of told bytes bay.connection)

-- a transfer, with what its format gives for its items
abbrev pub moving_of : Transfer → Moving
moving_of t = record { stmt = t.stmt; tag = t.tag.0; spec = t.spec; control = control_of t.spec.layout (items_for t.spec.input t.moved); moved = t.moved; size = t.size; count = t.count }

abbrev pub looked_of : Look → Looked
looked_of it = record { spot = it.spot; size = it.size }

abbrev pub task_of : {F : Type 0} → (F → Bool) → (F → List ℕ) → Job F → Option PlainJob
task_of told bytes (job.Attach brought) = option_map attach (place_of told bytes brought)
task_of told bytes (job.Detach place) = option_map detach (place_of told bytes place)
task_of told bytes (job.Move t) = Some (move (moving_of t))
task_of told bytes (job.Go how) = Some (go how)
task_of told bytes (job.Change edit) = Some (change edit)
task_of told bytes job.Flush = Some flush
task_of told bytes (job.Look place) = Some (look (option_map looked_of place))
task_of told bytes job.Resume = Some resume

abbrev pub reply_of : Answer → PlainAnswer
reply_of (answer.Done condition) = done condition
reply_of (answer.Skipped cause) = skipped cause
