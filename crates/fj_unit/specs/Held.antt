-- A unit as the program holds it: a slot over a bay, whose file is in memory and tells its bytes.
use Rattle.std.specs.Prelude.{Bool, true, ℕ, List, drop, map, None, unwrap_or}
use Rattle.fj_slot.specs.Serving.{Meaning}
use Rattle.fj_slot.specs.Ledger.{Ledger}
use Rattle.fj_slot.specs.Sound.{served_by, outcomes, IsSound}
use Rattle.fj_bay.specs.Bay.{Bay as PlainBay}
use Rattle.fj_bay.specs.Jobs.{Job as PlainJob, Answer as PlainAnswer, flush}
use Rattle.fj_bay.specs.Meaning.{bay_meaning}
use Rattle.fj_bay.specs.Plain.{state_of, task_of, reply_of}
use Rattle.fj_bay.specs.declared.bay.Bay.{Bay}
use Rattle.fj_bay.specs.declared.job.Job.{Job}
use Rattle.fj_bay.specs.declared.job.Answer.{Answer}
use Rattle.fj_unit.specs.Unit.{Unit}

-- a file in memory always tells, and never fails
abbrev pub always : List ℕ → Bool
always file = true

abbrev pub bytes : List ℕ → List ℕ
bytes file = file

abbrev pub never : List ℕ → ℕ
never file = 0

abbrev pub meaning : Meaning (Bay (List ℕ)) (Job (List ℕ)) Answer PlainBay PlainJob PlainAnswer
meaning = bay_meaning always bytes never

-- the job as plain data
abbrev pub task : Job (List ℕ) → PlainJob
task job = unwrap_or (task_of always bytes job) flush

abbrev pub reply : Answer → PlainAnswer
reply answer = reply_of answer

-- the bay as plain data
abbrev pub state : Bay (List ℕ) → PlainBay
state bay = unwrap_or (state_of always bytes bay) (record { connection = None; halt = None })

abbrev pub Held : Type 0
Held = Ledger (Bay (List ℕ)) (Job (List ℕ)) Answer

-- what it has come to, in whatever part its jobs are carried out
unfoldable pub unit_of : Held → Unit
unit_of l = record {
  bay = served_by meaning (state l.start) (map task l.jobs);
  pending = drop l.told (outcomes meaning (state l.start) (map task l.jobs));
}

abbrev pub IsHeld : Held → Type 0
IsHeld l = IsSound meaning (state l.start) (map task l.jobs) l
