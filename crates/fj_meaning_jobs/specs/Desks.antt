-- Desks: a bay at each slot, with the log of the jobs that it was given.
use Rattle.std.specs.Prelude.{ℕ, List, [], ◌∷◌, ◌++◌, length, replicate, Option, Some, None, option_map, slice_get, slice_set, if◌then◌else◌}
use Rattle.fj_value.specs.declared.condition.Condition.{Condition}
use Rattle.fj_value.specs.declared.condition.Condition.TheVariants.{Fine, Error}
use Rattle.fj_value.specs.declared.value.Cell.{Cell}
use Rattle.fj_connect.specs.Connection.{Connection}
use Rattle.fj_bay.specs.Bay.{Bay}
use Rattle.fj_bay.specs.Jobs.{Looked, Job, detach, move, look, resume, Answer, done, skipped}
use Rattle.fj_bay.specs.Serving.{serve}
use Rattle.fj_meaning.specs.State.{Entry}
use Rattle.fj_meaning.specs.Telling.{tells_cause}
use Rattle.fj_meaning_jobs.specs.Core.{Pending, Connected}

-- what serving a job left of it, and its answer
abbrev pub Outcome : Type 0
Outcome = Job × Answer

pub record Desk : Type 0 where
  pub bay : Bay
  pub log : List Outcome

abbrev pub outcome_on : Bay → Job → Outcome
outcome_on bay job = ((serve bay job).job, (serve bay job).answer)

abbrev pub carried : Desk → Job → Desk
carried d job = record { bay = (serve d.bay job).engine; log = d.log ++ outcome_on d.bay job ∷ [] }

abbrev pub carry_at : Option Desk → List Desk → ℕ → Job → List Desk
carry_at None desks slot job = desks
carry_at (Some d) desks slot job = slice_set desks slot (carried d job)

-- the job is carried out at its slot
abbrev pub carry : List Desk → ℕ → Job → List Desk
carry desks slot job = carry_at (slice_get desks slot) desks slot job

abbrev pub outcome_at : Option Desk → Job → Outcome
outcome_at None job = (job, done (Error 1))
outcome_at (Some d) job = outcome_on d.bay job

-- what becomes of a job at a slot
abbrev pub outcome : List Desk → ℕ → Job → Outcome
outcome desks slot job = outcome_at (slice_get desks slot) job

abbrev pub log_at : Option Desk → ℕ → Option Outcome
log_at None number = None
log_at (Some d) number = slice_get d.log number

-- how many jobs a slot was given
abbrev pub log_length : Option Desk → ℕ
log_length None = 0
log_length (Some d) = length d.log

-- ---- what became of a job

abbrev pub cells_in : Job → List Cell
cells_in (move t) = t.moved.cells
cells_in _ = []

abbrev pub count_in : Job → Option ℕ
count_in (move t) = t.count
count_in _ = None

abbrev pub connection_in : Job → Option Connection
connection_in (detach place) = place
connection_in _ = None

abbrev pub look_in : Job → Option Looked
look_in (look place) = place
look_in _ = None

abbrev pub condition_in : Answer → Condition
condition_in (done condition) = condition
condition_in (skipped cause) = cause

-- what the job of a transfer brought: the values of its items, a count of characters, and its condition
pub record Brought : Type 0 where
  pub cells : List Cell
  pub count : Option ℕ
  pub condition : Condition

abbrev pub brought_by : Outcome → Brought
brought_by o = record { cells = cells_in o.0; count = count_in o.0; condition = condition_in o.1 }

-- a pending transfer with what its job brought
abbrev pub entry_with : Pending → Option Brought → Entry
entry_with e None = record { id = e.id; unit = e.unit; input = e.input; places = e.places; cells = []; size = e.size; count = None; condition = Fine }
entry_with e (Some b) = record {
  id = e.id;
  unit = e.unit;
  input = e.input;
  places = e.places;
  cells = if e.input then b.cells else [];
  size = e.size;
  count = b.count;
  condition = b.condition;
}

abbrev pub entry_of : List Desk → Pending → Entry
entry_of desks e = entry_with e (option_map brought_by (log_at (slice_get desks e.slot) e.number))

-- ---- halts that end: the condition was told

abbrev pub resumed : List Entry → List Connected → List Desk → List Desk
resumed told [] desks = desks
resumed told (u ∷ us) desks = resumed told us (if tells_cause told u.number then carry desks u.slot resume else desks)

-- ---- the start

abbrev pub most_slots : ℕ
most_slots = 16

abbrev pub fresh_desks : List Desk
fresh_desks = replicate most_slots (record { bay = record { connection = None; halt = None }; log = [] })
