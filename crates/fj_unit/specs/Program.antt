-- What a program sees of its unit: the transfers that no statement has told, and those that the last WAIT told (ISO/IEC 1539-1:2004, 9.6).
use Rattle.std.specs.Prelude.{◌≡◌, ◌≢◌, ◌⊎◌, ℕ, ◌+◌, ℤ, List, [], ◌∷◌, ◌++◌, map, take, drop, slice_get, Some, if◌then◌else◌}
use Rattle.fj_value.specs.declared.condition.Condition.{Condition}
use Rattle.fj_value.specs.declared.condition.Condition.TheVariants.{Fine, EndOfFile, EndOfRecord, Error}
use Rattle.fj_value.specs.declared.value.Value.TheVariants.{Int}
use Rattle.fj_bay.specs.Bay.{Bay}
use Rattle.fj_bay.specs.Halt.{halts}
use Rattle.fj_bay.specs.Jobs.{Job, move, resume, Answer, done, skipped}
use Rattle.fj_bay.specs.Serving.{serve}
use Rattle.fj_unit.specs.declared.unit.Outcome as held
use Rattle.fj_unit.specs.Held.{task, reply}
use Rattle.fj_unit.specs.Statements.{values_in}
use Rattle.fj_unit.specs.Unit.{Outcome, Unit, given}

pub record Program : Type 0 where
  -- its pending transfers are those that no statement has told
  pub unit : Unit
  -- the identifier of the next transfer
  pub next : ℕ
  -- those that the last WAIT told
  pub told : List Outcome

abbrev pub outcome_of : held.Outcome → Outcome
outcome_of o = (task o.job, reply o.answer)

-- the unit, with outcomes that stand in front of its own
abbrev pub behind : List Outcome → Unit → Unit
behind kept u = record u { pending = kept ++ u.pending }

-- a unit, a next identifier, and outcomes that were taken out of the unit and told
abbrev pub held_by : Unit → ℕ → List held.Outcome → List held.Outcome → Program
held_by u next kept told = record { unit = behind (map outcome_of kept) u; next = next; told = map outcome_of told }

abbrev pub id_in : Job → ℕ
id_in (move t) = t.tag
id_in _ = 0

abbrev pub id_of : Outcome → ℕ
id_of o = id_in o.0

abbrev pub condition_in : Answer → Condition
condition_in (done condition) = condition
condition_in (skipped cause) = cause

-- the first error told, else end-of-file where one was told, else end-of-record, else fine
abbrev pub graver : Condition → Condition → Condition
graver (Error n) other = Error n
graver Fine other = other
graver EndOfFile (Error n) = Error n
graver EndOfFile other = EndOfFile
graver EndOfRecord Fine = EndOfRecord
graver EndOfRecord other = other

abbrev pub gravest : List Outcome → Condition
gravest [] = Fine
gravest (o ∷ os) = graver (condition_in o.1) (gravest os)

-- an error or the end of the file that is told ends the halt
abbrev pub resumed : Bay → Condition → Bay
resumed bay condition = if halts condition then (serve bay resume).engine else bay

-- WAIT without ID= tells all transfers of the unit
abbrev pub waited_all : Program → Program × Condition
waited_all p = (
  record p { unit = record { bay = resumed p.unit.bay (gravest p.unit.pending); pending = [] }; told = p.unit.pending },
  gravest p.unit.pending,
)

abbrev pub waited_alone : Program → ℕ → Outcome → Program × Condition
waited_alone p at o = (
  record p { unit = record p.unit { pending = take at p.unit.pending ++ drop (at + 1) p.unit.pending }; told = o ∷ [] },
  condition_in o.1,
)

-- WAIT with ID= tells the transfer at that place, and all others too where that one tells an error or the end of the file
abbrev pub waited_at : Program → ℕ → Outcome → Program × Condition
waited_at p at o = if halts (condition_in o.1) then waited_all p else waited_alone p at o

-- the transfer of an identifier stands at that place
pub record IsAt (os : List Outcome) (id at : ℕ) (o : Outcome) : Type 0 where
  pub here : slice_get os at ≡ Some o
  pub is : id_of o ≡ id

pub record WaitsFor (old new : Program) (id : ℕ) (condition : Condition) : Type 0 where
  pub at : ℕ
  pub outcome : Outcome
  pub found : IsAt old.unit.pending id at outcome
  pub comes : (new, condition) ≡ waited_at old at outcome

-- a stop leaves the unit as it is, or with its halt ended
abbrev pub MayEnd : Unit → Unit → Type 0
MayEnd old new = (new ≡ old) ⊎ (new ≡ given old resume)

-- no transfer of that identifier
abbrev pub LacksId : List Outcome → ℕ → Type 0
LacksId os id = (at : ℕ) (o : Outcome) → slice_get os at ≡ Some o → id_of o ≢ id

-- the values of the READ of an identifier
pub record HasValues (os : List Outcome) (id : ℕ) (numbers : List ℤ) : Type 0 where
  pub at : ℕ
  pub outcome : Outcome
  pub found : IsAt os id at outcome
  pub values : map Int numbers ≡ values_in outcome.0
