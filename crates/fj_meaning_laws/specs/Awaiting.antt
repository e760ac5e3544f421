-- Which transfers a statement waits for: a line for each way (ISO/IEC 1539-1:2004, 9.4.5, 9.4.6, 9.5.1.4, 9.6.2, 9.7).
use Rattle.std.specs.Prelude.{◌≡◌, ◌≢◌, ℕ, pos, Bool, true, List, Option, Some, None}
use Rattle.std.specs.List.{Contains}
use Rattle.fj_value.specs.declared.condition.Condition.{Condition}
use Rattle.fj_value.specs.declared.condition.Condition.TheVariants.{EndOfFile, Error}
use Rattle.fj_value.specs.declared.place.Place.{Place}
use Rattle.fj_value.specs.declared.value.Value.TheVariants as value
use Rattle.fj_modes.specs.declared.asked.Wanted.{Wanted}
use Rattle.fj_modes.specs.declared.motion.Motion.{Motion}
use Rattle.fj_modes.specs.declared.specifiers.OpenSpec.{OpenSpec}
use Rattle.fj_statement.specs.declared.unit.UnitRef.{UnitRef}
use Rattle.fj_statement.specs.declared.unit.Subject.TheVariants as subject
use Rattle.fj_statement.specs.declared.statement.Operand.{Operand}
use Rattle.fj_statement.specs.declared.statement.Transfer.{Transfer}
use Rattle.fj_statement.specs.declared.statement.Statement.{Statement}
use Rattle.fj_statement.specs.declared.statement.Statement.TheVariants as statement
use Rattle.fj_statement.specs.Units.{number_of}
use Rattle.fj_meaning.specs.Items.{value_of}
use Rattle.fj_meaning.specs.State.{State, Entry}

-- it waits for all of the unit of that number: OPEN, CLOSE, the motions and FLUSH (own), a transfer that is not to become pending, and WAIT without
-- ID=; INQUIRE does as WAIT where the transfers that it asks about are known to be done (own)
pub data WaitsForAll : Statement → ℕ → Type 0 where
  by_open : {u : UnitRef} {spec : OpenSpec} {status : Option Place} {n : ℕ} → number_of u ≡ Some n → WaitsForAll (statement.OpenUnit u spec status) n
  by_close : {u : UnitRef} {keep : Option Bool} {status : Option Place} {n : ℕ} → number_of u ≡ Some n → WaitsForAll (statement.CloseUnit u keep status) n
  by_motion : {how : Motion} {u : UnitRef} {status : Option Place} {n : ℕ} → number_of u ≡ Some n → WaitsForAll (statement.Move how u status) n
  by_transfer : {t : Transfer} {n : ℕ} → t.asynchronous ≢ Some true → number_of t.unit ≡ Some n → WaitsForAll (statement.Transfer t) n
  by_wait : {u : UnitRef} {status : Option Place} {n : ℕ} → number_of u ≡ Some n → WaitsForAll (statement.WaitFor u None status) n
  by_question : {u : UnitRef} {asked : List Wanted} {status : Option Place} {n : ℕ} → number_of u ≡ Some n
      → WaitsForAll (statement.Inquire (subject.Unit u) asked None status (Some true)) n

-- it waits for one of the unit of that number, which ID= names
pub data WaitsForOne : Statement → ℕ → Operand → Type 0 where
  by_wait_id : {u : UnitRef} {id : Operand} {status : Option Place} {n : ℕ} → number_of u ≡ Some n → WaitsForOne (statement.WaitFor u (Some id) status) n id
  by_question_id : {u : UnitRef} {asked : List Wanted} {id : Operand} {status : Option Place} {n : ℕ} → number_of u ≡ Some n
      → WaitsForOne (statement.Inquire (subject.Unit u) asked (Some id) status (Some true)) n id

-- the pending transfer is of that unit, and its identifier is the value of ID=
abbrev pub IsNamed : State → ℕ → Operand → Entry → Type 0
IsNamed s n id e = (e.unit ≡ n) × (value_of s.vars id ≡ value.Int (pos e.id))

-- an error or the end of the file
pub data IsGrave : Condition → Type 0 where
  error : {n : ℕ} → IsGrave (Error n)
  file_ended : IsGrave EndOfFile

-- END waits for all of all units; and where the one that ID= names met an error or the end of the file, all of its unit are waited for
pub data Awaits (s : State) : Statement → Entry → Type 0 where
  all_of_unit : {st : Statement} {n : ℕ} {e : Entry} → WaitsForAll st n → e.unit ≡ n → Awaits s st e
  the_one : {st : Statement} {n : ℕ} {id : Operand} {e : Entry} → WaitsForOne st n id → IsNamed s n id e → Awaits s st e
  beside_it : {st : Statement} {n : ℕ} {id : Operand} {f e : Entry} → WaitsForOne st n id → Contains s.book f → IsNamed s n id f → IsGrave f.condition
      → e.unit ≡ n → Awaits s st e
  at_end : {e : Entry} → Awaits s statement.End e
