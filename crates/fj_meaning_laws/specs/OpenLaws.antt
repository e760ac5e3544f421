-- OPEN of a file that its unit does not have: its name, the order of its errors, and what it connects (ISO/IEC 1539-1:2004, 9.4.5).
use Rattle.std.specs.Prelude.{◌≡◌, ◌≢◌, ◌↔◌, ℕ, ◌<◌, ◌≤◌, codes, Bool, true, false, List, ◌++◌, length, Option, Some, None, Ok, Err, MatchOption, unwrap_or, if◌then◌else◌}
use Rattle.std.specs.Fmt.{decimal, signed_decimal}
use Rattle.std.specs.List.{Contains}
use Rattle.fj_value.specs.declared.condition.Condition.{Condition}
use Rattle.fj_value.specs.declared.condition.Condition.TheVariants.{Fine, Error}
use Rattle.fj_value.specs.declared.edit.Delim.TheVariants.{Plain}
use Rattle.fj_value.specs.declared.place.Place.{Place}
use Rattle.fj_modes.specs.OpenSpec.{IsRefused}
use Rattle.fj_modes.specs.Words.{TakesOrKeeps}
use Rattle.fj_modes.specs.declared.modes.Modes.{Modes}
use Rattle.fj_modes.specs.declared.specifiers.OpenSpec.{OpenSpec}
use Rattle.fj_modes.specs.declared.specifiers.Access.TheVariants.{Sequential}
use Rattle.fj_modes.specs.declared.specifiers.Action.TheVariants.{ReadWrite}
use Rattle.fj_modes.specs.declared.specifiers.FileStatus.TheVariants.{Scratch, Unknown}
use Rattle.fj_modes.specs.declared.specifiers.Start.TheVariants.{AsIs, Append}
use Rattle.fj_connect.specs.Connection.{Connection}
use Rattle.fj_connect.specs.OpeningLaws.{Connects}
use Rattle.fj_connect.specs.declared.spot.Within.TheVariants.{Outside}
use Rattle.fj_control.specs.Steps.{Given}
use Rattle.fj_statement.specs.Units.{number_of, number_from_code}
use Rattle.fj_statement.specs.declared.deck.Variable.{Variable}
use Rattle.fj_statement.specs.declared.unit.UnitRef.{UnitRef}
use Rattle.fj_statement.specs.declared.unit.UnitRef.TheVariants as unit
use Rattle.fj_statement.specs.declared.statement.Statement.TheVariants as statement
use Rattle.fj_meaning.specs.State.{State, Unit, found, inserted}
use Rattle.fj_meaning.specs.Statement.{own}
use Rattle.fj_meaning_laws.specs.ConnectionLaws.{Reopens, Deletes, IsClosed}

-- a scratch file has the number of its unit in its name, and a file without FILE= too (own)
pub data IsDue (spec : OpenSpec) (n : ℕ) : List ℕ → Type 0 where
  of_scratch : spec.status ≡ Some Scratch → IsDue spec n (codes "SCRATCH." ++ signed_decimal (number_from_code n))
  of_file : {name : List ℕ} → spec.status ≢ Some Scratch → spec.file ≡ Some name → IsDue spec n name
  of_none : spec.status ≢ Some Scratch → spec.file ≡ None → IsDue spec n (codes "fort." ++ decimal n)

-- the number of the unit is none that a unit may have; only NEWUNIT= gives others
pub data IsNoNumber : UnitRef → Type 0 where
  written : {n : ℕ} → 2147483648 ≤ n → IsNoNumber (unit.Number n)
  held : {place : Place} {n : ℕ} → 2147483648 ≤ n → IsNoNumber (unit.Held place n)

-- another unit has the file
pub record HasTaken (s : State) (n : ℕ) (name : List ℕ) : Type 0 where
  pub unit : Unit
  pub connected : Contains s.units unit
  pub other : unit.number ≢ n
  pub named : unit.connection.name ≡ name

-- what comes before the file that the unit has is closed: 3 and 7
pub data ErrsFirst (s : State) (ref : UnitRef) (n : ℕ) (spec : OpenSpec) (name : List ℕ) : ℕ → Type 0 where
  number_is_none : found s.units n ≡ None → IsNoNumber ref → ErrsFirst s ref n spec name 3
  is_refused : (found s.units n ≡ None → IsNoNumber ref → ⊥) → IsRefused spec → ErrsFirst s ref n spec name 3
  is_taken : (found s.units n ≡ None → IsNoNumber ref → ⊥) → (IsRefused spec → ⊥) → HasTaken s n name → ErrsFirst s ref n spec name 7

-- and what comes then: 9, and 5, 6 or 27 by STATUS= and the file that is there
pub data ErrsThen (s : State) (spec : OpenSpec) (name : List ℕ) : ℕ → Type 0 where
  units_are_many : 16 ≤ length s.units → ErrsThen s spec name 9
  file_is_not_so : {n : ℕ} → length s.units < 16 → Connects (unwrap_or spec.status Unknown) (s.files name) (Err (Error n)) → ErrsThen s spec name n

-- the file that the unit has is closed as by CLOSE without STATUS=
pub data IsLeft (s : State) (n : ℕ) : State → Type 0 where
  without_file : found s.units n ≡ None → IsLeft s n s
  with_file : {u : Unit} {deleted : Bool} {base : State} → found s.units n ≡ Some u → Deletes u None deleted → IsClosed s u deleted base → IsLeft s n base

-- each mode as the statement says it, else as the standard does (PAD='YES', BLANK='NULL'), or as the processor does
pub record AreOf (spec : OpenSpec) (modes : Modes) : Type 0 where
  pub access : TakesOrKeeps spec.access Sequential modes.access
  pub form : MatchOption spec.formatted ((modes.formatted ≡ true) ↔ (modes.access ≡ Sequential)) (λ told. modes.formatted ≡ told)
  pub length : TakesOrKeeps spec.recl (if modes.formatted then 65536 else 16777216) modes.recl
  pub action : TakesOrKeeps spec.action ReadWrite modes.action
  pub asynchronous : TakesOrKeeps spec.asynchronous false modes.asynchronous
  pub scratch : (modes.scratch ≡ true) ↔ (spec.status ≡ Some Scratch)
  pub blank : TakesOrKeeps spec.blank_zero false modes.edit.blank_zero
  pub decimal : TakesOrKeeps spec.comma false modes.edit.comma
  pub delim : TakesOrKeeps spec.delim Plain modes.edit.delim
  pub pad : TakesOrKeeps spec.pad true modes.edit.pad
  pub sign : TakesOrKeeps spec.plus false modes.edit.plus

-- a connection to the file, between records before the first byte or, by POSITION='APPEND', behind the last one
pub record IsNew (s : State) (spec : OpenSpec) (name : List ℕ) (c : Connection) : Type 0 where
  pub named : c.name ≡ name
  pub bytes : Connects (unwrap_or spec.status Unknown) (s.files name) (Ok c.bytes)
  pub modes : AreOf spec c.modes
  pub at_end : spec.position ≡ Some Append → c.spot.at ≡ length c.bytes
  pub at_start : spec.position ≢ Some Append → c.spot.at ≡ 0
  pub between : (c.spot.within ≡ Outside) × (c.spot.start ≡ c.spot.at) × (c.spot.after_end ≡ false) × (c.spot.next_number ≡ 1)

-- the unit has it, halted by nothing; the file is no longer among the others, and all else is as it was
pub record Opens (s : State) (n : ℕ) (spec : OpenSpec) (name : List ℕ) (after : State) : Type 0 where
  pub connection : Connection
  pub new : IsNew s spec name connection
  pub others : after ≡ record s { units = inserted (record { number = n; connection = connection; halt = None }) s.units; files = after.files }
  pub away : after.files name ≡ None
  pub files : (other : List ℕ) → other ≢ name → after.files other ≡ s.files other

abbrev pub OpensInOrder : Type 0
OpensInOrder = (control : ℕ → List Given) (variables : List Variable) (s : State) (ref : UnitRef) (spec : OpenSpec) (status : Option Place) (n : ℕ) (name : List ℕ) →
    let done = own control variables s (statement.OpenUnit ref spec status) in
    number_of ref ≡ Some n → ((u : Unit) → found s.units n ≡ Some u → Reopens u spec → ⊥) → IsDue spec n name →
    ((k : ℕ) → ErrsFirst s ref n spec name k → done ≡ (s, Error k))
    × (((k : ℕ) → ErrsFirst s ref n spec name k → ⊥) → (base : State) × IsLeft s n base
    × ((k : ℕ) → ErrsThen base spec name k → done ≡ (base, Error k))
    × (((k : ℕ) → ErrsThen base spec name k → ⊥) → Opens base n spec name done.0 × (done.1 ≡ Fine)))
