-- What a statement references, defines and specifies: a line for each way (ISO/IEC 1539-1:2004, 9.5.1.4, 16.5.5, 16.5.6).
use Rattle.std.specs.Prelude.{◌≡◌, ℕ, Bool, true, false, List, Option, Some, None}
use Rattle.std.specs.List.{Contains}
use Rattle.fj_value.specs.declared.place.Place.{Place}
use Rattle.fj_modes.specs.declared.asked.Wanted.{Wanted}
use Rattle.fj_modes.specs.declared.specifiers.OpenSpec.{OpenSpec}
use Rattle.fj_modes.specs.declared.motion.Motion.{Motion}
use Rattle.fj_statement.specs.declared.deck.Variable.{Variable}
use Rattle.fj_statement.specs.declared.unit.InternalFile.{InternalFile}
use Rattle.fj_statement.specs.declared.unit.InternalFile.TheVariants as file
use Rattle.fj_statement.specs.declared.unit.UnitRef.{UnitRef}
use Rattle.fj_statement.specs.declared.unit.UnitRef.TheVariants as unit
use Rattle.fj_statement.specs.declared.unit.Subject.{Subject}
use Rattle.fj_statement.specs.declared.statement.Operand.{Operand}
use Rattle.fj_statement.specs.declared.statement.Operand.TheVariants as operand
use Rattle.fj_statement.specs.declared.statement.Control.TheVariants as control
use Rattle.fj_statement.specs.declared.statement.Transfer.{Transfer}
use Rattle.fj_statement.specs.declared.statement.Statement.{Statement}
use Rattle.fj_statement.specs.declared.statement.Statement.TheVariants as statement
use Rattle.fj_statement.specs.Units.{unit_of}
use Rattle.fj_statement.specs.Naming.{IsSomePlace}

-- an element of an array, or the one of a scalar (6.2)
abbrev pub IsElement : List Variable → ℕ → Place → Type 0
IsElement variables var p = (p.var ≡ var) × IsSomePlace variables p

-- the place that an operand names, or one of its elements; a literal has none
pub data IsOf (variables : List Variable) : Operand → Place → Type 0 where
  the_place : {p : Place} → IsOf variables (operand.One p) p
  an_element : {var : ℕ} {p : Place} → IsElement variables var p → IsOf variables (operand.Whole var) p

-- a record of an internal file (9.3)
pub data IsRecord (variables : List Variable) : InternalFile → Place → Type 0 where
  the_record : {p : Place} → IsRecord variables (file.One p) p
  a_record : {var : ℕ} {p : Place} → IsElement variables var p → IsRecord variables (file.Whole var) p

-- of the items of READ or WRITE, or of the members of its group (9.5.2, 9.5.1.2)
pub data IsItem (variables : List Variable) (t : Transfer) (p : Place) : Type 0 where
  of_item : {o : Operand} → Contains t.items o → IsOf variables o p → IsItem variables t p
  of_member : {name vars : List ℕ} {var : ℕ} → t.control ≡ control.Group name vars → Contains vars var → IsElement variables var p → IsItem variables t p

-- of its internal file
pub data IsInside (variables : List Variable) (t : Transfer) (p : Place) : Type 0 where
  of_file : {f : InternalFile} → t.unit ≡ unit.Internal f → IsRecord variables f p → IsInside variables t p

-- what a statement references: the right side of an assignment, the items or the group of a WRITE, the internal file of a READ, the place of a
-- unit, and what REC=, POS= and the ID= of WAIT and INQUIRE name
pub data References (variables : List Variable) : Statement → Place → Type 0 where
  right_side : {to from : Operand} {p : Place} → IsOf variables from p → References variables (statement.Assign to from) p
  written_item : {t : Transfer} {p : Place} → t.input ≡ false → IsItem variables t p → References variables (statement.Transfer t) p
  file_read : {t : Transfer} {p : Place} → t.input ≡ true → IsInside variables t p → References variables (statement.Transfer t) p
  place_of_unit : {st : Statement} {p : Place} {n : ℕ} → unit_of st ≡ Some (unit.Held p n) → References variables st p
  by_rec : {t : Transfer} {o : Operand} {p : Place} → t.rec ≡ Some o → IsOf variables o p → References variables (statement.Transfer t) p
  by_pos : {t : Transfer} {o : Operand} {p : Place} → t.pos ≡ Some o → IsOf variables o p → References variables (statement.Transfer t) p
  id_of_wait : {u : UnitRef} {id : Operand} {status : Option Place} {p : Place} → IsOf variables id p → References variables (statement.WaitFor u (Some id) status) p
  id_of_inquire : {about : Subject} {asked : List Wanted} {id : Operand} {status : Option Place} {look : Option Bool} {p : Place}
      → IsOf variables id p → References variables (statement.Inquire about asked (Some id) status look) p

-- IOSTAT= names the place (9.10.4)
pub data HasStatus : Statement → Place → Type 0 where
  of_open : {u : UnitRef} {spec : OpenSpec} {p : Place} → HasStatus (statement.OpenUnit u spec (Some p)) p
  of_close : {u : UnitRef} {keep : Option Bool} {p : Place} → HasStatus (statement.CloseUnit u keep (Some p)) p
  of_wait : {u : UnitRef} {id : Option Operand} {p : Place} → HasStatus (statement.WaitFor u id (Some p)) p
  of_motion : {how : Motion} {u : UnitRef} {p : Place} → HasStatus (statement.Move how u (Some p)) p
  of_inquire : {about : Subject} {asked : List Wanted} {id : Option Operand} {look : Option Bool} {p : Place} → HasStatus (statement.Inquire about asked id (Some p) look) p
  of_transfer : {t : Transfer} {p : Place} → t.iostat ≡ Some p → HasStatus (statement.Transfer t) p

-- what its specifiers define: IOSTAT=, SIZE=, the ID= of READ and WRITE, NEWUNIT=, and each answer of INQUIRE
pub data Specifies : Statement → Place → Type 0 where
  status : {st : Statement} {p : Place} → HasStatus st p → Specifies st p
  by_size : {t : Transfer} {p : Place} → t.size ≡ Some p → Specifies (statement.Transfer t) p
  by_id : {t : Transfer} {p : Place} → t.id ≡ Some p → Specifies (statement.Transfer t) p
  new_unit : {spec : OpenSpec} {status : Option Place} {p : Place} {n : ℕ} → Specifies (statement.OpenUnit (unit.New p n) spec status) p
  answer : {about : Subject} {asked : List Wanted} {id : Option Operand} {status : Option Place} {look : Option Bool} {w : Wanted} {p : Place}
      → Contains asked w → w.place ≡ p → Specifies (statement.Inquire about asked id status look) p

-- what it defines: that, the left side of an assignment, the items or the group of a READ, and the internal file of a WRITE
pub data Defines (variables : List Variable) : Statement → Place → Type 0 where
  specified : {st : Statement} {p : Place} → Specifies st p → Defines variables st p
  left_side : {to from : Operand} {p : Place} → IsOf variables to p → Defines variables (statement.Assign to from) p
  read_item : {t : Transfer} {p : Place} → t.input ≡ true → IsItem variables t p → Defines variables (statement.Transfer t) p
  file_written : {t : Transfer} {p : Place} → t.input ≡ false → IsInside variables t p → Defines variables (statement.Transfer t) p
