-- A READ or WRITE has each of its specifiers in the field of that specifier, and its items in order (ISO/IEC 1539-1:2004, 9.5.1, 9.5.2).
use Rattle.std.specs.Prelude.{◌≡◌, ℕ, List, map, Option, Some, None}
use Rattle.fj_format.specs.declared.item.FormatItem.{FormatItem}
use Rattle.fj_format.specs.Grammar.{IsFormat}
use Rattle.fj_statement.specs.declared.statement.Control.{Control}
use Rattle.fj_statement.specs.declared.statement.Control.TheVariants as control
use Rattle.fj_statement.specs.declared.statement.Statement.{Statement}
use Rattle.fj_statement.specs.declared.statement.Statement.TheVariants as statement
use Rattle.fj_statement.specs.declared.statement.Transfer.{Transfer}
use Rattle.fj_syntax.specs.declared.written.Format.TheVariants as format
use Rattle.fj_syntax.specs.declared.written.Transfer as written
use Rattle.fj_syntax.specs.declared.written.Written.TheVariants as written_as
use Rattle.fj_names.specs.Giving.{each}
use Rattle.fj_names.specs.Meaning.{HasMeaning}
use Rattle.fj_names.specs.Operands.{integer_operand, integer_place, meant}
use Rattle.fj_names.specs.Scope.{members}
use Rattle.fj_names.specs.Units.{transfer_unit}
use Rattle.fj_names.specs.declared.operand.Meant.{Meant}
use Rattle.fj_names.specs.declared.scope.Scope.{Scope}

-- given in both or in neither, and then the one stands for the other
abbrev pub Stands : {A B : Type 0} → (A → Option B) → Option A → Option B → Type 0
Stands names None None = Unit {0}
Stands names (Some a) (Some b) = names a ≡ Some b
Stands names a b = ⊥

-- NML= names a group with its members, FMT= an explicit format or `*`; without both the transfer is unformatted
pub data IsControlled (s : Scope) (t : written.Transfer) : Control → Type 0 where
  group : {name vars : List ℕ} → t.group ≡ Some name → members s name ≡ Some vars → IsControlled s t (control.Group name vars)
  explicit : {text : List ℕ} {items : List FormatItem} → t.group ≡ None → t.format ≡ Some (format.Literal text) → IsFormat text items → IsControlled s t (control.Explicit items)
  listed : t.group ≡ None → t.format ≡ Some format.Asterisk → IsControlled s t control.Listed
  unformatted : t.group ≡ None → t.format ≡ None → IsControlled s t control.Unformatted

pub record IsTransferOf (s : Scope) (t : written.Transfer) (m : Transfer) : Type 0 where
  pub input : m.input ≡ t.input
  pub unit : transfer_unit s t ≡ Some m.unit
  pub control : IsControlled s t m.control
  pub advance : m.advance ≡ t.advance
  pub asynchronous : m.asynchronous ≡ t.asynchronous
  pub blank : m.blank_zero ≡ t.blank_zero
  pub decimal : m.comma ≡ t.comma
  pub delim : m.delim ≡ t.delim
  pub pad : m.pad ≡ t.pad
  pub sign : m.plus ≡ t.plus
  pub rec : Stands (integer_operand s) t.rec m.rec
  pub pos : Stands (integer_operand s) t.pos m.pos
  pub id : Stands (integer_place s) t.id m.id
  pub size : Stands (integer_place s) t.size m.size
  pub iostat : Stands (integer_place s) t.iostat m.iostat
  pub items : (ms : List Meant) × (each (meant s) t.items ≡ Some ms) × (m.items ≡ map (λ m. m.operand) ms)

abbrev pub TransfersKeep : Type 0
TransfersKeep = (s : Scope) (t : written.Transfer) (m : Statement) → HasMeaning s (written_as.Transfer t) m → (transfer : Transfer) × (m ≡ statement.Transfer transfer) × IsTransferOf s t transfer
