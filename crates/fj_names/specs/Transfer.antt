-- What READ and WRITE mean, and which specifiers of theirs go together.
use Rattle.std.specs.Prelude.{ℕ, Bool, true, false, ◌&&◌, ◌||◌, ◌==◌, ◌*◌, not, nat_le, List, length, map, Option, Some, None, is_some, if◌then◌else◌}
use Rattle.std.specs.List.{list_all, sum_by}
use Rattle.fj_value.specs.declared.kind.Kind.{Kind}
use Rattle.fj_value.specs.declared.kind.Kind.TheVariants.{Int4, Int8, Logical, Chars}
use Rattle.fj_format.specs.declared.item.FormatItem.{FormatItem}
use Rattle.fj_format.specs.Unfolding.{has_width_zero, pass}
use Rattle.fj_statement.specs.declared.statement.Control.{Control}
use Rattle.fj_statement.specs.declared.statement.Control.TheVariants as control
use Rattle.fj_statement.specs.declared.statement.Transfer.{Transfer}
use Rattle.fj_statement.specs.declared.statement.Statement.{Statement}
use Rattle.fj_statement.specs.declared.statement.Statement.TheVariants as statement
use Rattle.fj_syntax.specs.declared.operand.Operand as operand
use Rattle.fj_syntax.specs.declared.operand.Operand.TheVariants as operand_as
use Rattle.fj_syntax.specs.declared.written.Format.{Format}
use Rattle.fj_syntax.specs.declared.written.Format.TheVariants as format
use Rattle.fj_syntax.specs.declared.written.Transfer as written
use Rattle.fj_syntax.specs.declared.written.Unit.{Unit}
use Rattle.fj_syntax.specs.declared.written.Unit.TheVariants as unit
use Rattle.fj_names.specs.declared.operand.Meant.{Meant}
use Rattle.fj_statement.specs.declared.statement.Operand.{Operand}
use Rattle.fj_names.specs.declared.transfer.Parts.{Parts}
use Rattle.fj_names.specs.declared.scope.Scope.{Scope}
use Rattle.fj_names.specs.Giving.{◌>>=◌, optional, each}
use Rattle.fj_names.specs.Operands.{integer_place, meant, integer_operand}
use Rattle.fj_names.specs.Scope.{members}
use Rattle.fj_names.specs.Units.{transfer_unit}

-- ---- the rules on specifiers and items

infixr 5 ◌implies◌
abbrev pub ◌implies◌ : Bool → Bool → Bool
a implies b = not a || b

abbrev pub given : {A : Type 0} → Option A → Bool
given o = is_some o

abbrev pub is_true : Option Bool → Bool
is_true (Some b) = b
is_true None = false

abbrev pub is_list_directed : Option Format → Bool
is_list_directed (Some format.Asterisk) = true
is_list_directed f = false

abbrev pub is_explicit : Option Format → Bool
is_explicit (Some (format.Literal text)) = true
is_explicit f = false

abbrev pub is_place : operand.Operand → Bool
is_place (operand_as.Place d) = true
is_place o = false

abbrev pub is_star : Unit → Bool
is_star unit.Star = true
is_star u = false

-- BLANK=, DECIMAL=, DELIM=, PAD= or SIGN= stands
abbrev pub changes_some : written.Transfer → Bool
changes_some t = given t.blank_zero || (given t.comma || (given t.delim || (given t.pad || given t.plus)))

-- The format is list-directed, explicit with these items, or missing. ID= goes with ASYNCHRONOUS='YES', SIZE= with
-- ADVANCE=, ADVANCE= with an explicit format, a mode with a format or a group.
abbrev pub goes_together : written.Transfer → Bool
goes_together t =
    (given t.id implies is_true t.asynchronous)
    && ((given t.size implies given t.advance)
    && ((given t.advance implies is_explicit t.format)
    && (changes_some t implies (given t.format || given t.group))))

-- REC= excludes POS=, a list-directed format and a group; a group excludes a format and items; `*` excludes REC= and POS=
abbrev pub stands_alone : written.Transfer → Bool
stands_alone t =
    (given t.rec implies not (given t.pos || (is_list_directed t.format || given t.group)))
    && ((given t.group implies (not (given t.format) && (length t.items == 0)))
    && (is_star t.unit implies not (given t.rec || given t.pos)))

-- the items of READ are places, and its format has no width 0
abbrev pub can_be_read : Option (List FormatItem) → List operand.Operand → Bool
can_be_read None os = list_all is_place os
can_be_read (Some items) os = list_all is_place os && not (has_width_zero items)

unfoldable pub is_allowed : Option (List FormatItem) → written.Transfer → Bool
is_allowed items t = goes_together t && (stands_alone t && (t.input implies can_be_read items t.items))

-- ---- how much is transferred

-- the bytes of a value of a kind
abbrev pub size_of : Kind → ℕ
size_of Int4 = 4
size_of Int8 = 8
size_of Logical = 4
size_of (Chars n) = n

-- how many elements items are, arrays unfolded
abbrev pub elements : List Meant → ℕ
elements ms = sum_by (λ m. m.count) ms

abbrev pub bytes : List Meant → ℕ
bytes ms = sum_by (λ m. m.count * size_of m.kind) ms

-- no more than 1,000,000 elements and 16,777,216 bytes
unfoldable pub are_few : List Meant → Bool
are_few ms = nat_le (elements ms) 1000000 && nat_le (bytes ms) 16777216

-- ---- what the names stand for

-- with these items
unfoldable pub parts_with : Scope → written.Transfer → List Operand → Option Parts
parts_with s t items = do
  u ← transfer_unit s t
  g ← optional (members s) t.group
  rec ← optional (integer_operand s) t.rec
  pos ← optional (integer_operand s) t.pos
  id ← optional (integer_place s) t.id
  size ← optional (integer_place s) t.size
  iostat ← optional (integer_place s) t.iostat
  Some (record { unit = u; group = g; items = items; rec = rec; pos = pos; id = id; size = size; iostat = iostat })

unfoldable pub parts : Scope → written.Transfer → Option Parts
parts s t = each (meant s) t.items >>= (λ ms. parts_with s t (map (λ m. m.operand) ms))

-- a group with its members, an explicit format, a list-directed one, or none
abbrev pub control_of : Option (List ℕ) → Option (List ℕ) → Option Format → Option (List FormatItem) → Control
control_of (Some name) (Some vars) f items = control.Group name vars
control_of g vars f (Some items) = control.Explicit items
control_of g vars (Some f) None = control.Listed
control_of g vars None None = control.Unformatted

abbrev pub assembled : Option (List FormatItem) → written.Transfer → Parts → Transfer
assembled items t p = record {
  input = t.input;
  unit = p.unit;
  control = control_of t.group p.group t.format items;
  items = p.items;
  advance = t.advance;
  asynchronous = t.asynchronous;
  blank_zero = t.blank_zero;
  comma = t.comma;
  delim = t.delim;
  pad = t.pad;
  plus = t.plus;
  rec = p.rec;
  pos = p.pos;
  id = p.id;
  size = p.size;
  iostat = p.iostat;
}

unfoldable pub transferred : Scope → Option (List FormatItem) → written.Transfer → Option Statement
transferred s items t = do
  p ← parts s t
  if is_allowed items t then Some (statement.Transfer (assembled items t p)) else None

-- ---- limits

-- one pass of a format has no more than 1,000,000 elementary items
abbrev pub is_short : Option (List FormatItem) → Bool
is_short None = true
is_short (Some items) = nat_le (length (pass items)) 1000000

-- and the items are few, if all of them mean something
abbrev pub of_items : Option (List Meant) → Bool
of_items None = true
of_items (Some ms) = are_few ms

unfoldable pub fits : Scope → Option (List FormatItem) → written.Transfer → Bool
fits s items t = is_short items && of_items (each (meant s) t.items)
