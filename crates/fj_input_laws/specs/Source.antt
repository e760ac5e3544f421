-- Where a formatted input takes its characters from, and where it then stands (ISO/IEC 1539-1:2004, 9.2, 9.5.3).
use Rattle.std.specs.Prelude.{ℕ, zero, suc, ◌+◌, min, Bool, List, [], length, Option, slice_get, unwrap_or, if◌then◌else◌}
use Rattle.fj_value.specs.declared.kind.Kind.{Kind}
use Rattle.fj_value.specs.declared.value.Cell.{Cell}
use Rattle.fj_value.specs.declared.condition.Condition.{Condition}
use Rattle.fj_value.specs.declared.condition.Condition.TheVariants.{Error}
use Rattle.fj_modes.specs.declared.specifiers.Access.TheVariants.{Direct}
use Rattle.fj_modes.specs.Words.{same_access}
use Rattle.fj_byterec.specs.Pieces.{piece}
use Rattle.fj_moved.specs.Cells.{kind_at}
use Rattle.fj_connect.specs.Connection.{Connection, begun, in_record, past_record, at_number}
use Rattle.fj_transfer.specs.Transfer.{records_to_come, condition_to_come}

-- The records, from the one in which the statement begins, each by its characters from the left tab limit on; what is told where
-- there is no further one; of which kind each item is; and whether the statement advances.
pub record Source : Type 0 where
  pub record_text : ℕ → Option (List ℕ)
  pub behind : Condition
  pub kinds : ℕ → Kind
  pub advance : Bool

-- in which of the records, counted from 0, and behind how many of its characters
pub record Place : Type 0 where
  pub number : ℕ
  pub at : ℕ

abbrev pub first_place : Place
first_place = record { number = 0; at = 0 }

abbrev pub is_direct : Connection → Bool
is_direct c = same_access c.modes.access Direct

-- Direct access has records by their numbers, and 17 where there is none of that number; else they come one after another, up to
-- the end of the file or to one that is too long.
abbrev pub source_at : Connection → Bool → List Cell → Source
source_at c advance cells = record {
  record_text = λ n. if is_direct c then piece c.bytes c.modes.recl (c.spot.next_number + n) else slice_get (records_to_come c) n;
  behind = if is_direct c then Error 17 else condition_to_come c;
  kinds = kind_at cells;
  advance = advance;
}

-- so many records further
abbrev pub records_on : ℕ → Connection → Connection
records_on zero c = c
records_on (suc n) c = past_record (records_on n c)

-- behind the record of that number, and inside it, but not behind its end
abbrev pub behind_record : Connection → ℕ → Connection
behind_record c n = if is_direct c then at_number c (c.spot.next_number + n) else records_on (suc n) c

abbrev pub inside_record : Connection → Place → List ℕ → Connection
inside_record c place text = let r = records_on place.number c in in_record r r.spot.start (begun r + min place.at (length text))
