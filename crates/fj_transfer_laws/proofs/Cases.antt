-- Worked cases, computed from the definition of a whole transfer.
use Rattle.std.proofs.Common.{◌≡◌, ℕ, true, false, List, [], ◌∷◌, ◌++◌, pos, negsuc, Some, None, refl}
use Rattle.std.specs.Prelude.{codes}
use Rattle.fj_value.specs.Digits.{numeral, number_in}
use Rattle.fj_value.specs.declared.edit.Delim.TheVariants.{Plain}
use Rattle.fj_value.specs.declared.edit.Edit.TheVariants as edit
use Rattle.fj_value.specs.declared.kind.Kind.{Kind}
use Rattle.fj_value.specs.declared.kind.Kind.TheVariants.{Int4, Int8, Logical, Chars}
use Rattle.fj_value.specs.declared.value.Cell.{Cell}
use Rattle.fj_value.specs.declared.value.Value.{Value}
use Rattle.fj_value.specs.declared.value.Value.TheVariants as value
use Rattle.fj_value.specs.declared.condition.Condition.TheVariants.{Fine}
use Rattle.fj_modes.specs.declared.specifiers.Access.TheVariants.{Sequential, Stream}
use Rattle.fj_modes.specs.declared.specifiers.Action.TheVariants.{ReadWrite}
use Rattle.fj_modes.specs.declared.specifiers.Start.TheVariants.{AsIs}
use Rattle.fj_format.specs.Unfolding as step
use Rattle.fj_control.specs.Steps.{Given, gives, done}
use Rattle.fj_edit_in.specs.InputField.{trimmed, blanks_read}
use Rattle.fj_moved.specs.declared.moved.GroupMember.{GroupMember}
use Rattle.fj_connect.specs.Connection.{Connection, between, in_record}
use Rattle.fj_connect.specs.declared.spot.Within.TheVariants.{Outside}
use Rattle.fj_transfer.specs.declared.change.EditChange.{EditChange}
use Rattle.fj_transfer.specs.declared.transfer.Layout.TheVariants.{Group}
use Rattle.fj_transfer.specs.Transfer.{Done, told_with, transfer_by}
use Rattle.fj_transfer_laws.specs.Statements.{reading, writing, moving, unformatted, laid_out}

abbrev unchanged : EditChange
unchanged = record { blank_zero = None; comma = None; delim = None; pad = None; plus = None }

-- a connection at the start of a file of these bytes
abbrev at_start : List ℕ → Connection
at_start bytes = record {
  modes = record {
    access = Sequential;
    formatted = true;
    recl = 80;
    action = ReadWrite;
    asynchronous = false;
    scratch = false;
    start = AsIs;
    edit = record { blank_zero = false; comma = false; delim = Plain; pad = true; plus = false };
  };
  name = [];
  bytes = bytes;
  spot = record { at = 0; start = 0; within = Outside; after_end = false; next_number = 1 };
}

abbrev cell : ℕ → Kind → Value → Cell
cell n kind v = record { place = record { var = n; index = 0 }; kind = kind; value = v }

abbrev two : Value → Value → List Cell
two v w = cell 0 Int4 v ∷ cell 1 Int4 w ∷ []

abbrev input_done : Connection → List Cell → ℕ → Done
input_done c cells count = record { connection = c; cells = cells; count = Some count; condition = Fine }

abbrev int : ℕ → Given
int w = gives (step.edit (edit.Int w None))

-- 12345 by (I2,I3), and by (I2) with ADVANCE='NO' and (I3)
pub record PiecesAre : Type 0 where
  pub both : transfer_by (λ n. int 2 ∷ int 3 ∷ done ∷ []) (at_start (codes "12345" ++ 10 ∷ [])) (reading [] true unchanged None) (moving (two value.Undefined value.Undefined) (0 ∷ 1 ∷ []))
      ≡ input_done (between (at_start (codes "12345" ++ 10 ∷ [])) 6) (two (value.Int (pos 12)) (value.Int (pos 345))) 5
  pub first : transfer_by (λ n. int 2 ∷ done ∷ []) (at_start (codes "12345" ++ 10 ∷ [])) (reading [] false unchanged None) (moving (two value.Undefined value.Undefined) (0 ∷ []))
      ≡ input_done (in_record (at_start (codes "12345" ++ 10 ∷ [])) 0 2) (two (value.Int (pos 12)) value.Undefined) 2
  pub second : transfer_by (λ n. int 3 ∷ done ∷ []) (in_record (at_start (codes "12345" ++ 10 ∷ [])) 0 2) (reading [] true unchanged None) (moving (two (value.Int (pos 12)) value.Undefined) (1 ∷ []))
      ≡ input_done (between (at_start (codes "12345" ++ 10 ∷ [])) 6) (two (value.Int (pos 12)) (value.Int (pos 345))) 3

pub pieces_are : PiecesAre
unfolding transfer_by trimmed blanks_read number_in
pieces_are = record { both = refl; first = refl; second = refl }

-- 7 and 42 by (I2,/,1X,I3), written to an empty file and read again
abbrev by_lines : ℕ → List Given
by_lines n = int 2 ∷ gives step.slash ∷ gives (step.right 1) ∷ int 3 ∷ done ∷ []

pub record RecordsAre : Type 0 where
  pub written : transfer_by by_lines (at_start []) (writing [] unchanged) (moving (two (value.Int (pos 7)) (value.Int (pos 42))) (0 ∷ 1 ∷ []))
      ≡ told_with (between (at_start (codes " 7" ++ 10 ∷ codes "  42" ++ 10 ∷ [])) 8) (two (value.Int (pos 7)) (value.Int (pos 42))) Fine
  pub read : transfer_by by_lines (between (at_start (codes " 7" ++ 10 ∷ codes "  42" ++ 10 ∷ [])) 0) (reading [] true unchanged None) (moving (two value.Undefined value.Undefined) (0 ∷ 1 ∷ []))
      ≡ input_done (between (at_start (codes " 7" ++ 10 ∷ codes "  42" ++ 10 ∷ [])) 8) (two (value.Int (pos 7)) (value.Int (pos 42))) 5

pub records_are : RecordsAre
unfolding transfer_by trimmed blanks_read number_in numeral
records_are = record { written = refl; read = refl }

-- ---- kinds

-- an unformatted stream at its start
abbrev stream_of : List ℕ → Connection
stream_of bytes = record (at_start bytes) { modes = record (at_start bytes).modes { access = Stream; formatted = false } }

-- the greatest and the least INTEGER(4), a LOGICAL that is true and a CHARACTER(2)
abbrev stored_four : List ℕ
stored_four = (255 ∷ 255 ∷ 255 ∷ 127 ∷ []) ++ (0 ∷ 0 ∷ 0 ∷ 128 ∷ []) ++ (0 ∷ 1 ∷ 0 ∷ 0 ∷ []) ++ codes "Hi"

abbrev four : Value → Value → Value → Value → List Cell
four a b c d = cell 0 Int4 a ∷ cell 1 Int4 b ∷ cell 2 Logical c ∷ cell 3 (Chars 2) d ∷ []

-- an INTEGER(8) of a group
abbrev long_a : GroupMember
long_a = record { name = codes "A"; kind = Int8; first = 0; count = 1; scalar = true }

-- Bytes are read as values of the kinds of their items. Where the cell of a variable of a group is of another kind than the variable,
-- it gets a value that is not of its own kind.
pub record KindsAre : Type 0 where
  pub bytes : transfer_by (λ n. []) (stream_of stored_four) (unformatted true None None unchanged) (moving (four value.Undefined value.Undefined value.Undefined value.Undefined) (0 ∷ 1 ∷ 2 ∷ 3 ∷ []))
      ≡ told_with (between (stream_of stored_four) 14) (four (value.Int (pos 2147483647)) (value.Int (negsuc 2147483647)) (value.Log true) (value.Chars (codes "Hi"))) Fine
  pub unlike : (transfer_by (λ n. []) (at_start (codes "&G A=2147483648/" ++ 10 ∷ [])) (laid_out true (Group (codes "G") (long_a ∷ [])) unchanged) (moving (cell 0 Int4 value.Undefined ∷ []) [])).cells
      ≡ cell 0 Int4 (value.Int (pos 2147483648)) ∷ []

pub kinds_are : KindsAre
unfolding transfer_by trimmed blanks_read number_in
kinds_are = record { bytes = refl; unlike = refl }
