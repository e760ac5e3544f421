-- Words to write decks with.
use Rattle.std.specs.Prelude.{ℕ, zero, suc, ◌+◌, ℤ, Bool, true, false, List, [], ◌∷◌, Option, Some, None, codes}
use Rattle.fj_value.specs.declared.kind.Kind.{Kind}
use Rattle.fj_value.specs.declared.kind.Kind.TheVariants.{Int4}
use Rattle.fj_value.specs.declared.place.Place.{Place}
use Rattle.fj_value.specs.declared.edit.Edit.TheVariants as edit
use Rattle.fj_value.specs.declared.value.Value.TheVariants as value
use Rattle.fj_format.specs.declared.item.FormatItem.TheVariants as item
use Rattle.fj_modes.specs.declared.specifiers.OpenSpec.{OpenSpec}
use Rattle.fj_modes.specs.declared.specifiers.FileStatus.TheVariants.{Replace}
use Rattle.fj_meaning.specs.State.{Files, with_file}
use Rattle.fj_control.specs.Steps.{Given, gives, done}
use Rattle.fj_format.specs.Unfolding as step
use Rattle.fj_meaning.specs.Statement.{Stated}
use Rattle.fj_statement.specs.declared.deck.Variable.{Variable}
use Rattle.fj_statement.specs.declared.statement.Operand.{Operand}
use Rattle.fj_statement.specs.declared.statement.Operand.TheVariants as operand
use Rattle.fj_statement.specs.declared.unit.UnitRef.TheVariants as unit
use Rattle.fj_modes.specs.declared.motion.Motion.{Motion}
use Rattle.fj_statement.specs.declared.statement.Control.{Control}
use Rattle.fj_statement.specs.declared.statement.Control.TheVariants as control
use Rattle.fj_statement.specs.declared.statement.Transfer.{Transfer}
use Rattle.fj_statement.specs.declared.statement.Statement.{Statement}
use Rattle.fj_statement.specs.declared.statement.Statement.TheVariants as statement

abbrev pub scalar : Kind → Variable
scalar kind = record { name = codes "A"; kind = kind; count = 0; line = 1 }

abbrev pub integers : ℕ → List Variable
integers zero = []
integers (suc n) = scalar Int4 ∷ integers n

abbrev pub at : ℕ → Place
at var = record { var = var; index = 1 }

abbrev pub whole : ℤ → Operand
whole n = operand.Literal Int4 (value.Int n)

abbrev pub plain_open : OpenSpec
plain_open = record {
  file = None;
  status = None;
  access = None;
  formatted = None;
  recl = None;
  position = None;
  action = None;
  blank_zero = None;
  delim = None;
  pad = None;
  comma = None;
  plus = None;
  asynchronous = None;
}

abbrev pub transfer : Bool → ℕ → Control → List Operand → Transfer
transfer input number layout items = record {
  input = input;
  unit = unit.Number number;
  control = layout;
  items = items;
  advance = None;
  asynchronous = None;
  blank_zero = None;
  comma = None;
  delim = None;
  pad = None;
  plus = None;
  rec = None;
  pos = None;
  id = None;
  size = None;
  iostat = None;
}

abbrev pub i_format : ℕ → Control
i_format w = control.Explicit (item.Field 1 (edit.Int w None) ∷ [])

abbrev pub Written : Type 0
Written = Statement × (ℕ → List Given)

-- a statement without a format
abbrev pub bare : Statement → Written
bare st = (st, λ n. [])

abbrev pub lines_from : ℕ → List Written → List Stated
lines_from line [] = []
lines_from line (st ∷ sts) = (record { line = line; what = st.0 }, st.1) ∷ lines_from (line + 1) sts

abbrev pub no_files : Files
no_files = λ name. None

-- ---- a few decks

abbrev pub r : List ℕ
r = codes "R"

abbrev pub two_lines : Files
two_lines = with_file r (49 ∷ 10 ∷ 50 ∷ 10 ∷ []) no_files

abbrev pub later : Transfer → Statement
later t = statement.Transfer (record t { asynchronous = Some true })

-- (Iw) with one item
abbrev pub i_steps : ℕ → ℕ → List Given
i_steps w n = gives (step.edit (edit.Int w None)) ∷ done ∷ []

abbrev pub read_later : ℕ → ℕ → ℕ → Written
read_later number w var = (later (transfer true number (i_format w) (operand.One (at var) ∷ [])), i_steps w)

abbrev pub number_operand : Option ℤ → Option Operand
number_operand None = None
number_operand (Some n) = Some (whole n)

abbrev pub wait : Option ℤ → Option Place → Written
wait id iostat = bare (statement.WaitFor (unit.Number 10) (number_operand id) iostat)

abbrev pub «end» : Written
«end» = bare statement.End

abbrev pub opening : ℕ → OpenSpec → Option Place → Written
opening number spec iostat = bare (statement.OpenUnit (unit.Number number) spec iostat)

-- OPEN of a new file by STATUS='REPLACE'
abbrev pub replacing : List ℕ → OpenSpec
replacing name = record plain_open { file = Some name; status = Some Replace }

abbrev pub replacing_later : List ℕ → OpenSpec
replacing_later name = record (replacing name) { asynchronous = Some true }

abbrev pub old_later : List ℕ → OpenSpec
old_later name = record plain_open { file = Some name; asynchronous = Some true }

abbrev pub now : Transfer → Statement
now t = statement.Transfer t

abbrev pub var : ℕ → Operand
var n = operand.One (at n)

abbrev pub motion : Motion → ℕ → Written
motion how number = bare (statement.Move how (unit.Number number) None)

abbrev pub assign : ℕ → Operand → Written
assign to from = bare (statement.Assign (var to) from)

abbrev pub close : ℕ → Option Bool → Written
close number keep = bare (statement.CloseUnit (unit.Number number) keep None)

abbrev pub a_format : Option ℕ → Control
a_format w = control.Explicit (item.Field 1 (edit.Chars w) ∷ [])

abbrev pub a_steps : Option ℕ → ℕ → List Given
a_steps w n = gives (step.edit (edit.Chars w)) ∷ done ∷ []

-- (Iw/), of which one item makes two records
abbrev pub slash_format : ℕ → Control
slash_format w = control.Explicit (item.Field 1 (edit.Int w None) ∷ item.Slash 1 ∷ [])

abbrev pub slash_steps : ℕ → ℕ → List Given
slash_steps w n = gives (step.edit (edit.Int w None)) ∷ gives step.slash ∷ done ∷ []

abbrev pub i_transfer : Bool → ℕ → ℕ → Operand → Transfer
i_transfer input number w item = transfer input number (i_format w) (item ∷ [])

abbrev pub a_transfer : Bool → ℕ → Option ℕ → Operand → Transfer
a_transfer input number w item = transfer input number (a_format w) (item ∷ [])

abbrev pub slash_transfer : ℕ → ℕ → Operand → Transfer
slash_transfer number w item = transfer false number (slash_format w) (item ∷ [])

abbrev pub by_i : ℕ → Statement → Written
by_i w st = (st, i_steps w)

abbrev pub by_a : Option ℕ → Statement → Written
by_a w st = (st, a_steps w)

abbrev pub by_slash : ℕ → Statement → Written
by_slash w st = (st, slash_steps w)

abbrev pub file : List ℕ → List ℕ → Files
file name bytes = with_file name bytes no_files

abbrev pub three_reads_told : List Stated
three_reads_told = lines_from 2 (opening 10 (old_later r) None ∷ read_later 10 1 0 ∷ read_later 10 1 1 ∷ read_later 10 1 2 ∷ wait None (Some (at 3)) ∷ «end» ∷ [])

abbrev pub four_reads : List Written → List Written
four_reads more = opening 10 (old_later r) None ∷ read_later 10 1 0 ∷ read_later 10 1 1 ∷ read_later 10 1 2 ∷ read_later 10 1 3 ∷ more
