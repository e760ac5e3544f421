-- The definitions computed at worked cases.
use Rattle.std.proofs.Common.{◌≡◌, ℕ, true, false, List, [], ◌∷◌, Option, Some, None, refl, codes, pos}
use Rattle.fj_value.specs.declared.kind.Kind.TheVariants.{Int4, Int8, Logical, Chars}
use Rattle.fj_value.specs.declared.value.Value.TheVariants as value
use Rattle.fj_statement.specs.declared.statement.Operand.TheVariants as operand
use Rattle.fj_statement.specs.declared.statement.Statement.TheVariants as statement
use Rattle.fj_syntax.specs.declared.token.Sign.TheVariants.{Unsigned}
use Rattle.fj_syntax.specs.declared.operand.Operand.TheVariants as written
use Rattle.fj_names.specs.declared.scope.Scope.{Scope}
use Rattle.fj_names.specs.Scope.{empty, named, found, members}
use Rattle.fj_names.specs.Declaring.{with_declaration, with_group, is_within}
use Rattle.fj_names.specs.Operands.{placed, integer_place, number, variable_meant, meant, integer_operand}
use Rattle.fj_names.specs.Calls.{assigned, opened}
use Rattle.fj_names.specs.Units.{transfer_unit, unit_meant, unit_named}
use Rattle.fj_modes.specs.declared.specifiers.FileStatus.{FileStatus}
use Rattle.fj_modes.specs.declared.specifiers.FileStatus.TheVariants.{Old, Scratch}
use Rattle.fj_modes.specs.declared.specifiers.OpenSpec.{OpenSpec}
use Rattle.fj_statement.specs.declared.unit.UnitRef.TheVariants.{Held, Internal, New}
use Rattle.fj_statement.specs.declared.unit.InternalFile.TheVariants as file
use Rattle.fj_syntax.specs.declared.operand.Designator.{Designator}
use Rattle.fj_syntax.specs.declared.written.Format.{Format}
use Rattle.fj_syntax.specs.declared.written.Format.TheVariants as format
use Rattle.fj_syntax.specs.declared.written.Transfer.{Transfer}
use Rattle.fj_syntax.specs.declared.written.Unit.{Unit}
use Rattle.fj_syntax.specs.declared.written.Unit.TheVariants as unit
use Rattle.fj_names.specs.Transfer.{are_few}

-- `INTEGER I, A(3)` on line 1, and `NAMELIST /G/ A, I, A` on line 2
abbrev one_line : Scope
one_line = record { variables = record { name = codes "I"; kind = Int4; count = 0; line = 1 } ∷ record { name = codes "A"; kind = Int4; count = 3; line = 1 } ∷ []; groups = []; lines = [] }

abbrev two_lines : Scope
two_lines = record one_line { groups = record { name = codes "G"; vars = 1 ∷ 0 ∷ 1 ∷ [] } ∷ []; lines = 2 ∷ [] }

pub a_declaration : with_declaration empty 1 (record { kind = Int4; entities = record { name = codes "I"; number = None } ∷ record { name = codes "A"; number = Some 3 } ∷ [] }) ≡ Some one_line
unfolding with_declaration named
a_declaration = refl

pub declared_twice : with_declaration empty 1 (record { kind = Int4; entities = record { name = codes "I"; number = None } ∷ record { name = codes "I"; number = Some 3 } ∷ [] }) ≡ None
unfolding with_declaration named
declared_twice = refl

pub declared_before : with_declaration two_lines 3 (record { kind = Logical; entities = record { name = codes "L"; number = None } ∷ record { name = codes "G"; number = None } ∷ [] }) ≡ None
unfolding with_declaration named
declared_before = refl

pub a_group : with_group one_line 2 (record { name = codes "G"; members = codes "A" ∷ codes "I" ∷ codes "A" ∷ [] }) ≡ Some two_lines
unfolding with_group named found
a_group = refl

pub no_member : with_group two_lines 3 (record { name = codes "H"; members = codes "G" ∷ [] }) ≡ None
unfolding with_group named found
no_member = refl

-- one place too many, and as many as may be
pub too_many_places : is_within (record { name = codes "I"; kind = Int4; count = 0; line = 1 } ∷ record { name = codes "V"; kind = Int4; count = 1000000; line = 1 } ∷ []) ≡ false
too_many_places = refl

pub enough_characters : is_within (record { name = codes "W"; kind = Chars 65536; count = 256; line = 1 } ∷ []) ≡ true
enough_characters = refl

-- `A(3)`, `A(4)`, `A`, `I(1)` and `G`
pub the_last_element : meant two_lines (written.Place (record { name = codes "A"; number = Some 3 })) ≡ Some (record { operand = operand.One (record { var = 1; index = 3 }); kind = Int4; count = 1 })
unfolding meant variable_meant found named
the_last_element = refl

pub beyond_the_last : meant two_lines (written.Place (record { name = codes "A"; number = Some 4 })) ≡ None
unfolding meant variable_meant found named
beyond_the_last = refl

pub an_array : meant two_lines (written.Place (record { name = codes "A"; number = None })) ≡ Some (record { operand = operand.Whole 1; kind = Int4; count = 3 })
unfolding meant variable_meant found named
an_array = refl

pub no_array : meant two_lines (written.Place (record { name = codes "I"; number = Some 1 })) ≡ None
unfolding meant variable_meant found named
no_array = refl

pub no_variable : meant two_lines (written.Place (record { name = codes "G"; number = None })) ≡ None
unfolding meant variable_meant found named
no_variable = refl

pub the_members : members two_lines (codes "G") ≡ Some (1 ∷ 0 ∷ 1 ∷ [])
unfolding members named
the_members = refl

-- 2147483648 and 9223372036854775808
pub a_wide_literal : meant empty (written.Number Unsigned 2147483648) ≡ Some (record { operand = operand.Literal Int8 (value.Int (pos 2147483648)); kind = Int8; count = 1 })
unfolding meant number
a_wide_literal = refl

pub no_literal : meant empty (written.Number Unsigned 9223372036854775808) ≡ None
unfolding meant number
no_literal = refl

-- `A = 5`, and `A = I`
pub an_assignment : assigned two_lines (record { to = record { name = codes "A"; number = None }; from = written.Number Unsigned 5 }) ≡ Some (statement.Assign (operand.Whole 1) (operand.Literal Int4 (value.Int (pos 5))))
unfolding assigned meant variable_meant found named number
an_assignment = refl

pub no_assignment : assigned two_lines (record { to = record { name = codes "A"; number = None }; from = written.Place (record { name = codes "I"; number = None }) }) ≡ None
unfolding assigned meant variable_meant found named number
no_assignment = refl

-- `ID=I`, and `ID=A`
pub an_identifier : integer_operand two_lines (written.Place (record { name = codes "I"; number = None })) ≡ Some (operand.One (record { var = 0; index = 1 }))
unfolding integer_operand meant variable_meant found named
an_identifier = refl

pub no_identifier : integer_place two_lines (record { name = codes "A"; number = None }) ≡ None
unfolding integer_place placed found named
no_identifier = refl

-- units `I`, `A(2)`, `A` and `G`
abbrev place_i : Designator
place_i = record { name = codes "I"; number = None }

pub a_held_unit : unit_meant two_lines (unit.Place place_i) ≡ Some (Held (record { var = 0; index = 1 }) 0)
unfolding unit_meant integer_place placed found named
a_held_unit = refl

pub a_held_element : unit_meant two_lines (unit.Place (record { name = codes "A"; number = Some 2 })) ≡ Some (Held (record { var = 1; index = 2 }) 0)
unfolding unit_meant integer_place placed found named
a_held_element = refl

pub no_array_unit : unit_meant two_lines (unit.Place (record { name = codes "A"; number = None })) ≡ None
unfolding unit_meant integer_place placed found named
no_array_unit = refl

pub no_group_unit : unit_meant two_lines (unit.Place (record { name = codes "G"; number = None })) ≡ None
unfolding unit_meant integer_place placed found named
no_group_unit = refl

-- `OPEN(NEWUNIT=I)`, with STATUS='SCRATCH', and with STATUS='OLD'
abbrev with_status : Option FileStatus → OpenSpec
with_status status = record {
  file = None;
  status = status;
  access = None;
  formatted = None;
  recl = None;
  position = None;
  action = None;
  blank_zero = None;
  delim = None;
  pad = None;
  comma = None;
  plus = None;
  asynchronous = None;
}

pub no_file : opened two_lines (record { unit = unit.New place_i; what = with_status None; iostat = None }) ≡ None
unfolding opened unit_meant integer_place placed found named
no_file = refl

pub no_old_file : opened two_lines (record { unit = unit.New place_i; what = with_status (Some Old); iostat = None }) ≡ None
unfolding opened unit_meant integer_place placed found named
no_old_file = refl

pub a_scratch_file : opened two_lines (record { unit = unit.New place_i; what = with_status (Some Scratch); iostat = None }) ≡ Some (statement.OpenUnit (New (record { var = 0; index = 1 }) 0) (with_status (Some Scratch)) None)
unfolding opened unit_meant integer_place placed found named
a_scratch_file = refl

-- ---- units of READ and WRITE

-- `CHARACTER(LEN=3) C, D(2)`, and `INTEGER I, A(3)`, and `LOGICAL L(2)`
abbrev texts : Scope
texts = record {
  variables =
      record { name = codes "C"; kind = Chars 3; count = 0; line = 1 }
      ∷ record { name = codes "D"; kind = Chars 3; count = 2; line = 1 }
      ∷ record { name = codes "I"; kind = Int4; count = 0; line = 2 }
      ∷ record { name = codes "A"; kind = Int4; count = 3; line = 2 }
      ∷ record { name = codes "L"; kind = Logical; count = 2; line = 3 }
      ∷ [];
  groups = [];
  lines = [];
}

abbrev designated : List ℕ → Option ℕ → Unit
designated name number = unit.Place (record { name = name; number = number })

-- a WRITE on this unit, with this format
abbrev writing : Unit → Option Format → Transfer
writing u f = record {
  input = false;
  unit = u;
  format = f;
  group = None;
  advance = None;
  asynchronous = None;
  blank_zero = None;
  comma = None;
  delim = None;
  pad = None;
  plus = None;
  rec = None;
  pos = None;
  id = None;
  size = None;
  iostat = None;
  items = [];
}

-- list-directed on `C`, `D(2)` and `D`
pub a_scalar_file : transfer_unit texts (writing (designated (codes "C") None) (Some format.Asterisk)) ≡ Some (Internal (file.One (record { var = 0; index = 1 })))
unfolding transfer_unit unit_named variable_meant found named
a_scalar_file = refl

pub an_element_file : transfer_unit texts (writing (designated (codes "D") (Some 2)) (Some format.Asterisk)) ≡ Some (Internal (file.One (record { var = 1; index = 2 })))
unfolding transfer_unit unit_named variable_meant found named
an_element_file = refl

pub an_array_file : transfer_unit texts (writing (designated (codes "D") None) (Some (format.Literal (codes "(I1)")))) ≡ Some (Internal (file.Whole 1))
unfolding transfer_unit unit_named variable_meant found named
an_array_file = refl

-- `I`, and none of `A`, `L(1)`, `L`, `D(3)` and `C(1)`
pub a_number : transfer_unit texts (writing (designated (codes "I") None) None) ≡ Some (Held (record { var = 2; index = 1 }) 0)
unfolding transfer_unit unit_named variable_meant found named
a_number = refl

pub no_numbers : transfer_unit texts (writing (designated (codes "A") None) (Some format.Asterisk)) ≡ None
unfolding transfer_unit unit_named variable_meant found named
no_numbers = refl

pub no_truth : transfer_unit texts (writing (designated (codes "L") (Some 1)) (Some format.Asterisk)) ≡ None
unfolding transfer_unit unit_named variable_meant found named
no_truth = refl

pub no_truths : transfer_unit texts (writing (designated (codes "L") None) (Some format.Asterisk)) ≡ None
unfolding transfer_unit unit_named variable_meant found named
no_truths = refl

pub no_third_element : transfer_unit texts (writing (designated (codes "D") (Some 3)) (Some format.Asterisk)) ≡ None
unfolding transfer_unit unit_named variable_meant found named
no_third_element = refl

pub no_element_of_scalar : transfer_unit texts (writing (designated (codes "C") (Some 1)) (Some format.Asterisk)) ≡ None
unfolding transfer_unit unit_named variable_meant found named
no_element_of_scalar = refl

-- an internal file with no format, and with ADVANCE=, ASYNCHRONOUS=, REC= and POS=
abbrev on_file : Transfer
on_file = writing (designated (codes "C") None) (Some format.Asterisk)

pub no_format : transfer_unit texts (writing (designated (codes "C") None) None) ≡ None
unfolding transfer_unit unit_named variable_meant found named
no_format = refl

pub no_advance : transfer_unit texts (record on_file { advance = Some true }) ≡ None
unfolding transfer_unit unit_named variable_meant found named
no_advance = refl

pub no_asynchronous : transfer_unit texts (record on_file { asynchronous = Some false }) ≡ None
unfolding transfer_unit unit_named variable_meant found named
no_asynchronous = refl

pub no_record : transfer_unit texts (record on_file { rec = Some (written.Number Unsigned 1) }) ≡ None
unfolding transfer_unit unit_named variable_meant found named
no_record = refl

pub no_position : transfer_unit texts (record on_file { pos = Some (written.Number Unsigned 1) }) ≡ None
unfolding transfer_unit unit_named variable_meant found named
no_position = refl

-- any other statement
pub no_file_elsewhere : unit_meant texts (designated (codes "C") None) ≡ None
unfolding unit_meant integer_place placed found named
no_file_elsewhere = refl

-- two million elements
pub many_elements : are_few (record { operand = operand.Whole 0; kind = Logical; count = 2000000 } ∷ []) ≡ false
unfolding are_few
many_elements = refl
