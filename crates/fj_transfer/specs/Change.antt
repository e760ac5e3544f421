-- The modes during a transfer.
use Rattle.std.specs.Prelude.{unwrap_or}
use Rattle.fj_value.specs.declared.edit.EditModes.{EditModes}
use Rattle.fj_transfer.specs.declared.change.EditChange.{EditChange}

-- each mode that the statement names, and the others as they were
abbrev pub changed : EditChange → EditModes → EditModes
changed change modes = record {
  blank_zero = unwrap_or change.blank_zero modes.blank_zero;
  comma = unwrap_or change.comma modes.comma;
  delim = unwrap_or change.delim modes.delim;
  pad = unwrap_or change.pad modes.pad;
  plus = unwrap_or change.plus modes.plus;
}
