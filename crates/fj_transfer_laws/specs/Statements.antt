-- READ and WRITE statements as the laws name them (ISO/IEC 1539-1:2004, 9.5.1).
use Rattle.std.specs.Prelude.{ℕ, ℤ, pos, Bool, true, false, List, Option, Some, None}
use Rattle.fj_value.specs.declared.value.Cell.{Cell}
use Rattle.fj_format.specs.declared.item.FormatItem.{FormatItem}
use Rattle.fj_moved.specs.declared.moved.Moved.{Moved}
use Rattle.fj_transfer.specs.declared.change.EditChange.{EditChange}
use Rattle.fj_transfer.specs.declared.transfer.TransferSpec.{TransferSpec}
use Rattle.fj_transfer.specs.declared.transfer.Layout.{Layout}
use Rattle.fj_transfer.specs.declared.transfer.Layout.TheVariants.{Unformatted, Explicit}

-- a READ, with its format, ADVANCE=, modes and POS=
abbrev pub reading : List FormatItem → Bool → EditChange → Option ℤ → TransferSpec
reading f advance edit place = record { input = true; layout = Explicit f; advance = advance; rec = None; pos = place; edit = edit }

-- a WRITE whose last record ends, with its format and modes
abbrev pub writing : List FormatItem → EditChange → TransferSpec
writing f edit = record { input = false; layout = Explicit f; advance = true; rec = None; pos = None; edit = edit }

-- the same of direct access, with REC=
abbrev pub reading_number : List FormatItem → ℕ → EditChange → TransferSpec
reading_number f number edit = record { input = true; layout = Explicit f; advance = true; rec = Some (pos number); pos = None; edit = edit }

abbrev pub writing_number : List FormatItem → ℕ → EditChange → TransferSpec
writing_number f number edit = record { input = false; layout = Explicit f; advance = true; rec = Some (pos number); pos = None; edit = edit }

-- cells, and the number of the cell of each item
abbrev pub moving : List Cell → List ℕ → Moved
moving cells order = record { cells = cells; order = order }

-- an unformatted READ or WRITE, with REC= and POS=
abbrev pub unformatted : Bool → Option ℤ → Option ℤ → EditChange → TransferSpec
unformatted input number place edit = record { input = input; layout = Unformatted; advance = true; rec = number; pos = place; edit = edit }

-- a READ or WRITE of another layout, as list-directed and namelist ones
abbrev pub laid_out : Bool → Layout → EditChange → TransferSpec
laid_out input layout edit = record { input = input; layout = layout; advance = true; rec = None; pos = None; edit = edit }
