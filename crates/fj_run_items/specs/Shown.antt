-- What a WRITE on `*` prints.
use Rattle.std.specs.Prelude.{length, All}
use Rattle.fj_moved.specs.declared.moved.Moved.{Moved}
use Rattle.fj_namelist.specs.GroupText.{IsWithin}
use Rattle.fj_statement.specs.declared.statement.Control.{Control}
use Rattle.fj_statement.specs.declared.statement.Control.TheVariants as control
use Rattle.fj_transfer.specs.Moving.{members_of}
use Rattle.fj_transfer.specs.Printing.{IsRecords, IsOfItems as IsLayoutOfItems}
use Rattle.fj_transfer.specs.declared.transfer.Layout.{Layout}
use Rattle.fj_run_items.specs.declared.star.Shown.{Shown}
use Rattle.fj_run_items.specs.declared.star.Shown.TheVariants.{Lent, Copied}

-- a formatted transfer of items, and of no group
abbrev pub IsOfItems : Control → Type 0
IsOfItems (control.Explicit f) = Unit {0}
IsOfItems control.Listed = Unit {0}
IsOfItems _ = ⊥

-- its cells, lent or copied
abbrev pub shown_cells : Shown → Moved
shown_cells (Lent moved) = moved
shown_cells (Copied moved) = moved

-- a layout for it: that of what is lent has no group
abbrev pub IsShownBy : Layout → Shown → Type 0
IsShownBy layout (Lent moved) = IsLayoutOfItems layout
IsShownBy layout (Copied moved) = IsRecords layout × All (IsWithin (length moved.cells)) (members_of layout)
