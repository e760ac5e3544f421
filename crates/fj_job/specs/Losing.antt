-- What was lost first, and what is answered.
use Rattle.std.specs.Prelude.{Bool, true, false, Option, Some, None, Result, Ok, Err}
use Rattle.fj_outside.specs.declared.errors.Stop.{Stop}
use Rattle.fj_outside.specs.declared.errors.Stop.TheVariants as stop
use Rattle.fj_run_items.specs.declared.lost.Lost.{Lost}
use Rattle.fj_run_items.specs.declared.lost.Lost.TheVariants.{Memory, Sink, Disk, Unfit}

-- want of memory in closing, else what was lost before, else a fault of the disk in closing
abbrev pub first_lost : Option Lost → Result (Unit {0}) Stop → Option Lost
first_lost lost (Ok x) = lost
first_lost lost (Err (stop.Memory error)) = Some (Memory error)
first_lost (Some lost) (Err stop.Failed) = Some lost
first_lost None (Err stop.Failed) = Some Disk

abbrev pub settled_by : Option Lost → Result (Unit {0}) Lost
settled_by None = Ok tt
settled_by (Some lost) = Err lost

-- memory was wanting
abbrev pub is_want : Lost → Bool
is_want (Memory error) = true
is_want Sink = false
is_want Disk = false
is_want Unfit = false

abbrev pub wants : {T : Type 0} → Result T Lost → Bool
wants (Ok x) = false
wants (Err lost) = is_want lost
