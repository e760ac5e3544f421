-- What transfers a run asks about, with one more in front.
use Rattle.std.specs.Prelude.{max, Option, Some, None}
use Rattle.fj_meaning_jobs.specs.Core.{Pending}
use Rattle.fj_meaning_looks.specs.Inquiring.{Question}
use Rattle.fj_run_script.specs.declared.looking.Inquired.{Inquired}

abbrev pub inquired_of : Inquired → Question
inquired_of it = record { unit = it.unit; slot = it.slot; last = it.last }

-- the unit and the slot of the first one, and the greatest number
abbrev pub with_first : Pending → Option Question → Question
with_first e None = record { unit = e.unit; slot = e.slot; last = e.number }
with_first e (Some later) = record { unit = e.unit; slot = e.slot; last = max e.number later.last }
