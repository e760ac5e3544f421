-- What a job that came back has: the connection of its unit, what it saw, and what it brought.
use Rattle.std.specs.Prelude.{ℕ, Bool, false, List, Option, Some, None}
use Rattle.std.specs.Str.{bytes_eq}
use Rattle.fj_value.specs.declared.condition.Condition.{Condition}
use Rattle.fj_connect.specs.Linked.{Linked}
use Rattle.fj_connect.specs.declared.spot.Look.{Look}
use Rattle.fj_bay.specs.declared.job.Job.{Job}
use Rattle.fj_bay.specs.declared.job.Job.TheVariants as job
use Rattle.fj_meaning_jobs.specs.Core.{Connected}
use Rattle.fj_run_pending.specs.declared.held.Told.{Told}

-- the connection that a job took out, if it took one
abbrev pub held_in : {F : Type 0} → Job F → Option (Linked F)
held_in (job.Detach place) = place
held_in _ = None

-- a connection of that name is that of the unit
abbrev pub is_due : Option Connected → List ℕ → Bool
is_due None name = false
is_due (Some u) name = bytes_eq name u.name

-- the look of a job at a connection, if it has one
abbrev pub looked_in : {F : Type 0} → Job F → Option Look
looked_in (job.Look look) = look
looked_in _ = None

-- the values and the count of a transfer, with its condition; another job has none
abbrev pub told_in : {F : Type 0} → Job F → Condition → Told
told_in (job.Move it) condition = record { moved = Some it.moved; count = it.count; condition = condition }
told_in _ condition = record { moved = None; count = None; condition = condition }
