-- What serving a job does to a bay and to the job, and what is answered.
use Rattle.std.specs.Prelude.{Option, Some, None}
use Rattle.fj_value.specs.declared.condition.Condition.{Condition}
use Rattle.fj_value.specs.declared.condition.Condition.TheVariants.{Fine, Error}
use Rattle.fj_value.specs.declared.edit.EditModes.{EditModes}
use Rattle.fj_connect.specs.Connection.{Connection, with_edit}
use Rattle.fj_connect.specs.Positions.{ended, moved}
use Rattle.fj_connect.specs.declared.spot.Positioning.{Positioning}
use Rattle.fj_transfer.specs.Transfer.{Done, transfer_by}
use Rattle.fj_slot.specs.Serving.{Served}
use Rattle.fj_bay.specs.Bay.{Bay}
use Rattle.fj_bay.specs.Halt.{halt_behind, unless_halted}
use Rattle.fj_bay.specs.Jobs.{Moving, Looked, looked_at, Job, attach, detach, move, go, change, flush, look, resume, Answer, done, skipped}

-- the bay and the job stay as they are
abbrev pub answered : Bay → Job → Condition → Served Bay Job Answer
answered bay job condition = record { engine = bay; job = job; answer = done condition }

-- an empty bay takes the connection in; else the job keeps it
abbrev pub attached : Bay → Option Connection → Option Connection → Served Bay Job Answer
attached bay (Some c) brought = answered bay (attach brought) (Error 7)
attached bay None brought = answered (record bay { connection = brought }) (attach None) Fine

-- the connection goes out into the job, with no record open
abbrev pub detached : Bay → Option Connection → Option Connection → Served Bay Job Answer
detached bay None place = answered bay (detach place) Fine
detached bay (Some c) place = answered (record bay { connection = None }) (detach (Some (ended c))) Fine

abbrev pub answer_in : Option Condition → Condition → Answer
answer_in (Some cause) condition = skipped cause
answer_in None condition = done condition

-- the job of a transfer has its cells and its count
abbrev pub with_done : Moving → Done → Moving
with_done t d = record t { moved = record t.moved { cells = d.cells }; count = d.count }

abbrev pub moved_so : Moving → Option Condition → Done → Served Bay Job Answer
moved_so t halt d =
    record { engine = record { connection = Some d.connection; halt = halt_behind halt d.condition }; job = move (with_done t d); answer = answer_in halt d.condition }

-- a transfer is carried out, or skipped in a halt
abbrev pub moved_in : Bay → Option Connection → Moving → Served Bay Job Answer
moved_in bay None t = answered bay (move t) (Error 1)
moved_in bay (Some c) t = moved_so t bay.halt (unless_halted bay.halt c t.spec.input t.moved.cells (transfer_by (λ n. t.control) c t.spec t.moved))

abbrev pub gone : Bay → Option Connection → Positioning → Served Bay Job Answer
gone bay None how = answered bay (go how) (Error 1)
gone bay (Some c) how = answered (record bay { connection = Some (moved c how).0 }) (go how) (moved c how).1

abbrev pub changed : Bay → Option Connection → EditModes → Served Bay Job Answer
changed bay None edit = answered bay (change edit) (Error 1)
changed bay (Some c) edit = answered (record bay { connection = Some (with_edit c edit) }) (change edit) Fine

abbrev pub looked : Bay → Option Connection → Option Looked → Served Bay Job Answer
looked bay None place = answered bay (look place) (Error 1)
looked bay (Some c) place = answered bay (look (Some (looked_at c))) Fine

unfoldable pub serve : Bay → Job → Served Bay Job Answer
serve bay (attach brought) = attached bay bay.connection brought
serve bay (detach place) = detached bay bay.connection place
serve bay (move t) = moved_in bay bay.connection t
serve bay (go how) = gone bay bay.connection how
serve bay (change edit) = changed bay bay.connection edit
serve bay flush = answered bay flush Fine
serve bay (look place) = looked bay bay.connection place
serve bay resume = answered (record bay { halt = None }) resume Fine
