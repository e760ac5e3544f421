-- Which jobs a statement gives to which units, in the words of what it means.
use Rattle.std.specs.Prelude.{◌≡◌, ℕ, ◌<◌, ◌&&◌, ◌++◌, nat_lt, unwrap_or, length, Bool, false, List, [], ◌∷◌, map, Option, Some, None, if◌then◌else◌, Result, Ok, Err}
use Rattle.std.specs.List.{AllPairs, list_any, flat_map}
use Rattle.fj_value.specs.declared.condition.Condition.{Condition}
use Rattle.fj_value.specs.declared.condition.Rule.{Rule}
use Rattle.fj_modes.specs.Modes.{settled}
use Rattle.fj_modes.specs.Modes as mode
use Rattle.fj_modes.specs.declared.modes.Modes.{Modes}
use Rattle.fj_modes.specs.declared.specifiers.OpenSpec.{OpenSpec}
use Rattle.fj_modes.specs.declared.asked.Wanted.{Wanted}
use Rattle.fj_modes.specs.declared.motion.Motion.{Motion}
use Rattle.fj_control.specs.Steps.{Given}
use Rattle.fj_connect.specs.Connection.{Connection}
use Rattle.fj_connect.specs.Opening.{opened_file}
use Rattle.fj_transfer.specs.Transfer.{transfer_by}
use Rattle.fj_bay.specs.Halt.{halts}
use Rattle.fj_bay.specs.Jobs.{Job, attach, detach, move, change, look, resume}
use Rattle.fj_statement.specs.declared.deck.Variable.{Variable}
use Rattle.fj_statement.specs.declared.statement.Statement.{Statement}
use Rattle.fj_statement.specs.declared.statement.Statement.TheVariants as statement
use Rattle.fj_statement.specs.declared.statement.Transfer.{Transfer}
use Rattle.fj_statement.specs.declared.unit.UnitRef.{UnitRef}
use Rattle.fj_statement.specs.Units.{is_outside}
use Rattle.fj_book.specs.Prohibitions.{prohibited}
use Rattle.fj_meaning.specs.Needs.{number_of, need, holders, unit_asked}
use Rattle.fj_meaning.specs.State.{State, Files, Unit, Entry, found, is_fine, start}
use Rattle.fj_meaning.specs.Telling.{waited, condition_of, tells_cause, after_tells, is_asynchronous}
use Rattle.fj_meaning.specs.Transfers.{moved_by, spec_of, layout_of, refusal}
use Rattle.fj_meaning.specs.Connecting.{file_due, keeps_file, is_taken, most_units, without_old}
use Rattle.fj_meaning.specs.Statement.{Stated, begun_in, executed, unit_at}
use Rattle.fj_meaning.specs.Reaching.{reached}
use Rattle.fj_meaning_jobs.specs.Core.{Connected, connected_at}
use Rattle.fj_meaning_jobs.specs.Desks.{Desk, carry}
use Rattle.fj_meaning_jobs.specs.Acting.{moving_of, job_of, asks_connection}
use Rattle.fj_meaning_jobs.specs.Both.{Both}
use Rattle.fj_meaning_jobs.specs.Doing.{Desked}
use Rattle.fj_meaning_jobs.specs.Desking.{begun_at, over_desks, desk_step, fresh}

-- a job, with the number of its unit
abbrev pub Jobs : Type 0
Jobs = List (ℕ × Job)

-- READ and WRITE that are not refused give a transfer; one that is not pending, and met an error or the end of the file, ends the halt
abbrev pub resume_behind : ℕ → Condition → Jobs
resume_behind number condition = if halts condition then (number, resume) ∷ [] else []

abbrev pub moving_in : (ℕ → List Given) → List Variable → ℕ → ℕ → State → Transfer → Job
moving_in control variables line tag s t = move (moving_of control variables line tag s.vars t (moved_by variables s t))

abbrev pub transfer_jobs : (ℕ → List Given) → List Variable → ℕ → State → Transfer → Unit → Jobs
transfer_jobs control variables line s t u =
    if is_asynchronous t then (u.number, moving_in control variables line s.next s t) ∷ []
    else (u.number, moving_in control variables line 0 s t)
    ∷ resume_behind u.number (transfer_by control u.connection (spec_of variables s t (moved_by variables s t).cells) (moved_by variables s t)).condition

abbrev pub unless_refused : Condition → Jobs → Jobs
unless_refused condition jobs = if is_fine condition then jobs else []

abbrev pub fitting_jobs : (ℕ → List Given) → List Variable → ℕ → State → Transfer → Option Unit → Jobs
fitting_jobs control variables line s t None = []
fitting_jobs control variables line s t (Some u) =
    unless_refused (refusal u.connection.modes t (layout_of variables (moved_by variables s t).cells t.control)) (transfer_jobs control variables line s t u)

-- CLOSE of a connected unit takes the connection out
abbrev pub out : Option Unit → Jobs
out None = []
out (Some u) = (u.number, detach None) ∷ []

abbrev pub close_jobs : Option Bool → Option Unit → Jobs
close_jobs keep None = []
close_jobs keep (Some u) = if unwrap_or keep false && u.connection.modes.scratch then [] else out (Some u)

-- OPEN that connects brings a connection
abbrev pub brought : ℕ → Result Connection Condition → Jobs
brought number (Err condition) = []
brought number (Ok c) = (number, attach (Some c)) ∷ []

abbrev pub connect_jobs : State → ℕ → OpenSpec → Modes → Jobs
connect_jobs s number spec modes = if nat_lt (length s.units) most_units then brought number (opened_file (s.files (file_due spec number)) (file_due spec number) spec modes) else []

-- another file: the old one goes first
abbrev pub opening_jobs : State → ℕ → OpenSpec → Option Unit → Result Modes Condition → Jobs
opening_jobs s number spec old (Err condition) = []
opening_jobs s number spec old (Ok modes) = if is_taken s number (file_due spec number) then [] else out old ++ connect_jobs (without_old s old) number spec modes

-- the same file: other modes
abbrev pub mode_jobs : ℕ → Result Modes Condition → Jobs
mode_jobs number (Err condition) = []
mode_jobs number (Ok modes) = (number, change modes.edit) ∷ []

abbrev pub open_jobs : State → ℕ → OpenSpec → Option Unit → Jobs
open_jobs s number spec None = opening_jobs s number spec None (settled spec)
open_jobs s number spec (Some u) = if keeps_file u spec spec.file then mode_jobs u.number (mode.changed u.connection.modes spec) else opening_jobs s number spec (Some u) (settled spec)

abbrev pub open_unit_jobs : State → UnitRef → ℕ → OpenSpec → Option Unit → Jobs
open_unit_jobs s u number spec None = if is_outside u then [] else open_jobs s number spec None
open_unit_jobs s u number spec (Some old) = open_jobs s number spec (Some old)

abbrev pub numbered_jobs : Option ℕ → (ℕ → Jobs) → Jobs
numbered_jobs None jobs = []
numbered_jobs (Some n) jobs = jobs n

-- a motion moves the connection, or flushes it
abbrev pub motion_jobs : Motion → Option Unit → Jobs
motion_jobs how None = []
motion_jobs how (Some u) = (u.number, job_of how) ∷ []

-- INQUIRE of a connected unit looks at the connection, where it asks what only that knows
abbrev pub look_jobs : List Wanted → Option Unit → Jobs
look_jobs asked None = []
look_jobs asked (Some u) = if list_any (λ (w : Wanted). asks_connection w.what) asked then (u.number, look None) ∷ [] else []

abbrev pub all_out : List Unit → Jobs
all_out us = map (λ (u : Unit). (u.number, detach None)) us

-- the statement's own jobs
abbrev pub own_jobs : (ℕ → List Given) → List Variable → ℕ → State → Statement → Jobs
own_jobs control variables line s (statement.Assign to from) = []
own_jobs control variables line s (statement.OpenUnit u spec iostat) = numbered_jobs (number_of u) (λ n. open_unit_jobs s u n spec (found s.units n))
own_jobs control variables line s (statement.CloseUnit u keep iostat) = close_jobs keep (unit_at s (number_of u))
own_jobs control variables line s (statement.WaitFor u id iostat) = []
own_jobs control variables line s (statement.Move how u iostat) = motion_jobs how (unit_at s (number_of u))
own_jobs control variables line s (statement.Inquire about asked id iostat _) = look_jobs asked (unit_at s (unit_asked s about))
own_jobs control variables line s (statement.Transfer t) = fitting_jobs control variables line s t (unit_at s (number_of t.unit))
own_jobs control variables line s statement.End = all_out s.units

-- where a condition of a transfer was told, CLOSE and END close all the same
abbrev pub closing_jobs : State → Statement → Jobs
closing_jobs s (statement.CloseUnit u keep iostat) = out (unit_at s (number_of u))
closing_jobs s statement.End = all_out s.units
closing_jobs s _ = []

abbrev pub jobs_behind : (ℕ → List Given) → List Variable → ℕ → State → Statement → Condition → Jobs
jobs_behind control variables line s st condition = if is_fine condition then own_jobs control variables line s st else closing_jobs s st

-- the halts that end as their cause is told
abbrev pub resume_one : List Entry → Unit → Jobs
resume_one told u = if tells_cause told u.number then (u.number, resume) ∷ [] else []

abbrev pub resumes : List Entry → List Unit → Jobs
resumes told us = flat_map (resume_one told) us

-- a prohibited statement gives none
abbrev pub unless_prohibited : (ℕ → List Given) → List Variable → ℕ → State → Statement → Option Rule → Jobs
unless_prohibited control variables line s st (Some rule) = []
unless_prohibited control variables line s st None =
    resumes (waited s st) s.units ++ jobs_behind control variables line (after_tells variables line (waited s st) s) st (condition_of (waited s st))

abbrev pub jobs : List Variable → Stated → State → Jobs
jobs variables st s = unless_prohibited st.1 variables st.0.line s st.0.what (prohibited s.vars (holders s.book) (need variables s st.0.what))

-- ---- the law

-- the slot that the unit has; of a connection that comes, the slot that the unit has then
abbrev pub IsAt : List Connected → List Connected → ℕ → ℕ → Job → Type 0
IsAt before after number slot (attach brought_one) = ((u : Connected) × (connected_at after number ≡ Some u) × (u.slot ≡ slot))
IsAt before after number slot _ = ((u : Connected) × (connected_at before number ≡ Some u) × (u.slot ≡ slot))

-- a job that was given to a slot is that of the unit
abbrev pub IsGiven : List Connected → List Connected → ℕ × Job → ℕ × Job → Type 0
IsGiven before after at_slot at_unit = (at_slot.1 ≡ at_unit.1) × IsAt before after at_unit.0 at_slot.0 at_unit.1

abbrev pub carry_all : List Desk → List (ℕ × Job) → List Desk
carry_all desks [] = desks
carry_all desks (x ∷ more) = carry_all (carry desks x.0 x.1) more

-- the desks after the statement are those before it, with its jobs carried out in their order, and nothing else
pub record GivesJobs (before after : Desked) (due : Jobs) : Type 0 where
  pub given : List (ℕ × Job)
  pub are : Both (IsGiven before.core.units after.core.units) given due
  pub desks : after.desks ≡ carry_all before.desks given

-- for every deck, each statement that is come to gives its jobs, as it begins
abbrev pub JobsAreGiven : Type 0
JobsAreGiven = (variables : List Variable) (sts : List Stated) (st : Stated) (files : Files) →
    let reached = over_desks variables sts (fresh variables files) in
    let s = (executed variables sts (start variables files)).state in
    GivesJobs reached.desked (desk_step variables (begun_at reached.desked st) reached.desked).0 (jobs variables (begun_in s st) s)

-- END closes the units one after another, in ascending order, also where the condition of a transfer is told
abbrev pub Ascend : Jobs → Type 0
Ascend given = AllPairs (λ (a b : ℕ × Job). a.0 < b.0) given

abbrev pub EndAscends : Type 0
EndAscends = (variables : List Variable) (sts : List Stated) (files : Files) (control : ℕ → List Given) (line : ℕ) →
    let s = reached variables sts files in Ascend (own_jobs control variables line s statement.End) × Ascend (closing_jobs s statement.End)
