-- What the runner asks next, and what it is after each answer.
use Rattle.std.specs.Prelude.{ℕ, ◌+◌, ◌==◌, ◌&&◌, not, Bool, List, [], ◌∷◌, drop, map, filter, Option, Some, None, is_some, is_none, slice_set, get_or, if◌then◌else◌}
use Rattle.fj_value.specs.declared.condition.Condition.{Condition}
use Rattle.fj_value.specs.declared.condition.Rule.{Rule}
use Rattle.fj_statement.specs.declared.deck.Variable.{Variable}
use Rattle.fj_world.specs.declared.ask.Ask.{Ask}
use Rattle.fj_world.specs.declared.ask.Ask.TheVariants.{Submit, Settle, Finished}
use Rattle.fj_bay.specs.Jobs.{Job, resume}
use Rattle.fj_meaning.specs.State.{Entry}
use Rattle.fj_book.specs.Prohibitions.{prohibited}
use Rattle.fj_meaning.specs.Needs.{need_by}
use Rattle.fj_meaning.specs.Telling.{waited_in, condition_of, tells_id, tells_cause}
use Rattle.fj_meaning.specs.Statement.{Stated, Ending, begins, prohibition, ends}
use Rattle.fj_meaning_jobs.specs.Core.{Core, Pending, Connected, pending_holders, unit_named}
use Rattle.fj_meaning_jobs.specs.Desks.{Outcome, Brought, brought_by}
use Rattle.fj_meaning_jobs.specs.Doing.{Doing, finishes, gives, awaits}
use Rattle.fj_meaning_jobs.specs.Acting.{doing}
use Rattle.fj_meaning_jobs.specs.Desking.{defined, told_core}
use Rattle.fj_meaning_turns.specs.Run.{Held, known, Stage, Start, Waiting, Acting, Awaiting, Run}

-- a turn pauses at an ask, passes on to the next statement, or stops at an ending
pub data Turn : Type 0 where
  Pauses : Ask Job → Run → Turn
  Passes : Run → Turn
  Stops : Run → Turn

-- ---- the book

-- the transfers of another book keep their answers; one more has none
abbrev pub matched : List Pending → List Held → List Held
matched [] hs = []
matched (e ∷ es) [] = record { pending = e; answer = None } ∷ matched es []
matched (e ∷ es) (h ∷ hs) = record { pending = e; answer = h.answer } ∷ matched es hs

abbrev pub with_core : Core → Run → Run
with_core core r = record r { core = core; book = matched core.book r.book }

-- the slot of the first one among these whose job is not told
abbrev pub unsettled : List Entry → List Held → Option ℕ
unsettled es [] = None
unsettled es (h ∷ hs) = if tells_id es h.pending.id && is_none h.answer then Some h.pending.slot else unsettled es hs

-- ---- asks

abbrev pub bump : List ℕ → ℕ → List ℕ
bump counts slot = slice_set counts slot (get_or counts slot 0 + 1)

abbrev pub submits : ℕ → Job → Stage → Run → Turn
submits slot job stage r = Pauses (Submit slot job) (record r { sent = bump r.sent slot; stage = stage })

abbrev pub settles : ℕ → Stage → Run → Turn
settles slot stage r = Pauses (Settle slot) (record r { stage = stage; due = slot })

-- ---- what a statement does once its transfers are told: the halts that they set end, and then it acts

abbrev pub halted_slots : List Entry → List Connected → List ℕ
halted_slots told units = map (λ (u : Connected). u.slot) (filter (λ (u : Connected). tells_cause told u.number) units)

abbrev pub ends_halts : List ℕ → Core → Doing → Doing
ends_halts [] core next = next
ends_halts (slot ∷ slots) core next = gives slot resume core (λ number. ends_halts slots core next)

abbrev pub doing_told : List Variable → Stated → List Entry → Core → Doing
doing_told variables st told core =
    let new = told_core variables st.0.line told core in
    ends_halts (halted_slots told core.units) new (doing st.1 variables st.0.line new st.0.what (condition_of told))

-- ---- turns

abbrev pub finish_by : Option Ending → Run → Turn
finish_by None r = Passes (record r { stage = Start })
finish_by (Some e) r = Stops (record r { stage = Start; ending = Some e })

abbrev pub with_iostat : Stated → Condition → Run → Core → Core
with_iostat st condition r core = defined r.variables st.0.what condition core

abbrev pub turn_finish : Stated → Core → Condition → Run → Turn
turn_finish st core condition r = finish_by (ends st.0.line st.0.what condition) (with_core (with_iostat st condition r core) r)

abbrev pub turn_act : Stated → Doing → Run → Turn
turn_act st (finishes core condition) r = turn_finish st core condition r
turn_act st (gives slot job core next) r = submits slot job (Acting (next (get_or r.sent slot 0))) (with_core core r)
turn_act st (awaits slot job core next) r = submits slot job (Awaiting slot (get_or r.sent slot 0) next) (with_core core r)

-- those told are pending no more
abbrev pub with_tells : Stated → List Entry → Run → Run
with_tells st told r = record r { core = told_core r.variables st.0.line told r.core; book = filter (λ (h : Held). not (tells_id told h.pending.id)) r.book }

abbrev pub turn_tell : Stated → List Entry → Run → Turn
turn_tell st told r = turn_act st (doing_told r.variables st told r.core) (with_tells st told r)

abbrev pub wait_by : Stated → List Entry → Option ℕ → Run → Turn
wait_by st waited None r = turn_tell st waited r
wait_by st waited (Some slot) r = settles slot Waiting r

-- by what is known; a transfer that is not known yet has no condition, so a wait by its identifier may come to be one for all of its unit
abbrev pub waited_now : Stated → Run → List Entry
waited_now st r = waited_in (map known r.book) r.core.vars st.0.what

abbrev pub turn_wait : Stated → Run → Turn
turn_wait st r = wait_by st (waited_now st r) (unsettled (waited_now st r) r.book) r

abbrev pub start_by : Stated → Option Rule → Run → Turn
start_by st (Some rule) r = finish_by (Some (prohibition st.0.line rule)) r
start_by st None r = turn_wait st r

abbrev pub rule_of : List Variable → Stated → Core → Option Rule
rule_of variables st core = prohibited core.vars (pending_holders core.book) (need_by variables core.vars (unit_named core.units) st.0.what)

-- a statement that begins
abbrev pub turn_begun : Stated → Run → Turn
turn_begun st r = start_by st (rule_of r.variables st r.core) r

-- the statement at hand as it begins
abbrev pub begun_for : Run → Stated → Stated
begun_for r st = begins r.core.vars r.core.new_unit st

-- or as it stands once it has begun
abbrev pub hand_at : Stated → Stage → Run → Stated
hand_at st Start r = begun_for r st
hand_at st Waiting r = st
hand_at st (Acting does) r = st
hand_at st (Awaiting slot number next) r = st

abbrev pub with_hand : Stated → Run → Run
with_hand st r = record r { rest = st ∷ drop 1 r.rest }

abbrev pub turn_start : Stated → Run → Turn
turn_start st r = turn_begun (begun_for r st) (with_hand (begun_for r st) r)

-- of one that has begun
abbrev pub turn_on : Stated → Stage → Run → Turn
turn_on st Start r = turn_begun st r
turn_on st Waiting r = turn_wait st r
turn_on st (Acting does) r = turn_act st does r
turn_on st (Awaiting slot number next) r = settles slot (Awaiting slot number next) r

abbrev pub turn : Stated → Stage → Run → Turn
turn st Start r = turn_start st r
turn st Waiting r = turn_wait st r
turn st (Acting does) r = turn_act st does r
turn st (Awaiting slot number next) r = settles slot (Awaiting slot number next) r

-- ---- what is asked next

pub record Asked : Type 0 where
  pub ask : Ask Job
  pub run : Run

-- statements are executed until one asks
abbrev pub goes : List Stated → Run → Asked
goes [] r = record { ask = Finished; run = record r { rest = [] } }
goes (st ∷ rest) r =
    elim (turn_start st (record r { rest = st ∷ rest })) as (λ _. Asked) [
      | Pauses ask run ↦ record { ask = ask; run = run }
      | Passes run ↦ goes rest run
      | Stops run ↦ record { ask = Finished; run = run }
    ]

abbrev pub by_turn : List Stated → Turn → Asked
by_turn rest (Pauses ask run) = record { ask = ask; run = run }
by_turn rest (Passes run) = goes rest run
by_turn rest (Stops run) = record { ask = Finished; run = run }

abbrev pub asked_on : List Stated → Run → Asked
asked_on [] r = record { ask = Finished; run = r }
asked_on (st ∷ rest) r = by_turn rest (turn st r.stage r)

abbrev pub asked : Run → Asked
asked r = if is_some r.ending then record { ask = Finished; run = r } else asked_on r.rest r

-- ---- the answer of the next job of the slot that it waits for

-- the transfer whose job has that number at that slot has its answer: what the job brought
abbrev pub is_at : ℕ → ℕ → Pending → Bool
is_at slot number e = (e.slot == slot) && (e.number == number)

abbrev pub with_answer : ℕ → ℕ → Brought → List Held → List Held
with_answer slot number brought hs = map (λ (h : Held). if is_at slot number h.pending then record { pending = h.pending; answer = Some brought } else h) hs

-- or it is the statement's own job
abbrev pub stage_told : Stage → ℕ → ℕ → Outcome → Stage
stage_told Start slot number it = Start
stage_told Waiting slot number it = Waiting
stage_told (Acting does) slot number it = Acting does
stage_told (Awaiting own last next) slot number it = if (own == slot) && (last == number) then Acting (next it) else Awaiting own last next

abbrev pub told_of : Run → Outcome → Run
told_of r it = record r { told = bump r.told r.due; book = with_answer r.due (get_or r.told r.due 0) (brought_by it) r.book; stage = stage_told r.stage r.due (get_or r.told r.due 0) it }
