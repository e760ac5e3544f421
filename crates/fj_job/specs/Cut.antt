-- What a run that met a fault has told: what executing the deck tells, up to one of its statements.
use Rattle.std.specs.Prelude.{◌≡◌, ◌≢◌, ◌⊎◌, ℕ, ◌+◌, ◌≤◌, true, false, List, [], ◌++◌, Some, None, IsSome, slice_get}
use Rattle.std.specs.FinSet as set
use Rattle.fj_outside.specs.Faults.{Rose}
use Rattle.fj_outside.specs.Holdings.{Holdings}
use Rattle.fj_statement.specs.declared.deck.Variable.{Variable}
use Rattle.fj_statement.specs.declared.deck.Deck.{Deck}
use Rattle.fj_statement.specs.declared.deck.Lined.{Lined}
use Rattle.fj_meaning.specs.State.{State, Files, all_closed, start}
use Rattle.fj_meaning.specs.Telling.{waited, after_tells}
use Rattle.fj_meaning.specs.Statement.{Stated, begun_in, control_by, step, stated, cut}
use Rattle.fj_meaning_cut.specs.Others.{names_in, file_about, file_renewed}
use Rattle.fj_meaning_cut.specs.Awaiting.{AwaitedUnit}
use Rattle.fj_meaning_cut.specs.Stopping.{IsLeftShort, WasAwaited}
use Rattle.fj_run_statements.specs.Calling.{calls_disk}
use Rattle.fj_run_units.specs.Files.{files_of}
use Rattle.fj_run_units.specs.Returning.{IsAsDue}
use Rattle.fj_report.specs.Lines.{status_text}
use Rattle.fj_report.specs.declared.status.Status.{Status}
use Rattle.fj_report.specs.declared.status.Status.TheVariants.{DiskFault, Memory}
use Rattle.fj_run_items.specs.Handing.{TakesFront, TakesPart, whole_records}
use Rattle.fj_job.specs.Reply.{Reply, Lines, IsRunReply, open_feed}

-- how far a statement came
pub data Reach : Type 0 where
  -- nothing of it was done
  Untold : Reach
  -- the transfers that it waits for were told
  Told : Reach
  -- it was carried out
  Carried : Reach

abbrev pub reached : Reach → List Variable → Stated → State → State
reached Untold variables st s = s
reached Told variables st s = after_tells variables st.0.line (waited s st.0.what) s
reached Carried variables st s = (step variables st s).0

-- a statement that was carried out is the one at which the deck stops
abbrev pub MayReach : Reach → List Variable → Stated → State → Type 0
MayReach Untold variables st s = Unit {0}
MayReach Told variables st s = Unit {0}
MayReach Carried variables st s = IsSome (step variables st s).1

-- a statement of the deck to which the execution comes, as it begins, and the state just before it
pub record ComesTo (deck : Deck) (files : Files) : Type 0 where
  pub index : ℕ
  pub statement : Stated
  pub before : State
  pub there : cut deck.variables index (stated deck.statements) (start deck.variables files) ≡ Some (statement, before)

-- it is the one at that place of the deck, as it begins
abbrev pub BeginsAt : {deck : Deck} {files : Files} → ComesTo deck files → ℕ → Type 0
BeginsAt {deck} comes place = (lined : Lined) × (slice_get deck.statements place ≡ Some lined) × (comes.statement ≡ begun_in comes.before (lined, control_by lined.what))

-- it is the one at a place of which this is known
abbrev pub BeginsWhere : {deck : Deck} {files : Files} → (ℕ → Type 0) → ComesTo deck files → Type 0
BeginsWhere Place comes = (place : ℕ) × BeginsAt comes place × Place place

-- nothing is
abbrev pub Anywhere : ℕ → Type 0
Anywhere place = Unit {0}

-- what unit `*` got, the lines behind it, and the line of a fault of the disk
abbrev pub fault_report : Lines → ℕ → State → List ℕ
fault_report lines line s = s.output.text ++ (open_feed s.output ++ (lines s.tells ++ status_text (DiskFault line)))

-- The run learnt of a fault of the disk at the statement of that line, and tells what the execution tells up to there.
pub record IsFaultReport (deck : Deck) (lines : Lines) (files : Files) (line : ℕ) (output : List ℕ) : Type 0 where
  pub comes : ComesTo deck files
  pub reach : Reach
  pub may : MayReach reach deck.variables comes.statement comes.before
  pub line_is : comes.statement.0.line ≡ line
  pub output_is : output ≡ fault_report lines line (reached reach deck.variables comes.statement comes.before)

-- Files that were cut short, where the disk's own number was `before` and is `now`. Each one that the statement neither opens nor removes is
-- as closing all units leaves it there; one that is gone then may be there, where that number rose. Or a job of its unit was stopped in
-- it, or the end of its record, and its bytes are as before below the first one that this changes; a scratch file is gone, unless that
-- number rose. The job stands behind each one of its slot that a statement before this one waits for.
abbrev pub AreCutShort : (deck : Deck) (files : Files) → ComesTo deck files → Reach → Holdings → ℕ → ℕ → Type 0
AreCutShort deck files comes reach left before now = (name : List ℕ) → file_renewed (names_in comes.before.units) comes.statement.0.what ≢ Some name
    → ((short : IsLeftShort deck.variables (stated deck.statements) files comes.index name (files_of left name))
    × (short.leaves.before.modes.scratch ≡ true → (files_of left name ≡ None) ⊎ Rose before now))
    ⊎ IsAsDue before now (files_of left name) ((all_closed (reached reach deck.variables comes.statement comes.before)).files name)

-- How files are left by a fault. Each one that is not hurt, and that the statement is not about, is as closing all units leaves it there;
-- of the others it is known how far they are.
pub record AreLeft (deck : Deck) (files : Files) (comes : ComesTo deck files) (reach : Reach) (left : Holdings) (before now : ℕ) : Type 0 where
  pub clear : (name : List ℕ) → set.contains left.hurt name ≡ false → file_about (names_in comes.before.units) comes.statement.0.what ≢ Some name
      → IsAsDue before now (files_of left name) ((all_closed (reached reach deck.variables comes.statement comes.before)).files name)
  pub others : AreCutShort deck files comes reach left before now

-- The statement waits at a unit whose file is told as hurt, for a job at or behind the one that was stopped in it: no statement up to
-- this one waits for such a job but this, since the stop is behind each one that an earlier statement waits for.
pub record WaitsForStop {deck : Deck} {files : Files} (comes : ComesTo deck files) (left : Holdings) : Type 0 where
  pub unit : AwaitedUnit comes.before comes.statement.0.what
  pub hurt : set.contains left.hurt unit.name ≡ true
  pub stop : IsLeftShort deck.variables (stated deck.statements) files comes.index unit.name (files_of left unit.name)
  pub job : ℕ
  pub behind : stop.number ≤ job
  pub awaited : WasAwaited deck.variables (stated deck.statements) files (comes.index + 1) stop.slot job

-- Why a fault of the disk is learnt at a statement: it waits for what was stopped; or it is one that calls the disk itself, to open or to
-- close a file or to ask whether there is one, and the disk's own number rose.
abbrev pub IsLearnt : {deck : Deck} {files : Files} → ComesTo deck files → Holdings → ℕ → ℕ → Type 0
IsLearnt comes left before now = WaitsForStop comes left ⊎ ((calls_disk comes.statement.0.what ≡ true) × Rose before now)

-- a sink took a front of the reply to a deck that is carried out
abbrev pub TookRun : Deck → Lines → Files → List ℕ → List ℕ → Type 0
TookRun deck lines files old new = (reply : Reply) × IsRunReply deck lines files reply × TakesFront old new reply.output

-- what is answered where a fault of the disk is reported: that fault, unless memory was wanting
abbrev pub IsOfReport : Status → ℕ → Type 0
IsOfReport (DiskFault stmt) line = stmt ≡ line
IsOfReport Memory line = Unit {0}
IsOfReport _ line = ⊥

-- a sink took a front of the report of a fault of the disk
abbrev pub TookReport : Deck → Lines → Files → Status → List ℕ → List ℕ → Type 0
TookReport deck lines files status old new = (line : ℕ) × IsOfReport status line × (output : List ℕ) × IsFaultReport deck lines files line output × TakesFront old new output

-- The fault of a line is reported, and the files are left as they are there; unless the deck stops at the statement, it is learnt there.
-- A sink took the report; or it failed, and took a front of it and not all.
abbrev pub CutByDisk : Deck → Lines → Files → ℕ → Type 0 → List ℕ → List ℕ → Type 0 → Holdings → ℕ → ℕ → Type 0
CutByDisk deck lines files line Tells old new Failed left before now = (output : List ℕ) × (report : IsFaultReport deck lines files line output)
    × AreLeft deck files report.comes report.reach left before now × ((report.reach ≡ Carried) ⊎ IsLearnt report.comes left before now)
    × (Tells → (new ≡ old ++ output) ⊎ (Failed × TakesPart old new output))

-- what is to be written next there: the records that the output has behind the statement; or, where the deck ended at it, the reply
abbrev pub IsNext : Reach → (deck : Deck) → Lines → (files : Files) → ComesTo deck files → List ℕ → Type 0
IsNext Carried deck lines files comes due = (reply : Reply) × IsRunReply deck lines files reply × (due ≡ reply.output)
IsNext reach deck lines files comes due = due ≡ whole_records (step deck.variables comes.statement comes.before).0.output

-- a sink took the first of what is due whole, and then a front of what is behind, and not all of it
abbrev pub TookBehind : List ℕ → List ℕ → List ℕ → List ℕ → Type 0
TookBehind old new first due = (part rest : List ℕ) × (rest ≢ []) × (due ≡ first ++ (part ++ rest)) × (new ≡ old ++ (first ++ part))

-- The sink failed at a statement of the deck, or in the report of a deck that ended at it. It took the records that ended until there,
-- and then a front of what was to be written next, and not all of it; and the files are left as they are there.
pub record CutBySink (deck : Deck) (lines : Lines) (files : Files) (Tells : Type 0) (old new : List ℕ) (left : Holdings) (before now : ℕ) : Type 0 where
  pub comes : ComesTo deck files
  pub reach : Reach
  pub may : MayReach reach deck.variables comes.statement comes.before
  pub due : List ℕ
  pub next : IsNext reach deck lines files comes due
  pub taken : Tells → TookBehind old new (whole_records (reached reach deck.variables comes.statement comes.before).output) due
  pub files_are : AreLeft deck files comes reach left before now

-- what may be written there: what is next, or the report of a fault of the disk
abbrev pub MayBeWritten : Reach → (deck : Deck) → Lines → (files : Files) → ComesTo deck files → List ℕ → Type 0
MayBeWritten reach deck lines files comes due = IsNext reach deck lines files comes due
    ⊎ (due ≡ fault_report lines comes.statement.0.line (reached reach deck.variables comes.statement comes.before))

-- Memory was wanting at a statement of the deck; or, where the deck stops at it, behind it. A sink took a front of what may be written
-- there, and the files are cut short there. A slot that stops for want of memory hurts no file.
pub record CutByMemory (deck : Deck) (lines : Lines) (files : Files) (Tells : Type 0) (old new : List ℕ) (left : Holdings) (before now : ℕ) : Type 0 where
  pub comes : ComesTo deck files
  pub reach : Reach
  pub may : MayReach reach deck.variables comes.statement comes.before
  pub due : List ℕ
  pub written : MayBeWritten reach deck lines files comes due
  pub taken : Tells → TakesFront old new due
  pub files_are : AreCutShort deck files comes reach left before now
