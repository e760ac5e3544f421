-- What was told and written until a turn was given up, and until a call was.
use Rattle.std.specs.Prelude.{◌≡◌, ◌≢◌, ◌⊎◌, ℕ, true, false, List, [], ◌∷◌, Option, Some, None, Result, Err, OnErr}
use Rattle.fj_outside.specs.Faults.{Rose}
use Rattle.fj_outside.specs.Holdings.{Holdings}
use Rattle.fj_outside.specs.declared.outside.FileStore.{Ghosts}
use Rattle.fj_run_items.specs.Handing.{HandsOver, HandsFront, HandsPart}
use Rattle.fj_run_items.specs.declared.lost.Lost.{Lost}
use Rattle.fj_run_items.specs.declared.lost.Lost.TheVariants.{Memory, Disk, Sink, Unfit}
use Rattle.fj_world.specs.Conduct.{IsSubmitting}
use Rattle.fj_meaning.specs.State.{Output, Tell}
use Rattle.fj_meaning.specs.Statement.{Stated}
use Rattle.fj_meaning_jobs.specs.Doing.{Doing}
use Rattle.fj_meaning_turns.specs.Run.{Run, Stage}
use Rattle.fj_meaning_turns.specs.Turns.{turn_on}
use Rattle.fj_meaning_turns.specs.Passing.{passes, output_of, turn_output, knows_on, told_on, KnowsAnswers, turn_tells}
use Rattle.fj_meaning_cut.specs.Turning.{doing_on, turn_doing, IsUnbegun}
use Rattle.fj_run_pending.specs.Plain.{tells_of}
use Rattle.fj_run_units.specs.Files.{files_of}
use Rattle.fj_run_statements.specs.Calling.{calls_disk}
use Rattle.fj_run_statements.specs.Failing.{StandsWhere}
use Rattle.fj_run_statements.specs.declared.state.Core.{Core}
use Rattle.fj_run_script.specs.Machine.{rest_of}
use Rattle.fj_run_script.specs.Tallying.{due_of}
use Rattle.fj_run_script.specs.declared.hand.Hand.TheVariants.{Idle}
use Rattle.fj_run_script.specs.declared.machine.Machine.{Machine}

-- ---- what was done on the disk

-- the outside failed: the disk or the sink
abbrev pub OfOutside : (Lost → Type 0) → Type 0
OfOutside Of = Of Disk ⊎ Of Sink

-- it was not because something does not fit: the outside failed, or memory was wanting
abbrev pub AllFits : (Lost → Type 0) → Type 0
AllFits Of = Of Unfit → ⊥

-- Where the statement does this, units and files are those that were due.
pub record StandsDoing (due : Option Doing) (core : Core) (held : Holdings) (before now : ℕ) : Type 0 where
  pub does : Doing
  pub is : due ≡ Some does
  pub stands : StandsWhere does core held before now

-- Units and files are those of that run, which may be so there.
pub record StandsStill (May : Type 0) (run : Run) (core : Core) (held : Holdings) : Type 0 where
  pub may : May
  pub units : core.units ≡ run.core.units
  pub files : files_of held ≡ run.core.files

-- ---- one turn

-- Where it is given up, the sink took a front of the records that the output due has, or nothing. Where that is for the outside, the
-- answers that it needs are known, and units and files are those due of what it does. Where it is for the disk, that is told, nothing
-- of it is written, the disk's own number rose, and the statement calls the disk itself; where it is for the sink, that took a front, and
-- not all of them. Where it is for want of memory, units and files are those of before, or the answers are known, and units and files
-- are those due of what it does; so it is for all that fits.
pub record FailsTurn {W X : Type 0} (tells_out : W → Type 0) (taken : W → List ℕ) (out : W) (core : Core) (result : Result X Lost) (out' : W) (core' : Core)
    (held : Holdings) (before now : ℕ) (due : Output) (Still Known : Type 0) (told : List Tell) (does : Option Doing) (Called : Type 0) : Type 0 where
  pub front : tells_out out → OnErr result (HandsFront (taken out) (taken out') core.output due ⊎ (taken out' ≡ taken out))
  pub known : OfOutside (λ lost. result ≡ Err lost) → Known
  pub stands : OfOutside (λ lost. result ≡ Err lost) → StandsDoing does core' held before now
  pub fits : AllFits (λ lost. result ≡ Err lost) → OnErr result (Still ⊎ (Known × StandsDoing does core' held before now))
  pub output : result ≡ Err Disk → core'.output ≡ core.output
  pub tells : result ≡ Err Disk → tells_of core'.tells ≡ told
  pub rose : result ≡ Err Disk → Rose before now
  pub called : result ≡ Err Disk → Called
  pub begun : tells_out out → result ≡ Err Sink → HandsPart (taken out) (taken out') core.output due

-- the turn of a statement that has begun, from a stage
abbrev pub FailsStage : {W X : Type 0} → (W → Type 0) → (W → List ℕ) → W → Core → Result X Lost → W → Core → Holdings → ℕ → ℕ → Stated → Stage → Run → Type 0
FailsStage tells_out taken out core result out' core' held before now st stage r =
    FailsTurn tells_out taken out core result out' core' held before now (output_of (turn_on st stage r)) (StandsStill (IsUnbegun stage) r core' held) (knows_on st stage r) (told_on st stage r) (doing_on st stage r) (calls_disk st.0.what ≡ true)

-- ---- one call

-- The outside failed in the turn of that run: the answers that it needs are known, and units and files are those due of what the turn
-- does. The disk holds `held` then, and its own number was `before` and is `now`.
pub record StandsAt {F : Type 0} {ghosts : Ghosts F} (held : Holdings) (before now : ℕ) (run : Run) (m' : Machine F ghosts) : Type 0 where
  pub known : KnowsAnswers run
  pub does : StandsDoing (turn_doing run) m'.state.core held before now

-- the statement at hand calls the disk itself
abbrev pub CallsDisk : List Stated → Type 0
CallsDisk [] = ⊥
CallsDisk (st ∷ rest) = calls_disk st.0.what ≡ true

-- The disk failed there: the turn's transfers are told, nothing of it is written, and the statement calls the disk itself.
pub record FailsAtDisk {F : Type 0} {ghosts : Ghosts F} (TellsOut : Type 0) (taken taken' : List ℕ) (before now : ℕ) (run : Run) (m m' : Machine F ghosts) : Type 0 where
  pub output : m'.state.core.output ≡ run.core.output
  pub handed : TellsOut → HandsOver taken taken' m.state.core.output run.core.output
  pub tells : tells_of m'.state.core.tells ≡ turn_tells run
  pub rose : Rose before now
  pub called : CallsDisk run.rest

-- the sink took the records that ended first, and then a front of those that were to end, and not all of them
abbrev pub HandsThen : List ℕ → List ℕ → Output → Output → Output → Type 0
HandsThen taken taken' old first due = (between : List ℕ) × HandsOver taken between old first × HandsPart between taken' first due

-- A call gave up, for this: it was in the turn of a statement, behind so many that it passed, and the sink took a front of the records
-- that this turn's output has. Where the sink failed, it took those before the turn whole, and of those of the turn not all. In an ask, and
-- for all that fits, units and files are those of before the turn, of which nothing was begun, or those due of what it does.
pub record FailsCall {F : Type 0} {ghosts : Ghosts F} (Of : Lost → Type 0) (TellsOut : Type 0) (taken taken' : List ℕ) (held : Holdings) (before now : ℕ) (r : Run) (m m' : Machine F ghosts) : Type 0 where
  pub count : ℕ
  pub run : Run
  pub passed : passes count r ≡ Some run
  pub rest : rest_of m' ≡ run.rest
  pub front : TellsOut → HandsFront taken taken' m.state.core.output (turn_output run) ⊎ HandsOver taken taken' m.state.core.output run.core.output
  pub outside : OfOutside Of → StandsAt held before now run m'
  pub fits : m.tally.hand ≡ Idle → AllFits Of → StandsStill (IsUnbegun run.stage) run m'.state.core held ⊎ StandsAt held before now run m'
  pub disk : Of Disk → FailsAtDisk TellsOut taken taken' before now run m m'
  pub sink : Of Sink → TellsOut → HandsThen taken taken' m.state.core.output run.core.output (turn_output run)

-- where it is over then
abbrev pub GivesUp : {F : Type 0} {ghosts : Ghosts F} → Type 0 → List ℕ → List ℕ → Holdings → ℕ → ℕ → Run → Machine F ghosts → Machine F ghosts → Type 0
GivesUp TellsOut taken taken' held before now r m m' = FailsCall (λ lost. m'.tally.lost ≡ Some lost) TellsOut taken taken' held before now r m m'

-- a call by which it is over, and no stop was told
abbrev pub IsGivenUp : {F : Type 0} {ghosts : Ghosts F} → Type 0 → List ℕ → List ℕ → Holdings → ℕ → ℕ → Option Run → Machine F ghosts → Machine F ghosts → Type 0
IsGivenUp TellsOut taken taken' held before now state m m' =
    (r : Run) → state ≡ Some r → m.tally.over ≡ false → m'.tally.over ≡ true → m'.tally.stopped ≡ false → GivesUp TellsOut taken taken' held before now r m m'

-- Until it is over, the outside fails in an ask alone. A call that hears what became of an ask leaves disk, units and the place of the
-- statement at hand; if it gives up, and no stop was told, it was of a job that was submitted and refused.
pub record FailsAsking {D F : Type 0} {ghosts : Ghosts F} (disk disk' : D) (m m' : Machine F ghosts) : Type 0 where
  pub outside : m.tally.over ≡ false → OfOutside (λ lost. m'.tally.lost ≡ Some lost) → m.tally.hand ≡ Idle
  pub same_disk : m.tally.hand ≢ Idle → disk' ≡ disk
  pub units : m.tally.hand ≢ Idle → m'.state.core.units ≡ m.state.core.units
  pub at : m.tally.hand ≢ Idle → m'.at ≡ m.at
  pub submits : m.tally.hand ≢ Idle → m.tally.over ≡ false → m'.tally.over ≡ true → m'.tally.stopped ≡ false → IsSubmitting (due_of m.tally.hand)

-- ---- once it is over

-- a call of a machine that is over leaves it, its sink and its disk
abbrev pub Stays : {D F : Type 0} {ghosts : Ghosts F} → List ℕ → List ℕ → D → D → Machine F ghosts → Machine F ghosts → Type 0
Stays taken taken' disk disk' m m' = m.tally.over ≡ true → (m' ≡ m) × (taken' ≡ taken) × (disk' ≡ disk)

-- memory was wanting, or the disk or the sink failed; never does something not fit
abbrev pub IsLoss : Option Lost → Type 0
IsLoss (Some (Memory error)) = Unit {0}
IsLoss (Some Disk) = Unit {0}
IsLoss (Some Sink) = Unit {0}
IsLoss _ = ⊥

-- a call by which it is over told a stop, and then nothing is lost; or that was lost
abbrev pub HasReason : {F : Type 0} {ghosts : Ghosts F} → Machine F ghosts → Machine F ghosts → Type 0
HasReason m m' = m.tally.over ≡ false → m'.tally.over ≡ true → ((m'.tally.stopped ≡ true) × (m'.tally.lost ≡ None)) ⊎ ((m'.tally.stopped ≡ false) × IsLoss m'.tally.lost)
