-- A machine whose run is to go on, and what one stretch of it comes to.
use Rattle.std.specs.Prelude.{◌≡◌, ◌⊎◌, ℕ, ◌+◌, ◌<◌, ◌≤◌, ◌^◌, Bool, true, false, List, ◌∷◌, ◌++◌, length, drop, Some, slice_get, slice_set}
use Rattle.fj_outside.specs.Holdings.{Holdings}
use Rattle.fj_outside.specs.declared.outside.FileStore.{Ghosts}
use Rattle.fj_statement.specs.Sound.{IsSound}
use Rattle.fj_statement.specs.declared.deck.Lined.{Lined}
use Rattle.fj_statement.specs.declared.deck.Deck.{Deck}
use Rattle.fj_slot.specs.Ledger.{Ledger}
use Rattle.fj_slot.specs.Serving.{Meaning}
use Rattle.fj_world.specs.Alone.{AllHome}
use Rattle.fj_world.specs.Conduct.{Idle}
use Rattle.fj_world.specs.Fits.{SlotsFit}
use Rattle.fj_world.specs.Keeping.{AllCounted}
use Rattle.fj_world.specs.Plain.{PlainSlot}
use Rattle.fj_world.specs.Rack.{Rack}
use Rattle.fj_bay.specs.Bay.{Bay}
use Rattle.fj_bay.specs.Jobs.{Job, Answer}
use Rattle.fj_meaning.specs.State.{Files}
use Rattle.fj_meaning.specs.Statement.{Stated, stated}
use Rattle.fj_meaning_turns.specs.Run.{Run, Start}
use Rattle.fj_meaning_turns.specs.Serving.{over_bays, Shows, first_run, fresh_slots}
use Rattle.fj_meaning_looks.specs.Inquiring.{is_looking}
use Rattle.fj_meaning_looks.specs.Stretches.{with_rest, IsOver, StandsAtLook, Between}
use Rattle.fj_run_units.specs.Files.{files_of}
use Rattle.fj_run_script.specs.Machine.{rest_of, run_of}
use Rattle.fj_run_script.specs.Tallying.{due_of, owed_at}
use Rattle.fj_run_script.specs.declared.ending.Ending.{Ending}
use Rattle.fj_run_script.specs.declared.machine.Machine.{Machine}
use Rattle.fj_job.specs.Carrying.{HasNotBegun, HasRun, LeavesButDeck}
use Rattle.fj_job.specs.Cutting.{IsCut, EndsHere}
use Rattle.fj_poll.specs.Looks.{Asks, IsPut, NoneLooks, NoneLooksBefore}

-- a script that is a run, and shows nothing else
abbrev pub bare : Shows Run
bare = record { left = λ r. 0; uses = λ r. 0; owed = λ r at. 0; due = λ r. Idle; over = λ r. false; stopped = λ r. false; leads = λ old new. Unit {0}; state = λ r. Some r }

-- the machine may be served over these slots
pub record CanBeServed {E J A F : Type 0} {ghosts : Ghosts F} (meaning : Meaning E J A Bay Job Answer) (m : Machine F ghosts) (rack : Rack E J A) : Type 0 where
  pub idle : due_of m.tally.hand ≡ Idle
  pub sixteen : length rack.slots ≡ 16
  pub few : (at : ℕ) (l : Ledger E J A) → slice_get rack.slots at ≡ Some l → length l.jobs + m.tally.left < 2 ^ 62
  pub owed : (at : ℕ) (l : Ledger E J A) → at < 16 → slice_get rack.slots at ≡ Some l → l.told + owed_at m.tally.owed.items at ≡ length l.jobs
  pub home : AllHome rack
  pub counted : AllCounted meaning rack

-- Between two stretches of a run that began with another machine, sink and disk, and with this deck: of the deck, as it is put by now, the
-- run is to go on with what is left, over slots that fit.
pub record IsBetween {W D F E J A : Type 0} {ghosts : Ghosts F} (tells_out : W → Type 0) (taken : W → List ℕ) (count_out : W → ℕ) (tells : D → Type 0) (held : D → Holdings) (count refusals : D → ℕ)
    (told : F → Bool) (bytes : F → List ℕ) (meaning : Meaning E J A Bay Job Answer) (origin : List Stated) (out0 : W) (disk0 : D) (m0 : Machine F ghosts) (out : W) (disk : D) (m : Machine F ghosts) (rack : Rack E J A) : Type 0 where
  pub on : tells disk0
  pub begun : HasNotBegun told bytes m0
  pub leaves : LeavesButDeck tells_out taken count_out tells count refusals out0 disk0 m0 out disk m
  pub sound : IsSound m.deck
  pub going : m.tally.over ≡ false
  pub run : Run
  pub is : run_of told bytes (files_of (held disk)) m ≡ Some run
  pub start : run.stage ≡ Start
  pub slots : List (PlainSlot Bay Job)
  pub fit : SlotsFit (over_bays meaning) slots rack
  pub between : Between meaning bare (first_run m.deck.variables origin (files_of (held disk0))) fresh_slots (stated m.deck.statements) run slots

-- how many statements are left from that place on
abbrev pub left_from : Deck → ℕ → ℕ
left_from deck place = length (drop place (stated deck.statements))

-- It came to a statement that looks: those before it are gone, and whatever is put in its place, the run goes on there. No statement
-- that was at hand looks, but for that one.
pub record CameToLook {E J A F : Type 0} {ghosts : Ghosts F} (told : F → Bool) (bytes : F → List ℕ) (meaning : Meaning E J A Bay Job Answer) (origin : List Stated) (deck : Deck) (files left : Files) (r : Run)
    (m : Machine F ghosts) (rack : Rack E J A) : Type 0 where
  pub run : Run
  pub is : run_of told bytes left m ≡ Some run
  pub look : StandsAtLook is_looking run
  pub front : List Stated
  pub behind : r.rest ≡ front ++ run.rest
  pub slots : List (PlainSlot Bay Job)
  pub fit : SlotsFit (over_bays meaning) slots rack
  pub next : (place : ℕ) (st : Stated) (more : List Stated) (mark : Stated) → run.rest ≡ st ∷ more → drop place (stated deck.statements) ≡ st ∷ more →
      let put = slice_set (stated deck.statements) place mark in Between meaning bare (first_run deck.variables origin files) fresh_slots put (with_rest (drop place put) run) slots
  pub none : (place : ℕ) (lined : Lined) → slice_get deck.statements place ≡ Some lined → Asks deck files place lined → left_from deck place ≤ length r.rest → left_from deck place ≤ length run.rest

-- or to the end of the deck, as it is put by now, and no statement that was at hand looks
pub record CameToEnd {E J A F : Type 0} {ghosts : Ghosts F} (told : F → Bool) (bytes : F → List ℕ) (meaning : Meaning E J A Bay Job Answer) (deck : Deck) (files left : Files) (r : Run)
    (m : Machine F ghosts) (rack : Rack E J A) : Type 0 where
  pub run : Run
  pub is : run_of told bytes left m ≡ Some run
  pub over : IsOver run
  pub ran : HasRun meaning told bytes deck files left m rack
  pub ended : (ending : Ending) → m.state.ending ≡ Some ending → EndsHere deck files m
  pub none : (place : ℕ) (lined : Lined) → slice_get deck.statements place ≡ Some lined → Asks deck files place lined → left_from deck place ≤ length r.rest → ⊥

-- Or it was cut; then no statement that was at hand looks, up to the one at which it was cut.
pub record HasCome {W D F E J A : Type 0} {ghosts : Ghosts F} (tells_out : W → Type 0) (taken : W → List ℕ) (held : D → Holdings) (refusals : D → ℕ)
    (told : F → Bool) (bytes : F → List ℕ) (meaning : Meaning E J A Bay Job Answer) (origin : List Stated) (deck : Deck) (r : Run) (out0 : W) (disk0 : D) (out : W) (disk : D) (m : Machine F ghosts) (rack : Rack E J A) : Type 0 where
  pub cut : m.tally.over ≡ true → IsCut meaning rack (held disk) (refusals disk0) (refusals disk) (tells_out out0) (taken out0) (taken out) deck (files_of (held disk0)) m
  pub none : m.tally.over ≡ true → (place : ℕ) (lined : Lined) → slice_get deck.statements place ≡ Some lined → Asks deck (files_of (held disk0)) place lined
      → left_from deck place ≤ length r.rest → left_from deck place < length (rest_of m)
  pub stands : m.tally.over ≡ false → CameToLook told bytes meaning origin deck (files_of (held disk0)) (files_of (held disk)) r m rack
      ⊎ CameToEnd told bytes meaning deck (files_of (held disk0)) (files_of (held disk)) r m rack

abbrev pub Comes : {W D F E J A : Type 0} {ghosts : Ghosts F} → (tells_out : W → Type 0) (taken : W → List ℕ) (count_out : W → ℕ) (tells : D → Type 0) (held : D → Holdings) (count refusals : D → ℕ)
    (told : F → Bool) (bytes : F → List ℕ) (meaning : Meaning E J A Bay Job Answer) (out : W) (disk : D) (m : Machine F ghosts) (rack : Rack E J A) (out' : W) (disk' : D) (m' : Machine F ghosts) (rack' : Rack E J A) → Type 0
Comes {W} {D} {F} {E} {J} {A} {ghosts} tells_out taken count_out tells held count refusals told bytes meaning out disk m rack out' disk' m' rack' =
    (origin : List Stated) (out0 : W) (disk0 : D) (m0 : Machine F ghosts) (b : IsBetween tells_out taken count_out tells held count refusals told bytes meaning origin out0 disk0 m0 out disk m rack) →
    HasCome tells_out taken held refusals told bytes meaning origin m.deck b.run out0 disk0 out' disk' m' rack'

-- The deck was carried out in stretches: what is left is what carrying it out leaves as its looks put it, none being wanting; or it was cut,
-- and none is wanting up to the statement at which it was.
pub record HasCarried {W D F E J A : Type 0} {ghosts : Ghosts F} (tells_out : W → Type 0) (taken : W → List ℕ) (count_out : W → ℕ) (tells : D → Type 0) (held : D → Holdings) (count refusals : D → ℕ)
    (told : F → Bool) (bytes : F → List ℕ) (meaning : Meaning E J A Bay Job Answer) (out : W) (disk : D) (m : Machine F ghosts) (rack : Rack E J A) (out' : W) (disk' : D) (m' : Machine F ghosts) (rack' : Rack E J A) : Type 0 where
  pub home : AllHome rack'
  pub same : length rack'.slots ≡ length rack.slots
  pub leaves : LeavesButDeck tells_out taken count_out tells count refusals out disk m out' disk' m'
  pub sound : IsSound m'.deck
  pub put : tells disk → IsPut m.deck m'.deck (files_of (held disk)) m'.looks.items
  pub none : tells disk → m'.tally.over ≡ false → NoneLooks m'.deck (files_of (held disk))
  pub none_before : tells disk → NoneLooksBefore m'.deck (files_of (held disk)) (m'.at.place + 1)
  pub ran : tells disk → m'.tally.over ≡ false → HasRun meaning told bytes m'.deck (files_of (held disk)) (files_of (held disk')) m' rack'
  pub cut : tells disk → m'.tally.over ≡ true → IsCut meaning rack' (held disk') (refusals disk) (refusals disk') (tells_out out) (taken out) (taken out') m'.deck (files_of (held disk)) m'
  pub ended : tells disk → m'.tally.over ≡ false → (ending : Ending) → m'.state.ending ≡ Some ending → EndsHere m'.deck (files_of (held disk)) m'
