-- What the steps of carrying out a deck leave: its disk, its sink and what is answered.
use Rattle.std.specs.Prelude.{◌≡◌, ◌⊎◌, ◌↔◌, ◌≤◌, ◌++◌, ℕ, false, List, Option, Result, Ok, Err, Some, None, IfOk, IfErr, slice_get}
use Rattle.std.specs.FinSet as set
use Rattle.fj_outside.specs.Faults.{Rose}
use Rattle.fj_outside.specs.Holdings.{Holdings, SameAt}
use Rattle.fj_outside.specs.declared.outside.FileStore.{Ghosts}
use Rattle.fj_statement.specs.declared.deck.Lined.{Lined}
use Rattle.fj_statement.specs.declared.deck.Deck.{Deck}
use Rattle.fj_connect.specs.Linked.{Linked}
use Rattle.fj_slot.specs.Serving.{Meaning}
use Rattle.fj_slot.specs.Sound.{IsSound}
use Rattle.fj_world.specs.Rack.{Rack}
use Rattle.fj_bay.specs.Bay.{Bay}
use Rattle.fj_bay.specs.Jobs.{Job, Answer}
use Rattle.fj_meaning.specs.Statement.{plain_execution}
use Rattle.fj_meaning_jobs.specs.Core.{Connected, has_name}
use Rattle.fj_meaning_jobs.specs.Desks.{Desk}
use Rattle.fj_meaning_jobs.specs.Desking.{all_left}
use Rattle.fj_meaning_turns.specs.Executing.{HoldsDesks}
use Rattle.fj_run_items.specs.Handing.{whole_records, open_record, TakesFront, TakesPart}
use Rattle.fj_meaning_turns.specs.Serving.{over_bays}
use Rattle.fj_run_pending.specs.Plain.{tells_of}
use Rattle.fj_run_items.specs.declared.lost.Lost.{Lost}
use Rattle.fj_run_items.specs.declared.lost.Lost.TheVariants.{Sink, Disk}
use Rattle.fj_run_units.specs.Files.{files_of}
use Rattle.fj_run_units.specs.Returning.{IsAsDue}
use Rattle.fj_run_end.specs.Closing.{AreSeated, AreNamed, IfClear, OthersRun}
use Rattle.fj_run_end.specs.Finding.{IsLeftBehind, OfEach}
use Rattle.fj_report.specs.declared.status.Status.{Status}
use Rattle.fj_report.specs.declared.status.Status.TheVariants.{WriteFault, DiskFault, Memory}
use Rattle.fj_run_script.specs.Machine.{ending_of}
use Rattle.fj_run_script.specs.declared.ending.Ending.{Ending}
use Rattle.fj_run_script.specs.declared.machine.Machine.{Machine}
use Rattle.fj_job.specs.Answers.{IsAnswer, IsOfRun, HasCause, IfFault, IfMemory, IfWriteFault}
use Rattle.fj_job.specs.Cut.{Carried as At, BeginsAt, BeginsWhere, TookRun, TookReport, IsOfReport, CutByDisk, CutBySink, CutByMemory}
use Rattle.fj_job.specs.Cutting.{IsLeftAt, IsLeftBegun, TookSome}
use Rattle.fj_job.specs.Fitting.{IsOther, LeavesFit}
use Rattle.fj_job.specs.Losing.{wants}
use Rattle.fj_job.specs.Concluding.{HasEnded, IsReplied, IsResult, run_text, fault_text}
use Rattle.fj_job.specs.Reply.{Lines}
use Rattle.fj_job.specs.declared.ending.Carried.{Carried}

-- Files went back to the disk, those of units and that of a connection that was kept, where all fits: none is out, whatever was lost.
pub record AreClosed {E J A F : Type 0} (meaning : Meaning E J A Bay Job Answer) (rack : Rack E J A) (units : List Connected) (kept : Option (Linked F)) (was now : Holdings) (before after : ℕ) (settled : Result (Unit {0}) Lost) : Type 0 where
  pub in_use : now.in_use ≡ set.empty
  pub files : settled ≡ Ok tt → kept ≡ None → (desks : List Desk) → HoldsDesks meaning rack desks → AreSeated desks units → files_of now ≡ all_left desks units (files_of was)
  -- where memory was not wanting it is so of each file that is not hurt, unless one that was to be removed is there; and its slot had not stopped
  pub due : wants settled ≡ false → (desks : List Desk) → HoldsDesks meaning rack desks → AreSeated desks units → AreNamed desks units
      → (name : List ℕ) → IsOther kept name → set.contains now.hurt name ≡ false → IsAsDue before after (files_of now name) (all_left desks units (files_of was) name)
  pub running : wants settled ≡ false → IfClear now units rack.slots (λ l. l.halt ≡ None)
  pub others : OthersRun units rack.slots
  -- the file of each unit is as one of its slot's jobs may leave it, or the end of its record; and of others the disk tells the same
  pub found : OfEach units rack.slots (λ u l. (s : Bay) (ts : List Job) → IsSound (over_bays meaning) s ts l → IsLeftBehind l s ts u.name (files_of now u.name) before after)
  pub spared : (name : List ℕ) → has_name units name ≡ false → IsOther kept name → SameAt was now name

-- So they went back behind a machine and its slots. What is left is the machine's, but for the names.
pub record IsSettled {D F E J A : Type 0} {ghosts : Ghosts F} (tells : D → Type 0) (held : D → Holdings) (count refusals : D → ℕ) (meaning : Meaning E J A Bay Job Answer)
    (m : Machine F ghosts) (rack : Rack E J A) (disk disk' : D) (it : Carried F) : Type 0 where
  pub deck : it.left.deck ≡ m.deck
  pub core : it.left.core ≡ record (m.state.core) { names = it.left.core.names }
  pub ending : it.left.ending ≡ m.state.ending
  pub over : it.left.over ≡ m.tally.over
  pub at : it.left.at ≡ m.at.place
  pub looks : it.left.looks ≡ m.looks
  pub nothing : it.settled ≡ Ok tt → m.tally.lost ≡ None
  pub closed : tells disk → LeavesFit meaning rack m → AreClosed meaning rack m.state.core.units m.kept (held disk) (held disk') (refusals disk) (refusals disk') it.settled
  pub own : tells disk → refusals disk ≤ refusals disk'
  pub sink : it.settled ≡ Err Sink → m.tally.lost ≡ Some Sink
  pub of_disk : it.settled ≡ Err Disk → (m.tally.lost ≡ Some Disk) ⊎ Rose (count disk) (count disk')
  pub alone : it.settled ≡ Err Disk → (m.tally.lost ≡ None) ⊎ (m.tally.lost ≡ Some Disk)
  pub telling : tells disk ↔ tells disk'
  pub later : count disk ≤ count disk'

-- A deck was carried out, or there was no memory to begin it.
pub record IsCarriedOut {W D F E : Type 0} (tells_out : W → Type 0) (taken : W → List ℕ) (count_out : W → ℕ) (tells : D → Type 0) (held : D → Holdings) (count refusals : D → ℕ)
    (deck : Deck) (out : W) (disk : D) (out' : W) (disk' : D) (result : Result (Carried F) E) : Type 0 where
  pub deck_is : IfOk result (λ it. it.left.deck ≡ deck)
  pub taken_is : tells_out out → IfOk result (λ it. (it.settled ≡ Ok tt) ⊎ (it.settled ≡ Err Disk) → taken out' ≡ taken out ++ whole_records it.left.core.output)
  pub result_is : tells disk → IfOk result (λ it. it.settled ≡ Ok tt → it.left.over ≡ false
      → IsResult (plain_execution deck.variables deck.statements (files_of (held disk))) (files_of (held disk')) it.left)
  pub at_fault : tells disk → IfOk result (λ it. it.settled ≡ Err Disk → IsLeftAt deck (files_of (held disk)) it.left (held disk') (refusals disk) (refusals disk'))
  pub at_write : tells disk → IfOk result (λ it. it.settled ≡ Err Sink
      → IsLeftBegun deck (files_of (held disk)) it.left (tells_out out) (taken out) (taken out') (held disk') (refusals disk) (refusals disk'))
  pub at_end : tells disk → IfOk result (λ it. it.settled ≡ Ok tt → it.left.over ≡ false → (ending : Ending) → it.left.ending ≡ Some ending
      → (x : IsLeftAt deck (files_of (held disk)) it.left (held disk') (refusals disk) (refusals disk')) × (x.reach ≡ At))
  -- so it is whatever was lost, also where memory was wanting in closing
  pub at_want : tells disk → IfOk result (λ it. (lines : Lines)
      → (cut : CutByMemory deck lines (files_of (held disk)) (tells_out out) (taken out) (taken out') (held disk') (refusals disk) (refusals disk')) × BeginsAt cut.comes it.left.at)
  pub part : tells disk → tells_out out → IfOk result (λ it. TookSome deck (files_of (held disk)) (taken out) (taken out'))
  pub sink : IfOk result (λ it. it.settled ≡ Err Sink → Rose (count_out out) (count_out out'))
  pub of_disk : IfOk result (λ it. it.settled ≡ Err Disk → Rose (count disk) (count disk'))
  pub in_use : tells disk → IfOk result (λ it. (held disk').in_use ≡ set.empty)
  pub unbegun : IfErr result (λ _. (disk' ≡ disk) × (out' ≡ out))
  pub telling_out : tells_out out ↔ tells_out out'
  pub telling : tells disk ↔ tells disk'
  pub later_out : count_out out ≤ count_out out'
  pub later : count disk ≤ count disk'

-- the fault of the line of the statement at hand, and what the sink took of it
pub record IsFaultReported {F : Type 0} (lines : Lines) (it : Carried F) (line : ℕ) (Tells : Type 0) (old new : List ℕ) (Failed : Type 0) : Type 0 where
  pub settled : it.settled ≡ Err Disk
  pub line_is : (lined : Lined) → slice_get it.left.deck.statements it.left.at ≡ Some lined → line ≡ lined.line
  pub taken : Tells → let text = fault_text lines line it.left.core.output (tells_of it.left.core.tells) in (new ≡ old ++ text) ⊎ (Failed × TakesPart old new text)

-- the sink took a front of the report of a fault
pub record IsFaultBegun {F : Type 0} (lines : Lines) (it : Carried F) (status : Status) (Tells : Type 0) (old new : List ℕ) : Type 0 where
  pub settled : it.settled ≡ Err Disk
  pub line : ℕ
  pub answer : IsOfReport status line
  pub line_is : (lined : Lined) → slice_get it.left.deck.statements it.left.at ≡ Some lined → line ≡ lined.line
  pub taken : Tells → TakesFront old new (fault_text lines line it.left.core.output (tells_of it.left.core.tells))

-- of the report of a deck that ended the sink took this
pub record IsEndBegun {F : Type 0} (lines : Lines) (it : Carried F) (Took : List ℕ → Type 0) : Type 0 where
  pub settled : it.settled ≡ Ok tt
  pub going : it.left.over ≡ false
  pub ending : Ending
  pub ends : it.left.ending ≡ Some ending
  pub taken : Took (open_record it.left.core.output ++ run_text it.left.deck.variables lines (ending_of ending) it.left.core)

-- what the sink took of a report
abbrev pub IsFrontReported : {F : Type 0} → Lines → Carried F → Status → Type 0 → List ℕ → List ℕ → Type 0
IsFrontReported lines it status Tells old new = (new ≡ old) ⊎ IsFaultBegun lines it status Tells old new ⊎ IsEndBegun lines it (λ due. Tells → TakesFront old new due)

-- where it failed: before the report, and it took nothing of that; or in the report, and it took not all of it
abbrev pub IsWriteReported : {F : Type 0} → Lines → Carried F → Type 0 → List ℕ → List ℕ → Type 0
IsWriteReported lines it Tells old new = ((it.settled ≡ Err Sink) × (new ≡ old)) ⊎ IsEndBegun lines it (λ due. Tells → TakesPart old new due)

-- What was carried out is reported.
pub record IsConcluded {W F E : Type 0} (tells_out : W → Type 0) (taken : W → List ℕ) (count_out : W → ℕ)
    (lines : Lines) (carried : Result (Carried F) E) (out out' : W) (status : Status) : Type 0 where
  pub settled : IsAnswer status → IfOk carried (λ it. it.settled ≡ Ok tt)
  pub ended : IsAnswer status → IfOk carried (λ it. HasEnded lines it.left status (tells_out out) (taken out) (taken out'))
  pub begun : IfErr carried (λ _. status ≡ Memory)
  pub of_run : IsOfRun status
  pub fault : IfOk carried (λ it. (line : ℕ) → status ≡ DiskFault line → IsFaultReported lines it line (tells_out out) (taken out) (taken out') (Rose (count_out out) (count_out out')))
  pub written : status ≡ WriteFault → IfOk carried (λ it. IsWriteReported lines it (tells_out out) (taken out) (taken out'))
  pub front : IfOk carried (λ it. IsFrontReported lines it status (tells_out out) (taken out) (taken out'))
  pub silent : IfErr carried (λ _. out' ≡ out)
  pub cause : HasCause ⊥ ((IfOk carried (λ it. it.settled ≡ Err Sink)) ⊎ Rose (count_out out) (count_out out')) (IfOk carried (λ it. it.settled ≡ Err Disk)) status
  pub telling_out : tells_out out ↔ tells_out out'
  pub later_out : count_out out ≤ count_out out'

-- A deck was carried out and reported. Where it was cut at a statement, that is at a place of which this is known.
pub record IsExecuted {W D : Type 0} (tells_out : W → Type 0) (taken : W → List ℕ) (count_out : W → ℕ) (tells : D → Type 0) (held : D → Holdings) (count refusals : D → ℕ)
    (deck : Deck) (lines : Lines) (Place : ℕ → Type 0) (out : W) (disk : D) (out' : W) (disk' : D) (status : Status) : Type 0 where
  pub replied : IsAnswer status → tells disk → IsReplied deck lines (held disk).files status (held disk').files (λ output. tells_out out → taken out' ≡ taken out ++ output)
  pub fault : tells disk → IfFault status (λ line. (cut : CutByDisk deck lines (files_of (held disk)) line (tells_out out) (taken out) (taken out') (Rose (count_out out) (count_out out'))
      (held disk') (refusals disk) (refusals disk')) × BeginsWhere Place cut.1.comes)
  pub written : tells disk → IfWriteFault status ((cut : CutBySink deck lines (files_of (held disk)) (tells_out out) (taken out) (taken out') (held disk') (refusals disk) (refusals disk'))
      × BeginsWhere Place cut.comes)
  -- there was no memory to begin, or it was wanting at a statement
  pub memory : tells disk → IfMemory status (((disk' ≡ disk) × (taken out' ≡ taken out))
      ⊎ ((cut : CutByMemory deck lines (files_of (held disk)) (tells_out out) (taken out) (taken out') (held disk') (refusals disk) (refusals disk')) × BeginsWhere Place cut.comes))
  pub front : tells disk → tells_out out → TookRun deck lines (files_of (held disk)) (taken out) (taken out')
      ⊎ (Rose (count disk) (count disk') × TookReport deck lines (files_of (held disk)) status (taken out) (taken out'))
  pub of_run : IsOfRun status
  pub cause : HasCause ⊥ (Rose (count_out out) (count_out out')) (Rose (count disk) (count disk')) status
  pub in_use : tells disk → (held disk').in_use ≡ set.empty
  pub telling_out : tells_out out ↔ tells_out out'
  pub telling : tells disk ↔ tells disk'
  pub later_out : count_out out ≤ count_out out'
  pub later : count disk ≤ count disk'
