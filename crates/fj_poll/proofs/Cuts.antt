-- What a script that was served in a stretch has come to: it was cut, or stands where it stopped.
use Rattle.std.proofs.Common.{◌≡◌, ℕ, Bool, true, false, cond, List, [], Option, None, IsSome, refl, sym, ◌∙◌, inl}
use Rattle.fj_outside.specs.Holdings.{Holdings}
use Rattle.fj_outside.specs.declared.outside.FileStore.{Ghosts}
use Rattle.fj_slot.specs.Serving.{Meaning}
use Rattle.fj_world.specs.declared.ask.Ask.TheVariants.{Finished}
use Rattle.fj_world.specs.Alone.{ServedAlone}
use Rattle.fj_world.specs.Leading.{LeadsTo}
use Rattle.fj_world.specs.Losing.{WasLost}
use Rattle.fj_world.specs.Plain.{asked_next}
use Rattle.fj_world.specs.Rack.{Rack}
use Rattle.fj_bay.specs.Bay.{Bay}
use Rattle.fj_bay.specs.Jobs.{Job, Answer}
use Rattle.fj_meaning.specs.Statement.{Stated, stated}
use Rattle.fj_meaning_turns.specs.Run.{Run}
use Rattle.fj_meaning_turns.specs.Serving.{over_bays, Shows, run_conduct, first_run, fresh_slots, begins}
use Rattle.fj_meaning_looks.specs.Inquiring.{is_looking}
use Rattle.fj_meaning_looks.specs.Looking.{stretch_conduct}
use Rattle.fj_meaning_looks.specs.Stretches.{Between}
use Rattle.fj_meaning_looks.proofs.Losing.{losses_follow}
use Rattle.fj_meaning_looks.proofs.Worlds.{worlds_end}
use Rattle.fj_run_end.specs.Ended.{StopsFull}
use Rattle.fj_run_units.specs.Files.{files_of}
use Rattle.fj_run_script.specs.Leaving.{Leaves}
use Rattle.fj_run_script.specs.declared.machine.Machine.{Machine}
use Rattle.fj_job.proofs.CutRuns.{IsRunner, run_cut}
use Rattle.fj_job.proofs.Leading.{led_to, leaves_same, leaves_on}
use Rattle.fj_poll.specs.Stretches.{bare, IsBetween, HasCome}
use Rattle.fj_poll.proofs.CutLooks.{AreShort, cut_less}
use Rattle.fj_poll.proofs.Other.{other_between}
use Rattle.fj_poll.proofs.Stretched.{came}

-- a disk whose runs tell tells
pub told_by : (b : Bool) (o : Option Run) → IsSome (cond b o None) → b ≡ true
told_by true o some = refl
told_by false o some = cc

-- what is not over was told no stop
pub not_stopped : (stopped over : Bool) → (stopped ≡ true → over ≡ true) → over ≡ false → stopped ≡ false
not_stopped false over stops going = refl
not_stopped true over stops going = let z : true ≡ false = sym (stops refl) ∙ going in cc

pub has_come : {S W D F E J A : Type 0} {ghosts : Ghosts F} (meaning : Meaning E J A Bay Job Answer) (s : Shows S) (tells_out : W → Type 0) (taken : W → List ℕ) (count_out : W → ℕ) (tells : D → Type 0) (count refusals : D → ℕ)
    (disk_told : D → Bool) (held : D → Holdings) (told : F → Bool) (bytes : F → List ℕ) (out : S → W) (disk : S → D) (machine : S → Machine F ghosts) (origin : List Stated) (out0 : W) (disk0 : D) (m0 : Machine F ghosts)
    (first last : S) (rack rack' : Rack E J A) → IsRunner s tells_out taken count_out tells count refusals disk_told held told bytes out disk machine → AreShort s machine → LeadsTo s.leads first last
    → (b : IsBetween tells_out taken count_out tells held count refusals told bytes meaning origin out0 disk0 m0 (out first) (disk first) (machine first) rack)
    → ServedAlone (over_bays meaning) (stretch_conduct is_looking s) (asked_next (over_bays meaning) (stretch_conduct is_looking s) b.run b.slots) last rack'
    → ((machine last).tally.over ≡ true → WasLost (over_bays meaning) (stretch_conduct is_looking s) b.run b.slots first last rack')
    → StopsFull meaning
    → HasCome tells_out taken held refusals told bytes meaning origin (machine first).deck b.run out0 disk0 (out last) (disk last) (machine last) rack'
has_come meaning s tells_out taken count_out tells count refusals disk_told held told bytes out disk machine origin out0 disk0 m0 first last rack rack' runner short many b alone lost full = record {
  cut = λ over.
      run_cut meaning s tells_out taken count_out tells count refusals disk_told held told bytes out disk machine (machine first).deck (files_of (held disk0)) out0 disk0 m0 origin first last rack'
      stopped (losses_follow meaning s is_looking (first_run (machine first).deck.variables origin (files_of (held disk0))) fresh_slots (stated (machine first).deck.statements) b.run b.slots first last rack' between (lost over)) runner b.sound b.begun b.leaves refl b.on full;
  none = λ over.
      cut_less meaning s tells_out taken count_out tells count refusals disk_told held told bytes out disk machine runner short (machine first).deck b.sound (files_of (held disk0)) origin b.run b.slots b.start between first last rack' (lost over);
  stands = λ going.
      came meaning s told bytes origin (machine first).deck b.sound (files_of (held disk0)) (files_of (held (disk last))) b.run b.slots b.start between (machine last) rack' last (disk_told (disk last)) alone (runner.over last ∙ going) (runner.state last) all_leave.deck;
}
  where
    all_leave : Leaves tells_out taken count_out tells count refusals (out first) (disk first) (machine first) (out last) (disk last) (machine last)
    all_leave =
        led_to s.leads (λ a b. Leaves tells_out taken count_out tells count refusals (out a) (disk a) (machine a) (out b) (disk b) (machine b)) runner.leaves
        (λ a. leaves_same tells_out taken count_out tells count refusals (out a) (disk a) (machine a))
        (λ a b c. leaves_on tells_out taken count_out tells count refusals (out a) (out b) (out c) (disk a) (disk b) (disk c) (machine a) (machine b) (machine c)) first last many

    between : Between meaning s (first_run (machine first).deck.variables origin (files_of (held disk0))) fresh_slots (stated (machine first).deck.statements) b.run b.slots
    between = other_between meaning bare s (first_run (machine first).deck.variables origin (files_of (held disk0))) fresh_slots (stated (machine first).deck.statements) b.run b.slots b.between

    stopped : (machine last).tally.stopped ≡ true → ServedAlone (over_bays meaning) (run_conduct s) (begins meaning s (machine first).deck.variables (stated (machine first).deck.statements) (files_of (held disk0))) last rack'
    stopped stop =
        let all = worlds_end meaning s is_looking (first_run (machine first).deck.variables origin (files_of (held disk0))) fresh_slots (stated (machine first).deck.statements) b.run b.slots between alone.entries
        (record { start = last; script = last; hand = Finished; rack = rack'; workers = [] }) alone.fits (inl (runner.stopped last ∙ stop)) in
        record { entries = all.0; fits = all.1 }
