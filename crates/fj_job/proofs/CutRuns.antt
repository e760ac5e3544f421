-- A script of runners that is over: its run was cut.
use Rattle.std.proofs.Common.{◌≡◌, ◌≢◌, ◌⊎◌, ℕ, ◌+◌, ◌<◌, Bool, true, false, cond, List, [], ◌∷◌, ◌++◌, Option, Some, None, IsSome, IfSome, refl, sym, ap, ◌∙◌, subst, inl, inr, arith}
use Rattle.std.proofs.lemmas.Option.{slice_get_within}
use Rattle.fj_outside.specs.Holdings.{Holdings}
use Rattle.fj_outside.specs.declared.outside.FileStore.{Ghosts}
use Rattle.fj_statement.specs.declared.deck.Deck.{Deck}
use Rattle.fj_statement.specs.Sound.{IsSound}
use Rattle.fj_connect.specs.Linked.{Linked}
use Rattle.fj_slot.specs.Serving.{Meaning}
use Rattle.fj_world.specs.Conduct as conduct
use Rattle.fj_world.specs.Conduct.{IsDueAsk, IsSubmitting}
use Rattle.fj_world.specs.declared.ask.Ask.{Ask}
use Rattle.fj_world.specs.declared.ask.Ask.TheVariants.{Submit, Settle, Finished}
use Rattle.fj_world.specs.Alone.{ServedAlone}
use Rattle.fj_world.specs.Fits.{HasStopped}
use Rattle.fj_world.specs.Leading.{LeadsTo}
use Rattle.fj_world.specs.Losing.{before_ask, SlotsHold}
use Rattle.fj_world.specs.Plain.{Plain, PlainSlot, after}
use Rattle.fj_world.specs.Rack.{Rack}
use Rattle.fj_world.proofs.Places.{slice_get_in}
use Rattle.fj_bay.specs.Bay.{Bay}
use Rattle.fj_bay.specs.Jobs.{Job, Answer}
use Rattle.fj_meaning.specs.State.{State, Files, start}
use Rattle.fj_meaning.specs.Statement.{Stated, stated}
use Rattle.fj_meaning_jobs.specs.Core.{Core, Connected}
use Rattle.fj_meaning_jobs.specs.Desking.{fresh}
use Rattle.fj_meaning_turns.specs.Run.{Run}
use Rattle.fj_meaning_turns.specs.Cutting.{IsCutRun, IsCut as IsCutAt}
use Rattle.fj_meaning_turns.specs.Serving.{over_bays, Shows, run_conduct, desks_of, first_run, fresh_slots, begins}
use Rattle.fj_meaning_turns.proofs.Before.{each_asks}
use Rattle.fj_meaning_turns.proofs.Cutting.{cut_at_stop, world_is_cut}
use Rattle.fj_meaning_turns.proofs.Meant.{cuts_agree}
use Rattle.fj_meaning_looks.specs.Losing.{WasLostIn}
use Rattle.fj_meaning_cut.specs.Others.{Names, names_of, names_in, file_opened}
use Rattle.fj_meaning_cut.specs.Stopping.{WereGiven}
use Rattle.fj_meaning_cut.specs.Turning.{IsUnbegun, TurnLeavesOthers, SubmitLeavesOthers}
use Rattle.fj_meaning_cut.proofs.Awaited.{stops_are_awaited}
use Rattle.fj_meaning_cut.proofs.Stops.{stops_leave_others}
use Rattle.fj_meaning_cut.proofs.Turns.{each_turn, each_submit}
use Rattle.fj_meaning_cut.proofs.Given.{within_deck, each_stop_given, each_turn_given}
use Rattle.fj_run_items.specs.Handing.{whole_records}
use Rattle.fj_run_items.specs.declared.lost.Lost.{Lost}
use Rattle.fj_run_items.specs.declared.lost.Lost.TheVariants.{Unfit}
use Rattle.fj_run_end.specs.Ended.{HasStoppedAt, StopsFull, TurnHolds}
use Rattle.fj_run_end.proofs.Ended.{each_stop_holds, each_stop_spares, each_turn_holds, each_submit_holds}
use Rattle.fj_run_statements.specs.State.{core_of}
use Rattle.fj_run_units.specs.Files.{files_of}
use Rattle.fj_run_script.specs.Kept.{HaveKept, KeepsFiles}
use Rattle.fj_run_script.specs.Failing.{StandsStill, StandsAt, FailsCall, IsGivenUp, FailsAsking, Stays, HasReason, IsLoss}
use Rattle.fj_run_script.specs.Going.{HaveAt}
use Rattle.fj_run_script.specs.Leaving.{Leaves}
use Rattle.fj_run_script.specs.Machine.{rest_of, run_of}
use Rattle.fj_run_script.specs.Tallying.{due_of}
use Rattle.fj_run_script.specs.declared.hand.Hand.{Hand}
use Rattle.fj_run_script.specs.declared.hand.Hand.TheVariants.{Idle, Submitting, Settling}
use Rattle.fj_run_script.specs.declared.machine.Machine.{Machine}
use Rattle.fj_run_script.proofs.AtHand.{rest_same}
use Rattle.fj_run_script.proofs.GivingUp.{passes_both}
use Rattle.fj_job.specs.Carrying.{HasNotBegun, LeavesButDeck}
use Rattle.fj_job.specs.Cutting.{IsCut}
use Rattle.fj_job.specs.Fitting.{kept_name, AreOut}
use Rattle.fj_job.proofs.Cut.{shown, cut_asking, cut_failing}
use Rattle.fj_job.proofs.Executed.{parts, nothing_written, all_taken, rest_is}
use Rattle.fj_job.proofs.Leading.{led_to, leaves_same, leaves_on, but_deck, but_on, rose_earlier}
use Rattle.fj_job.proofs.Holding.{HoldsAt, stop_cause, stop_holds, turn_holds, still_holds, submit_holds}
use Rattle.fj_job.proofs.Leaving.{one_place, slots_hold, within}
use Rattle.fj_job.proofs.Whole.{stopped_files}
use Rattle.fj_job.proofs.Learning.{LearnsAt, none_left, at_before, learns_before, learns_at, SubmitsHand, submits_hand, asked_slot, settle_waits, asked_given}
use Rattle.fj_job.proofs.Giving.{given_at}
use Rattle.fj_job.proofs.Awaiting.{told_slots, stop_awaits}
use Rattle.fj_job.proofs.Passes.{ends_so, some_statement}

-- What a script shows is that of its machine, and what its calls may leave are those of a runner.
pub record IsRunner {S W D F : Type 0} {ghosts : Ghosts F} (s : Shows S) (tells_out : W → Type 0) (taken : W → List ℕ) (count_out : W → ℕ) (tells : D → Type 0) (count refusals : D → ℕ)
    (disk_told : D → Bool) (held : D → Holdings) (told : F → Bool) (bytes : F → List ℕ) (out : S → W) (disk : S → D) (machine : S → Machine F ghosts) : Type 0 where
  pub over : (a : S) → s.over a ≡ (machine a).tally.over
  pub stopped : (a : S) → s.stopped a ≡ (machine a).tally.stopped
  pub state : (a : S) → s.state a ≡ cond (disk_told (disk a)) (run_of told bytes (files_of (held (disk a))) (machine a)) None
  pub due : (a : S) → s.due a ≡ due_of (machine a).tally.hand
  pub leaves : (a b : S) → s.leads a b → Leaves tells_out taken count_out tells count refusals (out a) (disk a) (machine a) (out b) (disk b) (machine b)
  pub gives_up : (a b : S) → s.leads a b → IsGivenUp (tells_out (out a)) (taken (out a)) (taken (out b)) (held (disk b)) (refusals (disk a)) (refusals (disk b)) (s.state a) (machine a) (machine b)
  pub asking : (a b : S) → s.leads a b → FailsAsking (disk a) (disk b) (machine a) (machine b)
  pub stays : (a b : S) → s.leads a b → Stays (taken (out a)) (taken (out b)) (disk a) (disk b) (machine a) (machine b)
  pub reason : (a b : S) → s.leads a b → HasReason (machine a) (machine b)
  pub keeps : (a b : S) → s.leads a b → KeepsFiles (machine a) (machine b)

-- where it is not over nothing is lost
none_lost : (lost : Option Lost) (over : Bool) → (IsSome lost → over ≡ true) → over ≡ false → lost ≡ None
none_lost None over some going = refl
none_lost (Some lost) over some going = absurd (let z : true ≡ false = sym (some refl) ∙ going in cc)

loss_not : (lost : Option Lost) → IsLoss lost → lost ≢ None
loss_not lost loss none = subst IsLoss none loss

loss_fits : (lost : Option Lost) → IsLoss lost → lost ≡ Some Unfit → ⊥
loss_fits lost loss unfit = subst IsLoss unfit loss

-- ---- a connection that was kept

-- the files that are out are those of the units and of a connection that was kept, which the statement at hand opens
kept_out : {F : Type 0} (kept : Option (Linked F)) (names : List (List ℕ)) (us : List Connected) (rest : List Stated) → HaveKept (kept_name kept) names us rest → AreOut (kept_name kept) names us
kept_out None names us rest h = h
kept_out (Some c) names us rest h = h.0

opens_kept : {F : Type 0} (kept : Option (Linked F)) (names : List (List ℕ)) (us vs : List Connected) (there : Names) (st : Stated) (more : List Stated) → HaveKept (kept_name kept) names us (st ∷ more) → us ≡ vs
    → file_opened (names_of vs) st.0.what ≡ file_opened there st.0.what → IfSome kept (λ c. file_opened there st.0.what ≡ Some c.name)
opens_kept None names us vs there st more h same opens = tt
opens_kept (Some c) names us vs there st more h same opens = sym opens ∙ sym (ap (λ (ws : List Connected). file_opened (names_of ws) st.0.what) same) ∙ h.1

-- ---- the ask at hand

pub hand_idle : (hand : Hand) → due_of hand ≡ conduct.Idle → hand ≡ Idle
hand_idle Idle e = refl
hand_idle (Submitting slot) e = cc
hand_idle (Settling slot) e = cc

pub hand_asks : (hand : Hand) (ask : Ask Job) → ask ≢ Finished → IsDueAsk (due_of hand) ask → hand ≢ Idle
hand_asks hand (Submit slot job) some due idle = absurd (let z : conduct.Idle ≡ conduct.Submitting slot = sym (ap due_of idle) ∙ due in cc)
hand_asks hand (Settle slot) some due idle = absurd (let z : conduct.Idle ≡ conduct.Settling slot = sym (ap due_of idle) ∙ due in cc)
hand_asks hand Finished some due idle = some refl

abbrev SubmitsOne : Ask Job → Type 0
SubmitsOne ask = (slot : ℕ) × (job : Job) × (ask ≡ Submit slot job)

submits_one : (hand : Hand) (ask : Ask Job) → ask ≢ Finished → IsDueAsk (due_of hand) ask → IsSubmitting (due_of hand) → SubmitsOne ask
submits_one hand (Submit slot job) some due submits = (slot, job, refl)
submits_one hand (Settle slot) some due submits = absurd (subst IsSubmitting due submits)
submits_one hand Finished some due submits = absurd (some refl)

module _ {S W D F : Type 0} {ghosts : Ghosts F} (s : Shows S) (tells_out : W → Type 0) (taken : W → List ℕ) (count_out : W → ℕ) (tells : D → Type 0) (count refusals : D → ℕ)
    (disk_told : D → Bool) (held : D → Holdings) (told : F → Bool) (bytes : F → List ℕ) (out : S → W) (disk : S → D) (machine : S → Machine F ghosts)
    (r : IsRunner s tells_out taken count_out tells count refusals disk_told held told bytes out disk machine) where
  -- many calls leave what one may
  abbrev AllLeave : S → S → Type 0
  AllLeave a b = Leaves tells_out taken count_out tells count refusals (out a) (disk a) (machine a) (out b) (disk b) (machine b)

  all_leave : (a b : S) → LeadsTo s.leads a b → AllLeave a b
  all_leave a b many =
      led_to s.leads AllLeave r.leaves (λ x. leaves_same tells_out taken count_out tells count refusals (out x) (disk x) (machine x))
      (λ x y z. leaves_on tells_out taken count_out tells count refusals (out x) (out y) (out z) (disk x) (disk y) (disk z) (machine x) (machine y) (machine z)) a b many

  -- and none, once it is over
  abbrev AllStay : S → S → Type 0
  AllStay a b = Stays (taken (out a)) (taken (out b)) (disk a) (disk b) (machine a) (machine b)

  stay_on : (a b c : S) → AllStay a b → AllStay b c → AllStay a c
  stay_on a b c one two over =
      let first = one over in
      let then = two (ap (λ (m : Machine F ghosts). m.tally.over) first.0 ∙ over) in
      (then.0 ∙ first.0, then.1 ∙ first.1, then.2 ∙ first.2)

  all_stay : (a b : S) → LeadsTo s.leads a b → AllStay a b
  all_stay a b many = led_to s.leads AllStay r.stays (λ x over. (refl, refl, refl)) stay_on a b many

  -- The run began with a machine, a sink and a disk, in other stretches; the deck stands as it was put by now.
  module _ {E J A : Type 0} (meaning : Meaning E J A Bay Job Answer) (deck : Deck) (files : Files) (sound : IsSound deck) (out0 : W) (disk0 : D) (m0 : Machine F ghosts) (on : tells disk0) (begun : HasNotBegun told bytes m0)
      (first last : S) (far : LeavesButDeck tells_out taken count_out tells count refusals out0 disk0 m0 (out first) (disk first) (machine first)) (same : (machine first).deck ≡ deck) (full : StopsFull meaning) where
    -- what many calls leave since then
    since : (x : S) → AllLeave first x → LeavesButDeck tells_out taken count_out tells count refusals out0 disk0 m0 (out x) (disk x) (machine x)
    since x l =
        but_on tells_out taken count_out tells count refusals out0 (out first) (out x) disk0 (disk first) (disk x) m0 (machine first) (machine x) far
        (but_deck tells_out taken count_out tells count refusals (out first) (out x) (disk first) (disk x) (machine first) (machine x) l)

    -- the sink took all records that ended, until a call behind which nothing is lost
    took : (x : S) → AllLeave first x → (machine x).tally.lost ≡ None → tells_out out0 → taken (out x) ≡ taken out0 ++ whole_records (machine x).state.core.output
    took x l none t =
        all_taken (taken out0) (taken (out x)) m0.state.core.output (machine x).state.core.output (machine x).state.core.output
        (nothing_written told bytes files m0 begun) ((since x l).output t (inl none)) refl

    -- a stop was told
    stopped_cut : (rack : Rack E J A) → AllLeave first last → ServedAlone (over_bays meaning) (run_conduct s) (begins meaning s deck.variables (stated deck.statements) files) last rack
        → (machine last).tally.stopped ≡ true → (machine last).tally.lost ≡ None → (machine last).kept ≡ None
        → ((st : Stated) (more : List Stated) → rest_of (machine last) ≡ st ∷ more → HaveAt (machine last).state.stage (machine last).state.core.names (machine last).state.core.units st.0.what)
        → IsCut meaning rack (held (disk last)) (refusals disk0) (refusals (disk last)) (tells_out out0) (taken out0) (taken (out last)) deck files (machine last)
    stopped_cut rack l alone stop none nothing have =
        let x : Plain Bay (run_conduct s) = after (over_bays meaning) (run_conduct s) alone.entries (begins meaning s deck.variables (stated deck.statements) files) in
        let it : HasStopped (run_conduct s) x last rack = alone.fits.stop (r.stopped last ∙ stop) in
        let left : Files = files_of (held (disk last)) in
        let is : run_of told bytes left (machine last) ≡ Some x.script = shown (disk_told (disk last)) (run_of told bytes left (machine last)) x.script (sym (r.state last) ∙ it.state) in
        let both = parts told bytes left (machine last) x.script is in
        let cut : IsCutRun meaning s deck.variables (stated deck.statements) files x.script rack =
        world_is_cut meaning s deck.variables (stated deck.statements) files alone.entries (record { start = last; script = last; hand = Finished; rack = rack; workers = [] }) x.script alone.fits (r.stopped last ∙ stop) it.state in
        let awaited : IsCutAt meaning s deck.variables (stated deck.statements) files it.slot x (record { start = last; script = last; hand = Finished; rack = rack; workers = [] }) =
        cut_at_stop meaning s deck.variables (stated deck.statements) files alone.entries it.slot (record { start = last; script = last; hand = Finished; rack = rack; workers = [] }) alone.fits it.hand in
        let slot = asked_slot meaning s deck.variables (stated deck.statements) files (ends_so deck sound) (some_statement deck sound) alone.entries it.slot it.hand in
        let sound_slots : SlotsHold (over_bays meaning) x.slots rack = record { same = alone.fits.same_slots; each = λ at q k a b. (alone.fits.slots at q k a b).sound; done = λ at q k a b. (alone.fits.slots at q k a b).done } in
        let stopped : HasStoppedAt it.slot rack = λ k found. (it.halted slot.0 k slot.1 found).0 in
        let waits = settle_waits meaning s deck.variables (stated deck.statements) files (ends_so deck sound) (some_statement deck sound) alone.entries it.slot it.hand in
        let spares = each_stop_spares meaning s full deck.variables (stated deck.statements) files alone.entries it.slot rack it.hand sound_slots stopped in
        let there = slice_get_in rack.slots it.slot (subst (λ n. it.slot < n) alone.fits.same_slots (slice_get_within x.slots it.slot slot.0 slot.1)) in
        let halted = it.halted slot.0 there.0 slot.1 there.1 in
        elim (each_asks meaning s deck.variables (stated deck.statements) files alone.entries) [
          | inl done ↦ absurd (let z : Settle it.slot ≡ Finished = sym it.hand ∙ done in cc)
          | inr y ↦
              cut_asking meaning rack (held (disk last)) (refusals disk0) (refusals (disk last)) (tells_out out0) (taken out0) (taken (out last)) deck files (machine last) (l.deck ∙ same) x.script left y both.0
              (rest_is told bytes left (machine last) x.script is) (took last l none) none
              (stop_holds meaning rack (held (disk last)) (refusals disk0) (refusals (disk last)) deck files (machine last) s x.script both.0 cut
              (stops_leave_others deck.variables (stated deck.statements) files cut.slot x.script cut.desks cut.stop)
              (given_at meaning rack deck.variables (stated deck.statements) files x.script x.slots sound_slots
              (each_stop_given meaning s deck.variables (stated deck.statements) files alone.entries it.slot it.hand) cut.stop.index cut.stop.rest
              (within_deck deck.variables cut.stop.index (stated deck.statements) (fresh deck.variables files) (cut.stop.statement, cut.stop.before) cut.stop.reached)) nothing
              (each_stop_holds meaning s deck.variables (stated deck.statements) files alone.entries it.slot rack it.hand sound_slots stopped))
              (subst (λ (o : Option (Linked F)). AreOut (kept_name o) (machine last).state.core.names (machine last).state.core.units) (sym nothing)
              (stopped_files told bytes left (machine last) x.script is waits spares.names have))
              (stop_cause meaning rack (held (disk last)) (refusals disk0) (refusals (disk last)) deck files (machine last) x.script awaited.stop.index awaited.stop.statement it.slot there.0 there.1 halted.0 both.0
              awaited.stop.rest (stops_are_awaited deck.variables (stated deck.statements) files it.slot x.script (desks_of meaning x.slots) awaited.stop)
              (stop_awaits meaning deck.variables (stated deck.statements) files it.slot x.script x.slots slot.0 there.0
              (told_slots meaning s deck.variables (stated deck.statements) files alone.entries it.slot it.hand) slot.1 (sound_slots.each it.slot slot.0 there.0 slot.1 there.1) halted.0 halted.1 awaited.stop))
        ]

    module _ (origin : List Stated) (rack : Rack E J A) (w : WasLostIn meaning s (first_run deck.variables origin files) fresh_slots (stated deck.statements) first last rack) where
      abbrev before : S
      before = w.script

      abbrev gone : S
      gone = w.gone

      led : AllLeave first before
      led = all_leave first before w.led

      far_then : LeavesButDeck tells_out taken count_out tells count refusals out0 disk0 m0 (out before) (disk before) (machine before)
      far_then = since before led

      going : (machine before).tally.over ≡ false
      going = sym (r.over before) ∙ w.going

      over : (machine gone).tally.over ≡ true
      over = sym (r.over gone) ∙ w.over

      abbrev script_then : Run
      script_then = (before_ask (over_bays meaning) (run_conduct s) w.asks (first_run deck.variables (stated deck.statements) files) fresh_slots).0

      abbrev slots_then : List (PlainSlot Bay Job)
      slots_then = (before_ask (over_bays meaning) (run_conduct s) w.asks (first_run deck.variables (stated deck.statements) files) fresh_slots).1

      abbrev HoldsThen : List Stated → Type 0
      HoldsThen rest = HoldsAt meaning rack (held (disk gone)) (refusals disk0) (refusals (disk gone)) deck files (machine gone) rest

      -- What it was before the call, where that gave up: it stood at a statement. The slots had the jobs until then.
      record GaveUpAt : Type 0 where
        at : Run
        call : FailsCall (λ lost. (machine gone).tally.lost ≡ Some lost) (tells_out (out before)) (taken (out before)) (taken (out gone)) (held (disk gone)) (refusals (disk before)) (refusals (disk gone)) at (machine before) (machine gone)
        learns : LearnsAt deck.variables (stated deck.statements) (fresh deck.variables files) call.run
        holds : HoldsThen call.run.rest

      -- in an ask
      asked_holds : (run : Run) → TurnLeavesOthers deck.variables (stated deck.statements) files run (desks_of meaning slots_then) → WereGiven deck.variables (stated deck.statements) files run slots_then
          → (machine gone).kept ≡ None → TurnHolds meaning rack run → StandsStill (IsUnbegun run.stage) run (machine gone).state.core (held (disk gone)) ⊎ StandsAt (held (disk gone)) (refusals (disk before)) (refusals (disk gone)) run (machine gone) → HoldsThen run.rest
      asked_holds run t g none fit stands =
          let slots = slots_hold meaning slots_then rack w.slots in
          let given = given_at meaning rack deck.variables (stated deck.statements) files run slots_then w.slots g t.index t.rest
          (within deck.variables t.index (stated deck.statements) (start deck.variables files) (t.statement, t.state) t.cut_is) in
          elim stands [
            | inl still ↦ still_holds meaning rack (held (disk gone)) (refusals disk0) (refusals (disk gone)) deck files (machine gone) run (desks_of meaning slots_then) still t slots given none fit
            | inr at ↦ turn_holds meaning rack (held (disk gone)) (refusals disk0) (refusals (disk gone)) deck files (machine gone) (refusals (disk before)) (refusals (disk gone)) run (desks_of meaning slots_then)
                (far_then.own on) (omega arith) at t slots given none fit
          ]

      abbrev script_at : Plain Bay (run_conduct s)
      script_at = after (over_bays meaning) (run_conduct s) w.asks (begins meaning s deck.variables (stated deck.statements) files)

      -- by what became of an ask: there was no memory to submit its job
      heard_holds : (rest : List Stated) → rest_of (machine gone) ≡ rest → s.state before ≡ Some script_at.script → script_at.hand ≢ Finished → IsDueAsk (due_of (machine before).tally.hand) script_at.hand
          → (machine gone).tally.stopped ≡ false → HoldsThen rest
      heard_holds rest place state some due stop =
          submit_holds meaning rack (held (disk gone)) (refusals disk0) (refusals (disk gone)) deck files (machine gone) rest script_at.script (desks_of meaning slots_then)
          run_rest units (ap (λ (d : D). files_of (held d)) (it.same_disk asks) ∙ ap (λ (k : Core). k.files) (sym core)) t
          (slots_hold meaning slots_then rack w.slots)
          (given_at meaning rack deck.variables (stated deck.statements) files script_at.script slots_then w.slots
          (asked_given meaning s deck.variables (stated deck.statements) files (ends_so deck sound) (some_statement deck sound) w.asks some) t.index t.rest
          (within deck.variables t.index (stated deck.statements) (start deck.variables files) (t.statement, t.state) t.cut_is)) opens
          (each_submit_holds meaning s deck.variables (stated deck.statements) files w.asks job.0 job.1 rack job.2 w.slots)
        where
          it : FailsAsking (disk before) (disk gone) (machine before) (machine gone)
          it = r.asking before gone w.leads

          asks : (machine before).tally.hand ≢ Idle
          asks = hand_asks (machine before).tally.hand script_at.hand some due

          job : SubmitsOne script_at.hand
          job = submits_one (machine before).tally.hand script_at.hand some due (it.submits asks going over stop)

          t : SubmitLeavesOthers deck.variables (stated deck.statements) files script_at.script (desks_of meaning slots_then)
          t = each_submit meaning s deck.variables (stated deck.statements) files w.asks job.0 job.1 job.2

          left : Files
          left = files_of (held (disk before))

          is : run_of told bytes left (machine before) ≡ Some script_at.script
          is = shown (disk_told (disk before)) (run_of told bytes left (machine before)) script_at.script (sym (r.state before) ∙ state)

          core : script_at.script.core ≡ core_of left (machine before).state.core
          core = (parts told bytes left (machine before) script_at.script is).0

          -- the statement at hand stays
          stays : rest_of (machine gone) ≡ rest_of (machine before)
          stays = rest_same (machine before) (machine gone) (r.leaves before gone w.leads).deck (it.at asks)

          run_rest : rest ≡ script_at.script.rest
          run_rest = sym place ∙ stays ∙ sym (rest_is told bytes left (machine before) script_at.script is)

          units : (machine gone).state.core.units ≡ script_at.script.core.units
          units = it.units asks ∙ ap (λ (k : Core). k.units) (sym core)

          -- a connection that was kept is of the file that the statement opens
          opens : IfSome (machine gone).kept (λ c. file_opened (names_in t.state.units) t.statement.0.what ≡ Some c.name)
          opens =
              let here : SubmitsHand deck.variables (stated deck.statements) (fresh deck.variables files) script_at.script =
              submits_hand meaning s deck.variables (stated deck.statements) files (ends_so deck sound) (some_statement deck sound) w.asks job.0 job.1 job.2 in
              let cut = cuts_agree deck.variables (stated deck.statements) files here.index here.statement here.before here.reached in
              let same : ◌≡◌ {A = Stated × State} (here.statement, cut.state) (t.statement, t.state) =
              one_place deck.variables (stated deck.statements) (start deck.variables files) here.index t.index (here.statement, cut.state) (t.statement, t.state) cut.cut_is t.cut_is (sym here.rest ∙ t.rest) in
              let kept = subst (λ (l : List Stated). HaveKept (kept_name (machine gone).kept) (machine gone).state.core.names (machine gone).state.core.units l)
              (place ∙ run_rest ∙ here.here ∙ ap (λ (y : Stated × State). y.0 ∷ here.behind) same) ((r.keeps before gone w.leads).given_up going over stop) in
              opens_kept (machine gone).kept (machine gone).state.core.names (machine gone).state.core.units script_at.script.core.units (names_in t.state.units) t.statement here.behind kept units t.opens

      gave_up : (machine gone).tally.stopped ≡ false → IsLoss (machine gone).tally.lost → GaveUpAt
      gave_up stop loss =
          elim w.stood [
            | inl (asked, state, due) ↦
                let f = r.gives_up before gone w.leads w.at state going over stop in
                let passed = passes_both w.count f.count script_then w.at f.run w.passed f.passed in
                let x = learns_before meaning s deck.variables (stated deck.statements) files (ends_so deck sound) (some_statement deck sound) w.asks (w.count + f.count) f.run asked passed in
                let idle = hand_idle (machine before).tally.hand (sym (r.due before) ∙ due) in
                let at = at_before meaning s deck.variables (stated deck.statements) files (ends_so deck sound) (some_statement deck sound) w.asks asked in
                record {
                  at = w.at;
                  call = f;
                  learns = x;
                  holds = elim (each_turn meaning s deck.variables (stated deck.statements) files w.asks (w.count + f.count) f.run at.going passed) [
                    | inl none ↦ absurd (none_left deck.variables (stated deck.statements) (fresh deck.variables files) f.run x none)
                    | inr t ↦ elim (each_turn_given meaning s deck.variables (stated deck.statements) files w.asks (w.count + f.count) f.run at.going passed) [
                      | inl none ↦ absurd (none_left deck.variables (stated deck.statements) (fresh deck.variables files) f.run x none)
                      | inr g ↦ asked_holds f.run t g ((r.keeps before gone w.leads).asked going idle)
                          (each_turn_holds meaning s deck.variables (stated deck.statements) files w.asks (w.count + f.count) f.run rack at.going passed w.slots) (f.fits idle (loss_fits (machine gone).tally.lost loss))
                    ]
                  ];
                }
            | inr (hand, state, due) ↦
                let f = r.gives_up before gone w.leads script_at.script state going over stop in
                record {
                  at = script_at.script;
                  call = f;
                  learns = learns_at meaning s deck.variables (stated deck.statements) files (ends_so deck sound) (some_statement deck sound) w.asks f.count f.run hand f.passed;
                  holds = heard_holds f.run.rest f.rest state hand (subst (λ d. IsDueAsk d script_at.hand) (r.due before) due) stop;
                }
          ]

      failed_cut : (machine gone).tally.stopped ≡ false → IsLoss (machine gone).tally.lost
          → IsCut meaning rack (held (disk gone)) (refusals disk0) (refusals (disk gone)) (tells_out out0) (taken out0) (taken (out gone)) deck files (machine gone)
      failed_cut stop loss =
          let g = gave_up stop loss in
          cut_failing meaning rack (held (disk gone)) (refusals disk0) (refusals (disk gone)) (tells_out out0) (taken out0) (taken (out gone)) deck files (machine gone)
          ((r.leaves before gone w.leads).deck ∙ led.deck ∙ same) (taken (out before)) (machine before) (refusals (disk before)) (refusals (disk gone)) (tells_out (out before)) far_then.telling_out.0
          (took before led (none_lost (machine before).tally.lost (machine before).tally.over (machine before).tally.lost_over going)) (rose_earlier _ _ _ (far_then.own on)) g.at g.call g.learns (loss_not (machine gone).tally.lost loss)
          g.holds (kept_out (machine gone).kept (machine gone).state.core.names (machine gone).state.core.units (rest_of (machine gone)) ((r.keeps before gone w.leads).given_up going over stop))

      all_led : AllLeave first last
      all_led =
          leaves_on tells_out taken count_out tells count refusals (out first) (out before) (out last) (disk first) (disk before) (disk last) (machine first) (machine before) (machine last) led
          (leaves_on tells_out taken count_out tells count refusals (out before) (out gone) (out last) (disk before) (disk gone) (disk last) (machine before) (machine gone) (machine last)
          (r.leaves before gone w.leads) (all_leave gone last w.rests))

      pub is_cut : ((machine last).tally.stopped ≡ true → ServedAlone (over_bays meaning) (run_conduct s) (begins meaning s deck.variables (stated deck.statements) files) last rack)
          → IsCut meaning rack (held (disk last)) (refusals disk0) (refusals (disk last)) (tells_out out0) (taken out0) (taken (out last)) deck files (machine last)
      is_cut alone =
          let still = all_stay gone last w.rests over in
          elim (r.reason before gone w.leads going over) [
            | inl (stop, none) ↦
                let k = r.keeps before gone w.leads in
                let told_stop = ap (λ (m : Machine F ghosts). m.tally.stopped) still.0 ∙ stop in
                stopped_cut rack all_led (alone told_stop) told_stop (ap (λ (m : Machine F ghosts). m.tally.lost) still.0 ∙ none)
                (ap (λ (m : Machine F ghosts). m.kept) still.0 ∙ k.none going stop)
                (subst (λ (m : Machine F ghosts). (st : Stated) (more : List Stated) → rest_of m ≡ st ∷ more → HaveAt m.state.stage m.state.core.names m.state.core.units st.0.what) (sym still.0) (k.stopped going stop))
            | inr (stop, loss) ↦
                subst (λ (d : D). IsCut meaning rack (held d) (refusals disk0) (refusals d) (tells_out out0) (taken out0) (taken (out last)) deck files (machine last)) (sym still.2)
                (subst (λ n. IsCut meaning rack (held (disk gone)) (refusals disk0) (refusals (disk gone)) (tells_out out0) (taken out0) n deck files (machine last)) (sym still.1)
                (subst (λ (m : Machine F ghosts). IsCut meaning rack (held (disk gone)) (refusals disk0) (refusals (disk gone)) (tells_out out0) (taken out0) (taken (out gone)) deck files m) (sym still.0) (failed_cut stop loss)))
          ]

-- A script that was served until it was over, in the last stretch of a run, with the deck as it stands then: that run was cut.
pub run_cut : {S W D F E J A : Type 0} {ghosts : Ghosts F} (meaning : Meaning E J A Bay Job Answer) (s : Shows S) (tells_out : W → Type 0) (taken : W → List ℕ) (count_out : W → ℕ) (tells : D → Type 0) (count refusals : D → ℕ)
    (disk_told : D → Bool) (held : D → Holdings) (told : F → Bool) (bytes : F → List ℕ) (out : S → W) (disk : S → D) (machine : S → Machine F ghosts) (deck : Deck) (files : Files) (out0 : W) (disk0 : D) (m0 : Machine F ghosts)
    (origin : List Stated) (first last : S) (rack : Rack E J A)
    → ((machine last).tally.stopped ≡ true → ServedAlone (over_bays meaning) (run_conduct s) (begins meaning s deck.variables (stated deck.statements) files) last rack)
    → WasLostIn meaning s (first_run deck.variables origin files) fresh_slots (stated deck.statements) first last rack
    → IsRunner s tells_out taken count_out tells count refusals disk_told held told bytes out disk machine → IsSound deck → HasNotBegun told bytes m0
    → LeavesButDeck tells_out taken count_out tells count refusals out0 disk0 m0 (out first) (disk first) (machine first) → (machine first).deck ≡ deck → tells disk0 → StopsFull meaning
    → IsCut meaning rack (held (disk last)) (refusals disk0) (refusals (disk last)) (tells_out out0) (taken out0) (taken (out last)) deck files (machine last)
run_cut meaning s tells_out taken count_out tells count refusals disk_told held told bytes out disk machine deck files out0 disk0 m0 origin first last rack alone lost runner sound begun far same on full =
    is_cut s tells_out taken count_out tells count refusals disk_told held told bytes out disk machine runner meaning deck files sound out0 disk0 m0 on begun first last far same full origin rack lost alone
