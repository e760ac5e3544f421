-- No statement looks up to the one at which a stretch was cut.
use Rattle.std.proofs.Common.{◌≡◌, ◌⊎◌, ℕ, ◌<◌, ◌≤◌, Bool, true, false, List, length, drop, Some, slice_get, refl, sym, ap, ◌∙◌, subst, inl, inr, arith}
use Rattle.fj_outside.specs.Holdings.{Holdings}
use Rattle.fj_outside.specs.declared.outside.FileStore.{Ghosts}
use Rattle.fj_statement.specs.Sound.{IsSound}
use Rattle.fj_statement.specs.declared.deck.Deck.{Deck}
use Rattle.fj_statement.specs.declared.deck.Lined.{Lined}
use Rattle.fj_slot.specs.Serving.{Meaning}
use Rattle.fj_world.specs.Conduct.{IsDueAsk}
use Rattle.fj_world.specs.Leading.{LeadsTo}
use Rattle.fj_world.specs.Losing.{before_ask, WasLost}
use Rattle.fj_world.specs.Plain.{PlainSlot}
use Rattle.fj_world.specs.Rack.{Rack}
use Rattle.fj_bay.specs.Bay.{Bay}
use Rattle.fj_bay.specs.Jobs.{Job, Answer}
use Rattle.fj_meaning.specs.State.{Files}
use Rattle.fj_meaning.specs.Statement.{Stated, stated}
use Rattle.fj_meaning_turns.specs.Run.{Run, Start}
use Rattle.fj_meaning_turns.specs.Serving.{over_bays, Shows, first_run, fresh_slots}
use Rattle.fj_meaning_looks.specs.Inquiring.{is_looking}
use Rattle.fj_meaning_looks.specs.Looking.{asked_until, stretch_conduct}
use Rattle.fj_meaning_looks.specs.Stretches.{Between, stretch}
use Rattle.fj_meaning_looks.proofs.Rests.{IsAsking}
use Rattle.fj_run_units.specs.Files.{files_of}
use Rattle.fj_run_script.specs.Failing.{Stays}
use Rattle.fj_run_script.specs.Machine.{rest_of, run_of}
use Rattle.fj_run_script.specs.Short.{FallsShort, IsShort}
use Rattle.fj_run_script.specs.declared.hand.Hand.TheVariants.{Idle}
use Rattle.fj_run_script.specs.declared.machine.Machine.{Machine}
use Rattle.fj_run_script.proofs.AtHand.{rest_same}
use Rattle.fj_job.proofs.Cut.{shown}
use Rattle.fj_job.proofs.CutRuns.{IsRunner, hand_asks, hand_idle}
use Rattle.fj_job.proofs.Executed.{rest_is}
use Rattle.fj_job.proofs.Leading.{led_to}
use Rattle.fj_job.proofs.Passes.{ends_so, some_statement}
use Rattle.fj_poll.specs.Looks.{Asks}
use Rattle.fj_poll.specs.Stretches.{left_from}
use Rattle.fj_poll.proofs.Clear.{Shown, before_shows, stretch_shows}

-- the calls of a script fall short of looks
abbrev pub AreShort : {S F : Type 0} {ghosts : Ghosts F} → Shows S → (S → Machine F ghosts) → Type 0
AreShort {S} s machine = (a b : S) → s.leads a b → FallsShort is_looking (s.state a) (machine a) (machine b)

module _ {S W D F E J A : Type 0} {ghosts : Ghosts F} (meaning : Meaning E J A Bay Job Answer) (s : Shows S) (tells_out : W → Type 0) (taken : W → List ℕ) (count_out : W → ℕ) (tells : D → Type 0) (count refusals : D → ℕ)
    (disk_told : D → Bool) (held : D → Holdings) (told : F → Bool) (bytes : F → List ℕ) (out : S → W) (disk : S → D) (machine : S → Machine F ghosts)
    (runner : IsRunner s tells_out taken count_out tells count refusals disk_told held told bytes out disk machine) (short : AreShort s machine)
    (deck : Deck) (sound : IsSound deck) (files : Files) (origin : List Stated) (r : Run) (qs : List (PlainSlot Bay Job)) (start : r.stage ≡ Start)
    (b : Between meaning s (first_run deck.variables origin files) fresh_slots (stated deck.statements) r qs) (first last : S) (rack : Rack E J A)
    (lost : WasLost (over_bays meaning) (stretch_conduct is_looking s) r qs first last rack)
    (place : ℕ) (lined : Lined) (item : slice_get deck.statements place ≡ Some lined) (a : Asks deck files place lined) (low : left_from deck place ≤ length r.rest) where
  -- since it is over, the machine stays
  rests : machine last ≡ machine lost.call.gone
  rests =
      (led_to s.leads (λ x y. Stays (taken (out x)) (taken (out y)) (disk x) (disk y) (machine x) (machine y)) runner.stays (λ x over. (refl, refl, refl))
      (λ x y z one two over.
      let here = one over in
      let there = two (ap (λ (m : Machine F ghosts). m.tally.over) here.0 ∙ over) in
      (there.0 ∙ here.0, there.1 ∙ here.1, there.2 ∙ here.2)) lost.call.gone last lost.call.rests (sym (runner.over lost.call.gone) ∙ lost.call.over)).0

  going : (machine lost.call.before).tally.over ≡ false
  going = sym (runner.over lost.call.before) ∙ lost.call.going

  over : (machine lost.call.gone).tally.over ≡ true
  over = sym (runner.over lost.call.gone) ∙ lost.call.over

  -- in an ask
  asked_less : (run : Run) → IsShort is_looking (asked_until is_looking run) (rest_of (machine lost.call.gone))
      → (let x = asked_until is_looking run in Shown meaning deck files (ends_so deck sound) (some_statement deck sound) place lined item a x.ask x.run) → left_from deck place < length (rest_of (machine lost.call.gone))
  asked_less run it (inl look) = let less = it.before_look look.1 in let more = look.2 in omega (arith, less, more)
  asked_less run it (inr (asking, less)) = let more = it.left in omega (arith, less, more)

  gone_less : left_from deck place < length (rest_of (machine lost.call.gone))
  gone_less = elim lost.call.stood [
    | inl (asked, state, due) ↦
        let run = (before_ask (over_bays meaning) (stretch_conduct is_looking s) lost.asks r qs).0 in
        asked_less run (short lost.call.before lost.call.gone lost.call.leads run state (hand_idle (machine lost.call.before).tally.hand (sym (runner.due lost.call.before) ∙ due)) going over)
        (before_shows meaning deck files (ends_so deck sound) (some_statement deck sound) place lined item a s origin r qs b start low lost.asks asked)
    | inr (hand, state, due) ↦
        let x = stretch meaning s is_looking lost.asks r qs in
        let left : Files = files_of (held (disk lost.call.before)) in
        let is : run_of told bytes left (machine lost.call.before) ≡ Some x.script =
        shown (disk_told (disk lost.call.before)) (run_of told bytes left (machine lost.call.before)) x.script (sym (runner.state lost.call.before) ∙ state) in
        let asks = hand_asks (machine lost.call.before).tally.hand x.hand hand (subst (λ d. IsDueAsk d x.hand) (runner.due lost.call.before) due) in
        let stays : rest_of (machine lost.call.gone) ≡ x.script.rest =
        rest_same (machine lost.call.before) (machine lost.call.gone) (runner.leaves lost.call.before lost.call.gone lost.call.leads).deck ((runner.asking lost.call.before lost.call.gone lost.call.leads).at asks)
        ∙ sym (rest_is told bytes left (machine lost.call.before) x.script is) in
        elim (stretch_shows meaning deck files (ends_so deck sound) (some_statement deck sound) place lined item a s origin r qs b start low lost.asks) [
          | inl look ↦ absurd (hand look.0)
          | inr (asking, less) ↦ subst (λ l. left_from deck place < length l) (sym stays) less
        ]
  ]

  pub cut_less : left_from deck place < length (rest_of (machine last))
  cut_less = subst (λ (m : Machine F ghosts). left_from deck place < length (rest_of m)) (sym rests) gone_less
