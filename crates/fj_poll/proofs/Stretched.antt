-- What a stretch that was served comes to.
use Rattle.std.proofs.Common.{◌≡◌, ◌⊎◌, ℕ, Bool, true, false, cond, List, [], ◌∷◌, ◌++◌, length, drop, Some, None, is_some, refl, sym, ap, ◌∙◌, subst, inl, inr, append_assoc}
use Rattle.fj_outside.specs.declared.outside.FileStore.{Ghosts}
use Rattle.fj_statement.specs.declared.deck.Deck.{Deck}
use Rattle.fj_statement.specs.Sound.{IsSound}
use Rattle.fj_slot.specs.Serving.{Meaning}
use Rattle.fj_world.specs.declared.ask.Ask.TheVariants.{Finished}
use Rattle.fj_world.specs.Alone.{ServedAlone}
use Rattle.fj_world.specs.Plain.{PlainSlot, asked_next}
use Rattle.fj_world.specs.Rack.{Rack}
use Rattle.fj_world.proofs.Runs.{ask_finished}
use Rattle.fj_bay.specs.Bay.{Bay}
use Rattle.fj_bay.specs.Jobs.{Job, Answer}
use Rattle.fj_meaning.specs.State.{Files}
use Rattle.fj_meaning.specs.Statement.{Stated, stated}
use Rattle.fj_meaning_turns.specs.Run.{Run, Start}
use Rattle.fj_meaning_turns.specs.Serving.{over_bays, Shows, run_conduct, first_run, fresh_slots, begins}
use Rattle.fj_meaning_looks.specs.Inquiring.{is_looking}
use Rattle.fj_meaning_looks.specs.Looking.{stretch_conduct}
use Rattle.fj_meaning_looks.specs.Stretches.{IsOver, StandsAtLook, Between, stretch, ToLook, IsWhole}
use Rattle.fj_meaning_looks.proofs.Entries.{each}
use Rattle.fj_meaning_looks.proofs.Rests.{IsAsking}
use Rattle.fj_meaning_looks.proofs.Worlds.{worlds_go_on, worlds_end}
use Rattle.fj_run_script.specs.Machine.{run_of}
use Rattle.fj_run_script.specs.declared.machine.Machine.{Machine}
use Rattle.fj_job.proofs.Served.{has_run}
use Rattle.fj_job.proofs.Cut.{shown}
use Rattle.fj_job.proofs.CutEnds.{has_ended}
use Rattle.fj_job.proofs.Passes.{ends_so, some_statement}
use Rattle.fj_poll.specs.Stretches.{bare, CameToLook, CameToEnd}
use Rattle.fj_poll.proofs.Clear.{stretch_shows}
use Rattle.fj_poll.proofs.Other.{other_between}
use Rattle.fj_poll.proofs.Putting.{drop_front}

-- at a look it is not over
look_going : (r : Run) → StandsAtLook is_looking r → IsOver r → ⊥
look_going r x (inl over) = let z : true ≡ false = sym over ∙ ap is_some x.ending in cc
look_going r x (inr none) = let z : [] ≡ x.statement ∷ x.behind = sym none ∙ x.rest in cc

-- The runner of a deck that was served alone in a stretch and is not over.
module _ {E J A S F : Type 0} {ghosts : Ghosts F} (meaning : Meaning E J A Bay Job Answer) (s : Shows S) (told : F → Bool) (bytes : F → List ℕ) (origin : List Stated) (deck : Deck) (sound : IsSound deck) (files left : Files)
    (r : Run) (qs : List (PlainSlot Bay Job)) (start : r.stage ≡ Start) (b : Between meaning s (first_run deck.variables origin files) fresh_slots (stated deck.statements) r qs)
    (m : Machine F ghosts) (rack : Rack E J A) (script : S) (tells : Bool) (alone : ServedAlone (over_bays meaning) (stretch_conduct is_looking s) (asked_next (over_bays meaning) (stretch_conduct is_looking s) r qs) script rack)
    (going : s.over script ≡ false) (state : s.state script ≡ cond tells (run_of told bytes left m) None) (same : m.deck ≡ deck) where
  known : s.state script ≡ Some (stretch meaning s is_looking alone.entries r qs).script
  known = (alone.fits.script going).0

  is : run_of told bytes left m ≡ Some (stretch meaning s is_looking alone.entries r qs).script
  is = shown tells (run_of told bytes left m) (stretch meaning s is_looking alone.entries r qs).script (sym state ∙ known)

  finished : (stretch meaning s is_looking alone.entries r qs).hand ≡ Finished
  finished = ask_finished (over_bays meaning) (stretch_conduct is_looking s) (stretch meaning s is_looking alone.entries r qs).hand (alone.fits.script going).1

  looks : ToLook meaning s is_looking r qs (stretch meaning s is_looking alone.entries r qs) → CameToLook told bytes meaning origin deck files left r m rack
  looks t =
      let x = stretch meaning s is_looking alone.entries r qs in
      let first = first_run deck.variables origin files in
      let on = worlds_go_on meaning s is_looking first fresh_slots (stated deck.statements) r qs b alone.entries (record { start = script; script = script; hand = Finished; rack = rack; workers = [] }) x.script alone.fits refl
      (record { going = going; state = known }) in
      let deck_is : stated deck.statements ≡ (b.front ++ t.front) ++ x.script.rest = b.whole ∙ ap (λ l. b.front ++ l) t.rest ∙ sym (append_assoc b.front t.front x.script.rest) in
      let there : drop (length (b.front ++ t.front)) (stated deck.statements) ≡ t.look.statement ∷ t.look.behind =
      ap (drop (length (b.front ++ t.front))) deck_is ∙ drop_front (b.front ++ t.front) x.script.rest ∙ t.look.rest in
      record {
        run = x.script;
        is = is;
        look = t.look;
        front = t.front;
        behind = t.rest;
        slots = x.slots;
        fit = (on (length (b.front ++ t.front)) t.look.statement t.look.behind t.look.statement t.look.ending t.look.rest there).1;
        next = λ place st more mark rest here. other_between meaning s bare first fresh_slots _ _ x.slots (on place st more mark t.look.ending rest here).0;
        none = λ place lined item asks low. elim (stretch_shows meaning deck files (ends_so deck sound) (some_statement deck sound) place lined item asks s origin r qs b start low alone.entries) [
          | inl h ↦ h.2
          | inr h ↦ absurd (subst IsAsking finished h.0)
        ];
      }

  ends : IsWhole meaning s is_looking r qs alone.entries (stretch meaning s is_looking alone.entries r qs) → CameToEnd told bytes meaning deck files left r m rack
  ends w =
      let x = stretch meaning s is_looking alone.entries r qs in
      let first = first_run deck.variables origin files in
      let over : IsOver x.script = w.over finished in
      let all = worlds_end meaning s is_looking first fresh_slots (stated deck.statements) r qs b alone.entries (record { start = script; script = script; hand = Finished; rack = rack; workers = [] }) alone.fits
      (inr (x.script, record { going = going; state = known }, over)) in
      let whole : ServedAlone (over_bays meaning) (run_conduct s) (begins meaning s deck.variables (stated deck.statements) files) script rack = record { entries = all.0; fits = all.1 } in
      record {
        run = x.script;
        is = is;
        over = over;
        ran = has_run meaning s told bytes deck files left m rack script tells whole going state;
        ended = λ ending e. has_ended meaning s told bytes deck files left m rack script tells whole going state same ending e;
        none = λ place lined item asks low. elim (stretch_shows meaning deck files (ends_so deck sound) (some_statement deck sound) place lined item asks s origin r qs b start low alone.entries) [
          | inl h ↦ look_going x.script h.1 over
          | inr h ↦ subst IsAsking finished h.0
        ];
      }

  pub came : CameToLook told bytes meaning origin deck files left r m rack ⊎ CameToEnd told bytes meaning deck files left r m rack
  came = elim (each meaning s is_looking r qs alone.entries) [ inl t ↦ inl (looks t) | inr w ↦ inr (ends w) ]
