-- Stretches over real slots.
use Rattle.std.proofs.Common.{◌≡◌, ◌⊎◌, Bool, true, false, [], drop, sym, ap, ◌∙◌, subst, inl, inr, arith}
use Rattle.std.specs.Prelude.{slice_set}
use Rattle.fj_slot.specs.Serving.{Meaning}
use Rattle.fj_world.specs.declared.ask.Ask.TheVariants.{Settle, Finished}
use Rattle.fj_world.specs.Conduct.{Conduct, IsAsk}
use Rattle.fj_world.specs.Fits.{Fits, SlotsFit}
use Rattle.fj_world.specs.Plain.{Plain}
use Rattle.fj_world.specs.Scene.{Scene}
use Rattle.fj_world.proofs.Runs.{ask_finished}
use Rattle.fj_bay.specs.Bay.{Bay}
use Rattle.fj_bay.specs.Jobs.{Job, Answer}
use Rattle.fj_meaning.specs.Statement.{Stated}
use Rattle.fj_meaning_turns.specs.Run.{Run}
use Rattle.fj_meaning_turns.specs.Serving.{over_bays, Shows, run_conduct, first_run, fresh_slots}
use Rattle.fj_meaning_turns.proofs.Meant.{leaves_result}
use Rattle.fj_meaning_turns.proofs.Slots.{same_some}
use Rattle.fj_meaning_looks.specs.Looking.{stretch_conduct}
use Rattle.fj_meaning_looks.specs.Stretches.{with_rest, IsOver, Between, stretch, as_run, IsAtNone}
use Rattle.fj_meaning_looks.specs.Worlds.{AsksAgain, StaysOrderly, IsRunner, WorldsGoOn, WorldsEnd, StretchesLeaveResults}
use Rattle.fj_meaning_looks.proofs.Putting.{marks_go_on, ends_are_whole}

pub asks_again : {S G J A P T R : Type 0} → (m : Meaning G J A P T R) (c : Conduct S T R) → AsksAgain m c
asks_again m c p w script new hand state f going running is asks = record {
  script = λ e. asks.told state is e;
  stop = λ e. absurd (let z : true ≡ false = sym (asks.stops e).0 ∙ running in cc);
  same_slots = f.same_slots;
  slots = λ at q l eq el. let one = f.slots at q l eq el in record { sound = one.sound; told = λ _. one.told going; done = one.done };
  held = f.held;
}

pub stays_orderly : {S G J A P T R : Type 0} → (m : Meaning G J A P T R) (c : Conduct S T R) → StaysOrderly m c
stays_orderly m c w script new hand h left uses asks = record {
  due = asks.due;
  keeps_to = asks.keeps_to;
  ends = asks.ends;
  uses = omega (arith, h.uses, uses, asks.uses);
  few = λ at l e. omega (arith, h.few at l e, left, asks.left);
  held = h.held;
  apart = h.apart;
}

module _ {E J A S : Type 0} (m : Meaning E J A Bay Job Answer) (s : Shows S) (looks : Stated → Run → Bool) where
  slots_fit : (x : Plain Bay (stretch_conduct looks s)) (w : Scene S E J A Bay Job Answer) → Fits (over_bays m) (stretch_conduct looks s) x w → s.over w.script ≡ false → SlotsFit (over_bays m) x.slots w.rack
  slots_fit x w f going = record { same = f.same_slots; each = λ at q l eq el. let one = f.slots at q l eq el in record { sound = one.sound; told = λ _. one.told going; done = one.done } }

  -- the run of a script that is not over is that of the stretch
  run_is : (x : Plain Bay (stretch_conduct looks s)) (w : Scene S E J A Bay Job Answer) (run : Run) → Fits (over_bays m) (stretch_conduct looks s) x w → IsRunner s w.script run → x.script ≡ run
  run_is x w run f is = same_some (sym (f.script is.going).0 ∙ is.state)

  pub worlds_go_on : WorldsGoOn m s looks
  worlds_go_on first qs0 deck r qs b n w run f finished is place st behind mark none rest at =
      let x = stretch m s looks n r qs in
      let done : x.hand ≡ Finished = ask_finished (over_bays m) (stretch_conduct looks s) x.hand (subst (IsAsk (over_bays m) x.hand) finished (f.script is.going).1) in
      let same : x.script ≡ run = run_is x w run f is in (
        subst (λ y. let put = slice_set deck place mark in Between m s first qs0 put (with_rest (drop place put) y) x.slots) same
            (marks_go_on m s looks first qs0 deck r qs b n place st behind mark done (ap (λ (y : Run). y.ending) same ∙ none) (ap (λ (y : Run). y.rest) same ∙ rest) at),
        slots_fit x w f is.going,
      )

  whole_fits : (x : Plain Bay (stretch_conduct looks s)) (w : Scene S E J A Bay Job Answer) → Fits (over_bays m) (stretch_conduct looks s) x w → Fits (over_bays m) (run_conduct s) (as_run m s looks x) w
  whole_fits x w f = record {
    script = f.script;
    stop = λ e. let h = f.stop e in record { over = h.over; state = h.state; slot = h.slot; hand = h.hand; halted = h.halted };
    same_slots = f.same_slots;
    slots = f.slots;
    held = f.held;
  }

  pub worlds_end : WorldsEnd m s looks
  worlds_end first qs0 deck r qs b n w f end =
      let x = stretch m s looks n r qs in
      let all = ends_are_whole m s looks first qs0 deck r qs b n (by end) in
      (all.0, subst (λ p. Fits (over_bays m) (run_conduct s) p w) (sym all.1) (whole_fits x w f))
    where
      by : (s.stopped w.script ≡ true) ⊎ ((run : Run) × IsRunner s w.script run × IsOver run) → IsAtNone m s looks (stretch m s looks n r qs)
      by (inl stopped) finished = let z : Finished ≡ Settle (f.stop stopped).slot = sym finished ∙ (f.stop stopped).hand in cc
      by (inr (run, is, over)) finished = subst IsOver (sym (run_is (stretch m s looks n r qs) w run f is)) over

  pub stretches_leave_results : StretchesLeaveResults m s looks
  stretches_leave_results variables old deck files r qs script rack run b alone is over =
      let all = worlds_end (first_run variables old files) fresh_slots deck r qs b alone.entries (record { start = script; script = script; hand = Finished; rack = rack; workers = [] }) alone.fits (inr (run, is, over)) in
      leaves_result m s variables deck files script rack run (record { entries = all.0; fits = all.1 }) is.going is.state
