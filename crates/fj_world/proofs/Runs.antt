-- A world at its beginning and at its end.
use Rattle.std.proofs.Common.{◌≡◌, ℕ, zero, suc, ◌+◌, ◌<◌, ◌≤◌, ◌^◌, false, List, length, take, Option, Some, None, slice_get, replicate, refl, sym, ap, ◌∙◌, subst, arith}
use Rattle.std.proofs.lemmas.List.{take_all}
use Rattle.fj_slot.specs.Ledger.{Ledger}
use Rattle.fj_slot.specs.Sound.{served_by}
use Rattle.fj_slot.proofs.Sound.{length_mapped}
use Rattle.fj_slot.proofs.Counted.{IfSome_mapped}
use Rattle.fj_world.specs.declared.ask.Ask.{Ask}
use Rattle.fj_world.specs.declared.ask.Ask.TheVariants.{Submit, Settle, Finished}
use Rattle.fj_world.specs.declared.busy.Busy.{Busy}
use Rattle.fj_slot.specs.Serving.{Meaning}
use Rattle.fj_world.specs.Conduct.{Conduct, Asks, IsAsk}
use Rattle.fj_world.specs.Rack.{Rack}
use Rattle.fj_world.specs.Scene.{Scene, IsOrderly}
use Rattle.fj_world.specs.Plain.{Plain, PlainSlot, asked_next, next, after}
use Rattle.fj_world.specs.Fits.{Fits, SlotsFit, IsDrained}

-- no worker holds anything at first
pub none_held : {X : Type 0} → (n k : ℕ) (x : X) → slice_get (replicate n None) k ≡ Some (Some x) → ⊥
none_held zero zero x e = cc
none_held zero (suc k) x e = cc
none_held (suc n) zero x e = cc
none_held (suc n) (suc k) x e = none_held n k x e

module _ {S G J A P T R : Type 0} (m : Meaning G J A P T R) (c : Conduct S T R) where
  pub after_next : (n : ℕ) (p : Plain P c) → after m c n (next m c p) ≡ next m c (after m c n p)
  after_next zero p = refl
  after_next (suc n) p = after_next n (next m c p)

  -- a world at its beginning
  pub begins_orderly : (script new : S) (hand : Ask J) (rack : Rack G J A) (workers : List (Option (Busy G J A P T R))) (n : ℕ)
      → c.uses script ≤ length rack.slots
      → ((at : ℕ) (l : Ledger G J A) → slice_get rack.slots at ≡ Some l → length l.jobs + c.left script < 2 ^ 62)
      → Asks m c script hand new → workers ≡ replicate n None
      → IsOrderly m c (record { start = script; script = new; hand = hand; rack = rack; workers = workers })
  begins_orderly script new hand rack workers n uses few asks idle =
      let none : (k : ℕ) (busy : Busy G J A P T R) → slice_get workers k ≡ Some (Some busy) → ⊥ = λ k busy e. none_held n k busy (ap (λ ws. slice_get ws k) (sym idle) ∙ e) in
      record {
        due = asks.due;
        keeps_to = asks.keeps_to;
        ends = asks.ends;
        uses = omega (arith, uses, asks.uses);
        few = λ at l e. omega (arith, few at l e, asks.left);
        held = λ k busy e. absurd (none k busy e);
        apart = λ k m one other ek em same. absurd (none k one ek);
      }

  pub begins_fitting : (script new : S) (hand : Ask J) (rack : Rack G J A) (workers : List (Option (Busy G J A P T R))) (n : ℕ) (s : c.State) (qs : List (PlainSlot P T))
      → Asks m c script hand new → workers ≡ replicate n None → c.state script ≡ Some s → c.stopped script ≡ false → SlotsFit m qs rack
      → Fits m c (asked_next m c s qs) (record { start = script; script = new; hand = hand; rack = rack; workers = workers })
  begins_fitting script new hand rack workers n s qs asks idle state going fit = record {
    stop = λ e. absurd (let o = (asks.stops e).0 in cc);
    script = λ e. asks.told s state e;
    same_slots = fit.same;
    slots = λ at q l eq el. let one = fit.each at q l eq el in record { sound = one.sound; told = λ _. one.told refl; done = one.done };
    held = λ k busy q l e eq el. absurd (none_held n k busy (ap (λ ws. slice_get ws k) (sym idle) ∙ e));
  }

  -- a world at its end
  pub ask_finished : (a : Ask T) → IsAsk m a Finished → a ≡ Finished
  ask_finished (Submit slot task) h = absurd h
  ask_finished (Settle slot) h = absurd h
  ask_finished Finished h = refl

  pub drained : (p : Plain P c) (w : Scene S G J A P T R) → Fits m c p w → w.hand ≡ Finished → IsDrained m c p w.script w.rack
  drained p w fits done = record {
    finished = λ e. ask_finished p.hand (subst (IsAsk m p.hand) done (fits.script e).1);
    script = λ e. (fits.script e).0;
    engines = λ at q l eq el running all.
        let fit = fits.slots at q l eq el in
        let long = length_mapped l.jobs q.jobs m.task fit.sound.jobs in
        let whole : take l.done q.jobs ≡ q.jobs = take_all l.done q.jobs (omega (arith, all, long)) in
        IfSome_mapped l.home _ _ (λ e is state. state ∙ ap (λ ts. Some (served_by m q.start ts)) whole) (fit.sound.home running);
  }
