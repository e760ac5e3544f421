-- A runner that was served alone and has finished.
use Rattle.std.proofs.Common.{◌≡◌, ℕ, zero, suc, ◌+◌, List, [], ◌∷◌, slice_get, Some, refl, sym, ap, ◌∙◌, subst, arith}
use Rattle.fj_slot.specs.Serving.{Meaning}
use Rattle.fj_world.specs.declared.ask.Ask.TheVariants.{Submit, Settle, Finished}
use Rattle.fj_world.specs.declared.ask.Ask.{Ask}
use Rattle.fj_world.specs.Conduct.{Conduct, IsAsk}
use Rattle.fj_world.specs.Fits.{Fits}
use Rattle.fj_world.specs.Plain.{Plain, PlainSlot, after, next, served}
use Rattle.fj_world.specs.Scene.{Scene}
use Rattle.fj_bay.specs.Bay.{Bay}
use Rattle.fj_bay.specs.Jobs.{Job, Answer}
use Rattle.fj_meaning_jobs.specs.Desks.{Desk}
use Rattle.fj_meaning_turns.specs.Serving.{over_bays, Shows, run_conduct, desk_of, desks_of, begins}
use Rattle.fj_meaning_turns.specs.Executing.{HoldsDesks, ExecutesDecks}
use Rattle.fj_meaning_turns.proofs.Decks.{runner_is_plain}

module _ {S G J A P T R : Type 0} (mean : Meaning G J A P T R) (c : Conduct S T R) where
  stays : (n : ℕ) (x : Plain P c) → x.hand ≡ Finished → after mean c n x ≡ x
  stays zero x h = refl
  stays (suc n) x h =
      let same : next mean c x ≡ x = ap (λ a. served mean c a x) h in
      ap (after mean c n) same ∙ stays n x h

  more_after : (n k : ℕ) (x : Plain P c) → after mean c (n + k) x ≡ after mean c k (after mean c n x)
  more_after zero k x = let e : 0 + k ≡ k = omega arith in ap (λ j. after mean c j x) e
  more_after (suc n) k x = let e : suc n + k ≡ suc (n + k) = omega arith in ap (λ j. after mean c j x) e ∙ more_after n k (next mean c x)

  -- it has one end
  pub one_end : (n k : ℕ) (x y z : Plain P c) → after mean c n x ≡ y → y.hand ≡ Finished → after mean c k x ≡ z → z.hand ≡ Finished → y ≡ z
  one_end n k x y z e h f g =
      let swap : n + k ≡ k + n = omega arith in
      sym (more_after n k x ∙ ap (after mean c k) e ∙ stays k y h) ∙ ap (λ j. after mean c j x) swap ∙ (more_after k n x ∙ ap (after mean c n) f ∙ stays n z g)

  ask_over : (a : Ask T) → IsAsk mean a Finished → a ≡ Finished
  ask_over (Submit slot task) h = absurd h
  ask_over (Settle slot) h = absurd h
  ask_over Finished h = refl

  pub asks_no_more : (a : Ask T) → IsAsk mean a Finished → a ≡ Finished
  asks_no_more a h = ask_over a h

module _ {E J A : Type 0} (m : Meaning E J A Bay Job Answer) where
  pub desk_from : (qs : List (PlainSlot Bay Job)) (at : ℕ) (d : Desk) → slice_get (desks_of m qs) at ≡ Some d → (q : PlainSlot Bay Job) × (slice_get qs at ≡ Some q) × (d ≡ desk_of m q)
  desk_from [] zero d e = cc
  desk_from [] (suc at) d e = cc
  desk_from (q ∷ qs) zero d e = (q, refl, (let s : desk_of m q ≡ d = cc in sym s))
  desk_from (q ∷ qs) (suc at) d e = desk_from qs at d e

  -- slots that fit hold the desks that their jobs come to
  pub fits_hold : {S : Type 0} (s : Shows S) (x : Plain Bay (run_conduct s)) (w : Scene S E J A Bay Job Answer) → Fits (over_bays m) (run_conduct s) x w → HoldsDesks m w.rack (desks_of m x.slots)
  fits_hold s x w fits at l d found desk =
      let q = desk_from x.slots at d desk in
      record { jobs = q.0; sound = (fits.slots at q.0 l q.1 found).sound; desk = q.2 }

module _ {E J A S : Type 0} (m : Meaning E J A Bay Job Answer) (s : Shows S) where
  pub executes_decks : ExecutesDecks m s
  executes_decks variables deck files script rack run alone going is =
      let x : Plain Bay (run_conduct s) = begins m s variables deck files in
      let comes = runner_is_plain m s variables deck files in
      let at : Plain Bay (run_conduct s) = after (over_bays m) (run_conduct s) alone.entries x in
      let shows = alone.fits.script going in
      let done : at.hand ≡ Finished = asks_no_more (over_bays m) (run_conduct s) at.hand shows.1 in
      let z : Plain Bay (run_conduct s) = record { script = comes.run; hand = Finished; slots = comes.slots } in
      let same : at ≡ z = one_end (over_bays m) (run_conduct s) alone.entries comes.reaches.0 x at z refl done comes.reaches.1 refl in
      let run_is : run ≡ comes.run = (let e : Some run ≡ Some at.script = sym is ∙ shows.0 in let t : run ≡ at.script = cc in t) ∙ ap (λ k. k.script) same in
      record {
        core = ap (λ k. k.core) run_is ∙ comes.core;
        ending = ap (λ k. k.ending) run_is ∙ comes.ending;
        desks = subst (λ ds. HoldsDesks m rack ds) (ap (λ k. desks_of m k.slots) same ∙ comes.desks) (fits_hold m s at (record { start = script; script = script; hand = Finished; rack = rack; workers = [] }) alone.fits);
      }
