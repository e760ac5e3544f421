-- Events, one after another.
use Rattle.std.proofs.Common.{◌≡◌, ℕ, zero, suc, ◌+◌, ◌<◌, Bool, true, false, ◌&&◌, cond, List, [], ◌∷◌, length, Some, slice_get, get_or, refl, sym, ap, subst, inl, inr, arith}
use Rattle.fj_slot.specs.Serving.{Meaning}
use Rattle.fj_world.specs.declared.event.Event.{Event}
use Rattle.fj_world.specs.declared.event.Event.TheVariants.{Script, Begin, End}
use Rattle.fj_world.specs.Conduct.{Conduct}
use Rattle.fj_world.specs.Fits.{Fits, Advances}
use Rattle.fj_world.specs.Keeping.{Keeps}
use Rattle.fj_world.specs.Plain.{Plain, after}
use Rattle.fj_world.specs.Runs.{Steps, Runs, Begins, Further, FitsServed, RunsThrough}
use Rattle.fj_world.specs.Scene.{Scene}
use Rattle.fj_world.specs.Steps.{is_script}
use Rattle.fj_world.proofs.Kept.{keeps_itself, keeps_on_and_on}
use Rattle.fj_world.proofs.Runs.{after_next}

read_at : {X : Type 0} → (xs : List X) (k : ℕ) (d : X) → k < length xs → slice_get xs k ≡ Some (get_or xs k d)
read_at [] k d p = absurd (omega (arith, p))
read_at (x ∷ xs) zero d p = refl
read_at (x ∷ xs) (suc k) d p = read_at xs k d (omega (arith, p))

module _ {S G J A P T R : Type 0} (m : Meaning G J A P T R) (c : Conduct S T R) where
  advanced : (p : Plain P c) (w : Scene S G J A P T R) (served n : ℕ) → n ≡ served → Advances m c (after m c n p) w → FitsServed m c p (served + 1) w
  advanced p w served n same (inl fits) = record {
    entries = suc n;
    few = omega (arith, same);
    many = omega (arith, same);
    exact = λ _. omega (arith, same);
    fits = subst (λ q. Fits m c q w) (sym (after_next m c n p)) fits;
  }
  advanced p w served n same (inr over) = record {
    entries = n;
    few = omega (arith, same);
    many = omega (arith, same);
    exact = λ e. absurd (let o = over.0 in cc);
    fits = over.1;
  }

  -- the script is what it was
  same_entries : (p : Plain P c) (w w' : Scene S G J A P T R) (served : ℕ) → FitsServed m c p served w → w'.script ≡ w.script
      → ((q : Plain P c) → Fits m c q w → Fits m c q w') → FitsServed m c p (served + 0) w'
  same_entries p w w' served h same step = record {
    entries = h.entries;
    few = omega (arith, h.few);
    many = omega (arith, h.many);
    exact = λ e. omega (arith, h.exact (subst (λ z. c.over z ≡ false) same e));
    fits = step (after m c h.entries p) h.fits;
  }

  -- one event more
  step_served : (p : Plain P c) (w w' : Scene S G J A P T R) (served : ℕ) (event : Event) (enabled : Bool) → FitsServed m c p served w
      → Steps m c event enabled w w' → FitsServed m c p (served + cond (enabled && is_script event) 1 0) w'
  step_served p w w' served event false h s =
      let still = s.none refl in
      same_entries p w w' served h (ap (λ z. z.script) still) (λ q fits. subst (λ z. Fits m c q z) (sym still) fits)
  step_served p w w' served Script true h s = advanced p w' served h.entries (h.exact (s.going refl refl)) (s.fits (after m c h.entries p) h.fits)
  step_served p w w' served (Begin worker slot) true h s = same_entries p w w' served h (s.happens refl).script s.fits
  step_served p w w' served (End worker) true h s = same_entries p w w' served h (s.happens refl).script s.fits

  step_keeps : (old w w' : Scene S G J A P T R) (event : Event) (enabled : Bool) → Keeps m c old w → Steps m c event enabled w w' → Keeps m c old w'
  step_keeps old w w' event false h s = subst (λ z. Keeps m c old z) (sym (s.none refl)) h
  step_keeps old w w' event true h s = keeps_on_and_on m c old w w' h (s.keeps refl)

  -- the first events of a list were run
  pub record SoFar (events : List Event) (old : Scene S G J A P T R) (k enabled : ℕ) (now : Scene S G J A P T R) : Type 0 where
    pub served : ℕ
    pub runs : Runs m c events old k enabled served now
    pub keeps : Keeps m c old now
    pub fits : (p : Plain P c) → Fits m c p old → FitsServed m c p served now

  pub none_so_far : (events : List Event) (old : Scene S G J A P T R) → SoFar events old 0 0 old
  none_so_far events old = record {
    served = 0;
    runs = Begins;
    keeps = keeps_itself m c old;
    fits = λ p fits. record { entries = 0; few = omega arith; many = omega arith; exact = λ _. refl; fits = fits };
  }

  pub one_more : (events : List Event) (old now new : Scene S G J A P T R) (k enabled : ℕ) (d : Event) (was : Bool) → k < length events
      → SoFar events old k enabled now → Steps m c (get_or events k d) was now new → SoFar events old (k + 1) (enabled + cond was 1 0) new
  one_more events old now new k enabled d was inside h s = record {
    served = h.served + cond (was && is_script (get_or events k d)) 1 0;
    runs = Further k enabled h.served (get_or events k d) was now new h.runs (read_at events k d inside) s;
    keeps = step_keeps old now new (get_or events k d) was h.keeps s;
    fits = λ p fits. step_served p now new h.served (get_or events k d) was (h.fits p fits) s;
  }

  pub through : (events : List Event) (old new : Scene S G J A P T R) (k enabled : ℕ) → k ≡ length events → SoFar events old k enabled new → RunsThrough m c events enabled old new
  through events old new k enabled all h = record { served = h.served; runs = subst (λ n. Runs m c events old n enabled h.served new) all h.runs; keeps = h.keeps; fits = h.fits }
