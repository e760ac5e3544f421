-- The world after an event is the plain one after that event.
use Rattle.std.proofs.Common.{◌≡◌, ℕ, zero, suc, List, [], ◌∷◌, map, Some, None, slice_get, set, Result, Ok, Err, IfOk, IfErr, OnErr, refl, sym, ap, ◌∙◌, subst, inl, inr}
use Rattle.std.proofs.lemmas.Option.{slice_get_within}
use Rattle.fj_outside.specs.declared.errors.Stop.{Stop}
use Rattle.fj_slot.specs.declared.told.Refused.{Refused}
use Rattle.fj_slot.specs.Ledger.{Ledger, with_job, with_tell, with_out, with_answer, with_halt}
use Rattle.fj_world.specs.declared.ask.Ask.{Ask}
use Rattle.fj_world.specs.declared.busy.Busy.{Busy}
use Rattle.fj_world.specs.declared.event.Event.TheVariants.{Script, Begin, End}
use Rattle.fj_slot.specs.Serving.{Meaning}
use Rattle.fj_world.specs.Conduct.{Conduct}
use Rattle.fj_world.specs.Rack.{Rack}
use Rattle.fj_world.specs.Scene.{Scene, IsOrderly}
use Rattle.fj_world.specs.Plain.{Plain}
use Rattle.fj_world.specs.Fits.{Fits, Advances}
use Rattle.fj_world.specs.Sketch.{Sketches, spot_of, slot_held, Moves, changed_at, taken_out, brought_back, happens, ended_from}
use Rattle.fj_world.proofs.Places.{set_same, set_itself}

pub map_set : {X Y : Type 0} → (f : X → Y) (xs : List X) (i : ℕ) (v : X) → map f (set xs i v) ≡ set (map f xs) i (f v)
map_set f [] zero v = refl
map_set f [] (suc i) v = refl
map_set f (x ∷ xs) zero v = refl
map_set f (x ∷ xs) (suc i) v = ap (λ ys. f x ∷ ys) (map_set f xs i v)

pub slice_get_mapped_by : {X Y : Type 0} → (f : X → Y) (xs : List X) (i : ℕ) (x : X) → slice_get xs i ≡ Some x → slice_get (map f xs) i ≡ Some (f x)
slice_get_mapped_by f [] zero x e = cc
slice_get_mapped_by f [] (suc i) x e = cc
slice_get_mapped_by f (y ∷ xs) zero x e = let same : y ≡ x = cc in ap (λ z. Some (f z)) same
slice_get_mapped_by f (y ∷ xs) (suc i) x e = slice_get_mapped_by f xs i x e

pub set_kept : {X Y : Type 0} → (f : X → Y) (xs : List X) (i : ℕ) (x v : X) → slice_get xs i ≡ Some x → f v ≡ f x → map f (set xs i v) ≡ map f xs
set_kept f xs i x v e same = map_set f xs i v ∙ ap (λ y. set (map f xs) i y) same ∙ set_itself (map f xs) i (f x) (slice_get_mapped_by f xs i x e)

pub set_changed : {X Y : Type 0} → (f : X → Y) (g : Y → Y) (xs : List X) (i : ℕ) (x v : X) → slice_get xs i ≡ Some x → f v ≡ g (f x) → map f (set xs i v) ≡ changed_at g i (map f xs)
set_changed f g [] zero x v e same = refl
set_changed f g [] (suc i) x v e same = refl
set_changed f g (y ∷ xs) zero x v e same = let is : y ≡ x = cc in ap (λ z. z ∷ map f xs) (same ∙ ap (λ z. g (f z)) (sym is))
set_changed f g (y ∷ xs) (suc i) x v e same = ap (λ ys. f y ∷ ys) (set_changed f g xs i x v e same)

module _ {S G J A P T R : Type 0} (m : Meaning G J A P T R) (c : Conduct S T R) where
  -- the script was served
  pub script_moves : (old : Scene S G J A P T R) (new : S) (hand : Ask J) (rack : Rack G J A)
      → ((p : Plain P c) → Fits m c p old → Advances m c p (record { start = old.start; script = new; hand = hand; rack = rack; workers = old.workers }))
      → map spot_of rack.slots ≡ map spot_of old.rack.slots
      → Moves m c Script old (record { start = old.start; script = new; hand = hand; rack = rack; workers = old.workers })
  script_moves old new hand rack advances spots sketch h going running =
      elim (advances sketch.plain h.fits) [
        | inl fits ↦ record { fits = fits; spots = spots ∙ h.spots; held = h.held }
        | inr over ↦ absurd (let o = over.0 in cc)
      ]

  pub submit_spots : (old new : Rack G J A) (at : ℕ) (l : Ledger G J A) (job : J) (number : Result ℕ (Refused J)) → slice_get old.slots at ≡ Some l
      → IfOk number (λ _. new.slots ≡ set old.slots at (with_job l job)) → OnErr number (new ≡ old) → map spot_of new.slots ≡ map spot_of old.slots
  submit_spots old new at l job (Ok n) found after err = ap (map spot_of) after ∙ set_kept spot_of old.slots at l (with_job l job) found refl
  submit_spots old new at l job (Err e) found after err = ap (λ r. map spot_of r.slots) err

  pub tell_spots : (old new : Rack G J A) (at : ℕ) (l : Ledger G J A) → slice_get old.slots at ≡ Some l
      → new.slots ≡ set old.slots at (with_tell l) → map spot_of new.slots ≡ map spot_of old.slots
  tell_spots old new at l found after = ap (map spot_of) after ∙ set_kept spot_of old.slots at l (with_tell l) found refl

  -- a job was begun
  pub begin_moves : (old : Scene S G J A P T R) (worker : ℕ) (busy : Busy G J A P T R) (l : Ledger G J A) (rack : Rack G J A)
      → ((p : Plain P c) → Fits m c p old → Fits m c p (record { start = old.start; script = old.script; hand = old.hand; rack = rack; workers = set old.workers worker (Some busy) }))
      → slice_get old.rack.slots busy.slot ≡ Some l → rack.slots ≡ set old.rack.slots busy.slot (with_out l)
      → Moves m c (Begin worker busy.slot) old (record { start = old.start; script = old.script; hand = old.hand; rack = rack; workers = set old.workers worker (Some busy) })
  begin_moves old worker busy l rack fits found after sketch h going running = record {
    fits = fits sketch.plain h.fits;
    spots = ap (map spot_of) after ∙ set_changed spot_of taken_out old.rack.slots busy.slot l (with_out l) found refl ∙ ap (changed_at taken_out busy.slot) h.spots;
    held = map_set slot_held old.workers worker (Some busy) ∙ ap (λ hs. set hs worker (Some busy.slot)) h.held;
  }

  -- a job was ended
  pub end_moves : (old : Scene S G J A P T R) (worker : ℕ) (busy : Busy G J A P T R) (l : Ledger G J A) (rack : Rack G J A) (engine : G) (job : J) (got : Result A Stop) (before after : ℕ)
      → IsOrderly m c old → slice_get old.workers worker ≡ Some (Some busy) → slice_get old.rack.slots busy.slot ≡ Some l
      → ((p : Plain P c) → Fits m c p old → Fits m c p (record { start = old.start; script = old.script; hand = old.hand; rack = rack; workers = set old.workers worker None }))
      → IfOk got (λ answer. rack.slots ≡ set old.rack.slots busy.slot (with_answer l engine job answer))
      → IfErr got (λ stop. rack.slots ≡ set old.rack.slots busy.slot (with_halt l engine (record { stop = stop; before = before; after = after })))
      → Moves m c (End worker) old (record { start = old.start; script = old.script; hand = old.hand; rack = rack; workers = set old.workers worker None })
  end_moves old worker busy l rack engine job (Ok answer) before after order holds found fits ok err sketch h going running =
      let held : slice_get sketch.held worker ≡ Some (Some busy.slot) = ap (λ hs. slice_get hs worker) (sym h.held) ∙ slice_get_mapped_by slot_held old.workers worker (Some busy) holds in
      let is : happens m c sketch (End worker) ≡ record { plain = sketch.plain; spots = changed_at brought_back busy.slot sketch.spots; held = set sketch.held worker None } =
      ap (λ o. ended_from m c o worker sketch) held in
      subst (λ z. Sketches m c z (record { start = old.start; script = old.script; hand = old.hand; rack = rack; workers = set old.workers worker None })) (sym is) (record {
        fits = fits sketch.plain h.fits;
        spots = ap (map spot_of) ok ∙ set_changed spot_of brought_back old.rack.slots busy.slot l (with_answer l engine job answer) found refl ∙ ap (changed_at brought_back busy.slot) h.spots;
        held = map_set slot_held old.workers worker None ∙ ap (λ hs. set hs worker None) h.held;
      })
  end_moves old worker busy l rack engine job (Err stop) before after order holds found fits ok err sketch h going running =
      let stopped = running busy.slot (with_halt l engine (record { stop = stop; before = before; after = after }))
      (ap (λ s. slice_get s busy.slot) err ∙ set_same old.rack.slots busy.slot (with_halt l engine (record { stop = stop; before = before; after = after })) (slice_get_within old.rack.slots busy.slot l found)) in
      absurd (cc)
