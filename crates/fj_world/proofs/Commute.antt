-- Neighbouring events of different actors and different slots commute.
use Rattle.std.proofs.Common.{◌≡◌, ℕ, zero, suc, true, List, [], ◌∷◌, Option, Some, None, slice_get, set, refl, sym, ap, ◌∙◌}
use Rattle.std.proofs.lemmas.Bool.{and_parts, and_from}
use Rattle.fj_world.specs.declared.ask.Ask.{Ask}
use Rattle.fj_world.specs.declared.ask.Ask.TheVariants.{Submit, Settle, Finished}
use Rattle.fj_world.specs.declared.event.Event.TheVariants.{Script, Begin, End}
use Rattle.fj_slot.specs.Sound.{outcome}
use Rattle.fj_slot.specs.Serving.{Meaning}
use Rattle.fj_world.specs.Conduct.{Conduct}
use Rattle.fj_world.specs.Plain.{Plain, PlainSlot, served, submitted_to, settled_from, told_from}
use Rattle.fj_world.specs.Sketch.{Spot, Sketch, changed_at, taken_out, brought_back, may_begin_at, may_tell_at, may_serve, holds_nothing, holds_job, may_happen, ended_from, happens, ask_slot, held_slot, Commute, NeighboursCommute}
use Rattle.fj_world.proofs.Places.{set_other}

pub changed_other : {X : Type 0} → (f : X → X) (xs : List X) (i k : ℕ) → (k ≡ i → ⊥) → slice_get (changed_at f i xs) k ≡ slice_get xs k
changed_other f [] i k ne = refl
changed_other f (x ∷ xs) zero zero ne = absurd (ne refl)
changed_other f (x ∷ xs) zero (suc k) ne = refl
changed_other f (x ∷ xs) (suc i) zero ne = refl
changed_other f (x ∷ xs) (suc i) (suc k) ne = changed_other f xs i k (λ q. ne (ap suc q))

pub changed_apart : {X : Type 0} → (f g : X → X) (xs : List X) (i k : ℕ) → (k ≡ i → ⊥) → changed_at f i (changed_at g k xs) ≡ changed_at g k (changed_at f i xs)
changed_apart f g [] i k ne = refl
changed_apart f g (x ∷ xs) zero zero ne = absurd (ne refl)
changed_apart f g (x ∷ xs) zero (suc k) ne = refl
changed_apart f g (x ∷ xs) (suc i) zero ne = refl
changed_apart f g (x ∷ xs) (suc i) (suc k) ne = ap (λ ys. x ∷ ys) (changed_apart f g xs i k (λ q. ne (ap suc q)))

pub set_apart : {X : Type 0} → (xs : List X) (i k : ℕ) (v w : X) → (k ≡ i → ⊥) → set (set xs k w) i v ≡ set (set xs i v) k w
set_apart [] zero zero v w ne = refl
set_apart [] zero (suc k) v w ne = refl
set_apart [] (suc i) zero v w ne = refl
set_apart [] (suc i) (suc k) v w ne = refl
set_apart (x ∷ xs) zero zero v w ne = absurd (ne refl)
set_apart (x ∷ xs) zero (suc k) v w ne = refl
set_apart (x ∷ xs) (suc i) zero v w ne = refl
set_apart (x ∷ xs) (suc i) (suc k) v w ne = ap (λ ys. x ∷ ys) (set_apart xs i k v w (λ q. ne (ap suc q)))

module _ {S G J A P T R : Type 0} (m : Meaning G J A P T R) (c : Conduct S T R) where
  -- serving an ask leaves the other slots
  pub served_other : (a : Ask T) (p : Plain P c) (k : ℕ) → (ask_slot m c a ≡ Some k → ⊥) → slice_get (served m c a p).slots k ≡ slice_get p.slots k
  served_other Finished p k ne = refl
  served_other (Submit at t) p k ne = go (slice_get p.slots at)
    where
      go : (o : Option (PlainSlot P T)) → slice_get (submitted_to m c o at t p).slots k ≡ slice_get p.slots k
      go None = refl
      go (Some q) = set_other p.slots at k _ (λ e. ne (ap (λ z. Some z) (sym e)))
  served_other (Settle at) p k ne = go (slice_get p.slots at)
    where
      told : (r : Option (T × R)) (q : PlainSlot P T) → slice_get (told_from m c r q at p).slots k ≡ slice_get p.slots k
      told None q = refl
      told (Some reply) q = set_other p.slots at k _ (λ e. ne (ap (λ z. Some z) (sym e)))

      go : (o : Option (PlainSlot P T)) → slice_get (settled_from m c o at p).slots k ≡ slice_get p.slots k
      go None = refl
      go (Some q) = told (outcome m q.start q.jobs q.told) q

  -- whether an ask may be served depends on its own slot
  pub serve_other : (f : Spot → Spot) (a : Ask T) (spots : List Spot) (slots : List (PlainSlot P T)) (i : ℕ) → (ask_slot m c a ≡ Some i → ⊥)
      → may_serve m c a (changed_at f i spots) slots ≡ may_serve m c a spots slots
  serve_other f (Submit at t) spots slots i ne = refl
  serve_other f (Settle at) spots slots i ne = ap (λ o. may_tell_at m c o (slice_get slots at)) (changed_other f spots i at (λ e. ne (ap (λ z. Some z) e)))
  serve_other f Finished spots slots i ne = refl

  pub holds_found : (o : Option (Option ℕ)) → holds_job m c o ≡ true → (slot : ℕ) × (o ≡ Some (Some slot))
  holds_found None e = cc
  holds_found (Some None) e = cc
  holds_found (Some (Some slot)) e = (slot, refl)

  ended : Sketch P c → ℕ → ℕ → Sketch P c
  ended w worker slot = record { plain = w.plain; spots = changed_at brought_back slot w.spots; held = set w.held worker None }

  end_is : (w : Sketch P c) (worker slot : ℕ) → slice_get w.held worker ≡ Some (Some slot) → happens m c w (End worker) ≡ ended w worker slot
  unfolding ended
  end_is w worker slot e = ap (λ o. ended_from m c o worker w) e

  script_begin : (w : Sketch P c) (worker slot : ℕ) → may_happen m c w Script ≡ true → may_happen m c (happens m c w Script) (Begin worker slot) ≡ true
      → (ask_slot m c w.plain.hand ≡ Some slot → ⊥) → Commute m c w Script (Begin worker slot)
  script_begin w worker slot serve begin ne =
      let parts = and_parts _ _ begin in
      record {
        first = and_from _ _ parts.0 (ap (may_begin_at m c (slice_get w.spots slot)) (sym (served_other w.plain.hand w.plain slot ne)) ∙ parts.1);
        second = serve_other taken_out w.plain.hand w.spots w.plain.slots slot ne ∙ serve;
        same = refl;
      }

  begin_script : (w : Sketch P c) (worker slot : ℕ) → may_happen m c w (Begin worker slot) ≡ true → may_happen m c (happens m c w (Begin worker slot)) Script ≡ true
      → (ask_slot m c w.plain.hand ≡ Some slot → ⊥) → Commute m c w (Begin worker slot) Script
  begin_script w worker slot begin serve ne =
      let parts = and_parts _ _ begin in
      record {
        first = sym (serve_other taken_out w.plain.hand w.spots w.plain.slots slot ne) ∙ serve;
        second = and_from _ _ parts.0 (ap (may_begin_at m c (slice_get w.spots slot)) (served_other w.plain.hand w.plain slot ne) ∙ parts.1);
        same = refl;
      }

  script_end : (w : Sketch P c) (worker slot : ℕ) → may_happen m c w Script ≡ true → slice_get w.held worker ≡ Some (Some slot)
      → (ask_slot m c w.plain.hand ≡ Some slot → ⊥) → Commute m c w Script (End worker)
  unfolding ended
  script_end w worker slot serve holds ne =
      let is = end_is w worker slot holds in
      let is' = end_is (happens m c w Script) worker slot holds in
      record {
        first = ap (holds_job m c) holds;
        second = ap (λ z. may_serve m c z.plain.hand z.spots z.plain.slots) is ∙ serve_other brought_back w.plain.hand w.spots w.plain.slots slot ne ∙ serve;
        same = ap (λ z. happens m c z Script) is ∙ sym is';
      }

  end_script : (w : Sketch P c) (worker slot : ℕ) → slice_get w.held worker ≡ Some (Some slot) → may_happen m c (happens m c w (End worker)) Script ≡ true
      → (ask_slot m c w.plain.hand ≡ Some slot → ⊥) → Commute m c w (End worker) Script
  unfolding ended
  end_script w worker slot holds serve ne =
      let is = end_is w worker slot holds in
      let is' = end_is (happens m c w Script) worker slot holds in
      record {
        first = sym (serve_other brought_back w.plain.hand w.spots w.plain.slots slot ne) ∙ sym (ap (λ z. may_serve m c z.plain.hand z.spots z.plain.slots) is) ∙ serve;
        second = ap (holds_job m c) holds;
        same = is' ∙ sym (ap (λ z. happens m c z Script) is);
      }

  begin_begin : (w : Sketch P c) (worker slot worker' slot' : ℕ) → may_happen m c w (Begin worker slot) ≡ true → may_happen m c (happens m c w (Begin worker slot)) (Begin worker' slot') ≡ true
      → (worker' ≡ worker → ⊥) → (slot' ≡ slot → ⊥) → Commute m c w (Begin worker slot) (Begin worker' slot')
  begin_begin w worker slot worker' slot' one two actors slots =
      let a = and_parts _ _ one in
      let b = and_parts _ _ two in
      record {
        first = and_from _ _ (ap (holds_nothing m c) (sym (set_other w.held worker worker' (Some slot) actors)) ∙ b.0)
            (ap (λ o. may_begin_at m c o (slice_get w.plain.slots slot')) (sym (changed_other taken_out w.spots slot slot' slots)) ∙ b.1);
        second = and_from _ _ (ap (holds_nothing m c) (set_other w.held worker' worker (Some slot') (λ e. actors (sym e))) ∙ a.0)
            (ap (λ o. may_begin_at m c o (slice_get w.plain.slots slot)) (changed_other taken_out w.spots slot' slot (λ e. slots (sym e))) ∙ a.1);
        same =
            let spots = changed_apart taken_out taken_out w.spots slot slot' slots in
            let held = set_apart w.held worker worker' (Some slot) (Some slot') actors in
            ap (λ s. let z : Sketch P c = record { plain = w.plain; spots = s; held = set (set w.held worker' (Some slot')) worker (Some slot) } in z) spots
            ∙ ap (λ h. let z : Sketch P c = record { plain = w.plain; spots = changed_at taken_out slot' (changed_at taken_out slot w.spots); held = h } in z) held;
      }

  begin_end : (w : Sketch P c) (worker slot worker' slot' : ℕ) → may_happen m c w (Begin worker slot) ≡ true → slice_get w.held worker' ≡ Some (Some slot')
      → (worker' ≡ worker → ⊥) → (slot' ≡ slot → ⊥) → Commute m c w (Begin worker slot) (End worker')
  unfolding ended
  begin_end w worker slot worker' slot' one holds actors slots =
      let a = and_parts _ _ one in
      let w' = happens m c w (Begin worker slot) in
      let is = end_is w worker' slot' holds in
      let is' = end_is w' worker' slot' (set_other w.held worker worker' (Some slot) actors ∙ holds) in
      let spots = changed_apart taken_out brought_back w.spots slot slot' slots in
      let held = set_apart w.held worker worker' (Some slot) None actors in
      record {
        first = ap (holds_job m c) holds;
        second = ap (λ z. may_happen m c z (Begin worker slot)) is
            ∙ and_from _ _ (ap (holds_nothing m c) (set_other w.held worker' worker None (λ e. actors (sym e))) ∙ a.0)
            (ap (λ o. may_begin_at m c o (slice_get w.plain.slots slot)) (changed_other brought_back w.spots slot' slot (λ e. slots (sym e))) ∙ a.1);
        same = ap (λ z. happens m c z (Begin worker slot)) is
            ∙ ap (λ s. let z : Sketch P c = record { plain = w.plain; spots = s; held = set (set w.held worker' None) worker (Some slot) } in z) spots
            ∙ ap (λ h. let z : Sketch P c = record { plain = w.plain; spots = changed_at brought_back slot' (changed_at taken_out slot w.spots); held = h } in z) held
            ∙ sym is';
      }

  end_begin : (w : Sketch P c) (worker slot worker' slot' : ℕ) → slice_get w.held worker ≡ Some (Some slot) → may_happen m c (happens m c w (End worker)) (Begin worker' slot') ≡ true
      → (worker' ≡ worker → ⊥) → (slot' ≡ slot → ⊥) → Commute m c w (End worker) (Begin worker' slot')
  unfolding ended
  end_begin w worker slot worker' slot' holds two actors slots =
      let is = end_is w worker slot holds in
      let b = and_parts _ _ (sym (ap (λ z. may_happen m c z (Begin worker' slot')) is) ∙ two) in
      let w' = happens m c w (Begin worker' slot') in
      let is' = end_is w' worker slot (set_other w.held worker' worker (Some slot') (λ e. actors (sym e)) ∙ holds) in
      let spots = changed_apart brought_back taken_out w.spots slot slot' slots in
      let held = set_apart w.held worker worker' None (Some slot') actors in
      record {
        first = and_from _ _ (ap (holds_nothing m c) (sym (set_other w.held worker worker' None actors)) ∙ b.0)
            (ap (λ o. may_begin_at m c o (slice_get w.plain.slots slot')) (sym (changed_other brought_back w.spots slot slot' slots)) ∙ b.1);
        second = ap (holds_job m c) (set_other w.held worker' worker (Some slot') (λ e. actors (sym e)) ∙ holds);
        same = is'
            ∙ ap (λ s. let z : Sketch P c = record { plain = w.plain; spots = s; held = set (set w.held worker' (Some slot')) worker None } in z) spots
            ∙ ap (λ h. let z : Sketch P c = record { plain = w.plain; spots = changed_at taken_out slot' (changed_at brought_back slot w.spots); held = h } in z) held
            ∙ sym (ap (λ z. happens m c z (Begin worker' slot')) is);
      }

  end_end : (w : Sketch P c) (worker slot worker' slot' : ℕ) → slice_get w.held worker ≡ Some (Some slot) → slice_get w.held worker' ≡ Some (Some slot')
      → (worker' ≡ worker → ⊥) → (slot' ≡ slot → ⊥) → Commute m c w (End worker) (End worker')
  unfolding ended
  end_end w worker slot worker' slot' holds holds' actors slots =
      let is = end_is w worker slot holds in
      let is' = end_is w worker' slot' holds' in
      let then = end_is (ended w worker slot) worker' slot' (set_other w.held worker worker' None actors ∙ holds') in
      let then' = end_is (ended w worker' slot') worker slot (set_other w.held worker' worker None (λ e. actors (sym e)) ∙ holds) in
      let spots = changed_apart brought_back brought_back w.spots slot slot' slots in
      let held = set_apart w.held worker worker' None None actors in
      record {
        first = ap (holds_job m c) holds';
        second = ap (λ z. holds_job m c (slice_get z.held worker)) is' ∙ ap (holds_job m c) (set_other w.held worker' worker None (λ e. actors (sym e)) ∙ holds);
        same = ap (λ z. happens m c z (End worker)) is' ∙ then'
            ∙ ap (λ s. let z : Sketch P c = record { plain = w.plain; spots = s; held = set (set w.held worker' None) worker None } in z) spots
            ∙ ap (λ h. let z : Sketch P c = record { plain = w.plain; spots = changed_at brought_back slot' (changed_at brought_back slot w.spots); held = h } in z) held
            ∙ sym then ∙ sym (ap (λ z. happens m c z (End worker')) is);
      }

  pub neighbours_commute : NeighboursCommute m c
  unfolding ended
  neighbours_commute w Script Script one two actors slots = absurd actors
  neighbours_commute w Script (Begin worker slot) one two actors slots = script_begin w worker slot one two slots
  neighbours_commute w Script (End worker) one two actors slots =
      let holds = holds_found (slice_get w.held worker) two in
      script_end w worker holds.0 one holds.1 (λ e. slots (e ∙ sym (ap (held_slot m c) holds.1)))
  neighbours_commute w (Begin worker slot) Script one two actors slots = begin_script w worker slot one two (λ e. slots (sym e))
  neighbours_commute w (Begin worker slot) (Begin worker' slot') one two actors slots =
      begin_begin w worker slot worker' slot' one two actors (λ e. slots (ap (λ z. Some z) (sym e)))
  neighbours_commute w (Begin worker slot) (End worker') one two actors slots =
      let other = set_other w.held worker worker' (Some slot) actors in
      let holds = holds_found (slice_get (set w.held worker (Some slot)) worker') two in
      begin_end w worker slot worker' holds.0 one (sym other ∙ holds.1) actors (λ e. slots (ap (λ z. Some z) (sym e) ∙ sym (ap (held_slot m c) holds.1)))
  neighbours_commute w (End worker) Script one two actors slots =
      let holds = holds_found (slice_get w.held worker) one in
      let is = end_is w worker holds.0 holds.1 in
      end_script w worker holds.0 holds.1 two (λ e. slots (ap (held_slot m c) holds.1 ∙ sym e ∙ sym (ap (λ z. ask_slot m c z.plain.hand) is)))
  neighbours_commute w (End worker) (Begin worker' slot') one two actors slots =
      let holds = holds_found (slice_get w.held worker) one in
      end_begin w worker holds.0 worker' slot' holds.1 two actors (λ e. slots (ap (held_slot m c) holds.1 ∙ ap (λ z. Some z) (sym e)))
  neighbours_commute w (End worker) (End worker') one two actors slots =
      let holds = holds_found (slice_get w.held worker) one in
      let is = end_is w worker holds.0 holds.1 in
      let other = set_other w.held worker worker' None actors in
      let holds' = holds_found (slice_get (set w.held worker None) worker') (sym (ap (λ z. holds_job m c (slice_get z.held worker')) is) ∙ two) in
      end_end w worker holds.0 worker' holds'.0 holds.1 (sym other ∙ holds'.1) actors
      (λ e. slots (ap (held_slot m c) holds.1 ∙ ap (λ z. Some z) (sym e) ∙ sym (ap (held_slot m c) holds'.1) ∙ sym (ap (λ z. held_slot m c (slice_get z.held worker')) is)))
