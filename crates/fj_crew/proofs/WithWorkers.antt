-- Slots that come back from a crew as they were, and slots that a script was served on.
use Rattle.std.proofs.Common.{◌≡◌, ℕ, ◌+◌, ◌<◌, ◌≤◌, ◌^◌, length, Some, slice_get, sym, ap, ◌∙◌, subst, arith, length-append}
use Rattle.std.proofs.lemmas.Option.{slice_get_within}
use Rattle.fj_slot.specs.Ledger.{Ledger}
use Rattle.fj_world.specs.Conduct.{Conduct}
use Rattle.fj_world.specs.Alone.{OwesAsSaid}
use Rattle.fj_world.specs.Keeping.{GoesOn, AllGoOn}
use Rattle.fj_world.specs.Rack.{Rack, At}
use Rattle.fj_world.proofs.Places.{slice_get_in}
use Rattle.fj_crew.specs.Plan.{NumbersGoOn, SameNumbers}

module _ {G J A : Type 0} where
  more_jobs : (l l' : Ledger G J A) → GoesOn l l' → length l.jobs ≤ length l'.jobs
  more_jobs l l' goes = let long : length l'.jobs ≡ length l.jobs + length goes.more = ap length goes.jobs ∙ length-append l.jobs goes.more in omega (arith, long)

  pub numbers_of : (old new : Rack G J A) → AllGoOn old new → NumbersGoOn old new
  numbers_of old new a = record {
    long = a.same;
    spare = a.spare;
    each = λ k l l' e e'. let goes = a.each k l l' e e' in (goes.start, more_jobs l l' goes, goes.told);
  }

  -- what stands at a place behind stood there before
  before : (old mid : Rack G J A) → SameNumbers old mid → (k : ℕ) (l' : Ledger G J A) → slice_get mid.slots k ≡ Some l' → (l : Ledger G J A) × (slice_get old.slots k ≡ Some l)
  before old mid same k l' e = let inside = slice_get_within mid.slots k l' e in slice_get_in old.slots k (omega (arith, inside, same.long))

  pub numbers_on : (old mid new : Rack G J A) → SameNumbers old mid → NumbersGoOn mid new → NumbersGoOn old new
  numbers_on old mid new same n = record {
    long = n.long ∙ same.long;
    spare = n.spare ∙ same.spare;
    each = λ k l l' e e'.
        let inside = slice_get_within old.slots k l e in
        let between = slice_get_in mid.slots k (omega (arith, inside, same.long)) in
        let s = same.each k l between.0 e between.1 in
        let x = n.each k between.0 l' between.1 e' in
        (x.0 ∙ s.0, omega (arith, s.1, x.1), omega (arith, s.2, x.2));
  }

  pub few_same : (old mid : Rack G J A) (left left' : ℕ) → SameNumbers old mid → left' ≡ left → ((at : ℕ) → At old at (λ l. length l.jobs + left < 2 ^ 62))
      → (at : ℕ) → At mid at (λ l. length l.jobs + left' < 2 ^ 62)
  few_same old mid left left' same is few at l' e =
      let was = before old mid same at l' e in
      let s = same.each at was.0 l' was.1 e in
      let h = few at was.0 was.1 in
      omega (arith, s.1, is, h)

module _ {S G J A T R : Type 0} (c : Conduct S T R) where
  owes_as : (script : S) (old mid : Rack G J A) → SameNumbers old mid → OwesAsSaid c script old → OwesAsSaid c script mid
  owes_as script old mid same owes at l' used e =
      let was = before old mid same at l' e in
      let s = same.each at was.0 l' was.1 e in
      let h = owes at was.0 used was.1 in
      omega (arith, s.1, s.2, h)

  pub owes_same : (script script' : S) (old mid : Rack G J A) → SameNumbers old mid → script' ≡ script → OwesAsSaid c script old → OwesAsSaid c script' mid
  owes_same script script' old mid same is owes = subst (λ (x : S). OwesAsSaid c x mid) (sym is) (owes_as script old mid same owes)
