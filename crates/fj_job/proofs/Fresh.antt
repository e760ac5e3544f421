-- Slots that have no jobs yet.
use Rattle.std.proofs.Common.{◌≡◌, ℕ, zero, suc, ◌+◌, ◌<◌, ◌^◌, List, [], ◌∷◌, All, length, replicate, get_or, map, Option, Some, None, false, slice_get, unwrap_or, refl, ap, sym, ◌∙◌, subst, arith}
use Rattle.std.proofs.lemmas.List.Elements.{All-head, All-tail}
use Rattle.fj_slot.specs.Ledger.{Ledger}
use Rattle.fj_slot.specs.Serving.{Meaning}
use Rattle.fj_slot.specs.Sound.{IsSound}
use Rattle.fj_bay.specs.Bay.{Bay}
use Rattle.fj_bay.specs.Jobs.{Job, Answer}
use Rattle.fj_world.specs.Fits.{SlotsFit, SlotFits}
use Rattle.fj_world.specs.Plain.{PlainSlot}
use Rattle.fj_world.specs.Rack.{Rack}
use Rattle.fj_meaning_turns.specs.Serving.{fresh_slots}
use Rattle.fj_job.specs.Carrying.{IsFresh, AreFresh}

all_at : {X : Type 0} (P : X → Type 0) (xs : List X) → All P xs → (i : ℕ) (x : X) → slice_get xs i ≡ Some x → P x
all_at P [] all i x e = cc
all_at P (y ∷ ys) all zero x e = subst P (ap (λ (o : Option _). unwrap_or o y) e) (All-head P y ys all)
all_at P (y ∷ ys) all (suc i) x e = all_at P ys (All-tail P y ys all) i x e

pub owes_nothing : (n at : ℕ) → (let none : List ℕ = replicate n 0 in get_or none at 0) ≡ 0
owes_nothing zero at = refl
owes_nothing (suc n) zero = refl
owes_nothing (suc n) (suc at) = owes_nothing n at

some_same : {X : Type 0} {x y : X} → Some x ≡ Some y → x ≡ y
some_same e = cc

no_jobs : (ts : List Job) → map Some ts ≡ [] → ts ≡ []
no_jobs [] e = refl
no_jobs (t ∷ ts) e = cc

module _ {E J A : Type 0} (m : Meaning E J A Bay Job Answer) (rack : Rack E J A) (fresh : AreFresh m rack.slots) where
  pub fresh_at : (at : ℕ) (l : Ledger E J A) → slice_get rack.slots at ≡ Some l → IsFresh m l
  fresh_at at l e = all_at (IsFresh m) rack.slots fresh.each at l e

  pub few : (left : ℕ) → left < 2 ^ 62 → (at : ℕ) (l : Ledger E J A) → slice_get rack.slots at ≡ Some l → length l.jobs + left < 2 ^ 62
  few left h at l e = rw (fresh_at at l e).jobs (omega (arith, h))

  pub owed : (owed : List ℕ) → owed ≡ replicate 16 0 → (at : ℕ) (l : Ledger E J A) → slice_get rack.slots at ≡ Some l → l.told + get_or owed at 0 ≡ length l.jobs
  owed os h at l e =
      let none : get_or os at 0 ≡ 0 = ap (λ (xs : List ℕ). get_or xs at 0) h ∙ owes_nothing 16 at in
      rw ((fresh_at at l e).jobs, (fresh_at at l e).told) (omega arith)

  abbrev empty_slot : PlainSlot Bay Job
  empty_slot = record { start = record { connection = None; halt = None }; jobs = []; told = 0 }

  plain_slots : (n : ℕ) (at : ℕ) (q : PlainSlot Bay Job) → slice_get (replicate n empty_slot) at ≡ Some q → q ≡ empty_slot
  plain_slots zero at q e = cc
  plain_slots (suc n) zero q e = ap (λ (o : Option (PlainSlot Bay Job)). unwrap_or o q) (sym e)
  plain_slots (suc n) (suc at) q e = plain_slots n at q e

  fits_fresh : (q : PlainSlot Bay Job) (l : Ledger E J A) → q ≡ empty_slot → IsFresh m l → SlotFits m false q l
  fits_fresh q l e f = subst (λ (x : PlainSlot Bay Job). SlotFits m false x l) (sym e) (record {
    sound = f.sound;
    told = λ _. f.told;
    done = omega arith;
  })

  pub fit : SlotsFit m fresh_slots rack
  fit = record {
    same = sym fresh.sixteen;
    each = λ at q l e h. fits_fresh q l (plain_slots 16 at q e) (fresh_at at l h);
  }

  -- what the starting engine and the jobs tell is what the slot began with
  pub sound_fresh : (at : ℕ) (l : Ledger E J A) → slice_get rack.slots at ≡ Some l → (s : Bay) (ts : List Job) → m.state l.start ≡ Some s → map m.task l.jobs ≡ map Some ts → IsSound m s ts l
  sound_fresh at l e s ts is jobs =
      let f = fresh_at at l e in
      let same : (record { connection = None; halt = None }) ≡ s = some_same (sym f.sound.start ∙ is) in
      let none : ts ≡ [] = no_jobs ts (sym jobs ∙ ap (map m.task) f.jobs) in
      subst (λ (x : Bay). IsSound m x ts l) same (subst (λ (x : List Job). IsSound m (record { connection = None; halt = None }) x l) (sym none) f.sound)
