-- Each turn of a script that is served on one thread.
use Rattle.std.proofs.Common.{◌≡◌, ℕ, zero, suc, ◌+◌, ◌-◌, ◌<◌, ◌≤◌, true, false, cond, List, [], ◌∷◌, length, Some, is_some, slice_get, set, Result, Ok, Err, IfOk, OnErr, refl, sym, ap, ◌∙◌, subst, inl, inr, arith}
use Rattle.std.proofs.lemmas.List.{length-append}
use Rattle.std.proofs.lemmas.Bool.{eq-eqb, ne_eqb}
use Rattle.std.proofs.lemmas.Option.{slice_get_within}
use Rattle.fj_slot.specs.declared.told.Refused.{Refused}
use Rattle.fj_slot.specs.declared.told.Told.{Told}
use Rattle.fj_slot.specs.Ledger.{Ledger, with_job, with_tell}
use Rattle.fj_world.specs.declared.ask.Ask.{Ask}
use Rattle.fj_world.specs.declared.ask.Ask.TheVariants.{Settle}
use Rattle.fj_world.specs.declared.busy.Busy.{Busy}
use Rattle.fj_slot.specs.Serving.{Meaning}
use Rattle.fj_world.specs.Conduct.{Conduct, Asks, Takes, Tells, Submitting, Settling, owed_after_submit, owed_after_settle}
use Rattle.fj_world.specs.Rack.{Rack}
use Rattle.fj_world.specs.Scene.{Scene, IsOrderly}
use Rattle.fj_world.specs.Plain.{Plain, after}
use Rattle.fj_world.specs.Fits.{Fits, Advances}
use Rattle.fj_world.specs.Alone.{Settles, AllHome, OwesAsSaid}
use Rattle.fj_world.proofs.Places.{slice_get_set, set_same, set_twice}
use Rattle.fj_world.proofs.Fitting.{changed_fits, settle_advances}
use Rattle.fj_world.proofs.Runs.{after_next}

module _ {S G J A P T R : Type 0} (m : Meaning G J A P T R) (c : Conduct S T R) where
  -- the script with its ask at hand, and no workers
  pub alone_scene : S → Ask J → Rack G J A → Scene S G J A P T R
  alone_scene script hand rack = record { start = script; script = script; hand = hand; rack = rack; workers = [] }

  pub alone_orderly : (script mid new : S) (hand hand' : Ask J) (rack rack' : Rack G J A)
      → IsOrderly m c (record { start = script; script = script; hand = hand; rack = rack; workers = [] })
      → length rack'.slots ≡ length rack.slots
      → ((at : ℕ) (l' : Ledger G J A) → slice_get rack'.slots at ≡ Some l' → (l : Ledger G J A) × (slice_get rack.slots at ≡ Some l) × (length l'.jobs ≤ length l.jobs + 1))
      → c.left mid < c.left script → c.uses mid ≡ c.uses script → Asks m c mid hand' new
      → IsOrderly m c (record { start = new; script = new; hand = hand'; rack = rack'; workers = [] })
  alone_orderly script mid new hand hand' rack rack' h long few left uses asks = record {
    due = asks.due;
    keeps_to = asks.keeps_to;
    ends = asks.ends;
    uses = omega (arith, h.uses, uses, asks.uses, long);
    few = λ at l' e. let was = few at l' e in omega (arith, h.few at was.0 was.1, was.2, asks.left, left);
    held = λ k busy e. absurd (none k busy e);
    apart = λ k n one other ek en same. absurd (none k one ek);
  }
    where
      none : (k : ℕ) (busy : Busy G J A P T R) → slice_get [] k ≡ Some (Some busy) → ⊥
      none zero busy e = cc
      none (suc k) busy e = cc

  -- the jobs of the slots, after one slot was changed
  pub set_few : (slots slots' : List (Ledger G J A)) (at : ℕ) (l v : Ledger G J A) → slice_get slots at ≡ Some l → slots' ≡ set slots at v → length v.jobs ≤ length l.jobs + 1
      → (k : ℕ) (l' : Ledger G J A) → slice_get slots' k ≡ Some l' → (x : Ledger G J A) × (slice_get slots k ≡ Some x) × (length l'.jobs ≤ length x.jobs + 1)
  set_few slots slots' at l v found is few k l' e =
      elim (slice_get_set slots at k v l' (subst (λ s. slice_get s k ≡ Some l') is e)) [
        | inl a ↦ (l, ap (slice_get slots) a.0 ∙ found, subst (λ z. length z.jobs ≤ length l.jobs + 1) (sym a.1) few)
        | inr a ↦ (l', a.1, omega arith)
      ]

  pub set_home : (slots slots' : List (Ledger G J A)) (at : ℕ) (v : Ledger G J A) → slots' ≡ set slots at v → is_some v.home ≡ true
      → ((k : ℕ) (l : Ledger G J A) → slice_get slots k ≡ Some l → is_some l.home ≡ true)
      → (k : ℕ) (l : Ledger G J A) → slice_get slots' k ≡ Some l → is_some l.home ≡ true
  set_home slots slots' at v is home all k l e =
      elim (slice_get_set slots at k v l (subst (λ s. slice_get s k ≡ Some l) is e)) [
        | inl a ↦ subst (λ z. is_some z.home ≡ true) (sym a.1) home
        | inr a ↦ all k l a.1
      ]

  -- what the script is owed, after a submit and after a settle
  pub owes_submit : (script mid new : S) (hand : Ask J) (rack rack' : Rack G J A) (at n : ℕ) (l : Ledger G J A) (job : J)
      → OwesAsSaid c script rack → c.due script ≡ Submitting at → slice_get rack.slots at ≡ Some l → rack'.slots ≡ set rack.slots at (with_job l job)
      → Takes {J = J} c script (Ok n) mid → Asks m c mid hand new → OwesAsSaid c new rack'
  owes_submit script mid new hand rack rack' at n l job owes due found is takes asks k l' used e =
      let same : c.owed new k ≡ owed_after_submit (Submitting at) (c.owed script) k =
      asks.owed k ∙ takes.owed k ∙ ap (λ d. owed_after_submit d (c.owed script) k) due in
      let used' : k < c.uses script = omega (arith, used, takes.uses, asks.uses) in
      elim (slice_get_set rack.slots at k (with_job l job) l' (subst (λ s. slice_get s k ≡ Some l') is e)) [
        | inl a ↦
            let one : c.owed new k ≡ c.owed script k + 1 = same ∙ ap (λ b. cond b (c.owed script k + 1) (c.owed script k)) (eq-eqb k at a.0) in
            let was = owes k l used' (ap (slice_get rack.slots) a.0 ∙ found) in
            subst (λ z. z.told + c.owed new k ≡ length z.jobs) (sym a.1) (omega (arith, one, was, length-append l.jobs (job ∷ [])))
        | inr a ↦
            let none : c.owed new k ≡ c.owed script k = same ∙ ap (λ b. cond b (c.owed script k + 1) (c.owed script k)) (ne_eqb k at a.0) in
            omega (arith, none, owes k l' used' a.1)
      ]

  pub owes_settle : (script mid new : S) (hand : Ask J) (rack rack' : Rack G J A) (at : ℕ) (l v : Ledger G J A) (it : Told G J A P T R)
      → OwesAsSaid c script rack → c.due script ≡ Settling at → 0 < c.owed script at → slice_get rack.slots at ≡ Some l → rack'.slots ≡ set rack.slots at (with_tell v)
      → v.told ≡ l.told → v.jobs ≡ l.jobs
      → Tells m c script it mid → Asks m c mid hand new → OwesAsSaid c new rack'
  owes_settle script mid new hand rack rack' at l v it owes due some found is told jobs tells asks k l' used e =
      let same : c.owed new k ≡ owed_after_settle (Settling at) (c.owed script) k =
      asks.owed k ∙ tells.owed k ∙ ap (λ d. owed_after_settle d (c.owed script) k) due in
      let used' : k < c.uses script = omega (arith, used, tells.uses, asks.uses) in
      elim (slice_get_set rack.slots at k (with_tell v) l' (subst (λ s. slice_get s k ≡ Some l') is e)) [
        | inl a ↦
            let one : c.owed new k ≡ c.owed script k - 1 = same ∙ ap (λ b. cond b (c.owed script k - 1) (c.owed script k)) (eq-eqb k at a.0) in
            let some' : 0 < c.owed script k = subst (λ n. 0 < c.owed script n) (sym a.0) some in
            let was = owes k l used' (ap (slice_get rack.slots) a.0 ∙ found) in
            subst (λ z. z.told + c.owed new k ≡ length z.jobs) (sym a.1) (omega (arith, one, was, told, ap length jobs, some'))
        | inr a ↦
            let none : c.owed new k ≡ c.owed script k = same ∙ ap (λ b. cond b (c.owed script k - 1) (c.owed script k)) (ne_eqb k at a.0) in
            omega (arith, none, owes k l' used' a.1)
      ]

  -- a settle, with the jobs in front performed first
  pub settle_alone : (p : Plain P c) (script mid new : S) (hand hand' : Ask J) (rack rack' : Rack G J A) (at : ℕ) (l : Ledger G J A) (it : Told G J A P T R)
      → Fits m c p (record { start = script; script = script; hand = hand; rack = rack; workers = [] })
      → c.over script ≡ false → hand ≡ Settle at → slice_get rack.slots at ≡ Some l
      → Settles m rack at l it rack'
      → Tells m c script it mid → Asks m c mid hand' new
      → Advances m c p (record { start = script; script = new; hand = hand'; rack = rack'; workers = [] })
  settle_alone p script mid new hand hand' rack rack' at l it fits going is found settles tells asks =
      let v = settles.ledger in
      let rack1 : Rack G J A = record { slots = set rack.slots at v; spare = rack.spare } in
      let inside = slice_get_within rack.slots at l found in
      let served = changed_fits m c p (record { start = script; script = script; hand = hand; rack = rack; workers = [] }) script hand rack1 [] at l v fits found refl settles.serves.start (λ e. e)
      (λ q e. let fit = fits.slots at q l e found in record { sound = settles.serves.sound q.start q.jobs fit.sound; told = λ o. settles.serves.told ∙ fit.told o; done = let was = fit.done in omega (arith, settles.serves.done, was) })
      fits.script (λ e. absurd (let o = (fits.stop e).over in cc)) (λ k busy e. inl e) in
      settle_advances m c p (record { start = script; script = script; hand = hand; rack = rack1; workers = [] }) mid new hand' rack' at v it
      served going is (set_same rack.slots at v inside) settles.ready settles.tells
      (settles.after ∙ sym (set_twice rack.slots at v (with_tell v))) tells asks

  -- one turn more
  pub turns : (p : Plain P c) (script : S) (w : Scene S G J A P T R) (n : ℕ) → Advances m c (after m c n p) w → (k : ℕ) × Fits m c (after m c k p) w
  turns p script w n (inl fits) = (suc n, subst (λ q. Fits m c q w) (sym (after_next m c n p)) fits)
  turns p script w n (inr over) = (n, over.1)

  pub restart : (p : Plain P c) (start start' : S) (script : S) (hand : Ask J) (rack : Rack G J A)
      → Fits m c p (record { start = start; script = script; hand = hand; rack = rack; workers = [] })
      → Fits m c p (record { start = start'; script = script; hand = hand; rack = rack; workers = [] })
  restart p start start' script hand rack fits = record { script = fits.script; stop = fits.stop; same_slots = fits.same_slots; slots = fits.slots; held = fits.held }

  pub submit_owed : (script mid new : S) (hand : Ask J) (rack rack' : Rack G J A) (at : ℕ) (number : Result ℕ (Refused J)) (l : Ledger G J A) (job : J)
      → OwesAsSaid c script rack → c.due script ≡ Submitting at → slice_get rack.slots at ≡ Some l
      → IfOk number (λ _. rack'.slots ≡ set rack.slots at (with_job l job))
      → OnErr number (rack' ≡ rack) → Takes c script number mid → Asks m c mid hand new → OwesAsSaid c new rack'
  submit_owed script mid new hand rack rack' at (Ok n) l job owes due found is err takes asks = owes_submit script mid new hand rack rack' at n l job owes due found is takes asks
  submit_owed script mid new hand rack rack' at (Err e) l job owes due found is err takes asks = λ k l' used e'.
      let was = owes k l' (omega (arith, used, takes.uses, asks.uses)) (ap (λ r. slice_get r.slots k) (sym err) ∙ e') in
      omega (arith, was, asks.owed k, takes.owed k)

  pub submit_home : (rack rack' : Rack G J A) (at : ℕ) (number : Result ℕ (Refused J)) (l : Ledger G J A) (job : J)
      → AllHome rack → slice_get rack.slots at ≡ Some l
      → IfOk number (λ _. rack'.slots ≡ set rack.slots at (with_job l job)) → OnErr number (rack' ≡ rack) → AllHome rack'
  submit_home rack rack' at (Ok n) l job home found is err = set_home rack.slots rack'.slots at (with_job l job) is (home at l found) home
  submit_home rack rack' at (Err e) l job home found is err = subst (λ r. AllHome r) (sym err) home
