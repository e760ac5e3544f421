-- A job that is carried out at a slot.
use Rattle.std.proofs.Common.{◌≡◌, ℕ, zero, suc, ◌+◌, ◌<◌, List, [], ◌∷◌, ◌++◌, length, Option, Some, None, slice_get, set, refl, sym, ap, ◌∙◌, subst, inl, inr, arith}
use Rattle.std.proofs.lemmas.List.{length-append}
use Rattle.std.proofs.lemmas.Bool.Decides.{eqb_tells}
use Rattle.fj_bay.specs.Bay.{Bay}
use Rattle.fj_bay.specs.Jobs.{Job}
use Rattle.fj_bay.specs.Serving.{serve}
use Rattle.fj_meaning_jobs.specs.Core.{Pending}
use Rattle.fj_meaning_jobs.specs.Desks.{Desk, outcome_on, carried, carry_at, carry, outcome_at, outcome, log_at, log_length}
use Rattle.fj_meaning_jobs.specs.Forgetting.{bay_at}
use Rattle.fj_meaning_jobs.proofs.Apart.{Each}

-- ---- lists

set_other : {X : Type 0} → (xs : List X) (i k : ℕ) (v : X) → (k ≡ i → ⊥) → slice_get (set xs i v) k ≡ slice_get xs k
set_other [] zero zero v ne = refl
set_other [] zero (suc k) v ne = refl
set_other [] (suc i) zero v ne = refl
set_other [] (suc i) (suc k) v ne = refl
set_other (y ∷ xs) zero zero v ne = absurd (ne refl)
set_other (y ∷ xs) zero (suc k) v ne = refl
set_other (y ∷ xs) (suc i) zero v ne = refl
set_other (y ∷ xs) (suc i) (suc k) v ne = set_other xs i k v (λ q. ne (ap suc q))

set_found : {X : Type 0} → (xs : List X) (k : ℕ) (v x : X) → slice_get xs k ≡ Some x → slice_get (set xs k v) k ≡ Some v
set_found [] zero v x e = cc
set_found [] (suc k) v x e = cc
set_found (y ∷ xs) zero v x e = refl
set_found (y ∷ xs) (suc k) v x e = set_found xs k v x e

length_set : {X : Type 0} → (xs : List X) (k : ℕ) (v : X) → length (set xs k v) ≡ length xs
length_set [] k v = refl
length_set (y ∷ xs) zero v = refl
length_set (y ∷ xs) (suc k) v = ap suc (length_set xs k v)

get_front : {X : Type 0} → (xs ys : List X) (k : ℕ) → k < length xs → slice_get (xs ++ ys) k ≡ slice_get xs k
get_front [] ys k h = absurd (omega (arith, h))
get_front (x ∷ xs) ys zero h = refl
get_front (x ∷ xs) ys (suc k) h = get_front xs ys k (omega (arith, h))

get_last : {X : Type 0} → (xs : List X) (x : X) → slice_get (xs ++ x ∷ []) (length xs) ≡ Some x
get_last [] x = refl
get_last (y ∷ xs) x = get_last xs x

-- ---- desks that come later give what the logs gave

pub record Later (desks behind : List Desk) : Type 0 where
  pub keeps : (k n : ℕ) → n < log_length (slice_get desks k) → log_at (slice_get behind k) n ≡ log_at (slice_get desks k) n
  pub grows : (k n : ℕ) → n < log_length (slice_get desks k) → n < log_length (slice_get behind k)
  pub long : length behind ≡ length desks

pub later_same : (desks : List Desk) → Later desks desks
later_same desks = record { keeps = λ k n h. refl; grows = λ k n h. h; long = refl }

pub later_then : (a b c : List Desk) → Later a b → Later b c → Later a c
later_then a b c h k = record {
  keeps = λ j n l. k.keeps j n (h.grows j n l) ∙ h.keeps j n l;
  grows = λ j n l. k.grows j n (h.grows j n l);
  long = k.long ∙ h.long;
}

carried_there : (desks : List Desk) (slot : ℕ) (job : Job) (d : Desk) → slice_get desks slot ≡ Some d → slice_get (carry desks slot job) slot ≡ Some (carried d job)
carried_there desks slot job d e = ap (λ o. slice_get (carry_at o desks slot job) slot) e ∙ set_found desks slot (carried d job) d e

pub carry_other : (desks : List Desk) (slot : ℕ) (job : Job) (k : ℕ) → (k ≡ slot → ⊥) → slice_get (carry desks slot job) k ≡ slice_get desks k
carry_other desks slot job k ne = by (slice_get desks slot)
  where
    by : (o : Option Desk) → slice_get (carry_at o desks slot job) k ≡ slice_get desks k
    by None = refl
    by (Some d) = set_other desks slot k (carried d job) ne

later_here : (desks : List Desk) (slot : ℕ) (job : Job) (d : Desk) → slice_get desks slot ≡ Some d → Later desks (carry desks slot job)
later_here desks slot job d e =
    let there = carried_there desks slot job d e in
    let longer : length (carried d job).log ≡ length d.log + 1 = length-append d.log (outcome_on d.bay job ∷ []) in
    record {
      keeps = λ k n h. elim (eqb_tells k slot) [
        | inl a ↦ keeps_here n there (subst (λ o. n < log_length o) e (subst (λ j. n < log_length (slice_get desks j)) a.1 h)) k a.1
        | inr a ↦ ap (λ o. log_at o n) (carry_other desks slot job k a.1)
      ];
      grows = λ k n h. elim (eqb_tells k slot) [
        | inl a ↦ subst (λ j. n < log_length (slice_get (carry desks slot job) j)) (sym a.1) (subst (λ o. n < log_length o) (sym there)
            (omega (arith, longer, subst (λ o. n < log_length o) e (subst (λ j. n < log_length (slice_get desks j)) a.1 h))))
        | inr a ↦ subst (λ o. n < log_length o) (sym (carry_other desks slot job k a.1)) h
      ];
      long = ap (λ o. length (carry_at o desks slot job)) e ∙ length_set desks slot (carried d job);
    }
  where
    keeps_here : (n : ℕ) → slice_get (carry desks slot job) slot ≡ Some (carried d job) → n < length d.log → (k : ℕ) → k ≡ slot
        → log_at (slice_get (carry desks slot job) k) n ≡ log_at (slice_get desks k) n
    keeps_here n there h k same =
        ap (λ j. log_at (slice_get (carry desks slot job) j) n) same ∙ ap (λ o. log_at o n) there ∙ get_front d.log (outcome_on d.bay job ∷ []) n h
        ∙ sym (ap (λ j. log_at (slice_get desks j) n) same ∙ ap (λ o. log_at o n) e)

pub carry_later : (desks : List Desk) (slot : ℕ) (job : Job) → Later desks (carry desks slot job)
carry_later desks slot job = by (slice_get desks slot) refl
  where
    by : (o : Option Desk) → slice_get desks slot ≡ o → Later desks (carry desks slot job)
    by None e = subst (λ ds. Later desks ds) (sym (ap (λ o. carry_at o desks slot job) e)) (later_same desks)
    by (Some d) e = later_here desks slot job d e

-- ---- at one slot

-- the slot has this bay then, and nothing else is different but for logs
pub record Reaches (desks behind : List Desk) (slot : ℕ) (bay : Bay) : Type 0 where
  pub others : (k : ℕ) → (k ≡ slot → ⊥) → slice_get behind k ≡ slice_get desks k
  pub here : bay_at (slice_get behind slot) ≡ Some bay
  pub later : Later desks behind

pub reaches_then : (a b c : List Desk) (slot : ℕ) (x y : Bay) → Reaches a b slot x → Reaches b c slot y → Reaches a c slot y
reaches_then a b c slot x y h k = record { others = λ j ne. k.others j ne ∙ h.others j ne; here = k.here; later = later_then a b c h.later k.later }

-- what a job does at a slot with this bay
pub record Serves (desks : List Desk) (slot : ℕ) (job : Job) (bay : Bay) : Type 0 where
  pub reaches : Reaches desks (carry desks slot job) slot (serve bay job).engine
  pub outcome_is : outcome desks slot job ≡ outcome_on bay job
  pub logged : log_at (slice_get (carry desks slot job) slot) (log_length (slice_get desks slot)) ≡ Some (outcome_on bay job)
  pub longer : log_length (slice_get desks slot) < log_length (slice_get (carry desks slot job) slot)

pub serves_at : (desks : List Desk) (slot : ℕ) (job : Job) (bay : Bay) → bay_at (slice_get desks slot) ≡ Some bay → Serves desks slot job bay
serves_at desks slot job bay e = by (slice_get desks slot) refl e
  where
    found : (d : Desk) → slice_get desks slot ≡ Some d → Serves desks slot job d.bay
    found d f =
        let there = carried_there desks slot job d f in
        record {
          reaches = record { others = carry_other desks slot job; here = ap bay_at there; later = carry_later desks slot job };
          outcome_is = ap (λ o. outcome_at o job) f;
          logged = ap (λ o. log_at o (log_length (slice_get desks slot))) there ∙ ap (λ o. slice_get (carried d job).log (log_length o)) f ∙ get_last d.log (outcome_on d.bay job);
          longer = subst (λ o. log_length (slice_get desks slot) < log_length o) (sym there)
              (subst (λ o. log_length o < length (carried d job).log) (sym f) (omega (arith, length-append d.log (outcome_on d.bay job ∷ []))));
        }

    by : (o : Option Desk) → slice_get desks slot ≡ o → bay_at o ≡ Some bay → Serves desks slot job bay
    by None f e = cc
    by (Some d) f e = let same : d.bay ≡ bay = cc in subst (λ b. Serves desks slot job b) same (found d f)

-- pending transfers have their jobs in the logs
abbrev pub Placed : List Desk → List Pending → Type 0
Placed desks book = Each (λ (e : Pending). e.number < log_length (slice_get desks e.slot)) book
