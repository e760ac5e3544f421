-- Two new slots.
use Rattle.std.proofs.Common.{◌≡◌, ℕ, zero, suc, ◌+◌, ◌<◌, ◌≤◌, ◌^◌, true, List, [], ◌∷◌, length, Some, is_some, slice_get, refl, subst, ap, arith}
use Rattle.fj_slot.specs.Serving.{Meaning}
use Rattle.fj_slot.specs.Ledger.{Ledger, fresh}
use Rattle.fj_slot.specs.Sound.{IsCounted}
use Rattle.fj_slot.proofs.Counted.{counted_fresh}

module _ {E J A : Type 0} where
  abbrev pub AreNew : List (Ledger E J A) → E → E → Type 0
  AreNew slots a b = slots ≡ fresh a ∷ fresh b ∷ []

  new_at : (P : Ledger E J A → Type 0) (a b : E) → P (fresh a) → P (fresh b) → (k : ℕ) (l : Ledger E J A) → slice_get (fresh a ∷ fresh b ∷ []) k ≡ Some l → P l
  new_at P a b x y zero l e = let is : fresh a ≡ l = cc in subst P is x
  new_at P a b x y (suc zero) l e = let is : fresh b ≡ l = cc in subst P is y
  new_at P a b x y (suc (suc k)) l e = absurd (cc)

  each_new : (P : Ledger E J A → Type 0) (slots : List (Ledger E J A)) (a b : E) → AreNew slots a b → P (fresh a) → P (fresh b) → (k : ℕ) (l : Ledger E J A) → slice_get slots k ≡ Some l → P l
  each_new P slots a b new x y k l e = new_at P a b x y k l (subst (λ z. slice_get z k ≡ Some l) new e)

  pub new_few : (slots : List (Ledger E J A)) (a b : E) → AreNew slots a b → (n : ℕ) → n < 2 ^ 34 → (k : ℕ) (l : Ledger E J A) → slice_get slots k ≡ Some l → length l.jobs + n < 2 ^ 62
  new_few slots a b new n few = each_new (λ l. length l.jobs + n < 2 ^ 62) slots a b new (omega (arith, few)) (omega (arith, few))

  pub new_owed : (slots : List (Ledger E J A)) (a b : E) → AreNew slots a b → (owed : ℕ) → owed ≡ 0 → (k : ℕ) (l : Ledger E J A) → slice_get slots k ≡ Some l → l.told + owed ≡ length l.jobs
  new_owed slots a b new owed none = each_new (λ l. l.told + owed ≡ length l.jobs) slots a b new (omega (arith, none)) (omega (arith, none))

  pub new_home : (slots : List (Ledger E J A)) (a b : E) → AreNew slots a b → (k : ℕ) (l : Ledger E J A) → slice_get slots k ≡ Some l → is_some l.home ≡ true
  new_home slots a b new = each_new (λ l. is_some l.home ≡ true) slots a b new refl refl

  pub new_two : (slots : List (Ledger E J A)) (a b : E) → AreNew slots a b → 2 ≤ length slots
  new_two slots a b new = omega (arith, ap length new)

module _ {E J A P T R : Type 0} {m : Meaning E J A P T R} where
  pub new_counted : (slots : List (Ledger E J A)) (a b : E) → AreNew slots a b → (k : ℕ) (l : Ledger E J A) → slice_get slots k ≡ Some l → IsCounted m l
  new_counted slots a b new = each_new (IsCounted m) slots a b new (counted_fresh m a) (counted_fresh m b)
