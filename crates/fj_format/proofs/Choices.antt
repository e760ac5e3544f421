-- Facts of tests, and of what they choose.
use Rattle.std.proofs.Common.{ℕ, ◌≡◌, ◌<◌, ◌≤◌, Bool, true, false, cond, ◌⊎◌, inl, inr, refl, arith, nat_lt, nat_le, eqb}
use Rattle.std.proofs.lemmas.Bool.Decides.{nat_tests}

pub into_true : {X : Type 0} (P : X → Type 0) (b : Bool) (x y : X) → b ≡ true → P x → P (cond b x y)
into_true P true x y e p = p
into_true P false x y e p = cc

pub into_false : {X : Type 0} (P : X → Type 0) (b : Bool) (x y : X) → b ≡ false → P y → P (cond b x y)
into_false P false x y e p = p
into_false P true x y e p = cc

pub either : {X : Type 0} (P : X → Type 0) (b : Bool) (x y : X) → P (cond b x y) → ((b ≡ true) × P x) ⊎ ((b ≡ false) × P y)
either P true x y p = inl (refl, p)
either P false x y p = inr (refl, p)

pub choose_by : {X : Type 0} (P : X → Type 0) (b : Bool) (x y : X) → (b ≡ true → P x) → (b ≡ false → P y) → P (cond b x y)
choose_by P true x y f g = f refl
choose_by P false x y f g = g refl

pub within_test : (m n : ℕ) → m ≤ n → nat_le m n ≡ true
within_test m n h = grind (arith, nat_tests)

pub at_most : (m n : ℕ) → nat_le m n ≡ true → m ≤ n
at_most m n h = grind (arith, nat_tests)

pub below : (m n : ℕ) → m < n → nat_lt m n ≡ true
below m n h = grind (arith, nat_tests)

pub less : (m n : ℕ) → nat_lt m n ≡ true → m < n
less m n h = grind (arith, nat_tests)

pub not_below : (m n : ℕ) → n ≤ m → nat_lt m n ≡ false
not_below m n h = grind (arith, nat_tests)

pub not_less : (m n : ℕ) → nat_lt m n ≡ false → n ≤ m
not_less m n h = grind (arith, nat_tests)

pub is_zero : (n : ℕ) → eqb n 0 ≡ true → n ≡ 0
is_zero n h = grind (arith, nat_tests)

pub not_zero : (n : ℕ) → eqb n 0 ≡ false → 1 ≤ n
not_zero n h = grind (arith, nat_tests)

pub zero_test : (n : ℕ) → n ≡ 0 → eqb n 0 ≡ true
zero_test n h = grind (arith, nat_tests)

pub positive_test : (n : ℕ) → 1 ≤ n → eqb n 0 ≡ false
positive_test n h = grind (arith, nat_tests)
