-- Lists read at a place, after a write.
use Rattle.std.proofs.Common.{◌≡◌, ℕ, zero, suc, List, [], ◌∷◌, Some, None, slice_get, set, refl, sym, ap}

pub set_same : {X : Type 0} → (xs : List X) (i : ℕ) (v w : X) → slice_get xs i ≡ Some w → slice_get (set xs i v) i ≡ Some v
set_same [] zero v w e = cc
set_same [] (suc i) v w e = cc
set_same (y ∷ xs) zero v w e = refl
set_same (y ∷ xs) (suc i) v w e = set_same xs i v w e

pub set_other : {X : Type 0} → (xs : List X) (i k : ℕ) (v : X) → (k ≡ i → ⊥) → slice_get (set xs i v) k ≡ slice_get xs k
set_other [] zero zero v ne = refl
set_other [] zero (suc k) v ne = refl
set_other [] (suc i) zero v ne = refl
set_other [] (suc i) (suc k) v ne = refl
set_other (y ∷ xs) zero zero v ne = absurd (ne refl)
set_other (y ∷ xs) zero (suc k) v ne = refl
set_other (y ∷ xs) (suc i) zero v ne = refl
set_other (y ∷ xs) (suc i) (suc k) v ne = set_other xs i k v (λ q. ne (ap suc q))

pub set_missing : {X : Type 0} → (xs : List X) (i : ℕ) (v : X) → slice_get xs i ≡ None → set xs i v ≡ xs
set_missing [] zero v e = refl
set_missing [] (suc i) v e = refl
set_missing (x ∷ xs) zero v e = cc
set_missing (x ∷ xs) (suc i) v e = ap (λ ys. x ∷ ys) (set_missing xs i v e)

pub set_itself : {X : Type 0} → (xs : List X) (i : ℕ) (v : X) → slice_get xs i ≡ Some v → set xs i v ≡ xs
set_itself [] zero v e = refl
set_itself [] (suc i) v e = refl
set_itself (x ∷ xs) zero v e = let same : x ≡ v = cc in ap (λ y. y ∷ xs) (sym same)
set_itself (x ∷ xs) (suc i) v e = ap (λ ys. x ∷ ys) (set_itself xs i v e)

pub set_twice : {X : Type 0} → (xs : List X) (i : ℕ) (v w : X) → set (set xs i v) i w ≡ set xs i w
set_twice [] zero v w = refl
set_twice [] (suc i) v w = refl
set_twice (x ∷ xs) zero v w = refl
set_twice (x ∷ xs) (suc i) v w = ap (λ ys. x ∷ ys) (set_twice xs i v w)

pub set_swap : {X : Type 0} → (xs : List X) (i k : ℕ) (v w : X) → (k ≡ i → ⊥) → set (set xs i v) k w ≡ set (set xs k w) i v
set_swap [] zero zero v w ne = refl
set_swap [] zero (suc k) v w ne = refl
set_swap [] (suc i) zero v w ne = refl
set_swap [] (suc i) (suc k) v w ne = refl
set_swap (x ∷ xs) zero zero v w ne = absurd (ne refl)
set_swap (x ∷ xs) zero (suc k) v w ne = refl
set_swap (x ∷ xs) (suc i) zero v w ne = refl
set_swap (x ∷ xs) (suc i) (suc k) v w ne = ap (λ ys. x ∷ ys) (set_swap xs i k v w (λ q. ne (ap suc q)))
