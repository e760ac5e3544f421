-- A list read at a place, after a write.
use Rattle.std.proofs.Common.{◌≡◌, ◌⊎◌, ℕ, zero, suc, ◌<◌, List, [], ◌∷◌, length, Option, Some, None, slice_get, get_or, is_some, false, set, refl, sym, ap, subst, inl, inr, arith}
use Rattle.std.proofs.lemmas.Option.{slice_get_read}

pub slice_get_set : {X : Type 0} → (xs : List X) (i k : ℕ) (v x : X) → slice_get (set xs i v) k ≡ Some x
    → ((k ≡ i) × (x ≡ v)) ⊎ ((k ≡ i → ⊥) × (slice_get xs k ≡ Some x))
slice_get_set [] zero zero v x e = cc
slice_get_set [] zero (suc k) v x e = cc
slice_get_set [] (suc i) zero v x e = cc
slice_get_set [] (suc i) (suc k) v x e = cc
slice_get_set (y ∷ xs) zero zero v x e = inl (refl, cc)
slice_get_set (y ∷ xs) zero (suc k) v x e = inr ((λ q. absurd (omega arith)), e)
slice_get_set (y ∷ xs) (suc i) zero v x e = inr ((λ q. absurd (omega arith)), e)
slice_get_set (y ∷ xs) (suc i) (suc k) v x e =
    elim (slice_get_set xs i k v x e) [
      | inl h ↦ inl (ap suc h.0, h.1)
      | inr h ↦ inr ((λ q. h.0 (omega arith)), h.1)
    ]

pub set_same : {X : Type 0} → (xs : List X) (i : ℕ) (v : X) → i < length xs → slice_get (set xs i v) i ≡ Some v
set_same [] zero v p = absurd (omega arith)
set_same [] (suc i) v p = absurd (omega arith)
set_same (y ∷ xs) zero v p = refl
set_same (y ∷ xs) (suc i) v p = set_same xs i v (omega arith)

pub set_other : {X : Type 0} → (xs : List X) (i k : ℕ) (v : X) → (k ≡ i → ⊥) → slice_get (set xs i v) k ≡ slice_get xs k
set_other [] zero zero v ne = refl
set_other [] zero (suc k) v ne = refl
set_other [] (suc i) zero v ne = refl
set_other [] (suc i) (suc k) v ne = refl
set_other (y ∷ xs) zero zero v ne = absurd (ne refl)
set_other (y ∷ xs) zero (suc k) v ne = refl
set_other (y ∷ xs) (suc i) zero v ne = refl
set_other (y ∷ xs) (suc i) (suc k) v ne = set_other xs i k v (λ q. ne (ap suc q))

pub slice_get_in : {X : Type 0} → (xs : List X) (k : ℕ) → k < length xs → (x : X) × (slice_get xs k ≡ Some x)
slice_get_in [] zero p = absurd (omega arith)
slice_get_in [] (suc k) p = absurd (omega arith)
slice_get_in (y ∷ xs) zero p = (y, refl)
slice_get_in (y ∷ xs) (suc k) p = slice_get_in xs k (omega arith)

pub same_some : {X : Type 0} → {x y : X} → Some x ≡ Some y → x ≡ y
same_some e = cc

-- a place that was read, and holds nothing
pub free_place : {X : Type 0} → (xs : List (Option X)) (k : ℕ) (x : Option X) → k < length xs → x ≡ get_or xs k x → is_some x ≡ false → slice_get xs k ≡ Some None
free_place xs k None p e h = slice_get_read xs (length xs) k None refl p e
free_place xs k (Some x) p e h = cc

-- a place that was read, and holds something
pub held_place : {X : Type 0} → (xs : List (Option X)) (k : ℕ) (x : Option X) (y : X) → k < length xs → x ≡ get_or xs k x → x ≡ Some y → slice_get xs k ≡ Some (Some y)
held_place xs k x y p e h = slice_get_read xs (length xs) k (Some y) refl p (subst (λ z. z ≡ get_or xs k z) h e)

pub set_twice : {X : Type 0} → (xs : List X) (i : ℕ) (v w : X) → set (set xs i v) i w ≡ set xs i w
set_twice [] zero v w = refl
set_twice [] (suc i) v w = refl
set_twice (x ∷ xs) zero v w = refl
set_twice (x ∷ xs) (suc i) v w = ap (λ ys. x ∷ ys) (set_twice xs i v w)

pub set_itself : {X : Type 0} → (xs : List X) (i : ℕ) (v : X) → slice_get xs i ≡ Some v → set xs i v ≡ xs
set_itself [] zero v e = refl
set_itself [] (suc i) v e = refl
set_itself (x ∷ xs) zero v e = let same : x ≡ v = cc in ap (λ y. y ∷ xs) (sym same)
set_itself (x ∷ xs) (suc i) v e = ap (λ ys. x ∷ ys) (set_itself xs i v e)
