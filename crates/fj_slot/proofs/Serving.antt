-- Serving one job more.
use Rattle.std.proofs.Common.{◌≡◌, ℕ, zero, suc, ◌+◌, List, [], ◌∷◌, ◌++◌, length, map, take, slice_get, Option, Some, refl, ap, add-one}
use Rattle.fj_slot.specs.Serving.{Meaning}
use Rattle.fj_slot.specs.Sound.{served_by, outcomes}

-- one more than the first k
pub take_one_more : {X : Type 0} → (xs : List X) (k : ℕ) (x : X) → slice_get xs k ≡ Some x → take (k + 1) xs ≡ take k xs ++ x ∷ []
take_one_more [] zero x e = cc
take_one_more [] (suc k) x e = cc
take_one_more (y ∷ xs) zero x e = let same : y ≡ x = cc in ap (λ z. z ∷ []) same
take_one_more (y ∷ xs) (suc k) x e = let h = rw add-one at (take_one_more xs k x e) in rw add-one (ap (λ zs. y ∷ zs) h)

pub served_by-append : {E J A S T R : Type 0} → (m : Meaning E J A S T R) (s : S) (ts us : List T) → served_by m s (ts ++ us) ≡ served_by m (served_by m s ts) us
served_by-append m s [] us = refl
served_by-append m s (t ∷ ts) us = served_by-append m (m.serve s t).engine ts us

pub outcomes-append : {E J A S T R : Type 0} → (m : Meaning E J A S T R) (s : S) (ts us : List T) → outcomes m s (ts ++ us) ≡ outcomes m s ts ++ outcomes m (served_by m s ts) us
outcomes-append m s [] us = refl
outcomes-append m s (t ∷ ts) us = ap (λ zs. ((m.serve s t).job, (m.serve s t).answer) ∷ zs) (outcomes-append m (m.serve s t).engine ts us)

pub length-outcomes : {E J A S T R : Type 0} → (m : Meaning E J A S T R) (s : S) (ts : List T) → length (outcomes m s ts) ≡ length ts
length-outcomes m s [] = refl
length-outcomes m s (t ∷ ts) = ap suc (length-outcomes m (m.serve s t).engine ts)

-- a mapped list has its elements mapped
pub slice_get_mapped : {X Y : Type 0} → (xs : List X) (ys : List Y) (f : X → Option Y) (k : ℕ) (x : X) → map f xs ≡ map Some ys → slice_get xs k ≡ Some x → f x ≡ slice_get ys k
slice_get_mapped [] ys f zero x e h = cc
slice_get_mapped [] ys f (suc k) x e h = cc
slice_get_mapped (x' ∷ xs) [] f k x e h = cc
slice_get_mapped (x' ∷ xs) (y ∷ ys) f zero x e h = cc
slice_get_mapped (x' ∷ xs) (y ∷ ys) f (suc k) x e h = let rest : map f xs ≡ map Some ys = cc in slice_get_mapped xs ys f k x rest h

-- the same, with the element
pub slice_get_mapped_some : {X Y : Type 0} → (xs : List X) (ys : List Y) (f : X → Option Y) (k : ℕ) (x : X) → map f xs ≡ map Some ys → slice_get xs k ≡ Some x → (y : Y) × (slice_get ys k ≡ Some y) × (f x ≡ Some y)
slice_get_mapped_some [] ys f zero x e h = cc
slice_get_mapped_some [] ys f (suc k) x e h = cc
slice_get_mapped_some (x' ∷ xs) [] f k x e h = cc
slice_get_mapped_some (x' ∷ xs) (y ∷ ys) f zero x e h = (y, refl, cc)
slice_get_mapped_some (x' ∷ xs) (y ∷ ys) f (suc k) x e h = let rest : map f xs ≡ map Some ys = cc in slice_get_mapped_some xs ys f k x rest h
