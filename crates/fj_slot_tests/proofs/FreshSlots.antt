-- New slots, one more behind them.
use Rattle.std.proofs.Common.{◌≡◌, ℕ, List, [], ◌∷◌, ◌++◌, Some, slice_get, refl, sym, subst, inl, inr}
use Rattle.fj_slot.specs.Ledger.{Ledger, fresh}
use Rattle.fj_crew.proofs.Opening.{get_put}

pub fresh_more : {E J A : Type 0} → (xs ys : List (Ledger E J A)) (e : E) → ys ≡ xs ++ fresh e ∷ []
    → ((k : ℕ) (l : Ledger E J A) → slice_get xs k ≡ Some l → l ≡ fresh l.start)
    → (k : ℕ) (l : Ledger E J A) → slice_get ys k ≡ Some l → l ≡ fresh l.start
fresh_more xs ys e is old k l at = elim (get_put xs (fresh e) l k (subst (λ z. slice_get z k ≡ Some l) is at)) [
  | inl a ↦ old k l a
  | inr a ↦ subst (λ z. z ≡ fresh z.start) (sym a.1) refl
]
