-- Each element of a list and the one behind it at its place, along equations.
use Rattle.std.proofs.Common.{◌≡◌, ◌++◌, ◌∙◌, ℕ, List, ap, drop, length, subst, sym, take}
use Rattle.std.proofs.Math.Seq.{take-append_seam}
use Rattle.fj_batch.specs.Members.{EachBecomes}

pub become_along : {X : Type 0} (Becomes : X → X → Type 0) (old new old' new' : List X) → old ≡ old' → new ≡ new' → EachBecomes Becomes old new → EachBecomes Becomes old' new'
become_along Becomes old new old' new' e f each = subst (λ xs. EachBecomes Becomes xs new') e (subst (λ ys. EachBecomes Becomes old ys) f each)

-- so many elements in the place of as many are all
pub whole_again : {X : Type 0} (old new : List X) (n : ℕ) → length new ≡ length old → n ≡ length old → take n (new ++ drop (length new) old) ≡ new
whole_again old new n long count =
    ap (λ k. take k (new ++ drop (length new) old)) (count ∙ sym long) ∙ take-append_seam new (drop (length new) old)
