-- Lists of pending transfers.
use Rattle.std.proofs.Common.{◌≡◌, ℕ, zero, suc, ◌≤◌, false, List, [], ◌∷◌, filter, drop, length, refl, arith}
use Rattle.fj_run_pending.specs.declared.held.Held.{Held}

pub drop_whole : (hs : List Held) (n : ℕ) → length hs ≤ n → drop n hs ≡ []
drop_whole [] zero low = refl
drop_whole [] (suc n) low = refl
drop_whole (h ∷ hs) zero low = absurd (omega (arith, low))
drop_whole (h ∷ hs) (suc n) low = let less : length hs ≤ n = omega (arith, low) in drop_whole hs n less

pub filter_none : {X : Type 0} → (xs : List X) → filter (λ (x : X). false) xs ≡ []
filter_none [] = refl
filter_none (x ∷ xs) = filter_none xs
