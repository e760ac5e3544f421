-- Lists of jobs: the front taken off, one put behind.
use Rattle.std.proofs.Common.{◌≡◌, ℕ, zero, suc, ◌+◌, ◌<◌, ◌≤◌, List, [], ◌∷◌, ◌++◌, length, map, drop, slice_get, Some, inl, inr, sym, ap, ◌∙◌, arith}
use Rattle.std.proofs.lemmas.Bool.{cases_lt}
use Rattle.std.proofs.lemmas.List.{drop-append-le, drop-drop, map-append, length-map}

-- what lies behind a place, after one more is put behind
pub drop_push : {X : Type 0} → (xs ys : List X) (m n : ℕ) (y : X) → m ≤ length xs → n ≤ length ys → drop m xs ≡ drop n ys → drop m (xs ++ y ∷ []) ≡ drop n (ys ++ y ∷ [])
drop_push xs ys m n y p q e = drop-append-le m xs (y ∷ []) p ∙ ap (λ zs. zs ++ y ∷ []) e ∙ sym (drop-append-le n ys (y ∷ []) q)

-- the same, where the second list is read by f
pub push_both : {G J : Type 0} → (f : G → J) (gs gs' : List G) (x : G) (ws ws' : List J) (m n : ℕ) (y : J)
    → gs' ≡ gs ++ x ∷ [] → f x ≡ y → ws' ≡ ws ++ y ∷ [] → m ≤ length ws → n ≤ length gs → drop m ws ≡ drop n (map f gs) → drop m ws' ≡ drop n (map f gs')
push_both f gs gs' x ws ws' m n y e v w p q h =
    let few : n ≤ length (map f gs) = omega (arith, length-map gs f, q) in
    let mapped : map f gs' ≡ map f gs ++ y ∷ [] = ap (map f) e ∙ map-append f gs (x ∷ []) ∙ ap (λ z. map f gs ++ z ∷ []) v in
    ap (drop m) w ∙ drop_push ws (map f gs) m n y p few h ∙ sym (ap (drop n) mapped)

-- the first of those behind a place
pub slice_get-drop : {X : Type 0} → (xs : List X) (n : ℕ) (x : X) (ys : List X) → drop n xs ≡ x ∷ ys → slice_get xs n ≡ Some x
slice_get-drop [] zero x ys e = cc
slice_get-drop [] (suc n) x ys e = cc
slice_get-drop (y ∷ xs) zero x ys e = cc
slice_get-drop (y ∷ xs) (suc n) x ys e = slice_get-drop xs n x ys e

-- the job that stopped a slot waits until it is told
pub one_waits : (told finished out waiting given done : ℕ) → told + finished + out + waiting ≡ given → out ≡ 0 → done < given
    → (0 < finished → told + finished ≡ done) → told ≤ done → 1 ≤ waiting
one_waits told finished out waiting given done total home below in_order p = grind arith

-- what waits behind a stop, after one more was told
pub told_behind : {J : Type 0} → (ws ws' js : List J) (told done : ℕ) → ws' ≡ drop 1 ws → done < told + 1
    → (done < told → ws ≡ drop told js) → (told ≤ done → drop 1 ws ≡ drop (done + 1) js) → ws' ≡ drop (told + 1) js
told_behind ws ws' js told done e p behind after =
    elim (cases_lt done told) [
      | inl q ↦ e ∙ ap (drop 1) (behind q) ∙ drop-drop 1 told js
      | inr q ↦ let same : done ≡ told = omega arith in e ∙ after q ∙ ap (λ n. drop (n + 1) js) same
    ]
