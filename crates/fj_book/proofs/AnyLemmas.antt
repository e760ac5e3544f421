-- Loops that look for an element.
use Rattle.std.proofs.Common.{◌≡◌, ℕ, zero, suc, ◌+◌, ◌-◌, ◌<◌, ◌≤◌, ◌||◌, ◌==◌, cond, Bool, true, false, List, [], ◌∷◌, ◌++◌, length, length-drop, drop, take, get_or, Some, refl, sym, ap, ◌∙◌, arith}
use Rattle.std.proofs.Math.Seq.{drop-cons}
use Rattle.std.proofs.lemmas.Bool.{ne_eqb}
use Rattle.std.proofs.lemmas.List.Folds.{list_any-append}
use Rattle.std.specs.List.{list_any, find}
use Rattle.fj_value.specs.declared.place.Place.{Place}
use Rattle.fj_store.specs.declared.run.Run.{Run}
use Rattle.fj_store.specs.Places.{same_place, is_among, has_twice, places_of, places_in}
use Rattle.fj_store.proofs.RunLemmas.{any_same}
use Rattle.fj_store.proofs.TakingLemmas.{run_at}
use Rattle.fj_store.proofs.StoreLemmas.{whole}

pub item_at : {X : Type 0} → (xs : List X) (i : ℕ) (x : X) → i < length xs → x ≡ get_or xs i x → drop i xs ≡ x ∷ drop (i + 1) xs
item_at xs i x low is = drop-cons xs i x low ∙ ap (λ y. y ∷ drop (suc i) xs) (sym is) ∙ ap (λ n. x ∷ drop n xs) (let e : suc i ≡ i + 1 = omega arith in e)

pub none_left : {X : Type 0} → (xs : List X) (n : ℕ) → length xs ≤ n → drop n xs ≡ []
none_left [] zero h = refl
none_left [] (suc n) h = refl
none_left (x ∷ xs) zero h = absurd (omega arith)
none_left (x ∷ xs) (suc n) h = none_left xs n (omega arith)

pub any_step : {X : Type 0} → (f : X → Bool) (xs : List X) (i : ℕ) (x : X) (b : Bool) → i < length xs → x ≡ get_or xs i x → b ≡ f x → list_any f (drop i xs) ≡ (b || list_any f (drop (i + 1) xs))
any_step f xs i x b low is made = ap (list_any f) (item_at xs i x low is) ∙ ap (λ c. c || list_any f (drop (i + 1) xs)) (sym made)

pub runs_step : (f : Place → Bool) (runs : List Run) (i : ℕ) (run : Run) (b : Bool) → i < length runs → run ≡ get_or runs i run → b ≡ list_any f (places_of run)
    → list_any f (places_in (drop i runs)) ≡ (b || list_any f (places_in (drop (i + 1) runs)))
runs_step f runs i run b low is made =
    ap (λ rs. list_any f (places_in rs)) (run_at runs i run low is)
    ∙ list_any-append f (places_of run) (places_in (drop (i + 1) runs))
    ∙ ap (λ c. c || list_any f (places_in (drop (i + 1) runs))) (sym made)

pub any_or : {X : Type 0} → (f g : X → Bool) (xs : List X) → list_any (λ x. f x || g x) xs ≡ (list_any f xs || list_any g xs)
any_or f g [] = refl
any_or f g (x ∷ xs) = ap (λ b. (f x || g x) || b) (any_or f g xs) ∙ four (f x) (g x) (list_any f xs) (list_any g xs)
  where
    four : (a b c d : Bool) → ((a || b) || (c || d)) ≡ ((a || c) || (b || d))
    four true b c d = refl
    four false true true d = refl
    four false true false d = refl
    four false false c d = refl

pub among_step : (runs : List Run) (i : ℕ) (other : Run) (places : List Place) (b : Bool) → i < length runs → other ≡ get_or runs i other → b ≡ list_any (is_among (places_of other)) places
    → list_any (is_among (places_in (drop i runs))) places ≡ (b || list_any (is_among (places_in (drop (i + 1) runs))) places)
among_step runs i other places b low is made =
    ap (λ rs. list_any (is_among (places_in rs)) places) (run_at runs i other low is)
    ∙ any_same (is_among (places_of other ++ places_in (drop (i + 1) runs))) (λ p. is_among (places_of other) p || is_among (places_in (drop (i + 1) runs)) p)
    (λ p. list_any-append (same_place p) (places_of other) (places_in (drop (i + 1) runs))) places
    ∙ any_or (is_among (places_of other)) (is_among (places_in (drop (i + 1) runs))) places
    ∙ ap (λ c. c || list_any (is_among (places_in (drop (i + 1) runs))) places) (sym made)

pub find_step : {X : Type 0} → (f : X → Bool) (xs : List X) (i : ℕ) (x : X) → i < length xs → x ≡ get_or xs i x → find f (drop i xs) ≡ cond (f x) (Some x) (find f (drop (i + 1) xs))
find_step f xs i x low is = ap (find f) (item_at xs i x low is)

pub twice_step : (xs : List Place) (i : ℕ) (x : Place) (b : Bool) → i < length xs → x ≡ get_or xs i x → b ≡ is_among (drop (i + 1) xs) x → has_twice (drop i xs) ≡ (b || has_twice (drop (i + 1) xs))
twice_step xs i x b low is made = ap has_twice (item_at xs i x low is) ∙ ap (λ c. c || has_twice (drop (i + 1) xs)) (sym made)

-- what a step says where its test is true, and where it is false
pub is_found : (all rest whole b : Bool) → all ≡ (b || rest) → all ≡ whole → b ≡ true → true ≡ whole
is_found all rest whole b step so_far found = sym (sym so_far ∙ step ∙ ap (λ c. c || rest) found)

pub goes_on : (all rest whole b : Bool) → all ≡ (b || rest) → all ≡ whole → b ≡ false → rest ≡ whole
goes_on all rest whole b step so_far missed = sym (step ∙ ap (λ c. c || rest) missed) ∙ so_far

-- an element read with any default
pub same_item : {X : Type 0} → (xs : List X) (i : ℕ) (d : X) → i < length xs → get_or xs i d ≡ get_or xs i (get_or xs i d)
same_item [] i d low = absurd (omega arith)
same_item (x ∷ xs) zero d low = refl
same_item (x ∷ xs) (suc i) d low = same_item xs i d (omega arith)

pub rest_whole : {X : Type 0} → (xs : List X) (n : ℕ) → take (length xs - n) (drop n xs) ≡ drop n xs
rest_whole xs n = whole (drop n xs) (length xs - n) (omega (arith, length-drop n xs))

pub any_never : {X : Type 0} → (xs : List X) → list_any (λ x. false) xs ≡ false
any_never [] = refl
any_never (x ∷ xs) = any_never xs

-- no element where the count of them is 0
pub none_there : {X : Type 0} → (xs : List X) (n : ℕ) (b : Bool) → n ≡ length xs → b ≡ (n == 0) → b ≡ true → xs ≡ []
none_there [] n b len is some = refl
none_there (x ∷ xs) n b len is some = let counted : b ≡ false = is ∙ ne_eqb n 0 (λ z. absurd (omega (arith, len, z))) in let never : true ≡ false = sym some ∙ counted in cc
