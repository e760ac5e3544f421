-- Loops that add the places of each element.
use Rattle.std.proofs.Common.{◌≡◌, ℕ, ◌+◌, ◌<◌, ◌≤◌, List, [], ◌∷◌, ◌++◌, length, get_or, drop, append_assoc, refl, sym, ap, ◌∙◌}
use Rattle.std.specs.List.{flat_map}
use Rattle.fj_value.specs.declared.place.Place.{Place}
use Rattle.fj_book.proofs.AnyLemmas.{item_at, none_left}

pub pushed : {X : Type 0} (f : X → List Place) (a b w : List Place) (xs : List X) (i : ℕ) (x : X) → i < length xs → x ≡ get_or xs i x → b ≡ a ++ f x → a ++ flat_map f (drop i xs) ≡ w → b ++ flat_map f (drop (i + 1) xs) ≡ w
pushed f a b w xs i x low is made so_far =
    ap (λ l. l ++ flat_map f (drop (i + 1) xs)) made ∙ append_assoc a (f x) (flat_map f (drop (i + 1) xs)) ∙ ap (λ l. a ++ flat_map f l) (sym (item_at xs i x low is)) ∙ so_far

append_none : {X : Type 0} (xs : List X) → xs ++ [] ≡ xs
append_none [] = refl
append_none (x ∷ xs) = ap (λ l. x ∷ l) (append_none xs)

pub all_pushed : {X : Type 0} (f : X → List Place) (a w : List Place) (xs : List X) (n : ℕ) → length xs ≤ n → a ++ flat_map f (drop n xs) ≡ w → a ≡ w
all_pushed f a w xs n past all = sym (append_none a) ∙ ap (λ l. a ++ flat_map f l) (sym (none_left xs n past)) ∙ all
