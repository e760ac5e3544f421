-- Lists that are related item by item.
use Rattle.std.specs.Prelude.{List, [], ◌∷◌}

abbrev pub Both : {X Y : Type 0} → (X → Y → Type 0) → List X → List Y → Type 0
Both R [] [] = Unit {0}
Both R [] (y ∷ ys) = ⊥
Both R (x ∷ xs) [] = ⊥
Both R (x ∷ xs) (y ∷ ys) = R x y × Both R xs ys
