-- What items that are chosen one after another make.
use Rattle.std.proofs.Common.{◌≡◌, ◌+◌, ◌*◌, ◌++◌, [], ◌∷◌, ℕ, List, map, min, Bool, Option, Some, None, refl, arith, append_assoc}
use Rattle.std.specs.Prelude.{◌&&◌, nat_le, option_map}
use Rattle.std.proofs.lemmas.Bool.Decides.{nat_tests}
use Rattle.std.proofs.lemmas.List.Sums.{sum_by-cons}
use Rattle.fj_statement.specs.declared.statement.Operand.{Operand}
use Rattle.fj_names.specs.declared.operand.Meant.{Meant}
use Rattle.fj_names.specs.Giving.{◌>>=◌}
use Rattle.fj_names.specs.Transfer.{elements, bytes, size_of}

-- the items behind others, of which there are so many, with so many bytes; and whether all are few
abbrev pub chosen_behind : List Operand → ℕ → ℕ → Option (List Meant) → Option (List Operand × Bool)
chosen_behind items n b more = option_map (λ ms. (items ++ map (λ m. m.operand) ms, nat_le (n + elements ms) 1000000 && nat_le (b + bytes ms) 16777216)) more

capped_le : (n more rest most sum : ℕ) → sum ≡ min (n + more) (most + 1) → nat_le (n + (more + rest)) most ≡ nat_le (sum + rest) most
capped_le n more rest most sum h = grind (arith, nat_tests)

-- one more item
pub chosen_more : (items : List Operand) (n b : ℕ) (m : Meant) (more : Option (List Meant)) (x y : ℕ) →
    x ≡ min (n + m.count * 1) 1000001 → y ≡ min (b + m.count * size_of m.kind) 16777217 →
    chosen_behind items n b (more >>= (λ ms. Some (m ∷ ms))) ≡ chosen_behind (items ++ m.operand ∷ []) x y more
chosen_more items n b m None x y h k = refl
chosen_more items n b m (Some ms) x y h k =
    let one : x ≡ min (n + m.count) 1000001 = omega arith in
    rw (append_assoc items (m.operand ∷ []) (map (λ o. o.operand) ms), sum_by-cons (λ (o : Meant). o.count) m ms, sum_by-cons (λ (o : Meant). o.count * size_of o.kind) m ms, capped_le n m.count (elements ms) 1000000 x one, capped_le b (m.count * size_of m.kind) (bytes ms) 16777216 y k) refl
