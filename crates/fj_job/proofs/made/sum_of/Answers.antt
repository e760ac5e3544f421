use Rattle.std.proofs.Common.{◌≤◌, ℕ, List, All, length, get_or, sum, Fits, w8, arith}
use Rattle.std.proofs.lemmas.List.Elements.{All-from_get_or}
use Rattle.std.proofs.lemmas.List.Sums.{sum_by-le}
use Rattle.fj_job.proofs.made.sum_of.Goals as goal

sum_within : (xs : List ℕ) → ((i : ℕ) → Fits w8 (get_or xs i 0)) → length xs ≤ 268435456 → sum xs ≤ 68451041280
sum_within xs h few =
    let each : All (λ x. x ≤ 255) xs = All-from_get_or (λ x. x ≤ 255) xs 0 (λ i _. let one = h i in omega arith) in
    let whole = sum_by-le (λ x. x) 255 xs each in
    omega arith

pub overflow_add-result : goal.overflow_add-result
overflow_add-result c =
    let one = sum_within c.args.first.now c.type_inv.first c.requires.first in
    let two = sum_within c.args.second.now c.type_inv.second c.requires.second in
    omega arith
