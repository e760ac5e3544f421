use Rattle.std.proofs.Common.{◌≡◌, ◌+◌, ◌%◌, ◌^◌, ltb, drop}
use Rattle.std.specs.List.{list_any}
use Rattle.fj_book.proofs.row.any_above.Given as goal

abbrev pub invariant-loop-number : goal.invariant-loop-number
invariant-loop-number l = list_any (λ n. ltb 0 ((l.all + n) % 2 ^ 64)) (drop l.number-index l.each) ≡ list_any (λ n. ltb 0 ((l.all + n) % 2 ^ 64)) l.each
