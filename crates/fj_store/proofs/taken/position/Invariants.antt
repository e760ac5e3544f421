use Rattle.std.proofs.Common.{◌≡◌, ◌+◌, drop}
use Rattle.std.specs.List.{position_or_len}
use Rattle.fj_store.specs.Variables.{is_at}
use Rattle.fj_store.proofs.taken.position.Given as goal

abbrev pub invariant-loop-at : goal.invariant-loop-at
invariant-loop-at l = position_or_len (is_at l.place) l.cells ≡ l.at + position_or_len (is_at l.place) (drop l.at l.cells)
