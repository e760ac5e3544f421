use Rattle.std.proofs.Common.{◌≡◌, drop}
use Rattle.std.specs.List.{find}
use Rattle.fj_book.specs.Entries.{is_of_unit}
use Rattle.fj_book.proofs.book.first_in.Given as goal

abbrev pub invariant-loop-at : goal.invariant-loop-at
invariant-loop-at l = find (is_of_unit l.unit) (drop l.at l.entries.items) ≡ find (is_of_unit l.unit) l.entries.items
