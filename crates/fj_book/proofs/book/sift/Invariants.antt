use Rattle.std.proofs.Common.{◌≡◌, ◌++◌, not, filter, take, drop}
use Rattle.fj_book.specs.Counting.{AreCounted}
use Rattle.fj_book.specs.Entries.{is_of}
use Rattle.fj_book.proofs.book.sift.Given as goal

abbrev pub invariant-loop : goal.invariant-loop
invariant-loop l = record {
  left : l.entries.items ≡ drop l.counter l.initial.entries.items ++ filter (λ e. not (is_of l.unit e)) (take l.counter l.initial.entries.items);
  counted : AreCounted l.initial.entries.items l.initial.inputs l.initial.outputs → AreCounted l.entries.items l.inputs l.outputs;
}
