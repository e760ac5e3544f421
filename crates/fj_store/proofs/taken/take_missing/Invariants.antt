use Rattle.std.proofs.Common.{◌≡◌, ℕ, ◌+◌, ◌-◌, List, None, slice_get}
use Rattle.fj_store.specs.declared.slot.Slot.{Slot}
use Rattle.fj_store.specs.Places.{places_of, counted_from}
use Rattle.fj_store.specs.Taking.{taking, HasRoom, IsMarked, take_all}
use Rattle.fj_store.proofs.taken.take_missing.Given as goal

abbrev pub invariant-loop-at : goal.invariant-loop-at
invariant-loop-at l = record {
  taken : (slots : List (List Slot)) → slice_get slots l.run.var ≡ None → IsMarked slots l.initial.taken.cells.items
      → take_all l.kind (taking slots l.taken) (counted_from l.run.var (l.run.first + l.at) (l.run.count - l.at)) ≡ take_all l.kind (taking slots l.initial.taken) (places_of l.run);
  marked : (slots : List (List Slot)) → slice_get slots l.run.var ≡ None → IsMarked slots l.initial.taken.cells.items → IsMarked slots l.taken.cells.items;
  room : (n : ℕ) → HasRoom l.initial.taken (l.run.count + n) → HasRoom l.taken ((l.run.count - l.at) + n);
}
