use Rattle.std.proofs.Common.{◌≡◌, ℕ, ◌+◌, ◌-◌, map}
use Rattle.fj_store.specs.Places.{places_of, counted_from}
use Rattle.fj_store.specs.Taking.{HasRoom, IsMarked, cell_read, items_in, values_in}
use Rattle.fj_store.specs.Variables.{moved_from}
use Rattle.fj_store.proofs.copied.copy_run.Given as goal

abbrev pub invariant-loop-at : goal.invariant-loop-at
invariant-loop-at l = record {
  items : moved_from (items_in l.taken) (map (cell_read l.kind (values_in l.initial.slots)) (counted_from l.run.var (l.run.first + l.at) (l.run.count - l.at)))
      ≡ moved_from (items_in l.initial.taken) (map (cell_read l.kind (values_in l.initial.slots)) (places_of l.run));
  same : values_in l.slots ≡ values_in l.initial.slots;
  marked : IsMarked l.slots l.taken.cells.items;
  room : (n : ℕ) → HasRoom l.initial.taken (l.run.count + n) → HasRoom l.taken ((l.run.count - l.at) + n);
}
