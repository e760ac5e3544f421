use Rattle.std.proofs.Common.{◌≡◌, ◌+◌, ◌<◌, false, length}
use Rattle.fj_store.specs.Pieces.{cells_from, sizes}
use Rattle.fj_store.specs.Storage.{storage}
use Rattle.fj_store.specs.Taking.{AreUnused, HasRoom, IsMarked, items_in, values_in}
use Rattle.fj_store.specs.Variables.{moved_from}
use Rattle.fj_store.proofs.copied.copy_pieces.Given as goal

abbrev pub invariant-copying : goal.invariant-copying
invariant-copying l = record {
  items : moved_from (items_in l.taken) (cells_from (storage l.kinds l.initial.slots) (l.own + 1) l.pieces.items)
      ≡ moved_from (items_in l.initial.taken) (cells_from (storage l.kinds l.initial.slots) 1 l.initial.pieces.items);
  same : values_in l.slots ≡ values_in l.initial.slots;
  marked : IsMarked l.slots l.taken.cells.items;
  free : l.mixed ≡ false → AreUnused (l.own + 1) l.taken.cells.items;
  room : HasRoom l.taken (sizes l.pieces.items);
  few : l.own + sizes l.pieces.items < 4294967296;
}

abbrev pub decreases-copying : goal.decreases-copying
decreases-copying l = length l.pieces.items
