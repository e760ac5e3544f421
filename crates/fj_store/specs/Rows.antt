-- The marks and the values of one variable, among those of all.
use Rattle.std.specs.Prelude.{◌≡◌, ◌<◌, ℕ, List, length, slice_set}
use Rattle.fj_value.specs.declared.kind.Kind.{Kind}
use Rattle.fj_value.specs.declared.place.Place.{Place}
use Rattle.fj_value.specs.declared.value.Cell.{Cell}
use Rattle.fj_value.specs.declared.value.Value.{Value}
use Rattle.fj_value.specs.declared.value.Value.TheVariants.{Undefined}
use Rattle.fj_store.specs.declared.slot.Mark.{Mark}
use Rattle.fj_store.specs.declared.slot.Slot.{Slot}
use Rattle.fj_store.specs.declared.taken.Taken.{Taken}
use Rattle.fj_store.specs.Kinds.{kind_at}
use Rattle.fj_store.specs.Slots.{AreMarked, slot_of, slots_of}
use Rattle.fj_store.specs.Tables.{with_cells}
use Rattle.fj_store.specs.Taking.{IsMarked, home, mark_of, take_all, taking}

abbrev pub number_of : Mark → ℕ
number_of mark = mark_of (slot_of mark Undefined)

-- the marks and the values of all variables
pub record Halves : Type 0 where
  pub marks : List (List Mark)
  pub values : List (List Value)

-- what stands at the places, where one variable has these marks and values
abbrev pub slots_with : Halves → ℕ → List Mark → List Value → List (List Slot)
slots_with all var marks values = slots_of (slice_set all.marks var marks) (slice_set all.values var values)

-- there is the variable, and with these marks and values of it each place has its mark and its value
pub record Stand (all : Halves) (var : ℕ) (marks : List Mark) (values : List Value) : Type 0 where
  pub in_marks : var < length all.marks
  pub in_values : var < length all.values
  pub marked : AreMarked (slice_set all.marks var marks) (slice_set all.values var values)

-- places of the variable are taken out, but for those that are left, whatever the other variables have
pub record AreTaken (kind : Kind) (var : ℕ) (places : List Place) (marks : List Mark) (values : List Value) (before : Taken) (left : List Place) (marks' : List Mark) (values' : List Value) (after : Taken) : Type 0 where
  pub stand : (all : Halves) → Stand all var marks values → Stand all var marks' values'
  pub taken : (all : Halves) → Stand all var marks values → IsMarked (slots_with all var marks values) before.cells.items
      → take_all kind (taking (slots_with all var marks' values') after) left ≡ take_all kind (taking (slots_with all var marks values) before) places
  pub marked : (all : Halves) → Stand all var marks values → IsMarked (slots_with all var marks values) before.cells.items → IsMarked (slots_with all var marks' values') after.cells.items

-- the values of cells of the variable are put back, but for those that are left, whatever the other variables have
pub record ArePut (kind : Kind) (var : ℕ) (cells : List Cell) (marks : List Mark) (values : List Value) (left : List Cell) (marks' : List Mark) (values' : List Value) : Type 0 where
  pub stand : (all : Halves) → Stand all var marks values → Stand all var marks' values'
  pub put : (all : Halves) (kinds : List Kind) → kind ≡ kind_at kinds var → Stand all var marks values
      → with_cells (home kinds) left (slots_with all var marks' values') ≡ with_cells (home kinds) cells (slots_with all var marks values)
