-- What stands at the places, from the marks and the values apart.
use Rattle.std.specs.Prelude.{◌≡◌, List, [], ◌∷◌, map}
use Rattle.fj_value.specs.declared.value.Value.{Value}
use Rattle.fj_store.specs.declared.slot.Mark.{Mark}
use Rattle.fj_store.specs.declared.slot.Mark.TheVariants as marked
use Rattle.fj_store.specs.declared.slot.Slot.{Slot}
use Rattle.fj_store.specs.declared.slot.Slot.TheVariants.{Home, Out}
use Rattle.fj_store.specs.Taking.{value_read}

abbrev pub slot_of : Mark → Value → Slot
slot_of (marked.Home n) v = Home n v
slot_of (marked.Out n) v = Out n

abbrev pub mark_in : Slot → Mark
mark_in (Home n v) = marked.Home n
mark_in (Out n) = marked.Out n

-- the elements of two lists by twos, as far as both go
abbrev pub zipped : {A B C : Type 0} → (A → B → C) → List A → List B → List C
zipped f [] ys = []
zipped f (x ∷ xs) [] = []
zipped f (x ∷ xs) (y ∷ ys) = f x y ∷ zipped f xs ys

-- what stands at each place
abbrev pub slots_of : List (List Mark) → List (List Value) → List (List Slot)
slots_of marks values = zipped (zipped slot_of) marks values

-- the values as they are read: one that is moved out is undefined
abbrev pub all_read : List (List Slot) → List (List Value)
all_read slots = map (map value_read) slots

-- each place has its mark and its value, and the value of one that is moved out is undefined
pub record AreMarked (marks : List (List Mark)) (values : List (List Value)) : Type 0 where
  pub marked : map (map mark_in) (slots_of marks values) ≡ marks
  pub read : all_read (slots_of marks values) ≡ values
