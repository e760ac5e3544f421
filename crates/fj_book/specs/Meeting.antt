-- Where two parts of a statement have a place in common that may not have one.
use Rattle.std.specs.Prelude.{◌≡◌, true, List, ◌∷◌, ◌++◌}
use Rattle.fj_value.specs.declared.place.Place.{Place}
use Rattle.fj_store.specs.Places.{is_among}
use Rattle.fj_book.specs.Prohibitions.{Need, defines_twice}

-- how two parts meet at a place
pub data Meets (n : Need) (p : Place) : Type 0 where
  two_specifiers : (before between behind : List Place) → n.specifiers ≡ before ++ p ∷ between ++ p ∷ behind → Meets n p
  specifier_and_item : is_among n.specifiers p ≡ true → is_among n.items p ≡ true → Meets n p
  specifier_and_internal_file : is_among n.specifiers p ≡ true → is_among n.internal p ≡ true → Meets n p
  item_and_internal_file : is_among n.items p ≡ true → is_among n.internal p ≡ true → Meets n p

-- whichever two specifiers, or other two of these parts, meet at a place, the prohibition is broken, and else it is not
pub record PlacesMeet : Type 0 where
  pub broken : (n : Need) (p : Place) → Meets n p → defines_twice n ≡ true
  pub cause : (n : Need) → defines_twice n ≡ true → (p : Place) × Meets n p
