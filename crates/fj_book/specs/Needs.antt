-- What a statement needs, as lists of places.
use Rattle.fj_book.specs.declared.need.Need.{Need}
use Rattle.fj_book.specs.Prohibitions as prohibitions
use Rattle.fj_store.specs.Places.{places_in}

abbrev pub need_of : Need → prohibitions.Need
need_of n = record {
  unit = n.unit;
  references = places_in n.references.now;
  defines = places_in n.defines.now;
  specifiers = n.specifiers.now;
  items = places_in n.items.now;
  internal = places_in n.internal.now;
  id = n.id;
}
