-- Worked cases: the statements of a deck, one after another, beside the transfers that are then pending.
use Rattle.std.specs.Prelude.{◌≡◌, ℕ, pos, List, [], ◌∷◌, ◌++◌, Some, None}
use Rattle.fj_value.specs.declared.place.Place.{Place}
use Rattle.fj_value.specs.declared.condition.Rule.TheVariants.{P1, P2, P4, P5}
use Rattle.fj_book.specs.Cases.{a, b, c, reading, writing, nothing, references, defines, told}
use Rattle.fj_book.specs.Prohibitions.{Need}

-- a READ of these items that defines these places by specifiers
abbrev pub reads : List Place → List Place → Need
reads items specifiers = record nothing { defines = items ++ specifiers; specifiers = specifiers; items = items }

-- a WRITE of these items
abbrev pub writes : List Place → Need
writes items = record nothing { references = items; items = items }

abbrev pub waits_for : ℕ → Need
waits_for id = record nothing { id = Some (pos id) }

-- each statement is told what it says beside those that are pending when it stands
pub record StatementsAreTold : Type 0 where
  -- a READ of A and B whose ID= defines an element of C, and the WAIT for it
  pub read_of_two : told [] (reads (a ∷ b ∷ []) (c 1 ∷ [])) ≡ None
  pub its_wait : told (reading 1 (a ∷ b ∷ []) ∷ []) (record (waits_for 1) { references = c 1 ∷ [] }) ≡ None
  -- a READ of A, one of B, a WAIT for the second one, and a reference of A
  pub first_read : told [] (reads (a ∷ []) []) ≡ None
  pub second_read : told (reading 1 (a ∷ []) ∷ []) (reads (b ∷ []) []) ≡ None
  pub wait_for_second : told (reading 1 (a ∷ []) ∷ reading 2 (b ∷ []) ∷ []) (waits_for 2) ≡ None
  pub first_is_referenced : told (reading 1 (a ∷ []) ∷ []) (references (a ∷ [])) ≡ Some P1
  -- a WRITE of A, a WRITE of A elsewhere, and a definition of A
  pub write : told [] (writes (a ∷ [])) ≡ None
  pub write_elsewhere : told (writing 1 (a ∷ []) ∷ []) (record (writes (a ∷ [])) { unit = None }) ≡ None
  pub item_is_defined : told (writing 1 (a ∷ []) ∷ []) (record (defines (a ∷ [])) { unit = None }) ≡ Some P2
  -- a WAIT with ID= for a transfer of no unit
  pub wait_for_no_unit : told (reading 1 (a ∷ []) ∷ []) (record (waits_for 1) { unit = None }) ≡ Some P4
  -- a WAIT without ID= where nothing is pending
  pub wait_for_all : told [] nothing ≡ None
  -- three WRITEs of A on one unit, and a READ of B on another one
  pub second_write : told (writing 1 (a ∷ []) ∷ []) (writes (a ∷ [])) ≡ None
  pub third_write : told (writing 1 (a ∷ []) ∷ writing 2 (a ∷ []) ∷ []) (writes (a ∷ [])) ≡ None
  pub read_elsewhere : told (writing 1 (a ∷ []) ∷ writing 2 (a ∷ []) ∷ writing 3 (a ∷ []) ∷ []) (record (reads (b ∷ []) []) { unit = Some 11 }) ≡ None

-- a READ whose ID= is A, SIZE= B and IOSTAT= the first element of C, each two of them the same, and each beside an item
pub record SpecifiersMeet : Type 0 where
  pub all_apart : told [] (reads (c 2 ∷ []) (a ∷ b ∷ c 1 ∷ [])) ≡ None
  pub id_and_size : told [] (reads (c 2 ∷ []) (a ∷ a ∷ c 1 ∷ [])) ≡ Some P5
  pub id_and_iostat : told [] (reads (c 2 ∷ []) (a ∷ b ∷ a ∷ [])) ≡ Some P5
  pub size_and_iostat : told [] (reads (c 2 ∷ []) (a ∷ b ∷ b ∷ [])) ≡ Some P5
  pub id_and_item : told [] (reads (c 2 ∷ a ∷ []) (a ∷ b ∷ c 1 ∷ [])) ≡ Some P5
  pub size_and_item : told [] (reads (c 2 ∷ b ∷ []) (a ∷ b ∷ c 1 ∷ [])) ≡ Some P5
  pub iostat_and_item : told [] (reads (c 2 ∷ c 1 ∷ []) (a ∷ b ∷ c 1 ∷ [])) ≡ Some P5
  -- an item twice, and an array with its element
  pub item_twice : told [] (reads (c 2 ∷ c 2 ∷ []) (a ∷ b ∷ c 1 ∷ [])) ≡ None
  pub array_with_element : told [] (reads (c 1 ∷ c 2 ∷ c 2 ∷ []) (a ∷ b ∷ [])) ≡ None

-- what a pending READ with SIZE= holds, and an array of which one element is asked for
pub record AllIsHeld : Type 0 where
  pub size_is_referenced : told (reading 1 (a ∷ b ∷ []) ∷ []) (references (b ∷ [])) ≡ Some P1
  pub size_is_defined : told (reading 1 (a ∷ b ∷ []) ∷ []) (defines (b ∷ [])) ≡ Some P2
  pub element_of_array : told (reading 1 (c 1 ∷ c 2 ∷ []) ∷ []) (references (c 2 ∷ [])) ≡ Some P1
  pub element_of_written_array : told (writing 1 (c 1 ∷ c 2 ∷ []) ∷ []) (defines (c 2 ∷ [])) ≡ Some P2
  pub behind_the_first : told (writing 1 (a ∷ []) ∷ reading 2 (b ∷ []) ∷ []) (references (b ∷ [])) ≡ Some P1
  pub before_the_last : told (reading 1 (b ∷ []) ∷ writing 2 (a ∷ []) ∷ []) (references (b ∷ [])) ≡ Some P1
  -- a READ of what another unit's WRITE holds
  pub of_another_unit : told (writing 1 (a ∷ []) ∷ []) (record (defines (a ∷ [])) { unit = Some 11 }) ≡ Some P2
