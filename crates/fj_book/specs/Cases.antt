-- Worked cases of what a statement may not do beside pending transfers.
use Rattle.std.specs.Prelude.{◌≡◌, ℕ, pos, negsuc, true, false, List, [], ◌∷◌, Option, Some, None}
use Rattle.fj_value.specs.declared.place.Place.{Place}
use Rattle.fj_value.specs.declared.condition.Rule.{Rule}
use Rattle.fj_value.specs.declared.condition.Rule.TheVariants.{P1, P2, P3, P4, P5}
use Rattle.fj_value.specs.declared.value.Value.TheVariants.{Undefined, Int}
use Rattle.fj_store.specs.Variables.{Variables}
use Rattle.fj_book.specs.Prohibitions.{Need, Holder, prohibited}

-- variables: A is 3, B is undefined, and C has the elements 1 and 2
abbrev pub variables : Variables
variables = (Int (pos 3) ∷ []) ∷ (Undefined ∷ []) ∷ (Int (pos 1) ∷ Int (pos 2) ∷ []) ∷ []

abbrev pub a : Place
a = record { var = 0; index = 1 }

abbrev pub b : Place
b = record { var = 1; index = 1 }

abbrev pub c : ℕ → Place
c index = record { var = 2; index = index }

abbrev pub reading : ℕ → List Place → Holder
reading id places = record { id = id; unit = 10; input = true; places = places }

abbrev pub writing : ℕ → List Place → Holder
writing id places = record { id = id; unit = 10; input = false; places = places }

abbrev pub nothing : Need
nothing = record { unit = Some 10; references = []; defines = []; specifiers = []; items = []; internal = []; id = None }

abbrev pub references : List Place → Need
references places = record nothing { references = places }

abbrev pub defines : List Place → Need
defines places = record nothing { defines = places }

abbrev pub told : List Holder → Need → Option Rule
told book need = prohibited variables book need

-- what statements of whole decks are told
pub record DecksAreTold : Type 0 where
  -- of two READs the second was told: the first one's item may not be referenced, and the second one's may
  pub first_read_is_pending : told (reading 1 (a ∷ []) ∷ []) (references (a ∷ [])) ≡ Some P1
  pub second_read_was_told : told (reading 1 (b ∷ []) ∷ []) (references (a ∷ [])) ≡ None
  -- the item of a pending WRITE may be referenced, and not defined
  pub written_is_referenced : told (writing 1 (a ∷ []) ∷ []) (references (a ∷ [])) ≡ None
  pub written_is_not_defined : told (writing 1 (a ∷ []) ∷ []) (defines (a ∷ [])) ≡ Some P2
  -- WAIT with an identifier, where nothing is pending on the unit, and where it is
  pub nothing_to_wait_for : told [] (record nothing { id = Some (pos 1) }) ≡ Some P4
  pub pending_is_waited_for : told (reading 1 (a ∷ b ∷ []) ∷ []) (record nothing { references = c 1 ∷ []; id = Some (pos 1) }) ≡ None
  pub pending_on_another_unit : told (reading 1 (a ∷ []) ∷ []) (record nothing { unit = Some 11; id = Some (pos 1) }) ≡ Some P4
  pub below_zero : told (reading 1 (a ∷ []) ∷ []) (record nothing { id = Some (negsuc 0) }) ≡ Some P4
  -- a READ on another unit beside three pending WRITEs of one item
  pub beside_three_writes : told (writing 1 (a ∷ []) ∷ writing 2 (a ∷ []) ∷ writing 3 (a ∷ []) ∷ []) (defines (b ∷ [])) ≡ None
  -- the last of them told, the item is held by the others
  pub held_by_others : told (writing 1 (a ∷ []) ∷ writing 2 (a ∷ []) ∷ []) (defines (a ∷ [])) ≡ Some P2
  -- one element of an array is held, and not its neighbour
  pub element_is_held : told (reading 1 (c 2 ∷ []) ∷ []) (references (c 1 ∷ c 2 ∷ [])) ≡ Some P1
  pub neighbour_is_free : told (reading 1 (c 2 ∷ []) ∷ []) (references (c 1 ∷ [])) ≡ None

-- each prohibition where no other is broken
pub record EachIsTold : Type 0 where
  pub none_broken : told [] (references (a ∷ c 1 ∷ [])) ≡ None
  pub reads_pending : told (reading 1 (a ∷ []) ∷ []) (references (a ∷ [])) ≡ Some P1
  pub defines_held : told (reading 1 (a ∷ []) ∷ []) (defines (a ∷ [])) ≡ Some P2
  pub reads_undefined : told [] (references (a ∷ b ∷ [])) ≡ Some P3
  pub names_none : told (reading 1 (a ∷ []) ∷ []) (record nothing { id = Some (pos 2) }) ≡ Some P4
  pub defines_an_item : told [] (record (defines (a ∷ a ∷ [])) { specifiers = a ∷ []; items = a ∷ [] }) ≡ Some P5

-- of two that are broken the lowest is told
pub record LowestIsTold : Type 0 where
  pub one_two : told (reading 1 (a ∷ []) ∷ []) (record (references (a ∷ [])) { defines = a ∷ [] }) ≡ Some P1
  pub one_three : told (reading 1 (b ∷ []) ∷ []) (references (b ∷ [])) ≡ Some P1
  pub one_three_elsewhere : told (reading 1 (a ∷ []) ∷ []) (references (b ∷ a ∷ [])) ≡ Some P1
  pub one_four : told (reading 1 (a ∷ []) ∷ []) (record (references (a ∷ [])) { id = Some (pos 2) }) ≡ Some P1
  pub one_five : told (reading 1 (a ∷ []) ∷ []) (record (references (a ∷ [])) { specifiers = c 1 ∷ c 1 ∷ [] }) ≡ Some P1
  pub two_three : told (writing 1 (a ∷ []) ∷ []) (record (references (b ∷ [])) { defines = a ∷ [] }) ≡ Some P2
  pub two_four : told (writing 1 (a ∷ []) ∷ []) (record (defines (a ∷ [])) { id = Some (pos 2) }) ≡ Some P2
  pub two_five : told (writing 1 (a ∷ []) ∷ []) (record (defines (a ∷ a ∷ [])) { specifiers = a ∷ a ∷ [] }) ≡ Some P2
  pub three_four : told [] (record (references (b ∷ [])) { id = Some (pos 1) }) ≡ Some P3
  pub three_five : told [] (record (references (b ∷ [])) { specifiers = b ∷ []; items = b ∷ [] }) ≡ Some P3
  pub four_five : told [] (record nothing { specifiers = a ∷ a ∷ []; id = Some (pos 1) }) ≡ Some P4

-- which parts of a statement may not meet
pub record PartsMeet : Type 0 where
  pub two_specifiers : told [] (record nothing { specifiers = a ∷ c 1 ∷ a ∷ [] }) ≡ Some P5
  pub last_two_specifiers : told [] (record nothing { specifiers = b ∷ a ∷ a ∷ [] }) ≡ Some P5
  pub three_specifiers : told [] (record nothing { specifiers = a ∷ b ∷ c 1 ∷ [] }) ≡ None
  pub specifier_and_item : told [] (record nothing { specifiers = a ∷ c 2 ∷ []; items = c 1 ∷ c 2 ∷ [] }) ≡ Some P5
  pub specifier_and_other_item : told [] (record nothing { specifiers = a ∷ []; items = c 1 ∷ c 2 ∷ [] }) ≡ None
  pub specifier_and_internal_file : told [] (record nothing { specifiers = c 2 ∷ []; internal = c 1 ∷ c 2 ∷ [] }) ≡ Some P5
  pub item_and_internal_file : told [] (record nothing { items = a ∷ c 1 ∷ []; internal = c 1 ∷ c 2 ∷ [] }) ≡ Some P5
  pub item_beside_internal_file : told [] (record nothing { specifiers = b ∷ []; items = a ∷ []; internal = c 1 ∷ c 2 ∷ [] }) ≡ None
  -- an item may stand twice
  pub item_twice : told [] (record nothing { items = a ∷ a ∷ [] }) ≡ None
