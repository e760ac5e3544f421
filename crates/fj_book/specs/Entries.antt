-- The pending transfers in ascending order of their identifiers.
use Rattle.std.specs.Prelude.{ℕ, ◌==◌, ◌<◌, ◌&&◌, nat_le, Bool, true, List, map, AllPairs, Option, None, Some}
use Rattle.fj_book.specs.declared.pending.Pending.{Pending}
use Rattle.fj_book.specs.Prohibitions.{Holder}

abbrev pub tag_of : Pending → ℕ
tag_of e = e.tag.0

abbrev pub has_tag : ℕ → Pending → Bool
has_tag tag e = tag_of e == tag

abbrev pub is_of_unit : ℕ → Pending → Bool
is_of_unit unit e = e.unit == unit

-- of any unit where none is named
abbrev pub is_of : Option ℕ → Pending → Bool
is_of None e = true
is_of (Some unit) e = is_of_unit unit e

-- it has the identifier or a greater one, and is of the unit
abbrev pub is_told : Option ℕ → ℕ → Pending → Bool
is_told unit first e = nat_le first (tag_of e) && is_of unit e

abbrev pub IsAscending : List Pending → Type 0
IsAscending entries = AllPairs (λ (a b : Pending). tag_of a < tag_of b) entries

-- as prohibitions see them
abbrev pub holder : Pending → Holder
holder e = record { id = tag_of e; unit = e.unit; input = e.input; places = e.places }

abbrev pub holders : List Pending → List Holder
holders entries = map holder entries
