-- What the names of assignments name (ISO/IEC 1539-1:2004, 10.10.1.1).
use Rattle.std.specs.Prelude.{◌≡◌, ℕ, ◌+◌, ◌<◌, ◌≤◌, true, false, List, ◌∷◌, Option, Some, None}
use Rattle.fj_moved.specs.declared.moved.GroupMember.{GroupMember}
use Rattle.fj_namelist.specs.declared.place.GroupPlace.{GroupPlace}
use Rattle.fj_namelist.specs.declared.place.GroupPlace.TheVariants as place
use Rattle.fj_namelist.specs.Names.{same_name, member_of}
use Rattle.fj_namelist.specs.GroupInput.{elements, element_of}
use Rattle.fj_namelist.specs.GroupReadAgain.{IsAmong}

-- An element of an array is named by its number, counted from 1; a scalar has no subscript, and no other number names one.
pub record NamesElement (m : GroupMember) (n : ℕ) (named : Option GroupPlace) : Type 0 where
  pub there : (i : ℕ) → m.scalar ≡ false → i + 1 ≡ n → n ≤ m.count → named ≡ Some (place.At (elements m) i true)
  pub scalar : m.scalar ≡ true → named ≡ None
  pub below : n ≡ 0 → named ≡ None
  pub beyond : m.count < n → named ≡ None

-- the first of these members with that name but for case
pub data IsFirst (name : List ℕ) (m : GroupMember) : List GroupMember → Type 0 where
  here : {members : List GroupMember} → same_name m.name name ≡ true → IsFirst name m (m ∷ members)
  later : {x : GroupMember} {members : List GroupMember} → same_name x.name name ≡ false → IsFirst name m members → IsFirst name m (x ∷ members)

-- the first member of a name; and where there is none no member has it
pub record NamesMember (members : List GroupMember) (name : List ℕ) : Type 0 where
  pub found : (m : GroupMember) → member_of members name ≡ Some m → IsFirst name m members
  pub none : member_of members name ≡ None → (m : GroupMember) → IsAmong m members → same_name m.name name ≡ false

-- a name without a subscript begins with the first element
pub record NamesElements (members : List GroupMember) (name : List ℕ) (m : GroupMember) : Type 0 where
  pub member : NamesMember members name
  pub first : element_of m None ≡ Some (place.At (elements m) 0 true)
  pub element : (n : ℕ) → NamesElement m n (element_of m (Some n))

abbrev pub ElementsAreNamed : Type 0
ElementsAreNamed = (members : List GroupMember) (name : List ℕ) (m : GroupMember) → NamesElements members name m
