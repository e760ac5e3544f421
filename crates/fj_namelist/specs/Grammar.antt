-- The grammar of namelist input (ISO/IEC 1539-1:2004, 10.10.1), as a relation between records and the assignments that
-- stand in them. Each rule leads from characters with record ends to what is left of them.
use Rattle.std.specs.Prelude.{◌≡◌, ◌≢◌, ℕ, Bool, true, false, List, [], ◌∷◌, ◌++◌, Option, Some, None}
use Rattle.fj_value.specs.Digits.{number_in}
use Rattle.fj_list.specs.declared.constant.Form.{Form}
use Rattle.fj_list.specs.declared.constant.Form.TheVariants.{Null, Undelimited}
use Rattle.fj_list.specs.Stream.{Stream}
use Rattle.fj_list.specs.Cuts.{characters}
use Rattle.fj_list.specs.Grammar.{Given, given, separator_of, IsBlank, Item, Finish, at_records_end, at_slash}
use Rattle.fj_namelist.specs.Names.{same_name}
use Rattle.fj_namelist.specs.GroupReadAgain.{IsName}

-- what is left of a record with a comment, and its end
pub data Comment : Stream → Stream → Type 0 where
  ends : {s : Stream} → Comment (None ∷ s) s
  goes_on : {s t : Stream} (c : ℕ) → Comment s t → Comment (Some c ∷ s) t

-- Blanks, record ends and comments, or nothing. A comment begins at a record's start, and behind a blank or a separator;
-- not directly behind the group's name, `=` or a value (own).
pub data Gap : Bool → Stream → Stream → Type 0 where
  nothing : {fresh : Bool} {s : Stream} → Gap fresh s s
  blank : {fresh : Bool} {s t : Stream} (x : Option ℕ) → IsBlank x → Gap true s t → Gap fresh (x ∷ s) t
  comment : {s t u : Stream} (c : ℕ) → c ≡ 33 → Comment s t → Gap true t u → Gap true (Some c ∷ s) u

-- A name and `=`, with blanks between or not; or a name, one subscript in parentheses, and `=`.
pub data Named : List ℕ → Option ℕ → Stream → Stream → Type 0 where
  whole : {s t : Stream} (name : List ℕ) → IsName name → Gap false s (Some 61 ∷ t) → Named name None (characters name ++ s) t
  element : {s t u : Stream} (name digits : List ℕ) (n : ℕ) → IsName name → number_in 10 digits ≡ Some n → Gap false s (characters (40 ∷ (digits ++ 41 ∷ [])) ++ t) → Gap false t (Some 61 ∷ u)
      → Named name (Some n) (characters name ++ s) u

abbrev pub Lacks : ℕ → List ℕ → Type 0
Lacks c [] = Unit {0}
Lacks c (d ∷ ds) = (d ≢ c) × Lacks c ds

abbrev pub BeginsWithNo : ℕ → List ℕ → Type 0
BeginsWithNo c [] = Unit {0}
BeginsWithNo c (d ∷ ds) = d ≢ c

-- among values no `=` stands in a constant without delimiters, and it does not begin as a comment
abbrev pub IsAmongValues : Form → List ℕ → Type 0
IsAmongValues Undelimited cs = Lacks 61 cs × BeginsWithNo 33 cs
IsAmongValues _ cs = Unit {0}

-- a character or the end of a record
abbrev pub Follows : Stream → Type 0
Follows [] = ⊥
Follows (x ∷ s) = Unit {0}

-- The values of an assignment, from where a comment may begin or not, and from where a value may begin or behind one. They
-- are as in list-directed input: blanks and comments part them, and so does one separator; a separator without a value
-- before it makes a null value, and one may stand behind the last value.
pub data Values (comma : Bool) : Bool → Bool → Stream → List Given → Bool → Stream → Type 0 where
  no_more : {fresh begins : Bool} {s : Stream} → Values comma fresh begins s [] fresh s
  value : {fresh begins fresh' : Bool} {s t u w : Stream} {g : Given} {gs : List Given} → Gap fresh s t → Item comma g t u → IsAmongValues g.form g.characters → Follows u → Values comma false false u gs fresh' w
      → Values comma fresh begins s (g ∷ gs) fresh' w
  separator : {fresh fresh' : Bool} {s t u : Stream} {gs : List Given} (c : ℕ) → c ≡ separator_of comma → Gap fresh s (Some c ∷ t) → Values comma true true t gs fresh' u → Values comma fresh false s gs fresh' u
  null_value : {fresh fresh' : Bool} {s t u : Stream} {gs : List Given} (c : ℕ) → c ≡ separator_of comma → Gap fresh s (Some c ∷ t) → Values comma true true t gs fresh' u
      → Values comma fresh true s (given 1 Null [] ∷ gs) fresh' u

-- values for a member, from an element on or from the first one
pub record Assignment : Type 0 where
  pub name : List ℕ
  pub subscript : Option ℕ
  pub values : List Given

-- Assignments one after another, and how they end: with a slash or with the records; and what is behind the slash.
pub data Assignments (comma : Bool) : Bool → Stream → List Assignment → Finish → Stream → Type 0 where
  slash : {fresh : Bool} {s t : Stream} → Gap fresh s (Some 47 ∷ t) → Assignments comma fresh s [] at_slash t
  records_end : {fresh : Bool} {s : Stream} → Gap fresh s [] → Assignments comma fresh s [] at_records_end []
  assignment : {fresh fresh' : Bool} {s t u v w : Stream} {a : Assignment} {rest : List Assignment} {f : Finish} → Gap fresh s t → Named a.name a.subscript t u → Values comma false true u a.values fresh' v
      → Assignments comma fresh' v rest f w → Assignments comma fresh s (a ∷ rest) f w

-- the group's name ends with a blank or with its record
abbrev pub BeginsBlank : Stream → Type 0
BeginsBlank [] = ⊥
BeginsBlank (x ∷ s) = IsBlank x

-- Behind blank records and comments an ampersand and the group's name, and then assignments.
pub data IsGroupText (comma : Bool) (group : List ℕ) : Stream → List Assignment → Finish → Stream → Type 0 where
  group_text : {s t u : Stream} {all : List Assignment} {f : Finish} (name : List ℕ) → same_name name group ≡ true → IsName name → Gap true s (Some 38 ∷ (characters name ++ t)) → BeginsBlank t
      → Assignments comma false t all f u → IsGroupText comma group s all f u
