-- What the assignments of a group do to its members.
use Rattle.std.specs.Prelude.{◌≡◌, ◌≢◌, ℕ, ◌+◌, ◌^◌, ◌<◌, Bool, true, nat_lt, if◌then◌else◌, List, [], ◌∷◌, ◌++◌, Option, Some, None}
use Rattle.fj_value.specs.declared.value.Cell.{Cell}
use Rattle.fj_value.specs.declared.condition.Condition.{Condition}
use Rattle.fj_value.specs.declared.condition.Condition.TheVariants.{Error}
use Rattle.fj_moved.specs.declared.moved.GroupMember.{GroupMember}
use Rattle.fj_list.specs.Stream.{Stream, stream, records_behind}
use Rattle.fj_list.specs.Cuts.{characters}
use Rattle.fj_list.specs.Grammar.{IsBlank, Finish}
use Rattle.fj_list.specs.Understood.{Constant, constants, end_of}
use Rattle.fj_namelist.specs.declared.place.Elements.{Elements}
use Rattle.fj_namelist.specs.declared.place.GroupPlace.{GroupPlace}
use Rattle.fj_namelist.specs.declared.place.GroupPlace.TheVariants as place
use Rattle.fj_namelist.specs.Names.{same_name, member_of}
use Rattle.fj_namelist.specs.GroupInput.{Result, ended, constant_read, given_to, place_of, group_input}
use Rattle.fj_namelist.specs.Grammar.{Gap, BeginsBlank, Assignment, IsGroupText}

-- Elements get constants one after another, from one on; a null value leaves its element. The condition of a constant that
-- is not of the member's kind ends it, and so does 23 where there is no element.
abbrev pub all_given : Elements → ℕ → List Constant → List Cell → (List Cell → Result) → Result
all_given e i [] cells next = next cells
all_given e i (c ∷ cs) cells next = if nat_lt i e.count then given_to (constant_read e.kind c.0 c.1) e i cells (λ cells'. all_given e (i + 1) cs cells' next) else ended cells (Error 23)

-- 23 where there is no member of the name, or no element of the subscript
abbrev pub assigned_at : Option GroupPlace → List Constant → List Cell → (List Cell → Result) → Result
assigned_at None cs cells next = ended cells (Error 23)
assigned_at (Some place.Due) cs cells next = next cells
assigned_at (Some (place.At e i begins)) cs cells next = all_given e i cs cells next

-- the assignments one after another, and the condition in which they end
abbrev pub all_assigned : List GroupMember → Condition → List Assignment → List Cell → Result
all_assigned members end [] cells = ended cells end
all_assigned members end (a ∷ rest) cells = assigned_at (place_of (member_of members a.name) a.subscript) (constants a.values) cells (λ cells'. all_assigned members end rest cells')

-- members have as many elements as their type can count
abbrev pub AreCounted : List GroupMember → Type 0
AreCounted [] = Unit {0}
AreCounted (m ∷ members) = (m.count < 2 ^ 32) × AreCounted members

-- A statement reads the assignments of its group's text, the first condition from the left to the right ends it, and the
-- records behind that of the slash are not looked at.
abbrev pub GroupTextIsRead : Type 0
GroupTextIsRead = (comma : Bool) (group : List ℕ) (lines : List (List ℕ)) (all : List Assignment) (finish : Finish) (rest : Stream) → IsGroupText comma group (stream lines) all finish rest
    → (members : List GroupMember) (cells : List Cell) (ending : Condition) → AreCounted members
    → let wanted = all_assigned members (end_of finish ending) all cells in
    group_input comma lines ending group members cells ≡ record { cells = wanted.cells; condition = wanted.condition; left = records_behind rest }

-- a text that is neither blank nor a comment, nor an ampersand and the group's name with a blank or the record's end behind
pub record IsOtherText (group : List ℕ) (c : ℕ) (s : Stream) : Type 0 where
  pub blank : IsBlank (Some c) → ⊥
  pub comment : c ≢ 33
  pub other : c ≡ 38 → (name : List ℕ) (t : Stream) → s ≡ characters name ++ t → same_name name group ≡ true → BeginsBlank t → ⊥

-- Where blanks and comments alone are there the statement meets the end of the records, and where the first text is another
-- one its condition is 22. The values stay as they were.
pub record NeedsHeading (comma : Bool) (group : List ℕ) (lines : List (List ℕ)) (members : List GroupMember) (cells : List Cell) (ending : Condition) : Type 0 where
  pub no_text : Gap true (stream lines) [] → group_input comma lines ending group members cells ≡ record { cells = cells; condition = ending; left = [] }
  pub other_text : (c : ℕ) (s : Stream) → Gap true (stream lines) (Some c ∷ s) → IsOtherText group c s → group_input comma lines ending group members cells ≡ record { cells = cells; condition = Error 22; left = records_behind s }

abbrev pub GroupsNeedHeadings : Type 0
GroupsNeedHeadings = (comma : Bool) (group : List ℕ) (lines : List (List ℕ)) (members : List GroupMember) (cells : List Cell) (ending : Condition) → NeedsHeading comma group lines members cells ending

-- By the grammar records have the assignments of one text at most, end in one way, and leave the same records.
abbrev pub GroupTextHasOneMeaning : Type 0
GroupTextHasOneMeaning = (comma : Bool) (group : List ℕ) (lines : List (List ℕ)) (all all' : List Assignment) (finish finish' : Finish) (rest rest' : Stream)
    → IsGroupText comma group (stream lines) all finish rest → IsGroupText comma group (stream lines) all' finish' rest' → (all ≡ all') × (finish ≡ finish') × (records_behind rest ≡ records_behind rest')
