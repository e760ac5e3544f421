-- Namelist input (ISO/IEC 1539-1:2004, 10.10.1): assignments to members of a group.
use Rattle.std.specs.Prelude.{ℕ, zero, suc, ◌+◌, ◌-◌, Bool, true, false, ◌||◌, ◌==◌, nat_lt, if◌then◌else◌, List, [], ◌∷◌, Option, Some, None, slice_get}
use Rattle.fj_value.specs.declared.kind.Kind.{Kind}
use Rattle.fj_value.specs.declared.kind.Kind.TheVariants.{Chars}
use Rattle.fj_value.specs.declared.value.Cell.{Cell}
use Rattle.fj_value.specs.declared.condition.Condition.{Condition}
use Rattle.fj_value.specs.declared.condition.Condition.TheVariants.{Fine, Error}
use Rattle.fj_list.specs.declared.constant.Form.{Form}
use Rattle.fj_list.specs.declared.constant.Form.TheVariants.{Null, Undelimited, Delimited}
use Rattle.fj_list.specs.declared.constant.Read.{Read}
use Rattle.fj_list.specs.declared.constant.Read.TheVariants as read
use Rattle.fj_moved.specs.declared.moved.GroupMember.{GroupMember}
use Rattle.fj_list.specs.Constant.{read_as}
use Rattle.fj_list.specs.ListInput.{Outcome}
use Rattle.fj_moved.specs.Cells.{with_value}
use Rattle.fj_namelist.specs.declared.token.Token.{Token}
use Rattle.fj_namelist.specs.declared.token.Token.TheVariants as token
use Rattle.fj_namelist.specs.declared.token.State.TheVariants.{Between}
use Rattle.fj_namelist.specs.declared.place.Elements.{Elements}
use Rattle.fj_namelist.specs.declared.place.Begun.{Begun}
use Rattle.fj_namelist.specs.declared.place.GroupPlace.{GroupPlace}
use Rattle.fj_namelist.specs.declared.place.GroupPlace.TheVariants as place
use Rattle.fj_namelist.specs.Names.{Designator, member_of, designator, subscript_in, with_subscript, repeat_in, behind_star}
use Rattle.fj_namelist.specs.Tokens.{lines_lexed}
use Rattle.fj_namelist.specs.Heading.{Heading, named, misnamed, missing, heading}

-- the cells, and the condition
pub record Result : Type 0 where
  pub cells : List Cell
  pub condition : Condition

abbrev pub ended : List Cell → Condition → Result
ended cells condition = record { cells = cells; condition = condition }

-- where the values of an assignment go; scalars have no subscript
abbrev pub elements : GroupMember → Elements
elements m = record { kind = m.kind; first = m.first; count = m.count }

abbrev pub element_of : GroupMember → Option ℕ → Option GroupPlace
element_of m None = Some (place.At (elements m) 0 true)
element_of m (Some n) = if m.scalar || ((n == 0) || nat_lt m.count n) then None else Some (place.At (elements m) (n - 1) true)

abbrev pub place_of : Option GroupMember → Option ℕ → Option GroupPlace
place_of None n = None
place_of (Some m) n = element_of m n

-- characters are delimited
abbrev pub constant_read : Kind → Form → List ℕ → Read
constant_read (Chars n) Undelimited cs = read.Wrong (Error 13)
constant_read kind form cs = read_as kind form cs

-- one element gets a constant
abbrev pub given_to : Read → Elements → ℕ → List Cell → (List Cell → Result) → Result
given_to read.Null e i cells next = next cells
given_to (read.Defined v) e i cells next = next (with_value cells (e.first + i) v)
given_to (read.Wrong condition) e i cells next = ended cells condition

-- a constant is given to so many elements, from one on; 23 where there is none
abbrev pub filled : Elements → Form → List ℕ → ℕ → ℕ → List Cell → (ℕ → List Cell → Result) → Result
filled e form cs zero i cells next = next i cells
filled e form cs (suc n) i cells next =
    if nat_lt i e.count then given_to (constant_read e.kind form cs) e i cells (λ cells'. filled e form cs n (i + 1) cells' next) else ended cells (Error 23)

-- a word among the values: a constant, or one with a repeat count, or null values
abbrev pub word_given : Option (Option ℕ) → List ℕ → List ℕ → Elements → ℕ → List Cell → (ℕ → List Cell → Result) → Result
word_given None rest w e i cells next = filled e Undelimited w 1 i cells next
word_given (Some None) rest w e i cells next = ended cells (Error 13)
word_given (Some (Some n)) [] w e i cells next = filled e Null [] n i cells next
word_given (Some (Some n)) (c ∷ cs) w e i cells next = filled e Undelimited (c ∷ cs) n i cells next

-- text in the place of a value that is none
abbrev pub no_value : Elements → ℕ → List Cell → Result
no_value e i cells = ended cells (if nat_lt i e.count then Error 13 else Error 23)

-- a separator: behind a value it is that value's, else there is a null value before it
abbrev pub separated : Elements → ℕ → Bool → List Cell → (GroupPlace → List Cell → Result) → Result
separated e i false cells next = next (place.At e i true) cells
separated e i true cells next = if nat_lt i e.count then next (place.At e (i + 1) true) cells else ended cells (Error 23)

-- a token among the values of a member, from an element on
abbrev pub value_taken : Token → Elements → ℕ → Bool → List Cell → (GroupPlace → List Cell → Result) → Result
value_taken token.Separator e i begins cells next = separated e i begins cells next
value_taken (token.Word w) e i begins cells next = word_given (repeat_in w) (behind_star w) w e i cells (λ i' cells'. next (place.At e i' false) cells')
value_taken (token.Constant n cs) e i begins cells next = filled e Delimited cs n i cells (λ i' cells'. next (place.At e i' false) cells')
value_taken token.Equals e i begins cells next = no_value e i cells
value_taken token.Wrong e i begins cells next = ended cells (Error 13)
value_taken (token.Open condition) e i begins cells next = ended cells condition
value_taken (token.End condition) e i begins cells next = ended cells condition
value_taken token.Slash e i begins cells next = ended cells Fine

-- where an assignment is due, or the slash
abbrev pub due_condition : Token → Condition
due_condition token.Slash = Fine
due_condition (token.End condition) = condition
due_condition _ = Error 24

-- a token that is no name
abbrev pub taken : Token → GroupPlace → List Cell → (GroupPlace → List Cell → Result) → Result
taken t place.Due cells next = ended cells (due_condition t)
taken t (place.At e i begins) cells next = value_taken t e i begins cells next

-- a name, and how many tokens it takes behind its first one
pub record Name : Type 0 where
  pub designator : Designator
  pub more : ℕ

abbrev pub name_of : ℕ → Option Designator → Option Name
name_of more None = None
name_of more (Some d) = Some (record { designator = d; more = more })

abbrev pub is_equals : Option Token → Bool
is_equals (Some token.Equals) = true
is_equals _ = false

-- a word and `=`, maybe with a subscript between
abbrev pub name_at : Token → Option Token → Option Token → Option Name
name_at (token.Word w) (Some token.Equals) third = name_of 1 (designator w)
name_at (token.Word w) (Some (token.Word u)) (Some token.Equals) = name_of 2 (with_subscript (designator w) (subscript_in u))
name_at _ _ _ = None

-- an assignment begins: the elements, if there are such
abbrev pub begun_at : List GroupMember → Option Name → Option Begun
begun_at members None = None
begun_at members (Some name) = Some (record { place = place_of (member_of members name.designator.name) name.designator.subscript; more = name.more })

-- 23 where there are none
abbrev pub begun : Begun → List Cell → Option GroupPlace → (GroupPlace → ℕ → List Cell → Result) → Result
begun b cells None next = ended cells (Error 23)
begun b cells (Some place) next = next place b.more cells

abbrev pub either_taken : Option Begun → Token → GroupPlace → List Cell → (GroupPlace → ℕ → List Cell → Result) → Result
either_taken (Some b) t place cells next = begun b cells b.place next
either_taken None t place cells next = taken t place cells (λ place' cells'. next place' 0 cells')

-- the tokens one after another, but for so many that a name took
abbrev pub tokens_taken : List GroupMember → GroupPlace → ℕ → List Token → List Cell → Result
tokens_taken members place skip [] cells = ended cells Fine
tokens_taken members place (suc skip) (t ∷ ts) cells = tokens_taken members place skip ts cells
tokens_taken members place zero (t ∷ ts) cells = either_taken (begun_at members (name_at t (slice_get ts 0) (slice_get ts 1))) t place cells (λ place' more cells'. tokens_taken members place' more ts cells')

abbrev pub group_read : Bool → Condition → List GroupMember → List Cell → Heading → Outcome
group_read comma ending members cells missing = record { cells = cells; condition = ending; left = [] }
group_read comma ending members cells (misnamed lines) = record { cells = cells; condition = Error 22; left = lines }
group_read comma ending members cells (named rest lines) =
    let group = lines_lexed comma ending (Between true) (rest ∷ lines) in
    let result = tokens_taken members place.Due 0 group.tokens cells in
    record { cells = result.cells; condition = result.condition; left = group.left }

-- What a statement reads. The records are looked at up to the one with the slash.
abbrev pub group_input : Bool → List (List ℕ) → Condition → List ℕ → List GroupMember → List Cell → Outcome
group_input comma lines ending group members cells = group_read comma ending members cells (heading group lines)
