-- What holds of every deck, so that nothing about it is looked up again.
use Rattle.std.specs.Prelude.{◌≡◌, ℕ, ◌*◌, ◌<◌, ◌≤◌, Bool, true, false, ◌||◌, ◌==◌, List, [], ◌∷◌, ◌++◌, length, map, max, All, Option, Some, None, IsSome, IfSome, slice_get, unwrap_or}
use Rattle.std.specs.Char.{is_ascii_uppercase, is_ascii_digit}
use Rattle.std.specs.List.{AllPass, Contains, sum_by}
use Rattle.std.specs.Option.{option_map_or}
use Rattle.fj_value.specs.declared.kind.Kind.{Kind}
use Rattle.fj_value.specs.declared.kind.Kind.TheVariants.{Int4, Int8, Logical, Chars}
use Rattle.fj_value.specs.declared.place.Place.{Place}
use Rattle.fj_value.specs.Kind.{IsOfKind, integer_bits, text_length}
use Rattle.fj_modes.specs.declared.asked.Question.{Question}
use Rattle.fj_modes.specs.declared.asked.Question.TheVariants as question
use Rattle.fj_modes.specs.declared.asked.Wanted.{Wanted}
use Rattle.fj_statement.specs.declared.unit.InternalFile.{InternalFile}
use Rattle.fj_statement.specs.declared.unit.InternalFile.TheVariants as file
use Rattle.fj_statement.specs.declared.unit.UnitRef.{UnitRef}
use Rattle.fj_statement.specs.declared.unit.UnitRef.TheVariants.{Star}
use Rattle.fj_statement.specs.declared.unit.Subject.{Subject}
use Rattle.fj_statement.specs.declared.unit.Subject.TheVariants as subject
use Rattle.fj_statement.specs.Units.{internal_of, place_held, place_new}
use Rattle.fj_format.specs.Unfolding.{has_width_zero}
use Rattle.fj_statement.specs.declared.deck.Variable.{Variable}
use Rattle.fj_statement.specs.declared.deck.Lined.{Lined}
use Rattle.fj_statement.specs.declared.deck.Deck.{Deck}
use Rattle.fj_statement.specs.declared.statement.Operand.{Operand}
use Rattle.fj_statement.specs.declared.statement.Operand.TheVariants.{Literal, One, Whole}
use Rattle.fj_statement.specs.declared.statement.Control.{Control}
use Rattle.fj_statement.specs.declared.statement.Control.TheVariants as control
use Rattle.fj_statement.specs.declared.statement.Transfer.{Transfer}
use Rattle.fj_statement.specs.declared.statement.Statement.{Statement}
use Rattle.fj_statement.specs.declared.statement.Statement.TheVariants as statement

abbrev pub Variables : Type 0
Variables = List Variable

-- ---- places (6.2)

-- the places of a variable: a scalar is one
abbrev pub places_of : Variable → ℕ
places_of v = max 1 v.count

-- the places of the variable of a number
abbrev pub places_at : Variables → ℕ → ℕ
places_at vs var = option_map_or places_of (slice_get vs var) 0

-- the bytes of a value of a kind
abbrev pub bytes_of : Kind → ℕ
bytes_of Int4 = 4
bytes_of Int8 = 8
bytes_of Logical = 4
bytes_of (Chars n) = n

-- a place of a variable of the kind
pub record IsPlace (vs : Variables) (place : Place) (kind : Kind) : Type 0 where
  pub variable : Variable
  pub is : slice_get vs place.var ≡ Some variable
  pub kind_is : variable.kind ≡ kind
  pub from : 1 ≤ place.index
  pub to : place.index ≤ places_of variable

-- an array of the kind, with so many elements
pub record IsArray (vs : Variables) (var : ℕ) (kind : Kind) (count : ℕ) : Type 0 where
  pub variable : Variable
  pub is : slice_get vs var ≡ Some variable
  pub kind_is : variable.kind ≡ kind
  pub count_is : variable.count ≡ count
  pub some : 1 ≤ count

-- an operand of the kind, with so many elements
abbrev pub IsOperand : Variables → Operand → Kind → ℕ → Type 0
IsOperand vs (Literal k value) kind count = (k ≡ kind) × IsOfKind k value × (count ≡ 1)
IsOperand vs (One place) kind count = IsPlace vs place kind × (count ≡ 1)
IsOperand vs (Whole var) kind count = IsArray vs var kind count

abbrev pub IsInteger : Kind → Type 0
IsInteger kind = IsSome (integer_bits kind)

abbrev pub IsIntegerPlace : Variables → Place → Type 0
IsIntegerPlace vs place = (kind : Kind) × IsPlace vs place kind × IsInteger kind

-- an integer literal or place
abbrev pub IsIntegerOperand : Variables → Operand → Type 0
IsIntegerOperand vs (Literal kind value) = IsOfKind kind value × IsInteger kind
IsIntegerOperand vs (One place) = IsIntegerPlace vs place
IsIntegerOperand vs (Whole var) = ⊥

abbrev pub IsVariable : Operand → Type 0
IsVariable (Literal kind value) = ⊥
IsVariable o = Unit {0}

-- ---- assignments (7.4.1)

-- the same kind, or both are characters
abbrev pub Takes : Kind → Kind → Type 0
Takes (Chars to) (Chars from) = Unit {0}
Takes to from = to ≡ from

-- a literal of its class and range: INTEGER(8) has the numbers of INTEGER(4) too
abbrev pub TakesLiteral : Kind → Kind → Type 0
TakesLiteral Int8 Int4 = Unit {0}
TakesLiteral to from = Takes to from

-- a whole array gets a literal alone, and is got from by none
abbrev pub Fits : Operand → Operand → Kind → Kind → Type 0
Fits (Literal kind value) to from_kind to_kind = TakesLiteral to_kind from_kind
Fits (One place) (One to) from_kind to_kind = Takes to_kind from_kind
Fits from to from_kind to_kind = ⊥

pub record IsAssignment (vs : Variables) (to from : Operand) : Type 0 where
  pub to_kind : Kind
  pub to_count : ℕ
  pub from_kind : Kind
  pub from_count : ℕ
  pub to_is : IsOperand vs to to_kind to_count
  pub from_is : IsOperand vs from from_kind from_count
  pub variable : IsVariable to
  pub fits : Fits from to from_kind to_kind

-- ---- INQUIRE (9.9.1)

-- truth values go to logicals, numbers to integers, words to characters
abbrev pub IsAnswerKind : Question → Kind → Type 0
IsAnswerKind question.Exist kind = kind ≡ Logical
IsAnswerKind question.Opened kind = kind ≡ Logical
IsAnswerKind question.Named kind = kind ≡ Logical
IsAnswerKind question.Pending kind = kind ≡ Logical
IsAnswerKind question.Number kind = IsInteger kind
IsAnswerKind question.Recl kind = IsInteger kind
IsAnswerKind question.Nextrec kind = IsInteger kind
IsAnswerKind question.Pos kind = IsInteger kind
IsAnswerKind question.Size kind = IsInteger kind
IsAnswerKind _ kind = IsSome (text_length kind)

pub record IsAsked (vs : Variables) (w : Wanted) : Type 0 where
  pub place : IsPlace vs w.place w.kind
  pub suits : IsAnswerKind w.what w.kind

-- ---- READ and WRITE (9.5)

abbrev pub IsExplicit : Control → Type 0
IsExplicit (control.Explicit items) = Unit {0}
IsExplicit c = ⊥

abbrev pub IsFormatted : Control → Type 0
IsFormatted control.Unformatted = ⊥
IsFormatted c = Unit {0}

-- of direct or of no kind of its own: REC= has neither a list-directed format nor a group
abbrev pub MayHaveRecord : Control → Type 0
MayHaveRecord control.Unformatted = Unit {0}
MayHaveRecord (control.Explicit items) = Unit {0}
MayHaveRecord c = ⊥

-- of an internal file
abbrev pub IsListedOrExplicit : Control → Type 0
IsListedOrExplicit (control.Explicit items) = Unit {0}
IsListedOrExplicit control.Listed = Unit {0}
IsListedOrExplicit c = ⊥

abbrev pub HasNoZeroWidth : Control → Type 0
HasNoZeroWidth (control.Explicit items) = has_width_zero items ≡ false
HasNoZeroWidth c = Unit {0}

-- the members of a group
abbrev pub members_of : Control → List ℕ
members_of (control.Group name vars) = vars
members_of c = []

-- The members of a group are variables. They have no more than 1,000,000,000 places: 1,000 members, for which a line has
-- room, of 1,000,000 each (own).
pub record AreMembers (vs : Variables) (vars : List ℕ) : Type 0 where
  pub there : All (λ var. var < length vs) vars
  pub few : sum_by (places_at vs) vars ≤ 1000000000

abbrev pub HasNoItems : Control → List Operand → Type 0
HasNoItems (control.Group name vars) items = items ≡ []
HasNoItems c items = Unit {0}

abbrev pub IsGiven : {A : Type 0} → Option A → Type 0
IsGiven o = IsSome o

-- the kind of each item, and how many elements it is
abbrev pub AreItems : Variables → List Operand → List (Kind × ℕ) → Type 0
AreItems vs [] [] = Unit {0}
AreItems vs (o ∷ os) (s ∷ shapes) = IsOperand vs o s.0 s.1 × AreItems vs os shapes
AreItems vs os shapes = ⊥

-- no more than 1,000,000 elements and 16,777,216 bytes (own)
pub record IsList (vs : Variables) (items : List Operand) : Type 0 where
  pub shapes : List (Kind × ℕ)
  pub are : AreItems vs items shapes
  pub elements : sum_by (λ s. s.1) shapes ≤ 1000000
  pub bytes : sum_by (λ s. s.1 * bytes_of s.0) shapes ≤ 16777216

-- an internal file has a format, and neither a position nor a record that stays open nor a transfer that is pending (9.5.1)
pub record IsInternal (t : Transfer) : Type 0 where
  pub has_format : IsListedOrExplicit t.control
  pub has_no_record : t.rec ≡ None
  pub has_no_position : t.pos ≡ None
  pub has_no_advance : t.advance ≡ None
  pub is_at_once : t.asynchronous ≡ None

-- the rules on specifiers that go together (9.5.1)
pub record IsAllowed (t : Transfer) : Type 0 where
  pub id_needs_asynchronous : IsGiven t.id → t.asynchronous ≡ Some true
  pub size_needs_advance : IsGiven t.size → IsGiven t.advance
  pub advance_needs_format : IsGiven t.advance → IsExplicit t.control
  pub blank_needs_format : IsGiven t.blank_zero → IsFormatted t.control
  pub decimal_needs_format : IsGiven t.comma → IsFormatted t.control
  pub delim_needs_format : IsGiven t.delim → IsFormatted t.control
  pub pad_needs_format : IsGiven t.pad → IsFormatted t.control
  pub sign_needs_format : IsGiven t.plus → IsFormatted t.control
  pub record_excludes_position : IsGiven t.rec → t.pos ≡ None
  pub record_excludes_lists : IsGiven t.rec → MayHaveRecord t.control
  pub group_excludes_items : HasNoItems t.control t.items
  pub star_has_no_record : t.unit ≡ Star → t.rec ≡ None
  pub star_has_no_position : t.unit ≡ Star → t.pos ≡ None
  pub internal : IsGiven (internal_of t.unit) → IsInternal t
  pub read_has_places : t.input ≡ true → All IsVariable t.items
  pub read_has_widths : t.input ≡ true → HasNoZeroWidth t.control

-- the elements of an internal file are characters (9.3.1)
abbrev pub IsFile : Variables → InternalFile → Type 0
IsFile vs (file.One place) = (size : ℕ) × IsPlace vs place (Chars size)
IsFile vs (file.Whole var) = (size count : ℕ) × IsArray vs var (Chars size) count

-- a unit of a place, and NEWUNIT=, name an integer
abbrev pub IsUnit : Variables → UnitRef → Type 0
IsUnit vs u = IfSome (place_held u) (IsIntegerPlace vs) × IfSome (place_new u) (IsIntegerPlace vs)

abbrev pub IsSubject : Variables → Subject → Type 0
IsSubject vs (subject.Unit u) = IsUnit vs u
IsSubject vs (subject.File name) = Unit {0}

pub record IsTransfer (vs : Variables) (t : Transfer) : Type 0 where
  pub unit_is : IsUnit vs t.unit
  pub file_is : IfSome (internal_of t.unit) (IsFile vs)
  pub allowed : IsAllowed t
  pub items : IsList vs t.items
  pub members : AreMembers vs (members_of t.control)
  pub rec : IfSome t.rec (IsIntegerOperand vs)
  pub pos : IfSome t.pos (IsIntegerOperand vs)
  pub id : IfSome t.id (IsIntegerPlace vs)
  pub size : IfSome t.size (IsIntegerPlace vs)
  pub iostat : IfSome t.iostat (IsIntegerPlace vs)

-- ---- statements

pub record IsInquiry (vs : Variables) (about : Subject) (asked : List Wanted) (id : Option Operand) (iostat : Option Place) : Type 0 where
  pub subject_is : IsSubject vs about
  pub questions : All (IsAsked vs) asked
  pub id_is : IfSome id (IsIntegerOperand vs)
  pub iostat_is : IfSome iostat (IsIntegerPlace vs)

abbrev pub IsSoundStatement : Variables → Statement → Type 0
IsSoundStatement vs (statement.Assign to from) = IsAssignment vs to from
IsSoundStatement vs (statement.OpenUnit u spec iostat) = IsUnit vs u × IfSome iostat (IsIntegerPlace vs)
IsSoundStatement vs (statement.CloseUnit u keep iostat) = IsUnit vs u × IfSome iostat (IsIntegerPlace vs)
IsSoundStatement vs (statement.WaitFor u id iostat) = IsUnit vs u × IfSome id (IsIntegerOperand vs) × IfSome iostat (IsIntegerPlace vs)
IsSoundStatement vs (statement.Move how u iostat) = IsUnit vs u × IfSome iostat (IsIntegerPlace vs)
IsSoundStatement vs (statement.Inquire about asked id iostat _) = IsInquiry vs about asked id iostat
IsSoundStatement vs (statement.Transfer t) = IsTransfer vs t
IsSoundStatement vs statement.End = Unit {0}

abbrev pub IsNotEnd : Statement → Type 0
IsNotEnd statement.End = ⊥
IsNotEnd s = Unit {0}

-- the numbers of lines rise, and are above this one
abbrev pub AreRising : ℕ → List Lined → Type 0
AreRising above [] = Unit {0}
AreRising above (l ∷ ls) = (above < l.line) × AreRising l.line ls

-- no more than 4,096 variables, 1,000,000 places and 16,777,216 bytes of characters (own)
pub record AreWithin (vs : Variables) : Type 0 where
  pub variables : length vs ≤ 4096
  pub places : sum_by places_of vs ≤ 1000000
  pub characters : sum_by (λ v. places_of v * unwrap_or (text_length v.kind) 0) vs ≤ 16777216

-- ---- names (3.2.1)

abbrev pub begins_with_letter : List ℕ → Bool
begins_with_letter [] = false
begins_with_letter (c ∷ name) = is_ascii_uppercase c

abbrev pub is_in_name : ℕ → Bool
is_in_name c = is_ascii_uppercase c || is_ascii_digit c || c == 95

-- a letter, and behind it letters, digits and underscores, 63 in all at most; letters are in upper case
pub record IsName (name : List ℕ) : Type 0 where
  pub letter : begins_with_letter name ≡ true
  pub all : AllPass is_in_name name
  pub short : length name ≤ 63

-- none of them stands twice
abbrev pub AreApart : List (List ℕ) → Type 0
AreApart names = (i j : ℕ) (name : List ℕ) → slice_get names i ≡ Some name → slice_get names j ≡ Some name → i ≡ j

-- the name of a namelist group, and its members
abbrev pub Grouped : Type 0
Grouped = List ℕ × List ℕ

-- the group of a transfer is one of these
abbrev pub HasGroup : List Grouped → Control → Type 0
HasGroup groups (control.Group name vars) = Contains groups (name, vars)
HasGroup groups c = Unit {0}

abbrev pub NamesGroup : List Grouped → Statement → Type 0
NamesGroup groups (statement.Transfer t) = HasGroup groups t.control
NamesGroup groups s = Unit {0}

-- variables and groups have their names of one space (16.2)
abbrev pub names_of : Variables → List Grouped → List (List ℕ)
names_of vs groups = map (λ v. v.name) vs ++ map (λ g. g.0) groups

-- The names of its variables and groups are distinct, and a statement names a group with its members.
pub record HasNames (vs : Variables) (ls : List Lined) : Type 0 where
  pub groups : List Grouped
  pub are : All IsName (names_of vs groups)
  pub apart : AreApart (names_of vs groups)
  pub stand : All (λ l. NamesGroup groups l.what) ls

pub record IsSound (deck : Deck) : Type 0 where
  pub variables : AreWithin deck.variables
  pub names : HasNames deck.variables deck.statements
  pub statements : All (λ l. IsSoundStatement deck.variables l.what) deck.statements
  -- no more than 100,000 statements, END among them (own)
  pub few : length deck.statements ≤ 100000
  pub rising : AreRising 0 deck.statements
  -- the statements before END, which is the last
  pub body : List Lined
  pub end_line : ℕ
  pub ends : deck.statements ≡ body ++ record { line = end_line; what = statement.End } ∷ []
  pub only : All (λ l. IsNotEnd l.what) body
