-- What a line adds to the deck so far, or why it is refused.
use Rattle.std.specs.Prelude.{◌≡◌, ℕ, ◌<◌, ◌≤◌, Bool, true, false, ◌||◌, ◌&&◌, nat_lt, List, [], ◌∷◌, ◌++◌, ◌-◌, length, slice_get, Result, Ok, Err}
use Rattle.std.specs.Option.{option_map_or}
use Rattle.fj_syntax.specs.Parsing.{IsStatement, IsBlankLine, IsNoStatement}
use Rattle.fj_syntax.specs.declared.written.Written.{Written}
use Rattle.fj_syntax.specs.declared.written.Written.TheVariants as written
use Rattle.fj_statement.specs.declared.deck.Lined.{Lined}
use Rattle.fj_statement.specs.declared.reason.Reason.{Reason}
use Rattle.fj_statement.specs.declared.reason.Reason.TheVariants.{LineTooLong, Syntax, TooMany}
use Rattle.fj_statement.specs.declared.statement.Statement.{Statement}
use Rattle.fj_statement.specs.declared.statement.Statement.TheVariants as statement
use Rattle.fj_names.specs.Declaring.{Declares, Groups, with_declaration, with_group}
use Rattle.fj_names.specs.Meaning.{Means}
use Rattle.fj_names.specs.Scope as scope
use Rattle.fj_names.specs.declared.fault.Fault.{Fault}
use Rattle.fj_names.specs.declared.scope.Scope.{Scope}
use Rattle.fj_deck.specs.Faults.{of_meaning}
use Rattle.fj_deck.specs.declared.fault.LineFault.{LineFault}
use Rattle.fj_deck.specs.declared.fault.LineFault.TheVariants.{Memory, Refused}

-- a deck that is begun: what is declared, and the statements so far with their lines
pub record Begun : Type 0 where
  pub names : Scope
  pub statements : List Lined

-- the deck as it is begun behind a line, or the reason for which the line is refused
abbrev pub Answer : Type 0
Answer = Result Begun Reason

abbrev pub is_declaration : Written → Bool
is_declaration (written.Declaration d) = true
is_declaration (written.Group g) = true
is_declaration w = false

abbrev pub is_end : Statement → Bool
is_end statement.End = true
is_end s = false

-- the last statement is END
abbrev pub has_ended : List Lined → Bool
has_ended statements = option_map_or (λ l. is_end l.what) (slice_get statements (length statements - 1)) false

-- behind END, or a declaration behind a statement
abbrev pub is_misplaced : Begun → Written → Bool
is_misplaced begun w = has_ended begun.statements || (is_declaration w && nat_lt 0 (length begun.statements))

abbrev pub with_names : Begun → Scope → Begun
with_names begun names = record begun { names = names }

-- with one more statement, which stands on the line of this number
abbrev pub with_statement : Begun → ℕ → Statement → Begun
with_statement begun number s = record begun { statements = begun.statements ++ record { line = number; what = s } ∷ [] }

-- nothing is declared and nothing stated
abbrev pub empty : Begun
empty = record { names = scope.empty; statements = [] }

-- what a declaration adds
pub data Declaring (begun : Begun) (Declared : Result (Unit {0}) Fault → Scope → Type 0) : Answer → Type 0 where
  added : (names : Scope) → Declared (Ok tt) names → Declaring begun Declared (Ok (with_names begun names))
  refused : (names : Scope) (fault : Fault) {reason : Reason} → Declared (Err fault) names → of_meaning fault ≡ Refused reason → Declaring begun Declared (Err reason)

-- what an executable statement adds: no more than 100,000
pub data Stating (begun : Begun) (number : ℕ) (w : Written) : Answer → Type 0 where
  added : (s : Statement) → Means begun.names w (Ok s) → length begun.statements < 100000 → Stating begun number w (Ok (with_statement begun number s))
  full : (s : Statement) → Means begun.names w (Ok s) → 100000 ≤ length begun.statements → Stating begun number w (Err TooMany)
  refused : (fault : Fault) {reason : Reason} → Means begun.names w (Err fault) → of_meaning fault ≡ Refused reason → Stating begun number w (Err reason)

-- what a statement or declaration adds
abbrev pub Adds : Begun → ℕ → Written → Answer → Type 0
Adds begun number (written.Declaration d) answer = Declaring begun (Declares (with_declaration begun.names number d)) answer
Adds begun number (written.Group g) answer = Declaring begun (Groups (with_group begun.names number g)) answer
Adds begun number w answer = Stating begun number w answer

-- what a line of this number adds: a blank one nothing
pub data LineIs (line : List ℕ) (number : ℕ) (begun : Begun) : Answer → Type 0 where
  long : 1000 < length line → LineIs line number begun (Err LineTooLong)
  blank : length line ≤ 1000 → IsBlankLine line → LineIs line number begun (Ok begun)
  garbled : length line ≤ 1000 → IsNoStatement line → LineIs line number begun (Err Syntax)
  misplaced : (w : Written) → length line ≤ 1000 → IsStatement line w → is_misplaced begun w ≡ true → LineIs line number begun (Err Syntax)
  placed : (w : Written) {answer : Answer} → length line ≤ 1000 → IsStatement line w → is_misplaced begun w ≡ false → Adds begun number w answer → LineIs line number begun answer

-- the fault is a reason, unless memory ran out
abbrev pub Refuses : (Answer → Type 0) → LineFault → Type 0
Refuses Is (Memory error) = Unit {0}
Refuses Is (Refused reason) = Is (Err reason)

-- what was answered, with the deck as it is begun then
abbrev pub Takes : (Answer → Type 0) → Begun → Result (Unit {0}) LineFault → Type 0
Takes Is new (Ok u) = Is (Ok new)
Takes Is new (Err fault) = Refuses Is fault
