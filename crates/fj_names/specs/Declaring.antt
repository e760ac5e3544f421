-- What a line of declarations adds.
use Rattle.std.specs.Prelude.{ℕ, ◌≡◌, Bool, true, false, ◌&&◌, not, nat_le, ◌*◌, List, [], ◌∷◌, ◌++◌, length, map, max, Result, Ok, Err, Option, Some, None, is_none, unwrap_or, if◌then◌else◌}
use Rattle.std.specs.List.{list_any, list_all, sum_by}
use Rattle.std.specs.Str.{bytes_eq}
use Rattle.fj_value.specs.declared.kind.Kind.{Kind}
use Rattle.fj_value.specs.Kind.{text_length}
use Rattle.fj_statement.specs.declared.deck.Variable.{Variable}
use Rattle.fj_syntax.specs.declared.operand.Designator.{Designator}
use Rattle.fj_syntax.specs.declared.written.Declaration.{Declaration}
use Rattle.fj_syntax.specs.declared.written.Group.{Group}
use Rattle.fj_names.specs.declared.fault.Fault.{Fault}
use Rattle.fj_names.specs.declared.fault.Fault.TheVariants as fault
use Rattle.fj_names.specs.declared.scope.Scope.{Scope}
use Rattle.fj_names.specs.Giving.{◌>>=◌, each}
use Rattle.fj_names.specs.Scope.{named, found}

-- Variables and groups have their names of one space.
abbrev pub is_free : Scope → List ℕ → Bool
is_free s name = is_none (named s name)

-- no name stands twice
abbrev pub are_apart : List (List ℕ) → Bool
are_apart [] = true
are_apart (name ∷ names) = not (list_any (λ other. bytes_eq other name) names) && are_apart names

abbrev pub are_new : Scope → List (List ℕ) → Bool
are_new s names = list_all (is_free s) names && are_apart names

-- the variable of a designator in a declaration
abbrev pub variable : ℕ → Kind → Designator → Variable
variable line kind d = record { name = d.name; kind = kind; count = unwrap_or d.number 0; line = line }

-- the variables behind those that are there
abbrev pub with_variables : Scope → ℕ → Kind → List Designator → Scope
with_variables s line kind ds = record s { variables = s.variables ++ map (variable line kind) ds }

-- the same, unless a name is declared twice
abbrev pub with_all : Scope → ℕ → Kind → List Designator → Option Scope
with_all s line kind ds = if are_new s (map (λ d. d.name) ds) then Some (with_variables s line kind ds) else None

-- with a line of a type declaration; none where a name is declared twice
unfoldable pub with_declaration : Scope → ℕ → Declaration → Option Scope
with_declaration s line d = with_all s line d.kind d.entities

-- the number of the variable of this name
abbrev pub number_of : Scope → List ℕ → Option ℕ
number_of s name = found s name >>= (λ f. Some f.var)

-- with a line of NAMELIST; none where the name of the group is declared, or a member is no variable
unfoldable pub with_group : Scope → ℕ → Group → Option Scope
with_group s line g = if is_free s g.name then (do
  vars ← each (number_of s) g.members
  Some (record { variables = s.variables; groups = s.groups ++ record { name = g.name; vars = vars } ∷ []; lines = s.lines ++ line ∷ [] })) else None

-- the places of a variable: a scalar is one
abbrev pub places : Variable → ℕ
places v = max 1 v.count

-- the bytes of a variable of characters
abbrev pub characters : Variable → ℕ
characters v = places v * unwrap_or (text_length v.kind) 0

-- no more than 4,096 variables, 1,000,000 places and 16,777,216 bytes of characters
abbrev pub is_within : List Variable → Bool
is_within vs = nat_le (length vs) 4096 && (nat_le (sum_by places vs) 1000000 && nat_le (sum_by characters vs) 16777216)

-- What a line of declarations answers, and what is declared afterwards: what it adds is there, and no limit is passed.
abbrev pub Declares : Option Scope → Result (Unit {0}) Fault → Scope → Type 0
Declares next (Ok done) new = (next ≡ Some new) × (is_within new.variables ≡ true)
Declares next (Err (fault.Memory error)) new = Unit {0}
Declares next (Err (fault.Format at)) new = ⊥
Declares next (Err fault.NoMeaning) new = next ≡ None
Declares next (Err fault.TooMany) new = (s : Scope) × (next ≡ Some s) × (is_within s.variables ≡ false)

-- the same of a group, which is within the limits
abbrev pub Groups : Option Scope → Result (Unit {0}) Fault → Scope → Type 0
Groups next (Ok done) new = next ≡ Some new
Groups next (Err (fault.Memory error)) new = Unit {0}
Groups next (Err (fault.Format at)) new = ⊥
Groups next (Err fault.NoMeaning) new = next ≡ None
Groups next (Err fault.TooMany) new = ⊥
