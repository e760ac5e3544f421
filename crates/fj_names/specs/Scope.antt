-- Variables and groups, and what a name stands for.
use Rattle.std.specs.Prelude.{ℕ, Bool, List, [], Option, Some, None, slice_get}
use Rattle.std.specs.List.{position}
use Rattle.std.specs.Option.{option_map, option_or}
use Rattle.std.specs.Str.{bytes_eq}
use Rattle.fj_statement.specs.declared.deck.Variable.{Variable}
use Rattle.fj_names.specs.declared.scope.Namelist.{Namelist}
use Rattle.fj_names.specs.declared.scope.Scope.{Scope}
use Rattle.fj_names.specs.declared.scope.Named.{Named}
use Rattle.fj_names.specs.declared.scope.Named.TheVariants as stands_for
use Rattle.fj_names.specs.declared.scope.Found.{Found}
use Rattle.fj_names.specs.Giving.{◌>>=◌}

-- nothing is declared
abbrev pub empty : Scope
empty = record { variables = []; groups = []; lines = [] }

abbrev pub is_variable : List ℕ → Variable → Bool
is_variable name v = bytes_eq name v.name

abbrev pub is_group : List ℕ → Namelist → Bool
is_group name g = bytes_eq name g.name

-- the variable or group of this name, by its place
unfoldable pub named : Scope → List ℕ → Option Named
named s name =
    option_or (option_map stands_for.Variable (position (is_variable name) s.variables)) (option_map stands_for.Group (position (is_group name) s.groups))

-- the variable of this name
abbrev pub variable_at : Scope → Named → Option Found
variable_at s (stands_for.Variable n) = slice_get s.variables n >>= (λ v. Some (record { var = n; kind = v.kind; count = v.count }))
variable_at s (stands_for.Group n) = None

unfoldable pub found : Scope → List ℕ → Option Found
found s name = named s name >>= variable_at s

-- the members of the group of this name
abbrev pub group_at : Scope → Named → Option (List ℕ)
group_at s (stands_for.Variable n) = None
group_at s (stands_for.Group n) = slice_get s.groups n >>= (λ g. Some g.vars)

unfoldable pub members : Scope → List ℕ → Option (List ℕ)
members s name = named s name >>= group_at s
