-- What holds of what is declared, and of what a statement means.
use Rattle.std.specs.Prelude.{◌≡◌, ℕ, ◌<◌, ◌≤◌, true, List, length, map, All, Option, Some, None, slice_get}
use Rattle.fj_format.specs.declared.item.FormatItem.{FormatItem}
use Rattle.fj_statement.specs.declared.deck.Variable.{Variable}
use Rattle.fj_statement.specs.declared.statement.Statement.{Statement}
use Rattle.fj_statement.specs.Sound.{AreApart, AreWithin, Grouped, IsAllowed, IsGiven, IsName, IsSoundStatement, NamesGroup, names_of}
use Rattle.fj_names.specs.declared.scope.Namelist.{Namelist}
use Rattle.fj_names.specs.declared.scope.Named.TheVariants as stands_for
use Rattle.fj_syntax.specs.declared.written.Declaration.{Declaration}
use Rattle.fj_syntax.specs.declared.written.Group.{Group}
use Rattle.fj_syntax.specs.declared.written.Transfer as written
use Rattle.fj_syntax.specs.declared.written.Written.{Written}
use Rattle.fj_names.specs.declared.scope.Scope.{Scope}
use Rattle.fj_names.specs.Declaring.{with_declaration, with_group, is_within}
use Rattle.fj_names.specs.declared.transfer.Parts.{Parts}
use Rattle.fj_names.specs.Meaning.{HasMeaning, IsFormatOf, literal_of}
use Rattle.fj_names.specs.Scope.{empty, named}
use Rattle.fj_names.specs.Transfer.{assembled, is_allowed, parts}

-- the groups with their members
abbrev pub groups_of : Scope → List Grouped
groups_of s = map (λ g. (g.name, g.vars)) s.groups

-- each variable and each group has a name, which stands for it and nothing else
pub record AreNamed (s : Scope) : Type 0 where
  pub variable_names : All (λ v. IsName v.name) s.variables
  pub group_names : All (λ g. IsName g.name) s.groups
  pub variables : (n : ℕ) (v : Variable) → slice_get s.variables n ≡ Some v → named s v.name ≡ Some (stands_for.Variable n)
  pub groups : (n : ℕ) (g : Namelist) → slice_get s.groups n ≡ Some g → named s g.name ≡ Some (stands_for.Group n)

-- no limit is passed, and the members of groups are variables, no more than a line has room for
pub record IsSoundScope (s : Scope) : Type 0 where
  pub within : AreWithin s.variables
  pub members : All (λ g. All (λ var. var < length s.variables) g.vars) s.groups
  pub few : All (λ g. length g.vars ≤ 1000) s.groups
  pub names : AreNamed s

abbrev pub EmptyIsSound : Type 0
EmptyIsSound = IsSoundScope empty

abbrev pub DeclaredIsSound : Type 0
DeclaredIsSound = (s next : Scope) (line : ℕ) (d : Declaration) → IsSoundScope s → All IsName (map (λ e. e.name) d.entities) → with_declaration s line d ≡ Some next → is_within next.variables ≡ true → IsSoundScope next

abbrev pub GroupedIsSound : Type 0
GroupedIsSound = (s next : Scope) (line : ℕ) (g : Group) → IsSoundScope s → IsName g.name → length g.members ≤ 1000 → with_group s line g ≡ Some next → IsSoundScope next

-- no name stands twice
abbrev pub NamesAreApart : Type 0
NamesAreApart = (s : Scope) → AreNamed s → AreApart (names_of s.variables (groups_of s))

abbrev pub MeaningIsSound : Type 0
MeaningIsSound = (s : Scope) (w : Written) (m : Statement) → IsSoundScope s → HasMeaning s w m → IsSoundStatement s.variables m

-- a statement names a group that is declared, with its members
abbrev pub GroupsAreDeclared : Type 0
GroupsAreDeclared = (s : Scope) (w : Written) (m : Statement) → HasMeaning s w m → NamesGroup (groups_of s) m

-- NML= and a format do not stand together. In the statement that is made there is one form alone.
abbrev pub HasOneForm : written.Transfer → Type 0
HasOneForm t = IsGiven t.group → t.format ≡ None

-- the statement that is made of a transfer keeps the rules
pub record KeepsRules (items : Option (List FormatItem)) (t : written.Transfer) (p : Parts) : Type 0 where
  pub allowed : IsAllowed (assembled items t p)
  pub form : HasOneForm t

-- A transfer whose names have a meaning is allowed exactly where it keeps the rules.
abbrev pub RulesAreDecided : Type 0
RulesAreDecided = (s : Scope) (items : Option (List FormatItem)) (t : written.Transfer) (p : Parts) → IsFormatOf (literal_of t.format) items → parts s t ≡ Some p
    → (is_allowed items t ≡ true → KeepsRules items t p) × (KeepsRules items t p → is_allowed items t ≡ true)
