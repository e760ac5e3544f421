-- What a statement means, and what the answer on one is.
use Rattle.std.specs.Prelude.{◌≡◌, ℕ, Bool, true, false, List, Result, Ok, Err, Option, Some, None, IsSome}
use Rattle.fj_format.specs.declared.item.FormatItem.{FormatItem}
use Rattle.fj_format.specs.Grammar.{IsFormat}
use Rattle.fj_format.specs.Parsing.{IsNoFormat}
use Rattle.fj_statement.specs.declared.statement.Statement.{Statement}
use Rattle.fj_statement.specs.declared.statement.Statement.TheVariants as statement
use Rattle.fj_syntax.specs.declared.written.Format.{Format}
use Rattle.fj_syntax.specs.declared.written.Format.TheVariants as format
use Rattle.fj_syntax.specs.declared.written.Written.{Written}
use Rattle.fj_syntax.specs.declared.written.Written.TheVariants as written
use Rattle.fj_names.specs.declared.fault.Fault.{Fault}
use Rattle.fj_names.specs.declared.fault.Fault.TheVariants as fault
use Rattle.fj_names.specs.declared.scope.Scope.{Scope}
use Rattle.fj_names.specs.Calls.{assigned, opened, closed, awaited, moved, inquired}
use Rattle.fj_names.specs.Transfer.{transferred, fits}

-- the literal that is a format
abbrev pub literal_of : Option Format → Option (List ℕ)
literal_of (Some (format.Literal text)) = Some text
literal_of f = None

-- the literal that is the format of a statement
abbrev pub format_text : Written → Option (List ℕ)
format_text (written.Transfer t) = literal_of t.format
format_text w = None

-- the items are those of the format, if there is one
abbrev pub IsFormatOf : Option (List ℕ) → Option (List FormatItem) → Type 0
IsFormatOf None None = Unit {0}
IsFormatOf (Some text) (Some items) = IsFormat text items
IsFormatOf text items = ⊥

-- What a statement means with these items of its format, if anything. Declarations mean nothing here.
unfoldable pub meaning : Scope → Option (List FormatItem) → Written → Option Statement
meaning s items (written.Assignment a) = assigned s a
meaning s items (written.Open o) = opened s o
meaning s items (written.Close c) = closed s c
meaning s items (written.Wait w) = awaited s w
meaning s items (written.Move m) = moved s m
meaning s items (written.Inquire i) = inquired s i
meaning s items (written.Transfer t) = transferred s items t
meaning s items written.End = Some statement.End
meaning s items w = None

-- no limit is passed: those of READ and WRITE
unfoldable pub is_within_limits : Scope → Option (List FormatItem) → Written → Bool
is_within_limits s items (written.Transfer t) = fits s items t
is_within_limits s items w = true

-- the format is one, there is this meaning, and no limit is passed
pub record HasMeaning (s : Scope) (w : Written) (m : Statement) : Type 0 where
  pub items : Option (List FormatItem)
  pub format : IsFormatOf (format_text w) items
  pub is : meaning s items w ≡ Some m
  pub within : is_within_limits s items w ≡ true

-- the format is none, and this is the length of its longest front that begins one
pub record HasNoFormat (w : Written) (at : ℕ) : Type 0 where
  pub text : List ℕ
  pub stands : format_text w ≡ Some text
  pub none : IsNoFormat text at

-- the format is one, and there is no meaning
pub record HasNoMeaning (s : Scope) (w : Written) : Type 0 where
  pub items : Option (List FormatItem)
  pub format : IsFormatOf (format_text w) items
  pub none : meaning s items w ≡ None

-- the format is one, there is a meaning, and a limit is passed
pub record PassesLimits (s : Scope) (w : Written) : Type 0 where
  pub items : Option (List FormatItem)
  pub format : IsFormatOf (format_text w) items
  pub some : IsSome (meaning s items w)
  pub beyond : is_within_limits s items w ≡ false

-- what is answered, unless memory ran out
abbrev pub Means : Scope → Written → Result Statement Fault → Type 0
Means s w (Ok m) = HasMeaning s w m
Means s w (Err (fault.Memory error)) = Unit {0}
Means s w (Err (fault.Format at)) = HasNoFormat w at
Means s w (Err fault.NoMeaning) = HasNoMeaning s w
Means s w (Err fault.TooMany) = PassesLimits s w

-- ---- the law

abbrev pub IsAnswer : Result Statement Fault → Type 0
IsAnswer (Err (fault.Memory error)) = ⊥
IsAnswer result = Unit {0}

-- Apart from want of memory there is one answer on a statement.
abbrev pub OneMeaning : Type 0
OneMeaning = (s : Scope) (w : Written) (a b : Result Statement Fault) → IsAnswer a → IsAnswer b → Means s w a → Means s w b → a ≡ b
