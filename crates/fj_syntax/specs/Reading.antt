-- What a reading function answers, against what there is to be read.
use Rattle.std.specs.Prelude.{◌≡◌, List, [], ◌∷◌, Result, Ok, Err, Option, Some, None}
pub use Rattle.fj_syntax.specs.declared.fault.SyntaxFault.{SyntaxFault}
pub use Rattle.fj_syntax.specs.declared.fault.SyntaxFault.TheVariants.{Memory, NotAStatement}

infixl 10 ◌>>=◌
abbrev pub ◌>>=◌ : {A B : Type 0} → Option A → (A → Option B) → Option B
None >>= f = None
(Some x) >>= f = f x

-- none where none is given, and else what it has to be
abbrev pub optional : {A B : Type 0} → (A → Option B) → Option A → Option (Option B)
optional f None = Some None
optional f (Some x) = f x >>= (λ y. Some (Some y))

-- of each one of a list
abbrev pub each : {A B : Type 0} → (A → Option B) → List A → Option (List B)
each f [] = Some []
each f (x ∷ xs) = do
  y ← f x
  ys ← each f xs
  Some (y ∷ ys)

-- none, unless memory ran out
abbrev pub Fails : {Y : Type 0} → SyntaxFault → Option Y → Type 0
Fails (Memory error) read = Unit {0}
Fails NotAStatement read = read ≡ None

-- what was answered, seen by view, is what there is to be read
abbrev pub Gives : {X Y : Type 0} → (X → Y) → Result X SyntaxFault → Option Y → Type 0
Gives view (Ok x) read = read ≡ Some (view x)
Gives view (Err error) read = Fails error read
