-- Tests of the words that OPEN takes.
use Rattle.std.specs.Prelude.{◌≡◌, ◌≢◌, Bool, true, false, not, Option, Some, None, IfSome, IsSomeAnd, MatchOption}
use Rattle.fj_modes.specs.declared.specifiers.Access.{Access}
use Rattle.fj_modes.specs.declared.specifiers.Access.TheVariants.{Sequential, Direct, Stream}
use Rattle.fj_modes.specs.declared.specifiers.Action.{Action}
use Rattle.fj_modes.specs.declared.specifiers.Action.TheVariants.{Read, Write, ReadWrite}
use Rattle.fj_modes.specs.declared.specifiers.FileStatus.{FileStatus}
use Rattle.fj_modes.specs.declared.specifiers.FileStatus.TheVariants.{Old, Scratch}
use Rattle.fj_modes.specs.declared.specifiers.Start.{Start}
use Rattle.fj_modes.specs.declared.specifiers.Start.TheVariants.{AsIs}

abbrev pub same_access : Access → Access → Bool
same_access Sequential Sequential = true
same_access Direct Direct = true
same_access Stream Stream = true
same_access _ _ = false

abbrev pub same_action : Action → Action → Bool
same_action Read Read = true
same_action Write Write = true
same_action ReadWrite ReadWrite = true
same_action _ _ = false

abbrev pub is_old : FileStatus → Bool
is_old Old = true
is_old _ = false

abbrev pub is_scratch : FileStatus → Bool
is_scratch Scratch = true
is_scratch _ = false

abbrev pub is_as_is : Start → Bool
is_as_is AsIs = true
is_as_is _ = false

-- the specifier stands, and its value passes the test
abbrev pub given_and : {A : Type 0} → (A → Bool) → Option A → Bool
given_and test None = false
given_and test (Some value) = test value

-- the specifier stands with another value than the one that the test tells
abbrev pub differs : {A : Type 0} → (A → Bool) → Option A → Bool
differs same = given_and (λ value. not (same value))

-- the specifier stands with another value
abbrev pub Differs : {A : Type 0} → Option A → A → Type 0
Differs given value = IsSomeAnd given (λ other. other ≢ value)

-- the specifier does not stand, or has this value
abbrev pub Agrees : {A : Type 0} → Option A → A → Type 0
Agrees given value = IfSome given (λ other. other ≡ value)

-- the value that is given, else the one before
abbrev pub TakesOrKeeps : {A : Type 0} → Option A → A → A → Type 0
TakesOrKeeps given before after = MatchOption given (after ≡ before) (λ value. after ≡ value)
