-- What a function answers, against what there is, if anything.
use Rattle.std.specs.Prelude.{◌≡◌, Result, Ok, Err, Option, Some, None}
use Rattle.fj_names.specs.declared.fault.Fault.{Fault}
use Rattle.fj_names.specs.declared.fault.Fault.TheVariants as fault
pub use Rattle.fj_syntax.specs.Reading.{◌>>=◌, optional, each}

-- there is none, unless memory ran out
abbrev pub Fails : {A : Type 0} → Fault → Option A → Type 0
Fails (fault.Memory error) there = Unit {0}
Fails (fault.Format at) there = ⊥
Fails fault.NoMeaning there = there ≡ None
Fails fault.TooMany there = ⊥

abbrev pub Gives : {A : Type 0} → Result A Fault → Option A → Type 0
Gives (Ok x) there = there ≡ Some x
Gives (Err error) there = Fails error there
