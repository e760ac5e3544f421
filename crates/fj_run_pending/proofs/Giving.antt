-- What comes back to the variables.
use Rattle.std.proofs.Common.{◌≡◌, ℕ, ◌<◌, pos, false, refl, sym, ap, arith}
use Rattle.std.specs.Prelude.{if◌then◌else◌, nat_lt}
use Rattle.std.proofs.lemmas.Bool.Decides.{nat_tests}
use Rattle.fj_value.specs.declared.condition.Condition.{Condition}
use Rattle.fj_value.specs.declared.condition.Condition.TheVariants.{Fine, EndOfFile, EndOfRecord, Error}
use Rattle.fj_value.specs.declared.kind.Kind.{Kind}
use Rattle.fj_value.specs.declared.kind.Kind.TheVariants.{Int4, Int8, Logical, Chars}
use Rattle.fj_value.specs.declared.value.Value.TheVariants as value
use Rattle.fj_store.specs.Kinds.{of_kind}
use Rattle.fj_meaning.specs.Items.{number_for}
use Rattle.fj_meaning.specs.Telling.{graver}

-- ---- SIZE=

-- no kind has so great a number
pub too_great : (kind : Kind) (n : ℕ) → 9223372036854775807 < n → of_kind kind value.Undefined ≡ number_for kind (pos n)
too_great Int4 n far = let not : nat_lt n 2147483648 ≡ false = grind (arith, nat_tests) in sym (ap (λ b. if b then value.Int (pos n) else value.Undefined) not)
too_great Int8 n far = let not : nat_lt n 9223372036854775808 ≡ false = grind (arith, nat_tests) in sym (ap (λ b. if b then value.Int (pos n) else value.Undefined) not)
too_great Logical n far = refl
too_great (Chars length) n far = refl

-- ---- conditions

pub graver_joins : (a b c : Condition) → graver (graver a b) c ≡ graver a (graver b c)
graver_joins (Error n) b c = refl
graver_joins Fine b c = refl
graver_joins EndOfFile Fine c = refl
graver_joins EndOfFile (Error n) c = refl
graver_joins EndOfFile EndOfFile Fine = refl
graver_joins EndOfFile EndOfFile EndOfFile = refl
graver_joins EndOfFile EndOfFile EndOfRecord = refl
graver_joins EndOfFile EndOfFile (Error n) = refl
graver_joins EndOfFile EndOfRecord Fine = refl
graver_joins EndOfFile EndOfRecord EndOfFile = refl
graver_joins EndOfFile EndOfRecord EndOfRecord = refl
graver_joins EndOfFile EndOfRecord (Error n) = refl
graver_joins EndOfRecord Fine c = refl
graver_joins EndOfRecord (Error n) c = refl
graver_joins EndOfRecord EndOfFile Fine = refl
graver_joins EndOfRecord EndOfFile EndOfFile = refl
graver_joins EndOfRecord EndOfFile EndOfRecord = refl
graver_joins EndOfRecord EndOfFile (Error n) = refl
graver_joins EndOfRecord EndOfRecord Fine = refl
graver_joins EndOfRecord EndOfRecord EndOfFile = refl
graver_joins EndOfRecord EndOfRecord EndOfRecord = refl
graver_joins EndOfRecord EndOfRecord (Error n) = refl
