-- Which bytes are of a class.
use Rattle.std.specs.Prelude.{ℕ, Bool, ◌||◌, ◌==◌, nat_le}
use Rattle.std.specs.Char.{is_ascii_alphanumeric, is_ascii_digit}
use Rattle.fj_syntax.specs.declared.class.Class.{Class}
pub use Rattle.fj_syntax.specs.declared.class.Class.TheVariants.{Blank, InWord, InLiteral, Digit}

abbrev pub is_of : Class → ℕ → Bool
is_of Blank b = (b == 32) || (b == 9)
is_of InWord b = is_ascii_alphanumeric b || (b == 95)
is_of InLiteral b = nat_le 32 b || (b == 9)
is_of Digit b = is_ascii_digit b
