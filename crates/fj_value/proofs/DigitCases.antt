-- Worked cases of the definitions of digits.
use Rattle.std.proofs.Common.{◌≡◌, [], ◌∷◌, refl, Some, None, pos, negsuc}
use Rattle.fj_value.specs.Digits.{number_of, numeral, number_in, twos_complement, from_twos_complement}

-- the definitions give what is worked out by hand
pub record AreRight : Type 0 where
  pub decimal : number_of 10 (1 ∷ 2 ∷ 3 ∷ []) ≡ 123
  pub octal : numeral 8 8 ≡ 49 ∷ 48 ∷ []
  pub hexadecimal : numeral 16 10 ≡ 65 ∷ []
  pub none : numeral 10 0 ≡ []
  pub read : number_in 16 (70 ∷ 102 ∷ []) ≡ Some 255
  pub no_digit : number_in 10 (49 ∷ 120 ∷ 50 ∷ []) ≡ None
  pub bits : twos_complement 32 (negsuc 0) ≡ 4294967295
  pub minus_one : from_twos_complement 32 4294967295 ≡ negsuc 0
  pub least : from_twos_complement 8 128 ≡ negsuc 127
  pub greatest : from_twos_complement 8 127 ≡ pos 127

pub are_right : AreRight
unfolding numeral number_in twos_complement from_twos_complement
are_right = record { decimal = refl; octal = refl; hexadecimal = refl; none = refl; read = refl; no_digit = refl; bits = refl; minus_one = refl; least = refl; greatest = refl }
