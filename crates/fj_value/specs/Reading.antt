-- What characters stand for, and characters as an assignment gives them to a variable.
use Rattle.std.specs.Prelude.{ℕ, ◌-◌, Bool, true, false, ◌||◌, ◌==◌, if◌then◌else◌, List, [], ◌∷◌, ◌++◌, length, take, replicate, Option, Some, None, ℤ, pos, neg_ℤ}
use Rattle.fj_value.specs.Kind.{fits_bits}

-- the number of an amount behind a minus, or without one
abbrev pub with_sign : Bool → ℕ → ℤ
with_sign negative n = if negative then neg_ℤ (pos n) else pos n

-- a number of so many bits
abbrev pub in_range : ℕ → ℤ → Option ℤ
in_range bits z = if fits_bits bits z then Some z else None

-- `T` or `F` of either case; what follows has no effect
abbrev pub letter_read : List ℕ → Option Bool
letter_read [] = None
letter_read (c ∷ cs) = if (c == 84) || (c == 116) then Some true else (if (c == 70) || (c == 102) then Some false else None)

-- the same behind an optional period (10.6.2)
abbrev pub truth_read : List ℕ → Option Bool
truth_read [] = None
truth_read (c ∷ cs) = if c == 46 then letter_read cs else letter_read (c ∷ cs)

-- the first n characters, or all of them with blanks behind (7.4.1.3)
abbrev pub assigned_text : ℕ → List ℕ → List ℕ
assigned_text n cs = take n cs ++ replicate (n - length cs) 32
