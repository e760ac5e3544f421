-- What a character of a format stands for.
use Rattle.std.specs.Prelude.{ℕ, ◌-◌, Bool, ◌==◌, ◌||◌, ◌&&◌, nat_le, nat_lt, if◌then◌else◌, Option, Some, None}
use Rattle.fj_format.specs.declared.symbol.Letter.{Letter}
use Rattle.fj_format.specs.declared.symbol.Letter.TheVariants.{A, B, C, D, E, G, I, L, N, O, P, R, S, T, X, Z}
use Rattle.fj_format.specs.declared.symbol.Symbol.{Symbol}
use Rattle.fj_format.specs.declared.symbol.Symbol.TheVariants.{Digit, Open, Close, Comma, Point, Slash, Colon, Star, Other}
use Rattle.fj_format.specs.declared.symbol.Symbol.TheVariants as symbol

-- a space or a tab
abbrev pub is_blank : ℕ → Bool
is_blank c = (c == 32) || (c == 9)

-- an apostrophe or a quotation mark
abbrev pub is_quote : ℕ → Bool
is_quote c = (c == 39) || (c == 34)

abbrev pub is_digit : ℕ → Bool
is_digit c = nat_le 48 c && nat_lt c 58

abbrev pub upper : ℕ → ℕ
upper c = if nat_le 97 c && nat_lt c 123 then c - 32 else c

-- the letters, by their ASCII codes
abbrev pub letter_of : ℕ → Option Letter
letter_of c =
    if c == 65 then Some A
    else (if c == 66 then Some B
    else (if c == 67 then Some C
    else (if c == 68 then Some D
    else (if c == 69 then Some E
    else (if c == 71 then Some G
    else (if c == 73 then Some I
    else (if c == 76 then Some L
    else (if c == 78 then Some N
    else (if c == 79 then Some O
    else (if c == 80 then Some P
    else (if c == 82 then Some R
    else (if c == 83 then Some S
    else (if c == 84 then Some T
    else (if c == 88 then Some X
    else (if c == 90 then Some Z else None)))))))))))))))

abbrev pub letter_symbol : Option Letter → Symbol
letter_symbol None = Other
letter_symbol (Some letter) = symbol.Letter letter

-- ( ) , . / : * by their ASCII codes, or a letter of either case
abbrev pub sign_of : ℕ → Symbol
sign_of c =
    if c == 40 then Open
    else (if c == 41 then Close
    else (if c == 44 then Comma
    else (if c == 46 then Point
    else (if c == 47 then Slash
    else (if c == 58 then Colon
    else (if c == 42 then Star else letter_symbol (letter_of (upper c))))))))

abbrev pub symbol_of : ℕ → Symbol
symbol_of c = if is_digit c then Digit (c - 48) else sign_of c
