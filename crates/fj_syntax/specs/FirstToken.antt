-- The first token of a line that begins with one, and the line behind it.
use Rattle.std.specs.Prelude.{ℕ, Bool, true, false, ◌||◌, ◌&&◌, ◌==◌, nat_lt, List, [], ◌∷◌, ◌++◌, take, drop, map, Option, Some, None, if◌then◌else◌, codes, slice_index, option_map}
use Rattle.std.specs.List.{prefix_len}
use Rattle.std.specs.Char.{is_ascii_alphabetic, is_ascii_digit, to_ascii_uppercase}
use Rattle.std.specs.Str.{bytes_eq, str_to_ascii_lowercase}
use Rattle.std.specs.Str.Parse.{digits_value}
use Rattle.fj_syntax.specs.Class.{is_of, InWord, InLiteral, Digit}
use Rattle.fj_syntax.specs.Tokens.{Token, Word, Number, Literal, Truth, Mark, AMark, LeftParenthesis, RightParenthesis, Comma, Equals, Slash, Asterisk, DoubleColon, Sign, Unsigned, Plus, Minus}

-- a token, and the line behind it
abbrev pub Found : Type 0
Found = Option (Token × List ℕ)

-- what the longest front that passes, of 1 byte at least and so many at most, is read as, and the line behind it
abbrev pub run_at : {X : Type 0} → (ℕ → Bool) → ℕ → (List ℕ → X) → List ℕ → Option (X × List ℕ)
run_at p most read line = let n = prefix_len p line in
    if (n == 0) || nat_lt most n then None else Some (read (take n line), drop n line)

-- up to 63 characters
abbrev pub word_at : List ℕ → Found
word_at line = run_at (is_of InWord) 63 (λ run. Word (map to_ascii_uppercase run)) line

-- up to 19 digits
abbrev pub number_at : Sign → List ℕ → Found
number_at s line = run_at (is_of Digit) 19 (λ run. Number s (digits_value 10 run)) line

-- with this before the text
abbrev pub with_front : List ℕ → Option (List ℕ × List ℕ) → Option (List ℕ × List ℕ)
with_front front read = option_map (λ r. (front ++ r.0, r.1)) read

abbrev mutual
  -- the text up to the closing delimiter, and the line behind that
  pub closed_by : ℕ → List ℕ → Option (List ℕ × List ℕ)
  closed_by q [] = None
  closed_by q (c ∷ line) = if c == q then behind_delimiter q line else (if is_of InLiteral c then with_front (c ∷ []) (closed_by q line) else None)

  -- a delimiter behind a delimiter is one character
  pub behind_delimiter : ℕ → List ℕ → Option (List ℕ × List ℕ)
  behind_delimiter q [] = Some ([], [])
  behind_delimiter q (c ∷ line) = if c == q then with_front (q ∷ []) (closed_by q line) else Some ([], c ∷ line)

abbrev pub literal_at : ℕ → List ℕ → Found
literal_at q line = option_map (λ r. (Literal r.0, r.1)) (closed_by q line)

-- `.TRUE.` and `.FALSE.`, in either case
abbrev pub truth_at : List ℕ → Found
truth_at line = if bytes_eq (str_to_ascii_lowercase (take 6 line)) (codes ".true.") then Some (Truth true, drop 6 line)
    else (if bytes_eq (str_to_ascii_lowercase (take 7 line)) (codes ".false.") then Some (Truth false, drop 7 line) else None)

-- the mark of one byte
abbrev pub mark_of : ℕ → Option AMark
mark_of c = if c == 40 then Some LeftParenthesis else (if c == 41 then Some RightParenthesis else (if c == 44 then Some Comma
    else (if c == 61 then Some Equals else (if c == 47 then Some Slash else (if c == 42 then Some Asterisk else None)))))

-- `::`, or a mark of one byte
unfoldable pub mark_at : List ℕ → Found
mark_at [] = None
mark_at (c ∷ line) = if (c == 58) && (slice_index line 0 == 58) then Some (Mark DoubleColon, drop 1 line)
    else option_map (λ m. (Mark m, line)) (mark_of c)

-- chosen by the first byte
unfoldable pub first_token : List ℕ → Found
first_token [] = None
first_token (c ∷ line) = if is_ascii_alphabetic c then word_at (c ∷ line)
    else (if is_ascii_digit c then number_at Unsigned (c ∷ line)
    else (if c == 43 then number_at Plus line
    else (if c == 45 then number_at Minus line
    else (if (c == 39) || (c == 34) then literal_at c line
    else (if c == 46 then truth_at (c ∷ line)
    else mark_at (c ∷ line))))))
