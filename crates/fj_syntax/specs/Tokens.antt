-- The tokens of a line, by how each is written.
use Rattle.std.specs.Prelude.{◌≡◌, ℕ, ◌<◌, ◌≤◌, Bool, true, false, ◌==◌, List, [], ◌∷◌, ◌++◌, drop, length, map, if◌then◌else◌, codes, ◌⊎◌, Result, Ok, Err}
use Rattle.std.specs.List.{AllPass, prefix_len}
use Rattle.std.specs.Char.{is_ascii_alphabetic, to_ascii_uppercase}
use Rattle.std.specs.Str.{str_to_ascii_lowercase}
use Rattle.std.specs.Str.Parse.{digits_value}
use Rattle.fj_syntax.specs.Class.{is_of, Blank, InWord, InLiteral, Digit}
use Rattle.fj_syntax.specs.Reading.{SyntaxFault, Memory, NotAStatement}
pub use Rattle.fj_syntax.specs.declared.token.Token.{Token}
pub use Rattle.fj_syntax.specs.declared.token.Token.TheVariants.{Word, Number, Literal, Truth, Mark}
pub use Rattle.fj_syntax.specs.declared.token.Mark.{Mark as AMark}
pub use Rattle.fj_syntax.specs.declared.token.Mark.TheVariants.{LeftParenthesis, RightParenthesis, Comma, Equals, Slash, Asterisk, DoubleColon}
pub use Rattle.fj_syntax.specs.declared.token.Sign.{Sign}
pub use Rattle.fj_syntax.specs.declared.token.Sign.TheVariants.{Unsigned, Plus, Minus}

-- the first byte is there and passes
abbrev pub begins : (ℕ → Bool) → List ℕ → Bool
begins p [] = false
begins p (c ∷ line) = p c

abbrev pub sign_bytes : Sign → List ℕ
sign_bytes Unsigned = []
sign_bytes Plus = codes "+"
sign_bytes Minus = codes "-"

abbrev pub mark_bytes : AMark → List ℕ
mark_bytes LeftParenthesis = codes "("
mark_bytes RightParenthesis = codes ")"
mark_bytes Comma = codes ","
mark_bytes Equals = codes "="
mark_bytes Slash = codes "/"
mark_bytes Asterisk = codes "*"
mark_bytes DoubleColon = codes "::"

abbrev pub truth_bytes : Bool → List ℕ
truth_bytes true = codes ".true."
truth_bytes false = codes ".false."

-- an apostrophe or a quotation mark
abbrev pub IsDelimiter : ℕ → Type 0
IsDelimiter q = (q ≡ 39) ⊎ (q ≡ 34)

-- a text with each delimiter in it doubled
abbrev pub doubled : ℕ → List ℕ → List ℕ
doubled q [] = []
doubled q (c ∷ text) = if c == q then q ∷ q ∷ doubled q text else c ∷ doubled q text

-- bytes that pass, some and at most so many, before a line that begins with none
pub record IsRun (p : ℕ → Bool) (most : ℕ) (bytes line : List ℕ) : Type 0 where
  pub all : AllPass p bytes
  pub some : 0 < length bytes
  pub short : length bytes ≤ most
  pub ends : begins p line ≡ false

-- letters, digits and underscores, at most 63, a letter first; letters of both cases are equal
pub record IsWordText (word bytes line : List ℕ) : Type 0 where
  pub letter : begins is_ascii_alphabetic bytes ≡ true
  pub run : IsRun (is_of InWord) 63 bytes line
  pub upper : word ≡ map to_ascii_uppercase bytes

-- a sign or none, and 1 to 19 digits
pub record IsNumberText (sign : Sign) (amount : ℕ) (bytes line : List ℕ) : Type 0 where
  pub digits : List ℕ
  pub run : IsRun (is_of Digit) 19 digits line
  pub value : amount ≡ digits_value 10 digits
  pub written : bytes ≡ sign_bytes sign ++ digits

-- a text between delimiters, which are doubled in it
pub record IsLiteralText (text bytes line : List ℕ) : Type 0 where
  pub delimiter : ℕ
  pub is_delimiter : IsDelimiter delimiter
  pub all : AllPass (is_of InLiteral) text
  pub written : bytes ≡ delimiter ∷ (doubled delimiter text ++ delimiter ∷ [])
  pub ends : begins (λ c. c == delimiter) line ≡ false

-- the bytes are written for the token, which cannot go on in the line behind them
abbrev pub IsWritten : Token → List ℕ → List ℕ → Type 0
IsWritten (Word word) bytes line = IsWordText word bytes line
IsWritten (Number sign amount) bytes line = IsNumberText sign amount bytes line
IsWritten (Literal text) bytes line = IsLiteralText text bytes line
IsWritten (Truth truth) bytes line = str_to_ascii_lowercase bytes ≡ truth_bytes truth
IsWritten (Mark mark) bytes line = bytes ≡ mark_bytes mark

-- nothing more is read: the end, or a comment
abbrev pub ends_line : List ℕ → Bool
ends_line [] = true
ends_line (c ∷ line) = c == 33

-- without the blanks at the front
abbrev pub behind_blanks : List ℕ → List ℕ
behind_blanks line = drop (prefix_len (is_of Blank) line) line

-- the line is its tokens as they are written, with blanks before and between them, and a comment
pub data AreTokens : List ℕ → List Token → Type 0 where
  end : (line : List ℕ) → ends_line (behind_blanks line) ≡ true → AreTokens line []
  token : (line bytes rest : List ℕ) {first : Token} {tokens : List Token} → behind_blanks line ≡ bytes ++ rest → IsWritten first bytes rest → AreTokens rest tokens → AreTokens line (first ∷ tokens)

-- it has these tokens, and no others
pub record HasTokens (line : List ℕ) (tokens : List Token) : Type 0 where
  pub is : AreTokens line tokens
  pub only : (other : List Token) → AreTokens line other → other ≡ tokens

abbrev pub HasNoTokens : List ℕ → Type 0
HasNoTokens line = (tokens : List Token) → AreTokens line tokens → ⊥

-- what a scanner answered: the tokens of the line, or that it has none, unless memory ran out
abbrev pub Scanned : {X : Type 0} → List ℕ → Result X SyntaxFault → (X → List Token) → Type 0
Scanned line (Ok x) view = HasTokens line (view x)
Scanned line (Err (Memory error)) view = Unit {0}
Scanned line (Err NotAStatement) view = HasNoTokens line
