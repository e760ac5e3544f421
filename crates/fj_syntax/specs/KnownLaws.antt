-- Which statement takes which specifier, and with which values, word for word (9.4.5, 9.4.6, 9.5.1, 9.6.1, 9.7, 9.8, 9.9.1).
use Prim.Native.String.{String}
use Rattle.std.specs.Prelude.{◌≡◌, ◌==◌, ℕ, Bool, true, List, [], ◌∷◌, ◌++◌, map, is_some, codes}
use Rattle.std.specs.Bool.{beq}
use Rattle.std.specs.List.{list_all, list_any, slice_split}
use Rattle.std.specs.Str.{bytes_eq}
use Rattle.fj_syntax.specs.Parts.{Tokens}
use Rattle.fj_syntax.specs.Statement.{written_of}
use Rattle.fj_syntax.specs.Tokens.{Token, Word, Number, Literal, Mark, LeftParenthesis, RightParenthesis, Comma, Equals, Asterisk, Unsigned}

-- the words of a text, between blanks
abbrev pub words : String → List (List ℕ)
words text = slice_split (λ c. c == 32) (codes text)

abbrev pub statements : String
statements = "OPEN CLOSE READ WRITE WAIT INQUIRE BACKSPACE REWIND ENDFILE FLUSH"

-- names, numbers and words as values
abbrev pub a_place : List Token
a_place = Word (codes "N") ∷ []

abbrev pub a_number : List Token
a_number = Number Unsigned 5 ∷ []

abbrev pub texts : String → List Token
texts text = map Literal (words text)

-- SPECIFIER = value in parentheses, alone
abbrev pub alone : List ℕ → Token → Tokens
alone s v = Mark LeftParenthesis ∷ Word s ∷ Mark Equals ∷ v ∷ Mark RightParenthesis ∷ []

-- and behind a unit
abbrev pub behind_unit : List ℕ → Token → Tokens
behind_unit s v = Mark LeftParenthesis ∷ Number Unsigned 5 ∷ Mark Comma ∷ Word s ∷ Mark Equals ∷ v ∷ Mark RightParenthesis ∷ []

-- with each value it is the takers among the statements that are ones
abbrev pub is_taken : (List ℕ → Token → Tokens) → List ℕ → List Token → String → Bool
is_taken form specifier values takers =
    list_all (λ v. list_all (λ k. beq (is_some (written_of (Word k ∷ form specifier v))) (list_any (bytes_eq k) (words takers))) (words statements)) values

abbrev pub row : String → List Token → String → Bool
row specifier values takers = is_taken behind_unit (codes specifier) values takers

-- a specifier, values, and the statements that take it with each of them
abbrev pub rows : List Bool
rows =
    row "FILE" (texts "a") "OPEN"
    ∷ row "NEWUNIT" a_place ""
    ∷ row "STATUS" (texts "OLD NEW SCRATCH REPLACE UNKNOWN") "OPEN"
    ∷ row "STATUS" (texts "KEEP DELETE") "CLOSE"
    ∷ row "ACCESS" (texts "SEQUENTIAL DIRECT STREAM") "OPEN"
    ∷ row "FORM" (texts "FORMATTED UNFORMATTED") "OPEN"
    ∷ row "RECL" a_number "OPEN"
    ∷ row "POSITION" (texts "ASIS REWIND APPEND") "OPEN"
    ∷ row "ACTION" (texts "READ WRITE READWRITE") "OPEN"
    ∷ row "BLANK" (texts "NULL ZERO") "OPEN READ"
    ∷ row "DELIM" (texts "APOSTROPHE QUOTE NONE") "OPEN WRITE"
    ∷ row "PAD" (texts "YES NO") "OPEN READ"
    ∷ row "DECIMAL" (texts "COMMA POINT") "OPEN READ WRITE"
    ∷ row "SIGN" (texts "PLUS SUPPRESS PROCESSOR_DEFINED") "OPEN WRITE"
    ∷ row "ASYNCHRONOUS" (texts "YES NO") "OPEN READ WRITE"
    ∷ row "ADVANCE" (texts "YES NO") "READ WRITE"
    ∷ row "FMT" (Mark Asterisk ∷ texts "(I5)") "READ WRITE"
    ∷ row "NML" a_place "READ WRITE"
    ∷ row "REC" (a_number ++ a_place) "READ WRITE"
    ∷ row "POS" a_number "READ WRITE"
    ∷ row "POS" a_place "READ WRITE INQUIRE"
    ∷ row "SIZE" a_place "READ INQUIRE"
    ∷ row "ID" a_number "WAIT INQUIRE"
    ∷ row "ID" a_place "READ WRITE WAIT INQUIRE"
    ∷ row "IOSTAT" a_place statements
    ∷ map (λ question. is_taken behind_unit question a_place "INQUIRE")
    (words "EXIST OPENED NUMBER NAMED NAME NEXTREC PENDING ACCESS FORM RECL ACTION BLANK DELIM PAD DECIMAL SIGN ASYNCHRONOUS")

-- each statement takes the rows that it stands in and no others
pub record ArgumentsAreTaken : Type 0 where
  pub unit : is_taken alone (codes "UNIT") (a_number ++ a_place) statements ≡ true
  pub new_unit : is_taken alone (codes "NEWUNIT") a_place "OPEN" ≡ true
  pub file : is_taken alone (codes "FILE") (texts "a") "INQUIRE" ≡ true
  pub rows_are : list_all (λ taken. taken) rows ≡ true
